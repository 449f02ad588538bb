-- `dynamic::Table::enter`: what was not admitted, else the tests in their order, and then what names the field or the new entry. Assumes nothing.
use mathlib.Core.Path.{◌≡◌, refl, sym, ◌∙◌}
use mathlib.Core.Bool.{true}
use borrow.Author.Rules.{rules}
use borrow.Author.Tests.{le-leb, lt-leb, not-true, not-false}
use Rattle.std.specs.Prelude.{Err}
use Rattle.dynamic.proofs.Insertions.{insert_refused, insert_opened, enter_blocked, enter_no_room, enter_room, inserts}
use Rattle.dynamic.proofs.Made.{same_bytes}
use Rattle.dynamic.proofs.Steps.{admitted_with_ok}
use Rattle.dynamic.proofs.Table.enter.Goals as goal

-- where the entries stay, so do the strings
pub returns-in_err-low : goal.returns-in_err-low
returns-in_err-low c shape =
    let t = c.args.self.now in
    let e : c.from_residual.result ≡ Err c.in_err-low.field-0.0 = search rules in
    rw e (inserts t c.args.arena.now c.args.arena.now c.args.name.now c.args.value.now _ shape
    (insert_refused t _ _ _ _ (sym c.admitted_with.ensures ∙ c.in_err-low.was))
    (sym (same_bytes t c.args.arena.now c.args.name.now c.args.value.now t refl)))

pub name_only-requires : goal.name_only-requires
name_only-requires c =
    let p = admitted_with_ok c.args.self.now c.args.arena.now true _ (sym c.admitted_with.ensures ∙ c.in_ok-low.was) in
    (record { rules = p.1.rules; active = p.1.active }, p.0)

pub returns-then-self : goal.returns-then-self
returns-then-self c shape =
    let t = c.args.self.now in
    let a = c.args.arena.now in
    let n = c.args.name.now in
    let v = c.args.value.now in
    let p = admitted_with_ok c.args.self.now c.args.arena.now true _ (sym c.admitted_with.ensures ∙ c.in_ok-low.was) in
    inserts t a a n v _ shape
    (c.name_only.ensures.inserted_value v ∙ enter_blocked t a n v (le-leb _ _ c.if-self.true) ∙ insert_opened t a n v p.1.rules p.0 p.1.active)
    (sym (same_bytes t a n v c.name_only.new.self c.name_only.ensures.ring_value))

pub name_only-requires-then-not-room : goal.name_only-requires-then-not-room
name_only-requires-then-not-room c =
    let p = admitted_with_ok c.args.self.now c.args.arena.now true _ (sym c.admitted_with.ensures ∙ c.in_ok-low.was) in
    (record { rules = p.1.rules; active = p.1.active }, p.0)

pub returns-then-not-room : goal.returns-then-not-room
returns-then-not-room c shape =
    let t = c.args.self.now in
    let a = c.args.arena.now in
    let n = c.args.name.now in
    let v = c.args.value.now in
    let p = admitted_with_ok c.args.self.now c.args.arena.now true _ (sym c.admitted_with.ensures ∙ c.in_ok-low.was) in
    inserts t a a n v _ shape
    (c.name_only-then-not-room.ensures.inserted_value v
    ∙ enter_no_room t a n v (lt-leb _ _ c.if-self.false) _ (rw p.1.lowest at c.room-room.ensures) (not-true _ c.if-not-room.true)
    ∙ insert_opened t a n v p.1.rules p.0 p.1.active)
    (sym (same_bytes t a n v c.name_only-then-not-room.new.self c.name_only-then-not-room.ensures.ring_value))

pub insert_made-requires : goal.insert_made-requires
insert_made-requires c =
    let p = admitted_with_ok c.args.self.now c.args.arena.now true _ (sym c.admitted_with.ensures ∙ c.in_ok-low.was) in (
      record { rules = p.1.rules; active = p.1.active },
      record { lowest = p.1.lowest; room = c.room-room.ensures; made = not-false _ c.if-not-room.false },
      p.0,
    )

pub returns : goal.returns
returns c shape =
    let t = c.args.self.now in
    let a = c.args.arena.now in
    let n = c.args.name.now in
    let v = c.args.value.now in
    let p = admitted_with_ok c.args.self.now c.args.arena.now true _ (sym c.admitted_with.ensures ∙ c.in_ok-low.was) in
    inserts t a _ n v _ shape
    (c.insert_made.ensures.inserted_value
    ∙ enter_room t a n v (lt-leb _ _ c.if-self.false) _ (rw p.1.lowest at c.room-room.ensures) (not-false _ c.if-not-room.false)
    ∙ insert_opened t a n v p.1.rules p.0 p.1.active)
    (c.insert_made.ensures.arena_after shape)
