-- `dynamic::Table::insert_made`: what names the new entry, its uses, and the push that is made. Assumes nothing.
use mathlib.Core.Path.{◌≡◌, refl, sym, ◌∙◌}
use mathlib.Core.Bool.{true}
use mathlib.Core.Option.{some}
use Prim.Native.Nat.{◌+◌, ◌≤◌, ◌<◌}
use native.Mathlib.Omega.{arith}
use borrow.Author.Rules.{rules}
use Rattle.std.specs.Prelude.{Err}
use Rattle.field.specs.Field.{size_of}
use Rattle.ring.specs.Ring.{largest_count, making, Pushes}
use Rattle.ring.specs.declared.Source.TheVariants.{Given}
use Rattle.tracking.specs.Uses.{Noted}
use Rattle.dynamic.specs.Calls.{with_ring, with_section, OlderThan, NewerThan, origin_of, noted_for}
use Rattle.dynamic.specs.Record.{lowest_used}
use Rattle.dynamic.proofs.Made.{new, Counts, counts, made_full, made_over, made_new, same_bytes, new_bytes, room_tells, pushes_new, pushes_bytes}
use Rattle.dynamic.proofs.Naming.{newer_more}
use Rattle.dynamic.proofs.Sound.{Sound, facts}
use Rattle.dynamic.proofs.Steps.{or_ok, or_err}
use Rattle.dynamic.proofs.Table.insert_made.Goals.{After-origin_of-origin, After-push-pushed, In_ok-uses, Start}
use Rattle.dynamic.proofs.Table.insert_made.Goals as goal

rules_kept : (z : Start) → Sound z.args.self.now
rules_kept z = facts z.args.self.now z.requires.0.rules

tells : (z : Start)
    → making z.args.self.now.ring (lowest_used z.args.self.now) (size_of (new z.args.self.now z.args.arena.now z.args.name.now z.args.value.now))
    ≡ some z.args.room.count
tells z = room_tells z.args.self.now z.args.arena.now z.args.name.now z.args.value.now z.args.low z.args.room (rules_kept z).ring z.requires.1

numbers : (z : Start) → Counts z.args.self.now z.args.room.count
numbers z =
    counts z.args.self.now z.args.arena.now z.args.name.now z.args.value.now (rules_kept z) z.args.room.count (tells z) z.requires.0.active

-- what names the new entry lies between the first number of the section and the entry
named : (c : After-origin_of-origin)
    → OlderThan (c.args.self.now.ring.inserted + 1) c.origin_of-origin.result
    × NewerThan c.args.self.now.section.from c.origin_of-origin.result
named c =
    let t = c.args.self.now in
    let low : t.section.from ≤ t.ring.dropped + c.args.room.count = omega (arith, (numbers (goal.at.After-origin_of-origin c).Start).from) in
    (c.origin_of-origin.ensures.older_than.0, newer_more _ _ c.origin_of-origin.result low c.origin_of-origin.ensures.older_than.1)

pub overflow_add-gone : goal.overflow_add-gone
overflow_add-gone c = let n = numbers (goal.at.overflow_add-gone c).Start in omega (arith, n.gone, n.counted)

pub origin_of-origin-requires : goal.origin_of-origin-requires
origin_of-origin-requires c = let n = numbers (goal.at.origin_of-origin-requires c).Start in (n.counted, n.gone, c.requires.2)

pub overflow_add-absolute : goal.overflow_add-absolute
overflow_add-absolute c = let n = numbers (goal.at.overflow_add-absolute c).Start in omega (arith, n.counted)

pub note_origin-requires : goal.note_origin-requires
note_origin-requires c =
    let n = numbers (goal.at.note_origin-requires c).Start in
    let w = named (goal.at.note_origin-requires c).After-origin_of-origin in
    (omega (arith, n.from, n.gone), n.near, w.0, w.1)

-- the uses that were noted
abbrev uses : In_ok-uses → Noted
uses c = record { fits = true; used = c.in_ok-uses.uses.used; uses = c.in_ok-uses.uses.uses }

notes : (c : In_ok-uses) → uses c ≡ noted_for c.args.self.now.section (c.args.self.now.ring.inserted + 1) (origin_of c.origin_of-origin.result)
notes c = sym (rw (or_ok _ _ _ c.ok_or.ensures.value _ c.in_ok-uses.was) at c.note_origin.ensures)

pub returns-in_err-uses-clause-inserted_value : goal.returns-in_err-uses-clause-inserted_value
returns-in_err-uses-clause-inserted_value c =
    let e : c.from_residual.result ≡ Err c.in_err-uses.field-0.0 = search rules in
    let none = or_err _ _ _ c.ok_or.ensures.value _ c.in_err-uses.was in
    let full = rw none.0 at c.note_origin.ensures in
    rw (e, none.1) (made_full c.args.self.now c.args.arena.now c.args.name.now c.args.value.now c.args.room
    (origin_of c.origin_of-origin.result) _ c.origin_of-origin.ensures.result_value refl full)

pub returns-in_err-uses-clause-arena_after : goal.returns-in_err-uses-clause-arena_after
returns-in_err-uses-clause-arena_after c shape = sym (same_bytes c.args.self.now c.args.arena.now c.args.name.now c.args.value.now c.args.self.now refl)

pub returns-then-self-ge-LARGEST_COUNT-clause-inserted_value : goal.returns-then-self-ge-LARGEST_COUNT-clause-inserted_value
returns-then-self-ge-LARGEST_COUNT-clause-inserted_value c =
    let u = (goal.at.returns-then-self-ge-LARGEST_COUNT-clause-inserted_value c).In_ok-uses in
    made_over c.args.self.now c.args.arena.now c.args.name.now c.args.value.now c.args.room
    (origin_of c.origin_of-origin.result) (uses u) c.origin_of-origin.ensures.result_value (notes u) refl c.if-self-ge-LARGEST_COUNT.true

pub returns-then-self-ge-LARGEST_COUNT-clause-arena_after : goal.returns-then-self-ge-LARGEST_COUNT-clause-arena_after
returns-then-self-ge-LARGEST_COUNT-clause-arena_after c shape =
    sym (same_bytes c.args.self.now c.args.arena.now c.args.name.now c.args.value.now c.args.self.now refl)

pub insertion_of-requires : goal.insertion_of-requires
insertion_of-requires c =
    (omega (arith, (numbers (goal.at.insertion_of-requires c).Start).base), (named (goal.at.insertion_of-requires c).After-origin_of-origin).0)

-- the push that was made
pushes : (c : After-push-pushed)
    → Pushes c.args.self.now.ring c.args.arena.now c.push-pushed.new.arena (lowest_used c.args.self.now) Given c.args.name.now c.args.value.now c.push-pushed.result
pushes c = rw c.requires.1.lowest at c.push-pushed.ensures

pub returns-clause-inserted_value : goal.returns-clause-inserted_value
returns-clause-inserted_value c =
    let u = (goal.at.returns-clause-inserted_value c).In_ok-uses in
    rw (c.insertion_of.ensures, c.with_uses-self.ensures)
    (made_new c.args.self.now c.args.arena.now c.args.name.now c.args.value.now c.args.room
    (origin_of c.origin_of-origin.result) (uses u) c.origin_of-origin.ensures.result_value (notes u) refl c.if-self-ge-LARGEST_COUNT.false
    c.push-pushed.result (pushes (goal.at.returns-clause-inserted_value c).After-push-pushed).next)

pub returns-clause-arena_after : goal.returns-clause-arena_after
returns-clause-arena_after c shape =
    let t = c.args.self.now in
    let z = (goal.at.returns-clause-arena_after c).Start in
    let p = pushes (goal.at.returns-clause-arena_after c).After-push-pushed in
    let less : t.ring.inserted < largest_count = c.if-self-ge-LARGEST_COUNT.false in
    let g = pushes_new t c.args.arena.now c.args.name.now c.args.value.now (rules_kept z) shape c.requires.2 c.args.room.count (tells z) _ _ less p in
    pushes_bytes t c.args.arena.now c.args.name.now c.args.value.now (rules_kept z) shape c.requires.2 c.args.room.count (tells z) _ _ less p
    ∙ sym (new_bytes t c.args.arena.now c.args.name.now c.args.value.now
    (with_section t.active t.base c.with_uses-self.result (with_ring c.push-pushed.result.ring t)) g.inserted)
