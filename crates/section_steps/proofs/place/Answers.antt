-- `section_steps::place`: 25, 24, or the field's strings in the buffer. Assumes nothing.
use mathlib.Core.Path.{◌≡◌, refl, sym, ◌∙◌}
use mathlib.Core.Bool.{true, false}
use Prim.Native.Nat.{◌+◌}
use native.Mathlib.Omega.{arith}
use lib.ListN.{length}
use borrow.Author.Tests.{not-true, not-false}
use Rattle.field.specs.Field.{overhead}
use Rattle.section_steps.specs.Section.{limit_of, is_over, fits}
use Rattle.section_steps.proofs.Placing.{Fits, fits_facts, line_ready, place_refused, place_over, place_full, place_found}
use Rattle.section_steps.proofs.place.Goals.{Else-is_over, Else-not-has_room}
use Rattle.section_steps.proofs.place.Goals as goal

-- it is within the limit
under : (c : Else-is_over) → is_over (limit_of c.args.limit)
    (c.args.c.size + (c.text_len-n.result + c.text_len-v.result + overhead)) ≡ false
under c = sym c.is_over.ensures ∙ c.if-is_over.false

-- the field fits in what is lent
has : (c : Else-not-has_room) → fits c.args.room (length c.args.out.now)
    c.args.c c.text_len-n.result c.text_len-v.result ≡ true
has c = sym c.has_room.ensures ∙ not-false _ c.if-not-has_room.false-raw

within : (c : Else-not-has_room) → Fits c.args.room (length c.args.out.now)
    c.args.c c.text_len-n.result c.text_len-v.result
within c = fits_facts _ _ _ _ _ (has c)

pub returns-then-is_over : goal.returns-then-is_over
returns-then-is_over c =
    let a = c.args in
    let p = place_over (limit_of a.limit) a.room a.s.now a.arena.now a.out.now a.c a.line _ _ c.in-Ok.is c.requires _ _ c.text_len-n.ensures c.text_len-v.ensures (sym c.is_over.ensures ∙ c.if-is_over.true) refl in
    (p.answer, p.bytes)

pub returns-then-not-has_room : goal.returns-then-not-has_room
returns-then-not-has_room c =
    let a = c.args in
    let p = place_full (limit_of a.limit) a.room a.s.now a.arena.now a.out.now a.c a.line _ _ c.in-Ok.is c.requires _ _ c.text_len-n.ensures c.text_len-v.ensures (under (goal.at.returns-then-not-has_room c).Else-is_over) (sym c.has_room.ensures ∙ not-true _ c.if-not-has_room.true-raw) refl in
    (p.answer, p.bytes)

pub copy_field-requires : goal.copy_field-requires
copy_field-requires c =
    let a = c.args in
    let r = line_ready a.s.now a.arena.now a.line _ c.in-Ok.is c.requires in
    (r.0, r.1, r.2, r.3, omega (arith, (within (goal.at.copy_field-requires c).Else-not-has_room).buffer, c.text_len-n.ensures, c.text_len-v.ensures))

pub found-requires : goal.found-requires
found-requires c =
    (omega (arith, (within (goal.at.found-requires c).Else-not-has_room).buffer, c.ranges, c.well_formed), omega (arith, (within (goal.at.found-requires c).Else-not-has_room).list, c.ranges, c.well_formed), omega (arith, (within (goal.at.found-requires c).Else-not-has_room).sum))

pub returns-in-Err : goal.returns-in-Err
returns-in-Err c =
    let a = c.args in
    let p = place_refused (limit_of a.limit) a.room a.s.now a.arena.now a.out.now a.c a.line _ _ c.in-Err.is refl in
    (p.answer, p.bytes)

pub returns-else-not-has_room : goal.returns-else-not-has_room
returns-else-not-has_room c =
    let a = c.args in
    let p = place_found (limit_of a.limit) a.room a.s.now a.arena.now a.out.now a.c a.line _ _ c.in-Ok.is c.requires _ _ c.text_len-n.ensures c.text_len-v.ensures (under (goal.at.returns-else-not-has_room c).Else-is_over) (has (goal.at.returns-else-not-has_room c).Else-not-has_room) c.found.ensures _
    c.copy_field.ensures in
    (p.answer, p.bytes)
