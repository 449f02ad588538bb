-- `section_steps::line_on`: a short arena, the end, or the field of the line. Assumes nothing.
use mathlib.Core.Path.{refl}
use borrow.Author.Tests.{le-leb}
use Rattle.field_lines.specs.Line.{live_of}
use Rattle.section_steps.proofs.Lines.{in_short, in_ended, in_placed}
use Rattle.section_steps.proofs.Stepping.{ready_on}
use Rattle.section_steps.proofs.line_on.Goals as goal

pub returns-then-arena-lt-RING : goal.returns-then-arena-lt-RING
returns-then-arena-lt-RING c =
    let a = c.args in
    let n = in_short (live_of a.ring.now a.arena.now) a.arena.now a.s.now a.out.now a.room a.c _ c.if-arena-lt-RING.true refl in
    (n.answer, n.bytes)

pub returns-then-s-c : goal.returns-then-s-c
returns-then-s-c c =
    let a = c.args in
    let n = in_ended (live_of a.ring.now a.arena.now) a.arena.now a.s.now a.out.now a.room a.c _ c.if-arena-lt-RING.false c.if-s-c.true refl in
    (n.answer, n.bytes)

pub place-requires : goal.place-requires
place-requires c =
    ready_on c.args.s.now c.args.arena.now _ c.read_on-line.result (le-leb _ _ c.if-arena-lt-RING.false) c.read_on-line.ensures.field_inside

pub returns : goal.returns
returns c =
    let a = c.args in
    let n = in_placed (live_of a.ring.now a.arena.now) a.arena.now a.s.now a.out.now a.room a.c _ c.if-arena-lt-RING.false c.if-s-c.false _ (c.read_on-line.ensures.by_index a.arena.now) c.place.ensures.0 _ c.place.ensures.1 in
    (n.answer, n.bytes)
