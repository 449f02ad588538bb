-- `decoder::section_on`: past the prefix, each turn stores a field, or ends the section. Assumes nothing.
use mathlib.Core.Path.{◌≡◌, refl, sym, ap, ◌∙◌}
use native.Mathlib.Omega.{arith}
use lib.ListN.{length-set}
use Rattle.answers.specs.Answer.{answered, done, refused}
use Rattle.decoder.specs.Section.{on_table, start, cursor_at}
use Rattle.decoder.proofs.Turns.{first_past, read_unread, told_ended, told_moves, told_started, told_next}
use Rattle.section_steps.proofs.Lines.{next_in}
use Rattle.section_steps.proofs.Stepping.{stays_past, has_started}
use Rattle.section_steps.specs.Section.{line_told}
use Rattle.decoder.proofs.section_on.Goals as goal

pub returns-in-Err : goal.returns-in-Err
returns-in-Err g c =
    let a = c.args in
    let k = on_table a.table.now a.arena.now in
    let h : cursor_at k a.s.now start ≡ refused c.in-Err.why = rw c.begin.ensures at (sym c.begin_on.ensures ∙ ap answered c.in-Err.is) in
    rw (c.decoded.ensures, c.begin-in-Err.ensures) (read_unread g.R.Record.make k _ a.s.now start _ h _ _)

pub loop-reply-init : goal.loop-reply-init
loop-reply-init g c =
    let a = c.args in
    let k = on_table a.table.now a.arena.now in
    let h : cursor_at k a.s.now start ≡ done c.in-Ok.first = rw c.begin.ensures at (sym c.begin_on.ensures ∙ ap answered c.in-Ok.is) in (
      record { turn = first_past g.R.Record.make k a.s.now a.fields.now a.out.now _ h; is_c = refl; is_fs = refl; is_os = refl; is_room = refl },
      refl,
      refl,
      stays_past k a.s.now start _ h _ (has_started k a.s.now start _ h),
    )

pub returns-in-Ended : goal.returns-in-Ended
returns-in-Ended g c =
    let a = c.args in
    let inv = c.loop-reply.invariant in
    let n = next_in a.table.now a.arena.now a.s.now _ _ _ _ _ inv.3 (line_told c.line_on.result) c.line_on.ensures.0 c.line_on.ensures.1 in
    rw c.decoded-in-Ended.ensures (told_ended inv.0 c.line_on.result _ n.answer n.bytes _ _ c.in-Ended.is)

pub loop-reply-smaller : goal.loop-reply-smaller
loop-reply-smaller g c =
    let a = c.args in
    let inv = c.loop-reply.invariant in
    let n = next_in a.table.now a.arena.now a.s.now _ _ _ _ _ inv.3 (line_told c.line_on.result) c.line_on.ensures.0 c.line_on.ensures.1 in
    let m = told_moves inv.0 c.line_on.result _ n.answer n.bytes _ _ c.in-Found.is in
    omega (arith, m.0, m.1)

pub loop-reply-preserved : goal.loop-reply-preserved
loop-reply-preserved g c =
    let a = c.args in
    let inv = c.loop-reply.invariant in
    let n = next_in a.table.now a.arena.now a.s.now _ _ _ _ _ inv.3 (line_told c.line_on.result) c.line_on.ensures.0 c.line_on.ensures.1 in
    let kept = c.line_on.auto.out in (
      rw c.of.ensures (told_next inv.0 c.line_on.result _ n.answer n.bytes _ _ c.in-Found.is kept),
      simp length-set inv.1,
      kept ∙ inv.2,
      stays_past (on_table a.table.now a.arena.now) a.s.now _ _ inv.3 _ (told_started inv.0 c.line_on.result _ n.answer n.bytes _ _ c.in-Found.is),
    )
