-- `section_steps::next_on`: why there is no line, or what the line at the cursor gives. Assumes nothing.
use mathlib.Core.Path.{refl, sym, ap, ◌∙◌}
use Rattle.answers.specs.Answer.{answered}
use Rattle.section_steps.specs.Section.{on_table}
use Rattle.section_steps.proofs.Lines.{next_in}
use Rattle.section_steps.proofs.Stepping.{next_refused}
use Rattle.section_steps.proofs.next_on.Goals as goal

pub returns-in-Err : goal.returns-in-Err
returns-in-Err c =
    let a = c.args in
    let n = next_refused (on_table a.table.now a.arena.now) a.s.now a.out.now a.room a.c _ _ (sym c.begin_on.ensures ∙ ap answered c.in-Err.is) refl in
    (n.answer, n.bytes)

pub returns-in-Ok : goal.returns-in-Ok
returns-in-Ok c =
    let a = c.args in
    let n = next_in a.table.now a.arena.now a.s.now a.out.now _ a.room a.c _ (sym c.begin_on.ensures ∙ ap answered c.in-Ok.is) _ c.line_on.ensures.0 c.line_on.ensures.1 in
    (n.answer, n.bytes)
