-- `section_steps::begin_on`: 22, 18, or what the prefix gives. Assumes nothing.
use mathlib.Core.Path.{◌≡◌, sym, ap, ◌∙◌}
use borrow.Author.Rules.{rules}
use Rattle.std.specs.Prelude.{Err, Some}
use Rattle.answers.specs.Answer.{answered}
use Rattle.dynamic.proofs.Steps.{or_ok, or_err}
use Rattle.section_steps.proofs.Starting.{on_broken, on_open, on_prefix}
use Rattle.section_steps.proofs.begin_on.Goals.{In_ok-ok_or}
use Rattle.section_steps.proofs.begin_on.Goals as goal

some : (c : In_ok-ok_or) → c.checked.result ≡ Some c.in_ok-ok_or.field-0
some c = or_ok _ _ _ c.ok_or.ensures.value _ c.in_ok-ok_or.was

pub returns-in_err-ok_or : goal.returns-in_err-ok_or
returns-in_err-ok_or c =
    let a = c.args in
    let none = or_err _ _ _ c.ok_or.ensures.value _ c.in_err-ok_or.was in
    let e : c.from_residual.result ≡ Err c.in_err-ok_or.field-0.0 = search rules in
    rw (e, none.1) (on_broken a.table.now a.arena.now a.s.now a.c c.if-arena-lt-RING.false c.if-c.false _ c.checked.ensures none.0)

pub returns-then-table : goal.returns-then-table
returns-then-table c =
    let a = c.args in
    on_open a.table.now a.arena.now a.s.now a.c c.if-arena-lt-RING.false c.if-c.false _ c.checked.ensures _ (some (goal.at.returns-then-table c).In_ok-ok_or) c.if-table.true

pub returns-in_err-prefix : goal.returns-in_err-prefix
returns-in_err-prefix c =
    let a = c.args in
    let e : c.from_residual-in_err-prefix.result ≡ Err c.in_err-prefix.field-0.0 = search rules in
    rw e
    (on_prefix a.table.now a.arena.now a.s.now a.c c.if-arena-lt-RING.false c.if-c.false _ c.checked.ensures _ (some (goal.at.returns-in_err-prefix c).In_ok-ok_or) c.if-table.false _ (sym (ap answered c.in_err-prefix.was) ∙ c.read_prefix.ensures))

pub returns : goal.returns
returns c =
    let a = c.args in
    rw c.past_prefix.ensures
    (on_prefix a.table.now a.arena.now a.s.now a.c c.if-arena-lt-RING.false c.if-c.false _ c.checked.ensures _ (some (goal.at.returns c).In_ok-ok_or) c.if-table.false _ (sym (ap answered c.in_ok-prefix.was) ∙ c.read_prefix.ensures))
