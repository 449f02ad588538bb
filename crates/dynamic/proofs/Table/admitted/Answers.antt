-- `dynamic::Table::admitted`: by the check of the record and by whether a section is open. Assumes nothing.
use mathlib.Core.Path.{◌≡◌, ap, ◌∙◌}
use borrow.Author.Rules.{rules}
use Rattle.std.specs.Prelude.{Err, Some}
use Rattle.answers.specs.declared.Refusal.{Refusal}
use Rattle.dynamic.proofs.Steps.{or_ok, or_err, broken, as_wanted, is_open, is_closed}
use Rattle.dynamic.proofs.Table.admitted.Goals.{In_ok-low}
use Rattle.dynamic.proofs.Table.admitted.Goals as goal

some : (c : In_ok-low) → c.checked.result ≡ Some c.in_ok-low.low
some c = or_ok _ _ _ c.ok_or.ensures.value _ c.in_ok-low.was

pub returns-in_err-low : goal.returns-in_err-low
returns-in_err-low c =
    let none = or_err _ _ _ c.ok_or.ensures.value _ c.in_err-low.was in
    let e : c.from_residual.result ≡ Err c.in_err-low.field-0.0 = search rules in
    e ∙ ap (λ (w : Refusal). Err w) none.1 ∙ broken _ _ c.checked.ensures _ none.0

pub returns-then-self-wanted : goal.returns-then-self-wanted
returns-then-self-wanted c =
    as_wanted _ _ c.checked.ensures _ (some (goal.at.returns-then-self-wanted c).In_ok-low) _ c.if-self-wanted.true

pub returns-then-self : goal.returns-then-self
returns-then-self c =
    is_open _ _ c.checked.ensures _ (some (goal.at.returns-then-self c).In_ok-low) _ c.if-self-wanted.false c.if-self.true

pub returns : goal.returns
returns c =
    is_closed _ _ c.checked.ensures _ (some (goal.at.returns c).In_ok-low) _ c.if-self-wanted.false c.if-self.false
