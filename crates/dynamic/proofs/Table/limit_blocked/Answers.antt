-- `dynamic::Table::limit_blocked`: what was not admitted, a maximum too large, or set. Assumes nothing.
use mathlib.Core.Path.{◌≡◌, sym, ◌∙◌}
use mathlib.Core.Bool.{false}
use borrow.Author.Rules.{rules}
use Rattle.std.specs.Prelude.{Err}
use Rattle.dynamic.proofs.Setting.{sets_most, most_refused, most_over, most_set}
use Rattle.dynamic.proofs.Steps.{admitted_ok}
use Rattle.dynamic.proofs.Table.limit_blocked.Goals as goal

pub returns-in_err-admitted : goal.returns-in_err-admitted
returns-in_err-admitted c =
    let e : c.from_residual.result ≡ Err c.in_err-admitted.field-0.0 = search rules in
    rw e (sets_most _ _ (most_refused _ _ _ (sym c.requires ∙ c.in_err-admitted.was)))

pub returns-then-most-ge-BLOCKED_SECTIONS : goal.returns-then-most-ge-BLOCKED_SECTIONS
returns-then-most-ge-BLOCKED_SECTIONS c =
    let p = admitted_ok c.args.self.now false _ (sym c.requires ∙ c.in_ok-admitted.was) in
    sets_most _ _ (most_over _ _ p.rules p.active c.if-most-ge-BLOCKED_SECTIONS.true)

pub returns : goal.returns
returns c =
    let p = admitted_ok c.args.self.now false _ (sym c.requires ∙ c.in_ok-admitted.was) in
    sets_most _ _ (most_set _ _ p.rules p.active c.if-most-ge-BLOCKED_SECTIONS.false)
