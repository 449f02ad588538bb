-- `dynamic::Table::open`: what was not admitted, or a new section. Assumes nothing.
use mathlib.Core.Path.{◌≡◌, sym, ◌∙◌}
use mathlib.Core.Bool.{false}
use borrow.Author.Rules.{rules}
use Rattle.std.specs.Prelude.{Err}
use Rattle.ring.proofs.Keeping.{kept}
use Rattle.dynamic.proofs.Sections.{begin_keeps, begin_refused, begin_done}
use Rattle.dynamic.proofs.Sound.{facts}
use Rattle.dynamic.proofs.Steps.{admitted_ok}
use Rattle.dynamic.proofs.Table.open.Goals as goal

pub returns-in_err-admitted : goal.returns-in_err-admitted
returns-in_err-admitted c =
    let e : c.from_residual.result ≡ Err c.in_err-admitted.field-0.0 = search rules in
    rw e (begin_keeps _ _ _ (begin_refused _ _ _ (sym c.requires ∙ c.in_err-admitted.was)))

pub overflow_sub-self : goal.overflow_sub-self
overflow_sub-self c =
    let p = admitted_ok c.args.self.now false _ (sym c.requires ∙ c.in_ok-admitted.was) in
    (kept _ (facts _ p.rules).ring).rules.order

pub returns : goal.returns
returns c =
    let p = admitted_ok c.args.self.now false _ (sym c.requires ∙ c.in_ok-admitted.was) in
    begin_keeps _ _ _ (begin_done c.args.self.now c.args.stream p.rules p.active)
