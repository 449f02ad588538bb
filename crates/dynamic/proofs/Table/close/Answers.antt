-- `dynamic::Table::close`: what was not admitted, or a section that closes. Assumes nothing.
use mathlib.Core.Path.{◌≡◌, sym, ◌∙◌}
use mathlib.Core.Bool.{true}
use borrow.Author.Rules.{rules}
use Rattle.std.specs.Prelude.{Err}
use Rattle.dynamic.proofs.Sections.{abandon_keeps, abandon_refused, abandon_done}
use Rattle.dynamic.proofs.Steps.{admitted_ok}
use Rattle.dynamic.proofs.Table.close.Goals as goal

pub returns-in_err-admitted : goal.returns-in_err-admitted
returns-in_err-admitted c =
    let e : c.from_residual.result ≡ Err c.in_err-admitted.field-0.0 = search rules in
    rw e (abandon_keeps _ _ (abandon_refused _ _ (sym c.requires ∙ c.in_err-admitted.was)))

pub returns : goal.returns
returns c =
    let p = admitted_ok c.args.self.now true _ (sym c.requires ∙ c.in_ok-admitted.was) in
    abandon_keeps _ _ (abandon_done c.args.self.now p.rules p.active)
