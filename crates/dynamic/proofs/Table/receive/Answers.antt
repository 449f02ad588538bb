-- `dynamic::Table::receive`: what was not admitted, a count too large, or a raise. Assumes nothing.
use mathlib.Core.Path.{◌≡◌, sym, ◌∙◌}
use mathlib.Core.Bool.{false}
use native.Mathlib.Omega.{arith}
use borrow.Author.Rules.{rules}
use Rattle.std.specs.Prelude.{Err}
use Rattle.dynamic.proofs.Reports.{increment_keeps, increment_refused, increment_past, increment_done}
use Rattle.dynamic.proofs.Sound.{facts}
use Rattle.dynamic.proofs.Steps.{admitted_ok}
use Rattle.dynamic.proofs.Table.receive.Goals as goal

pub returns-in_err-admitted : goal.returns-in_err-admitted
returns-in_err-admitted c shape =
    let e : c.from_residual.result ≡ Err c.in_err-admitted.field-0.0 = search rules in
    rw e (increment_keeps _ _ _ shape.blocked (increment_refused _ _ _ (sym c.admitted.ensures ∙ c.in_err-admitted.was)))

pub overflow_sub-known : goal.overflow_sub-known
overflow_sub-known c =
    let p = admitted_ok c.args.self.now false _ (sym c.admitted.ensures ∙ c.in_ok-admitted.was) in
    (facts _ p.rules).known

pub returns-then-known-inserts : goal.returns-then-known-inserts
returns-then-known-inserts c shape =
    let p = admitted_ok c.args.self.now false _ (sym c.admitted.ensures ∙ c.in_ok-admitted.was) in
    increment_keeps _ _ _ shape.blocked
    (increment_past c.args.self.now c.args.inserts p.rules p.active (omega (arith, (facts _ p.rules).known, c.if-known-inserts.true)))

pub returns : goal.returns
returns c shape =
    let p = admitted_ok c.args.self.now false _ (sym c.admitted.ensures ∙ c.in_ok-admitted.was) in
    increment_keeps _ _ _ shape.blocked
    (rw c.let_go-self.ensures (increment_done c.args.self.now c.args.inserts p.rules p.active (omega (arith, (facts _ p.rules).known, c.if-known-inserts.false))))
