-- `dynamic::Table::find_in`: what was not admitted, or the latest entry of the field. Assumes nothing.
use mathlib.Core.Path.{◌≡◌, sym, ◌∙◌}
use mathlib.Core.Bool.{true}
use borrow.Author.Rules.{rules}
use Rattle.std.specs.Prelude.{Err}
use Rattle.dynamic.proofs.Finding.{finds, find_refused, find_open}
use Rattle.dynamic.proofs.Steps.{admitted_with_ok}
use Rattle.dynamic.proofs.Table.find_in.Goals as goal

pub returns-in_err-admitted_with : goal.returns-in_err-admitted_with
returns-in_err-admitted_with c shape =
    let e : c.from_residual.result ≡ Err c.in_err-admitted_with.field-0.0 = search rules in
    rw e (finds _ _ _ _ _ shape.uses (find_refused c.args.self.now c.args.arena.now c.args.name.now c.args.value.now _ (sym c.admitted_with.ensures ∙ c.in_err-admitted_with.was)))

pub seek-requires : goal.seek-requires
seek-requires c =
    let p = admitted_with_ok c.args.self.now c.args.arena.now true _ (sym c.admitted_with.ensures ∙ c.in_ok-admitted_with.was) in
    (record { rules = p.1.rules; active = p.1.active }, p.0)

pub returns : goal.returns
returns c shape =
    let p = admitted_with_ok c.args.self.now c.args.arena.now true _ (sym c.admitted_with.ensures ∙ c.in_ok-admitted_with.was) in
    finds _ _ _ _ _ shape.uses
    (c.seek.ensures ∙ find_open c.args.self.now c.args.arena.now c.args.name.now c.args.value.now p.1.rules p.0 p.1.active)
