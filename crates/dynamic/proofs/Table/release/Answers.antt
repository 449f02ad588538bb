-- `dynamic::Table::release`: what was not admitted, nothing queued, or a release. Assumes nothing.
use mathlib.Core.Path.{◌≡◌, refl, sym, ap, ◌∙◌}
use mathlib.Core.Bool.{false}
use borrow.Author.Rules.{rules}
use Rattle.std.specs.Prelude.{Err, Some, None}
use Rattle.tracking.specs.Queue.{stepped}
use Rattle.dynamic.proofs.Reports.{release_keeps, release_refused, release_none, release_done}
use Rattle.dynamic.proofs.Steps.{or_ok, or_err, admitted_ok}
use Rattle.dynamic.proofs.Table.release.Goals as goal

pub returns-in_err-admitted : goal.returns-in_err-admitted
returns-in_err-admitted c shape =
    let e : c.from_residual.result ≡ Err c.in_err-admitted.field-0.0 = search rules in
    rw e (release_keeps _ _ _ shape.places (release_refused _ _ _ (sym c.admitted.ensures ∙ c.in_err-admitted.was)))

pub returns-in_err-queue : goal.returns-in_err-queue
returns-in_err-queue c shape =
    let e : c.from_residual-in_err-queue.result ≡ Err c.in_err-queue.field-0.0 = search rules in
    let t = c.args.self.now in
    let none = or_err _ _ _ c.ok_or.ensures.value _ c.in_err-queue.was in
    let did = ap (stepped t.queue) (sym none.0) ∙ c.release.ensures in
    let p = admitted_ok c.args.self.now false _ (sym c.admitted.ensures ∙ c.in_ok-admitted.was) in
    rw (e, none.1) (release_keeps _ _ _ shape.places
    (release_none t c.args.stream p.rules p.active (stepped t.queue None) did refl))

pub returns : goal.returns
returns c shape =
    let t = c.args.self.now in
    let did = ap (stepped t.queue) (sym (or_ok _ _ _ c.ok_or.ensures.value _ c.in_ok-queue.was)) ∙ c.release.ensures in
    let p = admitted_ok c.args.self.now false _ (sym c.admitted.ensures ∙ c.in_ok-admitted.was) in
    release_keeps _ _ _ shape.places
    (release_done t c.args.stream p.rules p.active (stepped t.queue (Some c.in_ok-queue.queue)) did refl)
