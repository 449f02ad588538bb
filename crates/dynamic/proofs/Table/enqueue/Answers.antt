-- `dynamic::Table::enqueue`: what was not admitted, a largest past the inserted, no place, no value, or queued. Assumes nothing.
use mathlib.Core.Path.{◌≡◌, refl, sym, ap, ◌∙◌}
use mathlib.Core.Bool.{true}
use borrow.Author.Rules.{rules}
use Rattle.std.specs.Prelude.{Err, Some, None}
use Rattle.blocked.specs.Waiting.{counted}
use Rattle.tracking.specs.Queue.{stepped}
use Rattle.dynamic.specs.Calls.{with_parts}
use Rattle.dynamic.specs.declared.Table.{Table}
use Rattle.dynamic.proofs.Sections.{commit_keeps, commit_refused, commit_large, commit_no_place, commit_no_value, commit_done}
use Rattle.dynamic.proofs.Steps.{or_ok, or_err, admitted_ok}
use Rattle.dynamic.proofs.Table.enqueue.Goals.{Start}
use Rattle.dynamic.proofs.Table.enqueue.Goals as goal

abbrev before : Start → Table
before z = with_parts z.args.queue.now z.args.waiting.now z.args.active.now z.args.self.now

pub returns-in_err-admitted : goal.returns-in_err-admitted
returns-in_err-admitted c first shape =
    let e : c.from_residual.result ≡ Err c.in_err-admitted.field-0.0 = search rules in
    rw e (commit_keeps _ _ shape.blocked shape.places _ (commit_refused _ _ _ (sym first ∙ c.in_err-admitted.was)))

pub returns-then-self-largest : goal.returns-then-self-largest
returns-then-self-largest c first shape =
    let t = before (goal.at.returns-then-self-largest c).Start in
    let p = admitted_ok t true _ (sym first ∙ c.in_ok-admitted.was) in
    commit_keeps _ _ shape.blocked shape.places _ (commit_large t c.args.largest p.rules p.active c.if-self-largest.true)

pub returns-in_err-next : goal.returns-in_err-next
returns-in_err-next c first shape =
    let e : c.from_residual-in_err-next.result ≡ Err c.in_err-next.field-0.0 = search rules in
    let t = before (goal.at.returns-in_err-next c).Start in
    let full = or_err _ _ _ c.ok_or.ensures.value _ c.in_err-next.was in
    let p = admitted_ok t true _ (sym first ∙ c.in_ok-admitted.was) in
    rw (e, full.1) (commit_keeps _ _ shape.blocked shape.places _
    (commit_no_place t c.args.largest p.rules p.active c.if-self-largest.false (stepped t.queue None)
    (ap (stepped t.queue) (sym full.0) ∙ c.push.ensures) refl))

pub returns-in_err-more : goal.returns-in_err-more
returns-in_err-more c first shape =
    let e : c.from_residual-in_err-more.result ≡ Err c.in_err-more.field-0.0 = search rules in
    let t = before (goal.at.returns-in_err-more c).Start in
    let q = or_ok _ _ _ c.ok_or.ensures.value _ c.in_ok-next.was in
    let full = or_err _ _ _ c.ok_or-2.ensures.value _ c.in_err-more.was in
    let p = admitted_ok t true _ (sym first ∙ c.in_ok-admitted.was) in
    rw (e, full.1) (commit_keeps _ _ shape.blocked shape.places _
    (commit_no_value t c.args.largest p.rules p.active c.if-self-largest.false (stepped t.queue (Some c.in_ok-next.next))
    (ap (stepped t.queue) (sym q) ∙ c.push.ensures) refl (counted t.waiting None)
    (ap (counted t.waiting) (sym full.0) ∙ c.waiting_with.ensures) refl))

pub returns : goal.returns
returns c first shape =
    let t = before (goal.at.returns c).Start in
    let q = or_ok _ _ _ c.ok_or.ensures.value _ c.in_ok-next.was in
    let w = or_ok _ _ _ c.ok_or-2.ensures.value _ c.in_ok-more.was in
    let p = admitted_ok t true _ (sym first ∙ c.in_ok-admitted.was) in
    commit_keeps _ _ shape.blocked shape.places _
    (commit_done t c.args.largest p.rules p.active c.if-self-largest.false (stepped t.queue (Some c.in_ok-next.next))
    (ap (stepped t.queue) (sym q) ∙ c.push.ensures) refl (counted t.waiting (Some c.in_ok-more.more))
    (ap (counted t.waiting) (sym w) ∙ c.waiting_with.ensures) refl)
