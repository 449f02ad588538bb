-- `dynamic::Table::resize`: what was not admitted, a capacity that no table has, entries in the way, or cut. Assumes nothing.
use mathlib.Core.Path.{◌≡◌, refl, sym, ap, ◌∙◌}
use mathlib.Core.Bool.{false}
use Prim.Native.Nat.{ℕ}
use borrow.Author.Rules.{rules}
use Rattle.std.specs.Prelude.{Err, Some, None}
use mathlib.Core.Option.{none}
use Rattle.ring.specs.Ring.{was_cut, cutting}
use Rattle.dynamic.specs.Calls.{tested, capacity_answer}
use Rattle.dynamic.specs.Record.{lowest_used}
use Rattle.dynamic.proofs.Made.{arrays_of}
use Rattle.dynamic.proofs.Setting.{sets_capacity, size_refused, capacity_refused, capacity_blocked, capacity_cut}
use Rattle.dynamic.proofs.Steps.{or_ok, or_err, admitted_ok}
use Rattle.dynamic.proofs.Table.resize.Goals.{In_ok-capacity_test}
use Rattle.dynamic.proofs.Table.resize.Goals as goal

within : (c : In_ok-capacity_test) → none ≡ capacity_answer c.args.capacity
within c = ap tested (sym c.in_ok-capacity_test.was) ∙ c.capacity_test.ensures

pub returns-in_err-low : goal.returns-in_err-low
returns-in_err-low c shape =
    let e : c.from_residual.result ≡ Err c.in_err-low.field-0.0 = search rules in
    rw e (sets_capacity _ (arrays_of shape) _ (size_refused _ _ _ (sym c.admitted.ensures ∙ c.in_err-low.was)))

pub returns-in_err-capacity_test : goal.returns-in_err-capacity_test
returns-in_err-capacity_test c shape =
    let e : c.from_residual-in_err-capacity_test.result ≡ Err c.in_err-capacity_test.field-0.0 = search rules in
    let p = admitted_ok c.args.self.now false _ (sym c.admitted.ensures ∙ c.in_ok-low.was) in
    rw e (sets_capacity _ (arrays_of shape) _
    (capacity_refused _ _ p.rules p.active _ (ap tested (sym c.in_err-capacity_test.was) ∙ c.capacity_test.ensures)))

pub returns-in_err-ring : goal.returns-in_err-ring
returns-in_err-ring c shape =
    let e : c.from_residual-in_err-ring.result ≡ Err c.in_err-ring.field-0.0 = search rules in
    let t = c.args.self.now in
    let gone = or_err _ _ _ c.ok_or.ensures.value _ c.in_err-ring.was in
    let p = admitted_ok c.args.self.now false _ (sym c.admitted.ensures ∙ c.in_ok-low.was) in
    let did : was_cut t.ring None ≡ cutting t.ring (lowest_used t) c.args.capacity =
    ap (was_cut t.ring) (sym gone.0) ∙ c.cut.ensures ∙ ap (λ (l : ℕ). cutting t.ring l c.args.capacity) p.lowest in
    rw (e, gone.1) (sets_capacity _ (arrays_of shape) _
    (capacity_blocked t _ p.rules p.active _ did (within (goal.at.returns-in_err-ring c).In_ok-capacity_test) refl))

pub returns : goal.returns
returns c shape =
    let t = c.args.self.now in
    let p = admitted_ok c.args.self.now false _ (sym c.admitted.ensures ∙ c.in_ok-low.was) in
    let did : was_cut t.ring (Some c.in_ok-ring.ring) ≡ cutting t.ring (lowest_used t) c.args.capacity =
    ap (was_cut t.ring) (sym (or_ok _ _ _ c.ok_or.ensures.value _ c.in_ok-ring.was)) ∙ c.cut.ensures
    ∙ ap (λ (l : ℕ). cutting t.ring l c.args.capacity) p.lowest in
    sets_capacity _ (arrays_of shape) _
    (capacity_cut t _ p.rules p.active _ did (within (goal.at.returns c).In_ok-capacity_test) refl)
