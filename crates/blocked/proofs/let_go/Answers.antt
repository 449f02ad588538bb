-- `blocked::let_go`: the loop keeps `Keeping`. Assumes nothing.
use mathlib.Core.Path.{◌≡◌, sym, ◌∙◌}
use mathlib.Core.Bool.{true}
use native.Mathlib.Omega.{arith}
use Rattle.blocked.specs.Waiting.{no_value, keeps_count}
use Rattle.blocked.proofs.Counting.{few_values, sums_up, few_sections}
use Rattle.blocked.proofs.Keeping.{none_kept, gone, fits, one_kept, all_kept, breaks_rule, lets_go}
use Rattle.std.proofs.lemmas.List.{length-take}
use Rattle.blocked.proofs.let_go.Goals.{Else-not-waiting_ok, then-value-known, else-value-known}
use Rattle.blocked.proofs.let_go.Goals as goal

ok : (c : Else-not-waiting_ok) → keeps_count c.args.waiting.now ≡ true
ok c = sym c.waiting_ok.ensures ∙ c.if-not-waiting_ok.false

pub returns-then-not-waiting_ok : goal.returns-then-not-waiting_ok
returns-then-not-waiting_ok c = sym (breaks_rule _ _ (sym c.waiting_ok.ensures ∙ c.if-not-waiting_ok.true))

pub loop-value-init : goal.loop-value-init
loop-value-init c =
    let w = c.args.waiting.now in
    let good = ok (goal.at.loop-value-init c).Else-not-waiting_ok in
    none_kept _ _ (omega (arith, few_values w good, length-take w.distinct w.values)) (omega (arith, few_sections w good, sums_up w good))

pub overflow_add-total : goal.overflow_add-total
overflow_add-total c =
    omega (arith, fits _ _ _ _ _ _ c.loop-value.invariant no_value c.loop-value-test.true c.if-value-known.true)

pub loop-value-preserved : goal.loop-value-preserved
loop-value-preserved c =
    elim c.if-value-known.branch [
      | then-value-known w ↦ rw (w.values-is, w.total-is, w.kept-is) (one_kept _ _ _ _ _ _ c.loop-value.invariant no_value c.loop-value-test.true w.if-value-known.true)
      | else-value-known w ↦ rw (w.values-is, w.total-is, w.kept-is) (gone _ _ _ _ _ _ c.loop-value.invariant no_value c.loop-value-test.true w.if-value-known.false)
    ]

pub returns : goal.returns
returns c =
    all_kept _ _ _ _ _ _ c.loop-value.invariant c.loop-value-test.false
    ∙ sym (lets_go _ _ (ok (goal.at.returns c).Else-not-waiting_ok))
