-- `blocked::block`: refusals by the cases of `blocking`, and both cases of the place that `value_at` finds are its callees'. Assumes nothing.
use mathlib.Core.Path.{◌≡◌, sym, ◌∙◌}
use mathlib.Core.Bool.{true}
use native.Mathlib.Omega.{arith}
use Rattle.blocked.specs.Waiting.{keeps_count, values_of}
use Rattle.blocked.specs.declared.Value.{Value}
use Rattle.blocked.proofs.Counting.{few_values}
use Rattle.blocked.proofs.Blocking.{breaks_rule, no_more}
use Rattle.blocked.proofs.Searching.{found, absent}
use Rattle.std.proofs.lemmas.List.{length-take}
use Rattle.blocked.proofs.block.Goals.{Else-not-waiting_ok}
use Rattle.blocked.proofs.block.Goals as goal

ok : (c : Else-not-waiting_ok) → keeps_count c.args.waiting.now ≡ true
ok c = sym c.waiting_ok.ensures ∙ c.if-not-waiting_ok.false

pub returns-then-not-waiting_ok : goal.returns-then-not-waiting_ok
returns-then-not-waiting_ok c = sym (breaks_rule _ _ (sym c.waiting_ok.ensures ∙ c.if-not-waiting_ok.true))

pub returns-then-waiting-ge-BLOCKED_SECTIONS : goal.returns-then-waiting-ge-BLOCKED_SECTIONS
returns-then-waiting-ge-BLOCKED_SECTIONS c =
    sym (no_more _ _ (ok (goal.at.returns-then-waiting-ge-BLOCKED_SECTIONS c).Else-not-waiting_ok) c.if-waiting-ge-BLOCKED_SECTIONS.true)

pub value_at-requires : goal.value_at-requires
value_at-requires c = few_values _ (ok (goal.at.value_at-requires c).Else-not-waiting_ok)

pub block_again-requires : goal.block_again-requires
block_again-requires c =
    let w = c.args.waiting.now in
    let f = found (λ (v : Value). v.largest) c.args.largest (values_of w) _ (sym c.value_at.ensures ∙ c.in-Some.is) in
    let n = length-take w.distinct w.values in
    (ok (goal.at.block_again-requires c).Else-not-waiting_ok, c.if-waiting-ge-BLOCKED_SECTIONS.false, f.0, omega (arith, f.1, n))

pub block_first-requires : goal.block_first-requires
block_first-requires c =
    let w = c.args.waiting.now in
    let f = absent (λ (v : Value). v.largest) c.args.largest (values_of w) (sym c.value_at.ensures ∙ c.in-None.is) in
    let good = ok (goal.at.block_first-requires c).Else-not-waiting_ok in
    let n = length-take w.distinct w.values in
    (good, c.if-waiting-ge-BLOCKED_SECTIONS.false, omega (arith, f, n, few_values w good))
