-- `prefix_int::rest`. The invariant: what the groups from here give is what they give from the start. Assumes nothing.
use mathlib.Core.Path.{◌≡◌, refl, sym, ◌∙◌}
use Prim.Native.Nat.{ℕ, ◌+◌, ◌-◌, ◌*◌, ◌%◌, ◌^◌, ◌≤◌, ◌<◌}
use native.Mathlib.Omega.{arith}
use lib.ListN.{get_or}
use Rattle.prefix_int.proofs.Reading.{groups_over, groups_end, groups_last, groups_more, weight_le, digit_le, weight_next}
use Rattle.prefix_int.proofs.rest.Lts
use Rattle.prefix_int.proofs.rest.Reads
use Rattle.prefix_int.proofs.rest.Goals as goal

abbrev After-shared_slice_known-1 : Type 0
After-shared_slice_known-1 = Lts.After-shared_slice_known Reads.Pre Reads.Post goal.the-invariant-loop-group goal.the-decreases-loop-group

abbrev In-loop-group : Type 0
In-loop-group = Lts.In-loop Reads.Pre Reads.Post goal.the-invariant-loop-group goal.the-decreases-loop-group

small : (c : In-loop-group) → c.loop-group.weight ≤ 2 ^ 56
small c = let L = c.loop-group in weight_le L.weight L.invariant.0 (9 - L.group) L.invariant.1 (omega (arith, L.invariant.2, c.loop-group-test.true)) (omega (arith, c.loop-group-test.true))

-- the octet that is read
abbrev octet : After-shared_slice_known-1 → ℕ
octet c = get_or c.args.s.now c.loop-group.at 0

-- a digit at its weight
digit : (c : After-shared_slice_known-1) (d : ℕ) → d < 128
    → let w = c.loop-group.weight in (d * w ≤ 127 * w) × (w ≤ 2 ^ 56)
digit c d h = (digit_le d _ h, small c.before.before)

pub loop-group-init : goal.loop-group-init
loop-group-init c = (0, refl, refl, omega arith, refl)

pub returns-then-s-at : goal.returns-then-s-at
returns-then-s-at c =
    let L = c.loop-group in
    sym (groups_end (9 - L.group) _ _ L.at _ _ _ (omega (arith, c.loop-group-test.true)) c.if-s-at.true) ∙ L.invariant.4

pub overflow_cast-b : goal.overflow_cast-b
overflow_cast-b c = omega (arith, c.shared_slice_known-1.given c.loop-group.at)

pub overflow_mul-result : goal.overflow_mul-result
overflow_mul-result c = omega (arith, digit c.before.before (octet c.before.before) c.if-b-lt128.true)

pub overflow_add-result : goal.overflow_add-result
overflow_add-result c = omega (arith, digit c.before.before (octet c.before.before) c.if-b-lt128.true)

pub returns-then-b-lt128 : goal.returns-then-b-lt128
returns-then-b-lt128 c =
    let d = c.before.before.before in
    let L = d.loop-group in
    let a = d.args in
    let here = groups_last (9 - L.group) a.s.now a.flags L.at L.invariant.0 L.value (octet c.before.before) L.weight d.if-s-at.false refl L.invariant.1 in
    sym (here (omega (arith, d.loop-group-test.true)) c.if-b-lt128.true) ∙ L.invariant.4

pub overflow_mul-value : goal.overflow_mul-value
overflow_mul-value c = omega (arith, digit c.before.before (octet c.before.before % 128) (omega arith))

pub overflow_add-value : goal.overflow_add-value
overflow_add-value c = omega (arith, digit c.before.before (octet c.before.before % 128) (omega arith))

pub overflow_mul-weight : goal.overflow_mul-weight
overflow_mul-weight c = omega (arith, small c.before.before.before.before)

pub loop-group-preserved : goal.loop-group-preserved
loop-group-preserved c =
    let d = c.before.before.before in
    let L = d.loop-group in
    let a = d.args in
    let fewer : 9 - (L.group + 1) ≡ 9 - L.group - 1 = omega arith in
    let here = groups_more (9 - L.group) a.s.now a.flags L.at L.invariant.0 L.value (octet c.before.before) L.weight d.if-s-at.false refl L.invariant.1 in (
      L.invariant.0 + 7,
      weight_next L.weight L.invariant.0 L.invariant.1,
      omega arith,
      omega (arith, digit c.before.before (octet c.before.before % 128) (omega arith)),
      rw fewer (sym (here (omega (arith, d.loop-group-test.true)) c.if-b-lt128.false) ∙ L.invariant.4),
    )

pub returns : goal.returns
returns c = let L = c.loop-group in sym (groups_over (9 - L.group) _ _ _ _ _ (omega (arith, c.loop-group-test.false))) ∙ L.invariant.4
