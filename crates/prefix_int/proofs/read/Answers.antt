-- `prefix_int::read`: each return rewrites with the tests that led there. Assumes nothing.
use mathlib.Core.Path.{◌≡◌, refl, sym, ◌∙◌}
use mathlib.Core.Bool.{true}
use Prim.Native.Nat.{ℕ, ◌*◌, ◌%◌, ◌^◌, ◌≤◌, ◌<◌}
use native.Mathlib.Nat.{div-le_self}
use native.Mathlib.Omega.{arith}
use borrow.Author.Tests.{not-true, not-false}
use lib.ListN.{get_or}
use Rattle.int_writing.proofs.Powers.{one_shifted}
use Rattle.int_writing.proofs.Writing.{call_good}
use Rattle.prefix_int.specs.Integer.{good_call}
use Rattle.prefix_int.proofs.Reading.{first_end, first_short, first_long}
use Rattle.prefix_int.proofs.read.Lts
use Rattle.prefix_int.proofs.read.Reads
use Rattle.prefix_int.proofs.read.Tie
use Rattle.prefix_int.proofs.read.Goals as goal

abbrev After-shared_slice_known-2-1 : Type 0
After-shared_slice_known-2-1 = Lts.After-shared_slice_known2 Tie.the-claims Reads.Pre Reads.Post

abbrev Else-not-call_ok : Type 0
Else-not-call_ok = Lts.Else1 Tie.the-claims Reads.Pre Reads.Post

abbrev Else-s-at : Type 0
Else-s-at = Lts.Else2 Tie.the-claims Reads.Pre Reads.Post

good : (c : Else-not-call_ok) → good_call c.args.width 0 ≡ true
good c = sym c.call_ok.ensures ∙ not-false _ c.if-not-call_ok.false-raw

-- the shift, and what it gives
abbrev shifted : Else-s-at → ℕ
shifted c = (1 * 2 ^ c.args.width) % 2 ^ 64

power : (c : Else-s-at) → (shifted c ≡ 2 ^ c.args.width) × (1 ≤ shifted c) × (shifted c ≤ 256)
power c =
    let n = c.args.width in
    one_shifted n (call_good n 0 (good c.before)).high

-- the first octet
abbrev octet : After-shared_slice_known-2-1 → ℕ
octet c = let a = c.args in get_or a.s.now a.at 0

small : (c : After-shared_slice_known-2-1) → octet c < 256
small c = omega (arith, c.shared_slice_known-2-1.given c.args.at)

pub returns-then-not-call_ok : goal.returns-then-not-call_ok
returns-then-not-call_ok c = simp (sym c.call_ok.ensures ∙ not-true _ c.if-not-call_ok.true-raw)

pub returns-then-s-at : goal.returns-then-s-at
returns-then-s-at c =
    let a = c.args in
    simp (good c.before.before, first_end a.width a.s.now a.at c.if-s-at.true)

pub overflow_shl-p : goal.overflow_shl-p
overflow_shl-p c =
    let n = c.args.width in
    omega (arith, (call_good n 0 (good c.before.before)).high)

pub overflow_cast-b : goal.overflow_cast-b
overflow_cast-b c = omega (arith, small c.before)

pub nonzero_div-flags : goal.nonzero_div-flags
nonzero_div-flags c = omega (arith, power c.before.before)

pub overflow_cast-flags : goal.overflow_cast-flags
overflow_cast-flags c = omega (arith, div-le_self (octet c.before) (shifted c.before.before), small c.before)

pub nonzero_rem-low : goal.nonzero_rem-low
nonzero_rem-low c = omega (arith, power c.before.before)

pub overflow_sub-p : goal.overflow_sub-p
overflow_sub-p c = omega (arith, power c.before.before)

pub returns-then-low-p : goal.returns-then-low-p
returns-then-low-p c =
    let d = c.before.before.before in
    let a = d.args in
    simp (good d.before, first_short a.width a.s.now a.at _ (shifted d) d.if-s-at.false refl (power d).0 c.if-low-p.true)

pub overflow_sub-p-2 : goal.overflow_sub-p-2
overflow_sub-p-2 c = omega (arith, power c.before.before.before)

pub rest-requires : goal.rest-requires
rest-requires c = omega (arith, power c.before.before.before)

pub returns : goal.returns
returns c =
    let d = c.before.before.before.before in
    let a = d.args in
    simp (
      good d.before,
      first_long a.width a.s.now a.at _ (shifted d) d.if-s-at.false refl (power d).0 c.if-low-p.false,
    ) c.rest.ensures
