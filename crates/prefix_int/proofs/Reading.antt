-- Laws of reading, over the code's own variables: b the octet read, w its weight, p = 2 ^ n. Assumes nothing.
use mathlib.Core.Path.{◌≡◌, refl}
use mathlib.Core.List.{List}
use Prim.Native.Nat.{ℕ, zero, suc, ◌+◌, ◌-◌, ◌*◌, ◌/◌, ◌%◌, ◌^◌, ◌≤◌, ◌<◌}
use native.Mathlib.Nat.{add-mul, mul_assoc, mul_comm, mul-le-mul_right}
use native.Mathlib.Numerals.{add-one}
use native.Mathlib.Omega.{arith}
use lib.ListN.{length, get_or, drop, drop_of_length-le}
use lib.Seq.{drop-cons}
use lib.Pow.{pow-add, pow_mono}
use borrow.Author.Tests.{lt-ltb, le-ltb}
use Rattle.answers.specs.Answer.{done, refused}
use Rattle.answers.specs.declared.Refusal.TheVariants.{UnexpectedEnd, Overflow}
use Rattle.int_writing.proofs.Writing.{width_call}
use Rattle.prefix_int.specs.Integer.{groups, int_from, int_at}

-- ---- a run of groups

-- no octet is left to look at
pub groups_over : (k : ℕ) (s : List ℕ) (f at m i : ℕ) → k ≤ 0 → groups k s f at m i ≡ refused Overflow
unfolding groups
groups_over zero s f at m i h = refl
groups_over (suc k) s f at m i h = absurd (omega arith)

-- the list ended
pub groups_end : (k : ℕ) (s : List ℕ) (f at p m i : ℕ) → 0 < k → length s ≤ at → groups k (drop at s) f p m i ≡ refused UnexpectedEnd
unfolding groups
groups_end zero s f at p m i z h = absurd (omega arith)
groups_end (suc k) s f at p m i z h = rw (drop_of_length-le s h)

module _ (k : ℕ) (s : List ℕ) (f at m i b w : ℕ) (l : at < length s) (eb : b ≡ get_or s at 0) (ew : w ≡ 2 ^ m) where
  -- the last octet
  pub groups_last : 0 < k → b < 128 → groups k (drop at s) f at m i ≡ done (record { flags = f; value = i + b * w; next = at + 1 })
  unfolding groups
  groups_last z h = go k z
    where
      go : (k : ℕ) → 0 < k → groups k (drop at s) f at m i ≡ done (record { flags = f; value = i + b * w; next = at + 1 })
      go zero z = absurd (omega arith)
      go (suc k) z = rw (drop-cons s at 0 l, ← eb, lt-ltb b 128 h, ew)

  -- an octet that is not the last
  pub groups_more : 0 < k → 128 ≤ b → groups k (drop at s) f at m i ≡ groups (k - 1) (drop (at + 1) s) f (at + 1) (m + 7) (i + b % 128 * w)
  unfolding groups
  groups_more z h = go k z
    where
      go : (k : ℕ) → 0 < k → groups k (drop at s) f at m i ≡ groups (k - 1) (drop (at + 1) s) f (at + 1) (m + 7) (i + b % 128 * w)
      go zero z = absurd (omega arith)
      go (suc k) z =
          let e : suc k - 1 ≡ k = omega arith in
          rw (e, drop-cons s at 0 l, ← eb, le-ltb b 128 h, ew, add-one)

-- the weight of an octet that is still to be read
pub weight_le : (w m k : ℕ) → w ≡ 2 ^ m → m + 7 * k ≡ 63 → 0 < k → w ≤ 2 ^ 56
weight_le w m k e h z = rw e (pow_mono {j = 56} (omega arith))

pub weight_next : (w m : ℕ) → w ≡ 2 ^ m → w * 128 ≡ 2 ^ (m + 7)
weight_next w m e = rw (e, pow-add 2 m 7)

-- a digit below 128 at a weight w
pub digit_le : (d w : ℕ) → d < 128 → d * w ≤ 127 * w
digit_le d w h = mul-le-mul_right w (omega arith)

-- ---- the first octet

pub first_end : (n : ℕ) (s : List ℕ) (at : ℕ) → length s ≤ at → int_from n (drop at s) at ≡ refused UnexpectedEnd
unfolding int_from
first_end n s at h = rw (drop_of_length-le s h)

pub int_end : (s : List ℕ) (at n : ℕ) → 1 ≤ n → n ≤ 8 → length s ≤ at → int_at s at n ≡ refused UnexpectedEnd
int_end s at n low high h = rw (width_call n low high) (first_end n s at h)

module _ (n : ℕ) (s : List ℕ) (at b p : ℕ) (l : at < length s) (eb : b ≡ get_or s at 0) (ep : p ≡ 2 ^ n) where
  pub first_short : b % p < p - 1 → int_from n (drop at s) at ≡ done (record { flags = b / p; value = b % p; next = at + 1 })
  unfolding int_from
  first_short h = rw (drop-cons s at 0 l, ← eb, ← ep, lt-ltb (b % p) (p - 1) h)

  pub first_long : p - 1 ≤ b % p → int_from n (drop at s) at ≡ groups 9 (drop (at + 1) s) (b / p) (at + 1) 0 (p - 1)
  unfolding int_from
  first_long h = rw (drop-cons s at 0 l, ← eb, ← ep, le-ltb (b % p) (p - 1) h, add-one)

-- a digit and what stands above it, at a weight w
pub digit_add : (d q w : ℕ) → d * w + q * (w * 128) ≡ (d + q * 128) * w
digit_add d q w = rw (add-mul, mul_assoc, mul_comm w 128)
