-- 4.5.1.1 the other way: what the encoder writes for a count gives that count again, within MaxEntries of the total. Assumes nothing.
use mathlib.Core.Path.{◌≡◌, refl, sym, ap, ◌∙◌}
use mathlib.Core.Bool.{Bool, true, false}
use mathlib.Core.Logic.{◌⊎◌, inl, inr, ⊎_elim}
use mathlib.Core.Option.{some}
use Prim.Native.Nat.{ℕ, ◌+◌, ◌-◌, ◌*◌, ◌/◌, ◌%◌, ◌≤◌, ◌<◌}
use native.Mathlib.Nat.{add-mul, mul-le-mul_right, mod-lt, div-add-mod'}
use native.Mathlib.Omega.{arith}
use lib.Dec.{ltb}
use borrow.Author.Tests.{ltb-true, ltb-false, ne_eqb}
use Rattle.header_prefix.specs.Prefix.{max_entries, full_range, max_value, max_wrapped, not_zero, required_count}
use Rattle.header_prefix.proofs.Counts.{count_lowered, count_whole}

-- a count n in a window of f up to v lies in v's own multiple of f, or in the one before
module _ (v f n : ℕ) (pos : 0 < f) (low : v < n + f) (high : n ≤ v) where
  not_above : n / f ≤ v / f
  not_above = go (ltb (v / f) (n / f)) refl
    where
      go : (b : Bool) → ltb (v / f) (n / f) ≡ b → n / f ≤ v / f
      go true e =
          let up : (v / f + 1) * f ≤ n / f * f = mul-le-mul_right f (omega (arith, ltb-true (v / f) (n / f) e)) in
          absurd (omega (arith, up, add-mul (v / f) 1 f, div-add-mod' v f, div-add-mod' n f, mod-lt v pos))
      go false e = ltb-false _ _ e

  one_below : v / f ≤ n / f + 1
  one_below = go (ltb (n / f + 1) (v / f)) refl
    where
      go : (b : Bool) → ltb (n / f + 1) (v / f) ≡ b → v / f ≤ n / f + 1
      go true e =
          let up : (n / f + 2) * f ≤ v / f * f = mul-le-mul_right f (omega (arith, ltb-true (n / f + 1) (v / f) e)) in
          absurd (omega (arith, up, add-mul (n / f) 2 f, div-add-mod' v f, div-add-mod' n f, mod-lt n pos))
      go false e = ltb-false _ _ e

  here_or_before : (v / f * f + n % f ≡ n) ⊎ (v / f * f + n % f ≡ n + f)
  here_or_before = go (ltb (n / f) (v / f)) refl
    where
      go : (b : Bool) → ltb (n / f) (v / f) ≡ b → (v / f * f + n % f ≡ n) ⊎ (v / f * f + n % f ≡ n + f)
      go true e =
          let same : v / f ≡ n / f + 1 = omega (arith, one_below, ltb-true (n / f) (v / f) e) in
          let times : v / f * f ≡ (n / f + 1) * f = ap (λ (k : ℕ). k * f) same in
          inr (omega (arith, times, add-mul (n / f) 1 f, div-add-mod' n f))
      go false e =
          let same : v / f ≡ n / f = omega (arith, not_above, ltb-false (n / f) (v / f) e) in
          let times : v / f * f ≡ n / f * f = ap (λ (k : ℕ). k * f) same in
          inl (omega (arith, times, div-add-mod' n f))

module _ (total capacity n : ℕ) (given : 0 < n) (low : total < n + max_entries capacity) (high : n ≤ max_value total capacity) where
  -- "The encoder writes 0 for 0, else required mod FullRange, plus 1"
  abbrev encoded : ℕ
  encoded = n % full_range capacity + 1

  some_n : (r : ℕ) → r ≡ n → not_zero (some r) ≡ some n
  some_n r e = let z : n ≡ 0 → ⊥ = λ q. omega arith in rw (e, ne_eqb n 0 z)

  not_zero_lem : encoded ≡ 0 → ⊥
  not_zero_lem q = omega arith

  in_range : encoded ≤ full_range capacity
  in_range = let pos : 0 < full_range capacity = omega arith in omega (arith, mod-lt n pos)

  abbrev r : ℕ
  r = max_wrapped total capacity + encoded - 1

  whole : max_wrapped total capacity + n % full_range capacity ≡ n → required_count total capacity encoded ≡ some n
  whole e = sym (count_whole total capacity encoded not_zero_lem in_range r refl (omega arith)) ∙ some_n r (omega arith)

  lowered : max_wrapped total capacity + n % full_range capacity ≡ n + full_range capacity → required_count total capacity encoded ≡ some n
  lowered e =
      sym (count_lowered total capacity encoded not_zero_lem in_range r refl (omega arith) (omega arith))
      ∙ some_n (r - full_range capacity) (omega arith)

  pub count_back : required_count total capacity encoded ≡ some n
  count_back =
      ⊎_elim whole lowered (here_or_before (max_value total capacity) (full_range capacity) n (omega arith) (omega arith) high)
