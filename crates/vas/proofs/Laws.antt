-- Which index gets which answer, by plain inequalities; and that a live entry is found at the position it has. Assumes nothing.
use mathlib.Core.Path.{◌≡◌, refl, ap, ◌∙◌}
use mathlib.Core.Bool.{Bool, true, false, ◌&&◌, cond}
use Prim.Native.Nat.{ℕ, ◌+◌, ◌-◌, ◌≤◌, ◌<◌}
use native.Mathlib.Omega.{arith}
use lib.Dec.{ltb, leb}
use borrow.Author.Tests.{lt-ltb, le-ltb, le-leb, lt-leb, leb-false}
use Rattle.answers.specs.Answer.{done, refused, answer_number}
use Rattle.answers.specs.declared.Refusal.TheVariants.{BadRelativeIndex, BadPostbaseIndex, BadIndex}
use Rattle.vas.specs.Vas.{named, relative_at, post_base_at, absolute_of}

module _ (i d a : ℕ) where
  pub none_live : i ≤ d → refused BadRelativeIndex ≡ named i d a
  none_live h = rw (le-leb i d h)

  pub was_dropped : d < i → a ≤ d → refused BadRelativeIndex ≡ named i d a
  was_dropped h g = rw (lt-leb i d h, le-leb a d g)

  pub not_yet : d < i → i < a → refused BadIndex ≡ named i d a
  not_yet h g =
      let up : d < a = omega arith in
      let past : i - d ≤ a - d - 1 = omega arith in
      rw (lt-leb i d h, lt-leb a d up, le-leb (i - d) (a - d - 1) past)

  pub is_live : d < a → a ≤ i → done (a - d - 1) ≡ named i d a
  is_live h g =
      let some : d < i = omega arith in
      let within : a - d - 1 < i - d = omega arith in
      rw (lt-leb i d some, lt-leb a d h, lt-leb (i - d) (a - d - 1) within)

module _ (i d base index : ℕ) where
  pub post_base_above : i ≤ base + index → refused BadPostbaseIndex ≡ post_base_at i d base index
  post_base_above h =
      let above : i < base + index + 1 = omega arith in
      go (ltb d (base + index + 1)) (lt-leb (base + index + 1) i above)
    where
      go : (b : Bool) → leb (base + index + 1) i ≡ false
          → refused BadPostbaseIndex ≡ cond (b && leb (base + index + 1) i) (done (base + index + 1 - d - 1)) (refused BadPostbaseIndex)
      go true e = rw e
      go false e = refl

  pub post_base_dropped : base + index < d → refused BadPostbaseIndex ≡ post_base_at i d base index
  post_base_dropped h =
      let below : base + index + 1 ≤ d = omega arith in
      rw (le-ltb d (base + index + 1) below)

  pub post_base_live : d ≤ base + index → base + index < i → done (base + index - d) ≡ post_base_at i d base index
  post_base_live h g =
      let up : d < base + index + 1 = omega arith in
      let in_table : base + index + 1 ≤ i = omega arith in
      let same : base + index + 1 - d - 1 ≡ base + index - d = omega arith in
      rw (lt-ltb d (base + index + 1) up, le-leb (base + index + 1) i in_table, same)

module _ (i d k : ℕ) where
  pub no_position : i - d ≤ k → refused BadIndex ≡ absolute_of i d k
  no_position h = rw (le-ltb k (i - d) h)

  pub at_position : k < i - d → done (d + k + 1) ≡ absolute_of i d k
  at_position h = rw (lt-ltb k (i - d) h)

-- a relative index never gives 7: it names no entry above the newest
pub relative_within : (i d index : ℕ) → answer_number (relative_at i d index) ≡ 7 → ⊥
relative_within i d index h = go (leb i d) (leb (i - index) d) refl refl
  where
    go : (x y : Bool) → leb i d ≡ x → leb (i - index) d ≡ y → ⊥
    go true y ex ey = let z : ◌≡◌ {A = ℕ} 5 7 = rw ex at h in omega arith
    go false true ex ey = let z : ◌≡◌ {A = ℕ} 5 7 = rw (ex, ey) at h in omega arith
    go false false ex ey =
        let live : done (i - index - d - 1) ≡ relative_at i d index = is_live i d (i - index) (leb-false _ _ ey) (omega arith) in
        let z : ◌≡◌ {A = ℕ} 0 7 = ap answer_number live ∙ h in
        omega arith
