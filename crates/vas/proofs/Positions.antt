-- A position that an index gives is one of a live entry. Assumes nothing.
use mathlib.Core.Path.{◌≡◌, refl}
use mathlib.Core.Bool.{Bool, true, false, ◌&&◌, cond}
use Prim.Native.Nat.{ℕ, ◌+◌, ◌-◌, ◌<◌}
use native.Mathlib.Omega.{arith}
use lib.Dec.{ltb, leb}
use borrow.Author.Tests.{leb-true, leb-false, ltb-true}
use Rattle.answers.specs.Answer.{done, refused}
use Rattle.answers.specs.declared.Refusal.TheVariants.{BadRelativeIndex, BadPostbaseIndex, BadIndex}
use Rattle.vas.specs.Vas.{position_of, named, post_base_at}

pub named_below : (i d a p : ℕ) → named i d a ≡ done p → p < i - d
named_below i d a p h = go (leb i d) (leb a d) (leb (i - d) (position_of d a)) refl h
  where
    go : (x y z : Bool) → leb (i - d) (position_of d a) ≡ z
        → cond x (refused BadRelativeIndex) (cond y (refused BadRelativeIndex) (cond z (refused BadIndex) (done (position_of d a)))) ≡ done p
        → p < i - d
    go true y z e h = let z : ◌≡◌ {A = ℕ} 0 1 = cc in absurd (omega arith)
    go false true z e h = let z : ◌≡◌ {A = ℕ} 0 1 = cc in absurd (omega arith)
    go false false true e h = let z : ◌≡◌ {A = ℕ} 0 1 = cc in absurd (omega arith)
    go false false false e h = let q : position_of d a ≡ p = cc in omega (arith, q, leb-false (i - d) (position_of d a) e)

pub post_base_below : (i d base index p : ℕ) → post_base_at i d base index ≡ done p → p < i - d
post_base_below i d base index p h = go (ltb d (base + index + 1)) (leb (base + index + 1) i) refl refl h
  where
    go : (x y : Bool) → ltb d (base + index + 1) ≡ x → leb (base + index + 1) i ≡ y
        → cond (x && y) (done (position_of d (base + index + 1))) (refused BadPostbaseIndex) ≡ done p → p < i - d
    go false y ex ey h = let z : ◌≡◌ {A = ℕ} 0 1 = cc in absurd (omega arith)
    go true false ex ey h = let z : ◌≡◌ {A = ℕ} 0 1 = cc in absurd (omega arith)
    go true true ex ey h =
        let q : position_of d (base + index + 1) ≡ p = cc in
        omega (arith, q, ltb-true d (base + index + 1) ex, leb-true (base + index + 1) i ey)
