-- The test for the same string says what it means, and goes byte by byte. Assumes nothing.
use mathlib.Core.Path.{◌≡◌, refl}
use mathlib.Core.Bool.{Bool, true, false, ◌&&◌}
use mathlib.Core.List.{List, [], ◌∷◌}
use Prim.Native.Nat.{ℕ}
use native.Mathlib.Omega.{arith}
use lib.Dec.{eqb}
use borrow.Author.Tests.{eqb-true, eq-eqb}
use Rattle.std.specs.Cmp.Lexicographic.{pointwise}
use Rattle.field.specs.Field.{same}

pub same_refl : (l : List ℕ) → same l l ≡ true
same_refl [] = refl
same_refl (a ∷ l) = rw (eq-eqb a a refl) (same_refl l)

pub same_true : (l m : List ℕ) → same l m ≡ true → l ≡ m
same_true [] [] h = refl
same_true [] (b ∷ m) h = let z : ◌≡◌ {A = ℕ} 0 1 = cc in absurd (omega arith)
same_true (a ∷ l) [] h = let z : ◌≡◌ {A = ℕ} 0 1 = cc in absurd (omega arith)
same_true (a ∷ l) (b ∷ m) h = go (eqb a b) refl h (same_true l m)
  where
    go : (c : Bool) → eqb a b ≡ c → (c && same l m) ≡ true → (same l m ≡ true → l ≡ m) → ◌≡◌ {A = List ℕ} (a ∷ l) (b ∷ m)
    go true q h r = let e : a ≡ b = eqb-true a b q in let f : l ≡ m = r h in cc
    go false q h r = let z : ◌≡◌ {A = ℕ} 0 1 = cc in absurd (omega arith)

-- the test that `==` makes of two slices of bytes
pub same_pointwise : (l m : List ℕ) → pointwise eqb l m ≡ same l m
same_pointwise [] [] = refl
same_pointwise [] (b ∷ m) = refl
same_pointwise (a ∷ l) [] = refl
same_pointwise (a ∷ l) (b ∷ m) = rw (same_pointwise l m)
