-- The library's search for the first element that passes a test finds the first with a number. Assumes nothing.
use mathlib.Core.Path.{◌≡◌, refl, sym, ap, ◌∙◌}
use mathlib.Core.Bool.{Bool, true, false, cond}
use mathlib.Core.List.{List}
use Prim.Native.Nat.{ℕ, ◌≤◌, ◌<◌}
use native.Mathlib.Omega.{arith}
use lib.Dec.{eqb, ltb}
use lib.ListN.{length}
use borrow.Author.Tests.{ltb-true, ltb-false}
use Rattle.std.specs.Prelude.{Some, None, Option, position}
use Rattle.std.specs.List.{position_or_len}
use Rattle.std.proofs.lemmas.List.Recursion.{is_position_or_len}
use Rattle.blocked.specs.Search.{first_of}

module _ {A : Type 0} (f : A → ℕ) (x : ℕ) (l : List A) where
  abbrev pub has : A → Bool
  has a = eqb (f a) x

  same_place : first_of f x l ≡ position_or_len has l
  same_place = is_position_or_len (first_of f x) has refl (λ a m. ap (λ (n : ℕ). cond (has a) 0 n) (omega arith)) l

  pub found : (i : ℕ) → position has l ≡ Some i → (i ≡ first_of f x l) × (i < length l)
  found i h = go (ltb (position_or_len has l) (length l)) refl h
    where
      go : (b : Bool) → ltb (position_or_len has l) (length l) ≡ b
          → ◌≡◌ {A = Option ℕ} (cond b (Some (position_or_len has l)) None) (Some i) → (i ≡ first_of f x l) × (i < length l)
      go true e q = let s : position_or_len has l ≡ i = cc in (sym (same_place ∙ s), omega (arith, ltb-true _ _ e))
      go false e q = let z : ◌≡◌ {A = ℕ} 0 1 = cc in absurd (omega arith)

  pub absent : position has l ≡ None → length l ≤ first_of f x l
  absent h = go (ltb (position_or_len has l) (length l)) refl h
    where
      go : (b : Bool) → ltb (position_or_len has l) (length l) ≡ b
          → ◌≡◌ {A = Option ℕ} (cond b (Some (position_or_len has l)) None) None → length l ≤ first_of f x l
      go true e q = let z : ◌≡◌ {A = ℕ} 0 1 = cc in absurd (omega arith)
      go false e q = rw same_place (ltb-false _ _ e)
