-- Laws of the latest: the last place at which a test passes is that, and what the test for a field says. Assumes nothing.
use mathlib.Core.Path.{◌≡◌, refl}
use mathlib.Core.Bool.{Bool, true, false, and-true}
use mathlib.Core.List.{List, [], ◌∷◌}
use mathlib.Core.Option.{Option, some, none}
use Prim.Native.Nat.{ℕ, zero, suc, ◌≤◌, ◌<◌}
use native.Mathlib.Omega.{arith}
use lib.ListN.{length, get_or}
use Rattle.field.specs.Field.{Field, same}
use Rattle.entries.specs.Latest.{further, last_of, matches}

module _ {A : Type 0} (test : A → Bool) (z : A) where
  pub record IsLast (l : List A) (k : ℕ) : Type 0 where
    pub within : k < length l
    pub passes : test (get_or l k z) ≡ true
    pub later : (j : ℕ) → k < j → j < length l → test (get_or l j z) ≡ false

  -- what an answer says of the places
  abbrev Last : List A → Option ℕ → Type 0
  Last l (some k) = IsLast l k
  Last l none = (j : ℕ) → j < length l → test (get_or l j z) ≡ false

  -- a place after the first is one of the rest
  after : (x : A) (l : List A) (k : ℕ) → ((j : ℕ) → k ≤ j → j < length l → test (get_or l j z) ≡ false)
      → (j : ℕ) → k < j → j < length (x ∷ l) → test (get_or (x ∷ l) j z) ≡ false
  after x l k w zero h u = absurd (omega arith)
  after x l k w (suc j) h u = w j (omega arith) (omega arith)

  every : (x : A) (l : List A) → test x ≡ false → Last l none → Last (x ∷ l) none
  every x l e w zero u = e
  every x l e w (suc j) u = w j (omega arith)

  last : (l : List A) → Last l (last_of test l)
  last [] = λ j h. absurd (omega arith)
  last (x ∷ l) = go (last_of test l) (test x) refl (last l)
    where
      go : (o : Option ℕ) (b : Bool) → test x ≡ b → Last l o → Last (x ∷ l) (further o b)
      go (some k) b e w = record { within = omega (arith, w.within); passes = w.passes; later = after x l (suc k) w.later }
      go none true e w = record { within = omega arith; passes = e; later = after x l 0 (λ j h u. w j u) }
      go none false e w = every x l e w

  pub some_is_last : (l : List A) (k : ℕ) → last_of test l ≡ some k → IsLast l k
  some_is_last l k h = rw h at (last l)

pub matches_name : (n v : List ℕ) (f : Field) → matches n v false f ≡ same n f.name
matches_name n v f = and-true (same n f.name)
