-- The first element with a number, and what changes it, or adds one where there is none. Assumes nothing.
use mathlib.Core.Path.{◌≡◌, refl}
use mathlib.Core.Bool.{Bool, true, false}
use mathlib.Core.List.{List, [], ◌∷◌, ◌++◌, map}
use mathlib.Core.Option.{Option, some, none}
use Prim.Native.Nat.{ℕ, suc, ◌-◌, ◌≤◌, ◌<◌}
use native.Mathlib.Omega.{arith}
use lib.Dec.{eqb}
use lib.ListN.{length, get_or, set}
use borrow.Author.Tests.{eqb-true, eqb-false, eq-eqb, ne_eqb}
use Rattle.blocked.specs.Search.{first_of}

module _ {A : Type 0} (f : A → ℕ) (x : ℕ) (a : A) where
  pub first_here : (l : List A) → f a ≡ x → first_of f x (a ∷ l) ≡ 0
  first_here l e = rw (eq-eqb (f a) x e)

  pub first_later : (l : List A) → (f a ≡ x → ⊥) → first_of f x (a ∷ l) ≡ suc (first_of f x l)
  first_later l e = rw (ne_eqb (f a) x e)

  pub is_or_not : {P : Type 0} → (f a ≡ x → P) → ((f a ≡ x → ⊥) → P) → P
  is_or_not {P} y n = go (eqb (f a) x) refl
    where
      go : (b : Bool) → eqb (f a) x ≡ b → P
      go true e = y (eqb-true (f a) x e)
      go false e = n (eqb-false (f a) x e)

pub first_is : {A : Type 0} (f : A → ℕ) (x : ℕ) (l : List A) (d : A) → first_of f x l < length l → f (get_or l (first_of f x l) d) ≡ x
first_is f x [] d h = absurd (omega arith)
first_is f x (a ∷ l) d h =
    is_or_not f x a
    (λ e. rw (first_here f x a l e) e)
    (λ e. let z = first_later f x a l e in rw z (first_is f x l d (omega arith)))

-- F passes each element whose number is not x, and at the end adds one where there is room
pub record Passing {A B : Type 0} (f : A → ℕ) (x : ℕ) (g : A → B) (new : A) (F : ℕ → List A → Option (List B)) : Type 0 where
  pub adds : (room : ℕ) → 0 < room → F room [] ≡ some (g new ∷ [])
  pub ends : F 0 [] ≡ none
  pub goes_on : (room : ℕ) (a : A) (l : List A) (r : List B) → (f a ≡ x → ⊥) → F (room - 1) l ≡ some r → F room (a ∷ l) ≡ some (g a ∷ r)
  pub fails : (room : ℕ) (a : A) (l : List A) → (f a ≡ x → ⊥) → F (room - 1) l ≡ none → F room (a ∷ l) ≡ none

module _ {A B : Type 0} {f : A → ℕ} {x : ℕ} {g : A → B} {new : A} {F : ℕ → List A → Option (List B)} (p : Passing f x g new F) where
  pub changed : (l : List A) (room : ℕ) (d b : A) → first_of f x l < length l
      → ((room : ℕ) (m : List A) → F room (get_or l (first_of f x l) d ∷ m) ≡ some (g b ∷ map g m))
      → F room l ≡ some (map g (set l (first_of f x l) b))
  changed [] room d b h c = absurd (omega arith)
  changed (a ∷ l) room d b h c =
      is_or_not f x a
      (λ e. let z = first_here f x a l e in rw z ((rw z at c) room l))
      (λ e.
      let z = first_later f x a l e in
      rw z (p.goes_on room a l _ e (changed l (room - 1) d b (omega arith) (rw z at c))))

  pub not_changed : (l : List A) (room : ℕ) (d : A) → first_of f x l < length l
      → ((room : ℕ) (m : List A) → F room (get_or l (first_of f x l) d ∷ m) ≡ none)
      → F room l ≡ none
  not_changed [] room d h c = absurd (omega arith)
  not_changed (a ∷ l) room d h c =
      is_or_not f x a
      (λ e. let z = first_here f x a l e in (rw z at c) room l)
      (λ e. let z = first_later f x a l e in p.fails room a l e (not_changed l (room - 1) d (omega arith) (rw z at c)))

  pub added : (l : List A) (room : ℕ) → length l ≤ first_of f x l → length l < room → F room l ≡ some (map g (l ++ (new ∷ [])))
  added [] room h r = p.adds room r
  added (a ∷ l) room h r =
      is_or_not f x a
      (λ e. let z = first_here f x a l e in absurd (omega arith))
      (λ e. let z = first_later f x a l e in p.goes_on room a l _ e (added l (room - 1) (omega arith) (omega arith)))

  pub not_added : (l : List A) (room : ℕ) → length l ≤ first_of f x l → room ≤ length l → F room l ≡ none
  not_added [] room h r = let z : room ≡ 0 = omega arith in rw z p.ends
  not_added (a ∷ l) room h r =
      is_or_not f x a
      (λ e. let z = first_here f x a l e in absurd (omega arith))
      (λ e. let z = first_later f x a l e in p.fails room a l e (not_added l (room - 1) (omega arith) (omega arith)))
