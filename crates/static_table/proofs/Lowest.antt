-- What the answer of a search says: the lowest index of a field that passes a test. Assumes nothing.
use mathlib.Core.Path.{◌≡◌, refl, sym, ap₂}
use mathlib.Core.Bool.{Bool, true, false, cond}
use mathlib.Core.List.{List, [], ◌∷◌}
use mathlib.Core.Option.{Option, some, none}
use Prim.Native.Nat.{ℕ, zero, suc, ◌+◌, ◌<◌}
use native.Mathlib.Omega.{arith}
use lib.ListN.{length, get_or}
use Rattle.field.specs.Field.{Field, same, equal}
use Rattle.field.proofs.Same.{same_refl, same_true}
use Rattle.static_table.specs.AppendixA.{appendix_a}
use Rattle.static_table.specs.Static.{no_field, lowest, lowest_field, lowest_name}
use Rattle.static_table.proofs.Table.{entries, both}

-- an index below 99, of an entry with the property, and no lower entry has it
pub record Lowest (P : Field → Type 0) (i : ℕ) : Type 0 where
  pub low : i < 99
  pub here : P (get_or appendix_a i no_field)
  pub first : (k : ℕ) → k < i → P (get_or appendix_a k no_field) → ⊥

-- the lowest such index, or no entry has the property
abbrev pub Says : (Field → Type 0) → Option ℕ → Type 0
Says P (some i) = Lowest P i
Says P none = (k : ℕ) → k < 99 → P (get_or appendix_a k no_field) → ⊥

-- a test, and the property that it is for
module _
    (test : Field → Bool) (P : Field → Type 0)
    (sound : (f : Field) → test f ≡ true → P f) (complete : (f : Field) → P f → test f ≡ true) where
  fails : (f : Field) → test f ≡ false → P f → ⊥
  fails f e p = let q = complete f p in let z : ◌≡◌ {A = ℕ} 0 1 = cc in omega arith

  none_more : (f : Field) (l : List Field) (m : ℕ) → test f ≡ false → ((k : ℕ) → k < m → P (get_or l k no_field) → ⊥)
      → (k : ℕ) → k < suc m → P (get_or (f ∷ l) k no_field) → ⊥
  none_more f l m e r zero g p = fails f e p
  none_more f l m e r (suc k) g p = r k (omega arith) p

  -- the same of any list, counted from j
  SaysFrom : List Field → ℕ → Option ℕ → Type 0
  SaysFrom l j (some i) =
      (k : ℕ) × (i ≡ j + k) × (k < length l) × P (get_or l k no_field) × ((m : ℕ) → m < k → P (get_or l m no_field) → ⊥)
  SaysFrom l j none = (k : ℕ) → k < length l → P (get_or l k no_field) → ⊥

  says_more : (f : Field) (l : List Field) (j : ℕ) (o : Option ℕ) → test f ≡ false → SaysFrom l (suc j) o → SaysFrom (f ∷ l) j o
  unfolding SaysFrom
  says_more f l j (some i) e s =
      (suc s.0, omega (arith, s.1), omega (arith, s.2), s.3, none_more f l s.0 e s.4)
  says_more f l j none e s = none_more f l (length l) e s

  says_from : (l : List Field) (j : ℕ) → SaysFrom l j (lowest test j l)
  unfolding SaysFrom
  says_from [] j = λ k g p. omega arith
  says_from (f ∷ l) j = go (test f) refl (says_from l (suc j))
    where
      go : (t : Bool) → test f ≡ t → SaysFrom l (suc j) (lowest test (suc j) l) → SaysFrom (f ∷ l) j (cond t (some j) (lowest test (suc j) l))
      go true e s = (0, omega arith, omega arith, sound f e, λ m g p. omega arith)
      go false e s = says_more f l j (lowest test (suc j) l) e s

  says : (o : Option ℕ) → SaysFrom appendix_a 0 o → Says P o
  unfolding SaysFrom
  says (some i) s =
      let e : s.0 ≡ i = omega (arith, s.1) in
      record { low = omega (arith, s.1, s.2, entries); here = rw e at s.3; first = rw e at s.4 }
  says none s = λ k g p. s k (omega (arith, entries)) p

  answer_says : Says P (lowest test 0 appendix_a)
  answer_says = says _ (says_from appendix_a 0)

equal_true : (f g : Field) → equal f g ≡ true → g ≡ f
equal_true f g h =
    let s = both (same f.name g.name) (same f.value g.value) h in
    let n : g.name ≡ f.name = sym (same_true f.name g.name s.0) in
    let v : g.value ≡ f.value = sym (same_true f.value g.value s.1) in
    ap₂ {C = Field} (λ n v. record { name = n; value = v }) n v

equal_self : (f g : Field) → g ≡ f → equal f g ≡ true
equal_self f g e = rw (e, same_refl f.name) (same_refl f.value)

pub field_says : (n v : List ℕ) → Says (λ f. f ≡ record { name = n; value = v }) (lowest_field n v)
unfolding lowest_field
field_says n v =
    let f : Field = record { name = n; value = v } in
    answer_says (equal f) (λ g. g ≡ f) (equal_true f) (equal_self f)

pub name_says : (n : List ℕ) → Says (λ f. f.name ≡ n) (lowest_name n)
unfolding lowest_name
name_says n = answer_says (λ f. same n f.name) (λ f. f.name ≡ n) (λ f e. sym (same_true n f.name e)) (λ f e. rw e (same_refl n))
