-- What `stands` compares, and what the loop of `newest` keeps: no entry from k on is the one, so those before k decide. Assumes nothing.
use mathlib.Core.Path.{◌≡◌, refl, sym, ap, ◌∙◌}
use mathlib.Core.Bool.{Bool, true, false, cond, and-false}
use mathlib.Core.List.{List, [], ◌∷◌, ◌++◌, map}
use mathlib.Core.Option.{some, none}
use Prim.Native.Nat.{ℕ, zero, suc, ◌+◌, ◌-◌, ◌%◌, ◌≤◌, ◌<◌}
use native.Mathlib.Omega.{arith}
use lib.Dec.{eqb}
use lib.ListN.{length, get_or, take}
use lib.Seq.{take-suc, take-length, length-take-le}
use Rattle.arena.specs.Ring.{ring_read}
use Rattle.arena.proofs.RingRead.{length_ring_read}
use Rattle.field.specs.Field.{Field, same}
use Rattle.entries.specs.Entry.{Entry, slots, no_entry, slot_of, between, field_of}
use Rattle.entries.specs.Latest.{further, last_of, matches}
use Rattle.entries.proofs.Between.{length_fields, field_at}

-- strings of different lengths are not the same
same_not : (l m : List ℕ) → (length l ≡ length m → ⊥) → same l m ≡ false
same_not [] [] h = absurd (h refl)
same_not [] (b ∷ m) h = refl
same_not (a ∷ l) [] h = refl
same_not (a ∷ l) (b ∷ m) h = rw (same_not l m (λ e. h (ap suc e))) (and-false (eqb a b))

pub other_length : (a : List ℕ) (p n : ℕ) (s : List ℕ) → (n ≡ length s → ⊥) → same s (ring_read a p n) ≡ false
other_length a p n s d = same_not s (ring_read a p n) (λ q. d (sym (q ∙ length_ring_read a p n)))

module _ {A : Type 0} (test : A → Bool) where
  last_snoc : (l : List A) (x : A) → last_of test (l ++ (x ∷ [])) ≡ cond (test x) (some (length l)) (last_of test l)
  last_snoc [] x = refl
  last_snoc (y ∷ l) x = rw (last_snoc l x) (go (test x))
    where
      go : (b : Bool) → further (cond b (some (length l)) (last_of test l)) (test y)
          ≡ cond b (some (suc (length l))) (further (last_of test l) (test y))
      go true = refl
      go false = refl

  last_none : (l : List A) → last_of test (take zero l) ≡ none
  last_none [] = refl
  last_none (x ∷ l) = refl

  last_before : (l : List A) (k : ℕ) (z : A) → k < length l
      → last_of test (take (suc k) l) ≡ cond (test (get_or l k z)) (some k) (last_of test (take k l))
  last_before l k z h =
      let n : length (take k l) ≡ k = length-take-le k l (omega arith) in
      ap (last_of test) (take-suc l k z h) ∙ last_snoc (take k l) (get_or l k z) ∙ rw n

module _ (a ss ns vs : List ℕ) (d m : ℕ) (n v : List ℕ) (whole : Bool) where
  abbrev fields : List Field
  fields = map (field_of a) (between ss ns vs d m)

  pub record Searching (k : ℕ) : Type 0 where
    pub within : k ≤ m - d
    pub rest : last_of (matches n v whole) fields ≡ last_of (matches n v whole) (take k fields)

  pub start : (k : ℕ) → k ≡ m - d → Searching k
  start k e =
      let all : length fields ≡ k = length_fields ss ns vs d m a ∙ sym e in
      record { within = omega arith; rest = rw (← all, take-length) }

  module _ (k : ℕ) (w : Searching k) where
    pub over : k ≤ 0 → last_of (matches n v whole) fields ≡ none
    over h = let z : k ≡ zero = omega arith in w.rest ∙ rw z (last_none (matches n v whole) fields)

    module _ (h : 0 < k) where
      -- the entry that is looked at
      abbrev here : Entry
      here = slot_of ss ns vs ((d + (k - 1)) % slots)

      step : last_of (matches n v whole) fields
          ≡ cond (matches n v whole (field_of a here)) (some (k - 1)) (last_of (matches n v whole) (take (k - 1) fields))
      step =
          let more : k ≡ suc (k - 1) = omega arith in
          let at : get_or fields (k - 1) (field_of a no_entry) ≡ field_of a here = field_at ss ns vs d m a (k - 1) (omega (arith, w.within)) in
          w.rest
          ∙ ap (λ (i : ℕ). last_of (matches n v whole) (take i fields)) more
          ∙ last_before (matches n v whole) fields (k - 1) (field_of a no_entry) (omega (arith, w.within, length_fields ss ns vs d m a))
          ∙ rw at

      fails : matches n v whole (field_of a here) ≡ false → Searching (k - 1)
      fails q = record { within = omega (arith, w.within); rest = step ∙ rw q }

      module _ (x : ℕ) (ex : x ≡ here.name) where
        pub other_name : (x ≡ length n → ⊥) → Searching (k - 1)
        other_name u = fails (rw (other_length a here.start here.name n (λ q. u (ex ∙ q))))

        -- what `stands` told
        module _ (s y : ℕ) (r : Bool) (long : x ≡ length n) (es : s ≡ here.start) (ey : y ≡ here.value)
            (er : r ≡ matches n v whole (field_of a (record { start = s; name = length n; value = y }))) where
          told : matches n v whole (field_of a here) ≡ r
          told = rw (← es, ← ex, ← ey, long) (sym er)

          pub other : r ≡ false → Searching (k - 1)
          other q = fails (told ∙ q)

          pub found : r ≡ true → last_of (matches n v whole) fields ≡ some (k - 1)
          found q = step ∙ rw (told, q)
