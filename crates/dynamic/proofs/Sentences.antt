-- What the specification names of the abstract table, each as a law of the definitions that the calls are held to. Assumes nothing.
use mathlib.Core.Path.{◌≡◌, refl, sym, ap, subst, ◌∙◌}
use mathlib.Core.Bool.{Bool, true, false, cond}
use mathlib.Core.List.{List, [], ◌∷◌}
use mathlib.Core.Option.{Option, some, none}
use Prim.Native.Nat.{ℕ, zero, suc, ◌+◌, ◌-◌, ◌≤◌, ◌<◌}
use native.Mathlib.Omega.{arith}
use lib.Dec.{T, leb, ltb, eqb}
use lib.ListN.{length, drop}
use borrow.Author.Tests.{leb-true, leb-false, ltb-true, ltb-false, le-leb, le-ltb, lt-ltb, eqb-true}
use Rattle.answers.specs.Answer.{done}
use Rattle.answers.specs.Table.{Done, ok}
use Rattle.answers.specs.declared.Refusal.TheVariants.{MaxTableSizeReached, ShrinkBlocked}
use Rattle.field.specs.Field.{Field, size_of}
use Rattle.model.specs.Bounds.{largest_capacity, lent_room, entry_uses, section_entries}
use Rattle.model.specs.Drop.{Fewest, one_more_dropped, fewest_from, fewest, making, closed, without, with_field, set_capacity, put_after, put}
use Rattle.model.specs.Insert.{equal_entry, note_also, noted_for}
use Rattle.model.specs.Section.{before, note_in, note}
use Rattle.model.specs.Table.{Use, Open, Table, Step, inserted_of, size_of_all, uses_in, references, is_referenced, refuse}
use Rattle.ring.specs.Ring.{largest_count}

-- ---- the fewest oldest entries

true_not_false : true ≡ false → ⊥
true_not_false e = subst T e tt

module _ (referenced : ℕ → Bool) (room : ℕ) where
  -- what the walk from one entry on gives
  record Found (a : ℕ) (l : List Field) (k : ℕ) : Type 0 where
    within : k ≤ length l
    free : (x : ℕ) → a ≤ x → x < a + k → referenced x ≡ false
    fits : size_of_all (drop k l) ≤ room
    least : (j : ℕ) → j < k → room < size_of_all (drop j l)

  -- a number of entries that may go and leave enough room
  record Enough (a : ℕ) (l : List Field) (k : ℕ) : Type 0 where
    within : k ≤ length l
    free : (x : ℕ) → a ≤ x → x < a + k → referenced x ≡ false
    fits : size_of_all (drop k l) ≤ room

  abbrev Told : ℕ → List Field → Option ℕ → Type 0
  Told a l (some k) = Found a l k
  Told a l none = (k : ℕ) → Enough a l k → ⊥

  none_goes : (a : ℕ) (l : List Field) → size_of_all l ≤ room → Found a l 0
  none_goes a l h =
      record {
        within = omega arith;
        free = λ x p q. absurd (omega (arith, p, q));
        fits = h;
        least = λ j p. absurd (omega (arith, p));
      }

  module _ (a : ℕ) (f : Field) (l : List Field) (large : room < size_of_all (f ∷ l)) where
    first_goes : referenced a ≡ false → (o : Option ℕ) → Told (suc a) l o → Told a (f ∷ l) (one_more_dropped o)
    first_goes h (some k) w =
        record {
          within = omega (arith, w.within);
          free = λ x p q. go x p q (ltb a x) refl;
          fits = w.fits;
          least = least_here;
        }
      where
        same : (x : ℕ) → a ≤ x → x ≤ a → x ≡ a
        same x p q = omega (arith, p, q)

        go : (x : ℕ) → a ≤ x → x < a + suc k → (b : Bool) → ltb a x ≡ b → referenced x ≡ false
        go x p q true e = w.free x (ltb-true a x e) (omega (arith, q))
        go x p q false e = rw (same x p (ltb-false a x e)) h

        least_here : (j : ℕ) → j < suc k → room < size_of_all (drop j (f ∷ l))
        least_here zero p = large
        least_here (suc j) p = w.least j (omega (arith, p))
    first_goes h none w = gone
      where
        gone : (k : ℕ) → Enough a (f ∷ l) k → ⊥
        gone zero e = absurd (omega (arith, large, e.fits))
        gone (suc k) e =
            w k (record { within = omega (arith, e.within); free = λ x p q. e.free x (omega (arith, p)) (omega (arith, q)); fits = e.fits })

    first_stays : referenced a ≡ true → Told a (f ∷ l) none
    first_stays h = gone
      where
        gone : (k : ℕ) → Enough a (f ∷ l) k → ⊥
        gone zero e = absurd (omega (arith, large, e.fits))
        gone (suc k) e = true_not_false (sym h ∙ e.free a (omega arith) (omega arith))

  walk_tells : (a : ℕ) (l : List Field) → Told a l (fewest_from referenced a l room)
  walk_tells a [] = none_goes a [] (omega arith)
  walk_tells a (f ∷ l) = go (walk_tells (suc a) l) (leb (size_of_all (f ∷ l)) room) refl (referenced a) refl
    where
      go : Told (suc a) l (fewest_from referenced (suc a) l room) → (b : Bool) → leb (size_of_all (f ∷ l)) room ≡ b → (c : Bool) → referenced a ≡ c
          → Told a (f ∷ l) (cond b (some 0) (cond c none (one_more_dropped (fewest_from referenced (suc a) l room))))
      go w true p c q = none_goes a (f ∷ l) (leb-true _ _ p)
      go w false p true q = first_stays a f l (leb-false _ _ p) q
      go w false p false q = first_goes a f l (leb-false _ _ p) q (fewest_from referenced (suc a) l room) w

  -- where nothing is referenced there always is such a number
  all_free : ((x : ℕ) → referenced x ≡ false) → (a : ℕ) (l : List Field) → (k : ℕ) × (fewest_from referenced a l room ≡ some k)
  all_free h a [] = (0, refl)
  all_free h a (f ∷ l) = go (all_free h (suc a) l) (leb (size_of_all (f ∷ l)) room)
    where
      go : (k : ℕ) × (fewest_from referenced (suc a) l room ≡ some k) → (b : Bool)
          → (k : ℕ) × (cond b (some 0) (cond (referenced a) none (one_more_dropped (fewest_from referenced (suc a) l room))) ≡ some k)
      go w true = (0, refl)
      go w false = (suc w.0, rw (h a, w.1))

-- the computed number is the one that the specification describes, and there is none where there is no such number
module _ (t : Table) (room : ℕ) where
  not_referenced : (a : ℕ) → is_referenced t a ≡ false → references t a ≡ 0
  not_referenced a h = let z = ltb-false 0 (references t a) h in omega (arith, z)

  is_referenced_lem : (a : ℕ) → references t a ≡ 0 → is_referenced t a ≡ false
  is_referenced_lem a h = rw h

  pub fewest_is : (k : ℕ) → fewest t room ≡ some k → Fewest t room k
  unfolding fewest
  fewest_is k h = go (rw h at (walk_tells (is_referenced t) room (t.dropped + 1) t.fields))
    where
      go : Found (is_referenced t) room (t.dropped + 1) t.fields k → Fewest t room k
      go w =
          record {
            within = w.within;
            unreferenced = λ a p q. not_referenced a (w.free a (omega (arith, p)) (omega (arith, q)));
            fits = w.fits;
            least = w.least;
          }

  pub fewest_none : fewest t room ≡ none → (k : ℕ) → Fewest t room k → ⊥
  unfolding fewest
  fewest_none h k w =
      (rw h at (walk_tells (is_referenced t) room (t.dropped + 1) t.fields)) k
      (record {
        within = w.within;
        free = λ a p q. is_referenced_lem a (w.unreferenced a (omega (arith, p)) (omega (arith, q)));
        fits = w.fits;
      })

  pub fewest_some : ((a : ℕ) → references t a ≡ 0) → (k : ℕ) × (fewest t room ≡ some k)
  unfolding fewest
  fewest_some h = all_free (is_referenced t) room (λ a. is_referenced_lem a (h a)) (t.dropped + 1) t.fields

-- ---- a put, and a cut

not_open : (t : Table) → t.section ≡ none → (s : Step Done) → closed t t.section s ≡ s
not_open t h s = ap (λ (o : Option Open). closed t o s) h

module _ (t : Table) (f : Field) (none_open : t.section ≡ none) where
  -- "`put` at capacity 0, or kept out by references, answers 0 and does nothing"
  pub put_at_capacity_zero : t.capacity ≡ 0 → put t f ≡ record { next = t; answer = done ok }
  unfolding put
  put_at_capacity_zero h = rw (none_open, h)

  module _ (fits : size_of f ≤ t.capacity) where
    pub put_kept_out : making t (size_of f) ≡ none → put t f ≡ record { next = t; answer = done ok }
    unfolding put
    put_kept_out h = not_open t none_open _ ∙ go (eqb t.capacity 0)
      where
        go : (b : Bool)
            → cond b (record { next = t; answer = done ok })
            (cond (ltb t.capacity (size_of f)) (refuse t MaxTableSizeReached) (put_after t f (making t (size_of f))))
            ≡ record { next = t; answer = done ok }
        go true = refl
        go false = rw (le-ltb t.capacity (size_of f) fits, h)

    -- freed room is used again, forever: where nothing is referenced, a field that fits the capacity is put
    pub put_again : ((a : ℕ) → references t a ≡ 0) → inserted_of t < largest_count
        → (k : ℕ) × (put t f ≡ record { next = with_field f (without k t); answer = done ok })
    unfolding put making
    put_again h count =
        let w = fewest_some t (t.capacity - size_of f) h in
        (w.0, not_open t none_open _ ∙ rw (le-leb (size_of f) t.capacity fits, w.1) (go w.0 (eqb t.capacity 0) refl))
      where
        go : (k : ℕ) (b : Bool) → eqb t.capacity 0 ≡ b
            → cond b (record { next = t; answer = done ok })
            (cond (ltb t.capacity (size_of f)) (refuse t MaxTableSizeReached) (put_after t f (some k)))
            ≡ record { next = with_field f (without k t); answer = done ok }
        go k true e = let z = eqb-true t.capacity 0 e in absurd (omega (arith, fits, z))
        go k false e = rw (le-ltb t.capacity (size_of f) fits, lt-ltb _ _ count)

-- "17 ShrinkBlocked: capacity cut needs a referenced entry dropped": the capacity stays, and all else
pub cut_blocked : (t : Table) (c : ℕ) → t.section ≡ none → c ≤ lent_room → fewest t c ≡ none → set_capacity t c ≡ refuse t ShrinkBlocked
unfolding set_capacity
cut_blocked t c none_open h e = not_open t none_open _ ∙ rw (le-ltb largest_capacity c (omega (arith, h)), le-ltb lent_room c h, e)

-- ---- references

-- what one more use of an entry is, where no bound is passed
abbrev Says : ℕ → List Use → Option (List Use) → Type 0
Says a us none = Unit {0}
Says a us (some vs) = (x : ℕ) → uses_in x vs ≡ uses_in x us + cond (eqb a x) 1 0

module _ (a : ℕ) where
  one_more : (room : ℕ) (us : List Use) → Says a us (note_in a room us)
  one_more room [] = go (ltb 0 room)
    where
      go : (b : Bool) → Says a [] (cond b (some (record { entry = a; count = 1 } ∷ [])) none)
      go true = λ x. omega arith
      go false = tt
  one_more room (u ∷ us) = go (one_more (room - 1) us) (eqb u.entry a) refl
    where
      again : (x n : ℕ) (b : Bool) → cond b (u.count + 1) 0 + n ≡ cond b u.count 0 + n + cond b 1 0
      again x n true = omega arith
      again x n false = omega arith

      here : u.entry ≡ a → (b : Bool) → Says a (u ∷ us) (cond b (some (record { entry = u.entry; count = u.count + 1 } ∷ us)) none)
      here e true = λ x. rw e (again x (uses_in x us) (eqb a x))
      here e false = tt

      there : (o : Option (List Use)) → Says a us o → Says a (u ∷ us) (before u o)
      there none w = tt
      there (some vs) w = λ x. let z = w x in omega (arith, z)

      go : Says a us (note_in a (room - 1) us) → (b : Bool) → eqb u.entry a ≡ b
          → Says a (u ∷ us)
          (cond b (cond (ltb u.count entry_uses) (some (record { entry = u.entry; count = u.count + 1 } ∷ us)) none)
          (before u (note_in a (room - 1) us)))
      go w true e = here (eqb-true u.entry a e) (ltb u.count entry_uses)
      go w false e = there (note_in a (room - 1) us) w

  pub note_says : (us : List Use) → Says a us (note a us)
  unfolding note
  note_says us = one_more section_entries us

-- a duplicate counts two references: one of the new entry and one of the older
abbrev SaysTwo : ℕ → ℕ → List Use → Option (List Use) → Type 0
SaysTwo a r us none = Unit {0}
SaysTwo a r us (some vs) = (x : ℕ) → uses_in x vs ≡ uses_in x us + cond (eqb a x) 1 0 + cond (eqb r x) 1 0

pub duplicate_says : (a r : ℕ) (us : List Use) → SaysTwo a r us (noted_for a (equal_entry r) us)
duplicate_says a r us = go (note a us) (note_says a us)
  where
    second : (vs : List Use) → ((x : ℕ) → uses_in x vs ≡ uses_in x us + cond (eqb a x) 1 0) → (o : Option (List Use)) → Says r vs o → SaysTwo a r us o
    second vs w none z = tt
    second vs w (some ws) z = λ x. z x ∙ rw (w x)

    go : (o : Option (List Use)) → Says a us o → SaysTwo a r us (note_also r o)
    go none w = tt
    go (some vs) w = second vs w (note r vs) (note_says r vs)
