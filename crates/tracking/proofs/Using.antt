-- A section's uses in their array and in the model: noting one more is the same in both, keeps bounds, and keeps every use live. Assumes nothing.
use mathlib.Core.Path.{◌≡◌, refl, sym, ap, ◌∙◌}
use mathlib.Core.Bool.{Bool, true, false, cond}
use mathlib.Core.List.{List, [], ◌∷◌, ◌++◌, map}
use mathlib.Core.Option.{some, none}
use Prim.Native.Nat.{ℕ, zero, suc, ◌+◌, ◌-◌, ◌≤◌, ◌<◌}
use native.Mathlib.Numerals.{add-one}
use native.Mathlib.Omega.{arith}
use lib.Dec.{ltb, eqb}
use lib.ListN.{length, get_or, take, set, length-set}
use lib.Seq.{length-take-le, get_or-take, take-set-lt, take-suc-set}
use borrow.Author.Tests.{lt-ltb, le-ltb, ltb-true, ltb-false, eq-eqb, ne_eqb}
use Rattle.model.specs.Bounds.{section_entries, entry_uses}
use Rattle.model.specs.Table.{uses_in}
use Rattle.model.specs.Section.{note, note_in}
use Rattle.tracking.specs.declared.Held.{Held}
use Rattle.tracking.specs.Uses.{Noted, no_held, use_of, uses_of, place_of, noting}
use Rattle.tracking.specs.Queue.{is_live_use, all_live}
use Rattle.blocked.proofs.Lists.{and_left, and_right}
use Rattle.tracking.proofs.Noting.{used_up, used_again, no_place, used_first}
use Rattle.blocked.proofs.First.{first_later, is_or_not, first_is, Passing, changed, not_changed, added, not_added}
use Rattle.tracking.proofs.Flooring.{not_dropped, inserted}
use Rattle.tracking.proofs.Floors.{live_use, not_yet_used, first_used}

-- ---- the cases of `noting`

abbrev again : List Held → ℕ → ℕ → Held
again us i x = record { offset = x; count = (get_or us i no_held).count + 1 }

abbrev once : ℕ → Held
once x = record { offset = x; count = 1 }

module _ (us : List Held) (n x : ℕ) (h : n ≤ section_entries) (place : ℕ) (at : place ≡ place_of x (take n us)) where
  by_cases : (P : Noted → Type 0)
      → (place < n → entry_uses ≤ (get_or us place no_held).count → P (record { fits = false; used = n; uses = us }))
      → (place < n → (get_or us place no_held).count < entry_uses → P (record { fits = true; used = n; uses = set us place (again us place x) }))
      → (n ≤ place → section_entries ≤ n → P (record { fits = false; used = n; uses = us }))
      → (n ≤ place → n < section_entries → P (record { fits = true; used = n + 1; uses = set us n (once x) }))
      → P (noting us n x)
  by_cases P a b c d = go (ltb place n) refl
    where
      there : (t : Bool) → ltb (get_or us place no_held).count entry_uses ≡ t → place < n → P (noting us n x)
      there true e l =
          let g = ltb-true (get_or us place no_held).count entry_uses e in
          rw (used_again us n x h place at l g) (b l g)
      there false e l =
          let g = ltb-false (get_or us place no_held).count entry_uses e in
          rw (used_up us n x h place at l g) (a l g)

      nowhere : (t : Bool) → ltb n section_entries ≡ t → n ≤ place → P (noting us n x)
      nowhere true e l = let g = ltb-true n section_entries e in rw (used_first us n x h place at l g) (d l g)
      nowhere false e l = let g = ltb-false n section_entries e in rw (no_place us n x h place at l g) (c l g)

      go : (t : Bool) → ltb place n ≡ t → P (noting us n x)
      go true e = there (ltb (get_or us place no_held).count entry_uses) refl (ltb-true place n e)
      go false e = nowhere (ltb n section_entries) refl (ltb-false place n e)

-- ---- bounds

module _ (us : List Held) (n x : ℕ) (h : n ≤ section_entries) where
  pub used_few : (noting us n x).used ≤ section_entries
  used_few = by_cases us n x h _ refl (λ (r : Noted). r.used ≤ section_entries) (λ _ _. h) (λ _ _. h) (λ _ _. h) (λ _ g. omega arith)

  pub used_not_less : n ≤ (noting us n x).used
  used_not_less =
      by_cases us n x h _ refl (λ (r : Noted). n ≤ r.used) (λ _ _. omega arith) (λ _ _. omega arith) (λ _ _. omega arith) (λ _ _. omega arith)

  pub length_noted : length (noting us n x).uses ≡ length us
  length_noted =
      by_cases us n x h _ refl (λ (r : Noted). length r.uses ≡ length us)
      (λ _ _. refl)
      (λ _ _. length-set us _ _)
      (λ _ _. refl)
      (λ _ _. length-set us n (once x))

-- ---- lists of uses

module _ (d i from : ℕ) where
  live_set : (l : List Held) (k : ℕ) (v : Held) → all_live d i (map (use_of from) l) ≡ true → is_live_use d i (use_of from v) ≡ true
      → all_live d i (map (use_of from) (set l k v)) ≡ true
  live_set [] k v h g = refl
  live_set (u ∷ l) zero v h g = rw g (and_right (is_live_use d i (use_of from u)) _ h)
  live_set (u ∷ l) (suc k) v h g =
      rw (and_left (is_live_use d i (use_of from u)) _ h) (live_set l k v (and_right (is_live_use d i (use_of from u)) _ h) g)

  live_snoc : (l : List Held) (v : Held) → all_live d i (map (use_of from) l) ≡ true → is_live_use d i (use_of from v) ≡ true
      → all_live d i (map (use_of from) (l ++ (v ∷ []))) ≡ true
  live_snoc [] v h g = rw g
  live_snoc (u ∷ l) v h g =
      rw (and_left (is_live_use d i (use_of from u)) _ h) (live_snoc l v (and_right (is_live_use d i (use_of from u)) _ h) g)

  -- an entry with no uses is nowhere
  no_uses : (l : List Held) (x : ℕ) → all_live d i (map (use_of from) l) ≡ true → uses_in (from + x) (map (use_of from) l) ≡ 0
      → length l ≤ place_of x l
  no_uses [] x h z = omega arith
  no_uses (u ∷ l) x h z =
      let live = and_left (is_live_use d i (use_of from u)) _ h in
      is_or_not (λ (u : Held). u.offset) x u
      (λ e.
      let same : uses_in (from + u.offset) (map (use_of from) (u ∷ l)) ≡ 0 = ap (λ (y : ℕ). uses_in (from + y) (map (use_of from) (u ∷ l))) e ∙ z in
      absurd (omega (arith, first_used d i (use_of from u) (map (use_of from) l) live)))
      (λ e.
      let later = first_later (λ (u : Held). u.offset) x u l e in
      omega (arith, no_uses l x (and_right (is_live_use d i (use_of from u)) _ h) (omega arith)))

-- ---- in the model

module _ (from a x : ℕ) (low : from ≤ a) (offset : x ≡ a - from) where
  same_entry : (u : Held) → (u.offset ≡ x → ⊥) → eqb (from + u.offset) a ≡ false
  same_entry u h = ne_eqb (from + u.offset) a (λ e. h (omega arith))

  notes : Passing (λ (u : Held). u.offset) x (use_of from) (once x) (λ (room : ℕ) (l : List Held). note_in a room (map (use_of from) l))
  notes =
      record {
        adds = λ room h. let e : from + x ≡ a = omega arith in rw (lt-ltb 0 room h, e);
        ends = refl;
        goes_on = λ room u l r h e. rw (same_entry u h, e);
        fails = λ room u l h e. rw (same_entry u h, e);
      }

  module _ (us : List Held) (n : ℕ) (h : n ≤ section_entries) (long : length us ≡ section_entries) where
    pub noted_is : note a (uses_of from n us)
        ≡ cond (noting us n x).fits (some (uses_of from (noting us n x).used (noting us n x).uses)) none
    unfolding note
    noted_is =
        by_cases us n x h place refl
        (λ (r : Noted). note_in a section_entries (uses_of from n us) ≡ cond r.fits (some (uses_of from r.used r.uses)) none)
        (λ l g. not_changed notes first section_entries no_held (rw count l)
        (λ room m. rw (same l, is l, entry, le-ltb (get_or us place no_held).count entry_uses g)))
        (λ l g. rw (take-set-lt n us place (again us place x) l)
        (changed notes first section_entries no_held (again us place x) (rw count l)
        (λ room m. rw (same l, is l, entry, lt-ltb (get_or us place no_held).count entry_uses g))))
        (λ l g. not_added notes first section_entries (rw count l) (rw count g))
        (λ l g. rw (add-one, take-suc-set us n (once x) (omega arith)) (added notes first section_entries (rw count l) (rw count g)))
      where
        first : List Held
        first = take n us

        place : ℕ
        place = place_of x first

        count : length first ≡ n
        count = length-take-le n us (omega arith)

        entry : eqb (from + x) a ≡ true
        entry = eq-eqb (from + x) a (omega arith)

        same : place < n → get_or first place no_held ≡ get_or us place no_held
        same l = get_or-take n us place no_held l

        is : place < n → (get_or us place no_held).offset ≡ x
        is l = rw (same l) at (first_is (λ (u : Held). u.offset) x first no_held (rw count l))

    pub noted : (noting us n x).fits ≡ true
        → some (uses_of from (noting us n x).used (noting us n x).uses) ≡ note a (uses_of from n us)
    noted f = sym (rw f at noted_is)

    pub not_noted : (noting us n x).fits ≡ false → note a (uses_of from n us) ≡ none
    not_noted f = rw f at noted_is

    module _ (d i : ℕ) (live : all_live d i (uses_of from n us) ≡ true) where
      pub noted_fresh : uses_in a (uses_of from n us) ≡ 0 → n < section_entries
          → noting us n x ≡ record { fits = true; used = n + 1; uses = set us n (record { offset = x; count = 1 }) }
      noted_fresh z g =
          let e : a ≡ from + x = omega arith in
          let count : length (take n us) ≡ n = length-take-le n us (omega arith) in
          let free : n ≤ place_of x (take n us) = rw count at (no_uses d i from (take n us) x live (rw e at z)) in
          used_first us n x h (place_of x (take n us)) refl free g

      pub noted_new : i < a → n < section_entries
          → noting us n x ≡ record { fits = true; used = n + 1; uses = set us n (record { offset = x; count = 1 }) }
      noted_new g = noted_fresh (not_yet_used d i (uses_of from n us) live a g)

      -- there is no place for an entry that was not inserted before
      pub fresh_full : i < a → section_entries ≤ n → (noting us n x).fits ≡ false
      fresh_full z g =
          let e : a ≡ from + x = omega arith in
          let count : length (take n us) ≡ n = length-take-le n us (omega arith) in
          let free : n ≤ place_of x (take n us) =
          rw count at (no_uses d i from (take n us) x live (rw e at (not_yet_used d i (uses_of from n us) live a z))) in
          rw (no_place us n x h (place_of x (take n us)) refl free g)

      pub noted_live : is_live_use d i (record { entry = a; count = 1 }) ≡ true
          → all_live d i (uses_of from (noting us n x).used (noting us n x).uses) ≡ true
      noted_live new =
          by_cases us n x h _ refl (λ (r : Noted). all_live d i (uses_of from r.used r.uses) ≡ true)
          (λ l g. live)
          (λ l g. rw (take-set-lt n us _ _ l) (live_set d i from (take n us) _ _ live (now_live (again us _ x) refl (omega arith))))
          (λ l g. live)
          (λ l g. rw (add-one, take-suc-set us n (once x) (omega arith)) (live_snoc d i from (take n us) (once x) live (now_live (once x) refl (omega arith))))
        where
          now_live : (u : Held) → u.offset ≡ x → 1 ≤ u.count → is_live_use d i (use_of from u) ≡ true
          now_live u e c =
              live_use d i (use_of from u)
              (omega (arith, not_dropped d i (record { entry = a; count = 1 }) new))
              (omega (arith, inserted d i (record { entry = a; count = 1 }) new))
              c
