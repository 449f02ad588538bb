-- What the loops of `section_floor` and `queue_floor` keep, and what these answer by cases. Assumes nothing.
use mathlib.Core.Path.{◌≡◌, refl, sym, ap, ◌∙◌}
use mathlib.Core.Bool.{Bool, true, false, cond, and-true, and-false}
use mathlib.Core.List.{List, [], ◌∷◌}
use Prim.Native.Nat.{ℕ, ◌+◌, ◌≤◌, ◌<◌}
use native.Mathlib.Numerals.{add-one}
use lib.Dec.{leb, ltb}
use lib.ListN.{length, get_or, take, drop, drop_of_length-le}
use lib.Seq.{drop-cons}
use borrow.Author.Tests.{ltb-true, leb-true, le-leb, lt-leb}
use Rattle.std.specs.Prelude.{Some, None, Option}
use Rattle.model.specs.Bounds.{section_entries, queue_places}
use Rattle.model.specs.Table.{Use}
use Rattle.tracking.specs.declared.Queue.{Queue}
use Rattle.tracking.specs.declared.Section.{Section}
use Rattle.tracking.specs.Uses.{uses_of}
use Rattle.tracking.specs.Queue.{
  Floor,
  floored,
  is_live_use,
  all_live,
  lowest,
  no_floor,
  section_live,
  section_floor,
  all_sections_live,
  lowest_of_all,
  queue_floor,
}
use Rattle.blocked.proofs.Lists.{and_left, and_right}

-- ---- one use

module _ (d i : ℕ) (u : Use) where
  pub no_count : u.count < 1 → false ≡ is_live_use d i u
  no_count h = rw (lt-leb 1 u.count h, and-false, and-false)

  pub too_new : i < u.entry → false ≡ is_live_use d i u
  too_new h = rw (lt-leb u.entry i h, and-false)

  pub if_not_dropped : u.entry ≤ i → 1 ≤ u.count → ltb d u.entry ≡ is_live_use d i u
  if_not_dropped h g = rw (le-leb u.entry i h, le-leb 1 u.count g, and-true)

  module _ (h : is_live_use d i u ≡ true) where
    pub not_dropped : d < u.entry
    not_dropped = ltb-true d u.entry (and_left (ltb d u.entry) _ h)

    pub inserted : u.entry ≤ i
    inserted = leb-true u.entry i (and_left (leb u.entry i) _ (and_right (ltb d u.entry) _ h))

    pub counted : 1 ≤ u.count
    counted = leb-true 1 u.count (and_right (leb u.entry i) _ (and_right (ltb d u.entry) _ h))

-- ---- a walk of a list: a test of each element, and a number that each may lower

pub record Walking {A : Type 0} (all : List A → Bool) (low : ℕ → List A → ℕ) (from : ℕ) (l : List A) (least k : ℕ) : Type 0 where
  pub test : all l ≡ all (drop k l)
  pub lower : low from l ≡ low least (drop k l)

module _ {A : Type 0} (all : List A → Bool) (low : ℕ → List A → ℕ) (from : ℕ) (l : List A) where
  pub walk : Walking all low from l from 0
  walk = record { test = refl; lower = refl }

  module _ (least k : ℕ) (w : Walking all low from l least k) where
    pub one : (d : A) (least' : ℕ) → k < length l
        → ((m : List A) → all (get_or l k d ∷ m) ≡ all m)
        → ((m : List A) → low least (get_or l k d ∷ m) ≡ low least' m)
        → Walking all low from l least' (k + 1)
    one d least' h a b =
        let e : drop k l ≡ get_or l k d ∷ drop (k + 1) l = rw (drop-cons l k d h, add-one) in
        record { test = w.test ∙ rw (e, a); lower = w.lower ∙ rw (e, b) }

    pub fails : (d : A) → k < length l → ((m : List A) → all (get_or l k d ∷ m) ≡ false) → all l ≡ false
    fails d h a = w.test ∙ rw (drop-cons l k d h, a)

    pub passes : length l ≤ k → all [] ≡ true → all l ≡ true
    passes h a = w.test ∙ rw (drop_of_length-le l {i = k} h, a)

    pub lowered : length l ≤ k → low least [] ≡ least → low from l ≡ least
    lowered h b = w.lower ∙ rw (drop_of_length-le l {i = k} h, b)

-- ---- a section's answer

floor_test : (b : Bool) (x low : ℕ) → (cond b (record { live = true; low = x }) (no_floor low)).live ≡ b
floor_test true x low = refl
floor_test false x low = refl

module _ (s : Section) (d i low : ℕ) where
  pub many_uses : section_entries < s.used → no_floor low ≡ section_floor s d i low
  unfolding section_floor
  many_uses h = rw (lt-leb s.used section_entries h)

  pub a_dead_use : all_live d i (uses_of s.from s.used s.uses) ≡ false → no_floor low ≡ section_floor s d i low
  unfolding section_floor
  a_dead_use a = rw (a, and-false)

  pub live_uses : (least : ℕ) → s.used ≤ section_entries
      → all_live d i (uses_of s.from s.used s.uses) ≡ true
      → lowest low (uses_of s.from s.used s.uses) ≡ least
      → record { live = true; low = least } ≡ section_floor s d i low
  unfolding section_floor
  live_uses least h a b = rw (le-leb s.used section_entries h, a, b)

  pub floor_live : (section_floor s d i low).live ≡ section_live d i s
  unfolding section_floor
  floor_live = floor_test (section_live d i s) _ low

  pub floor_low : section_live d i s ≡ true → (section_floor s d i low).low ≡ lowest low (uses_of s.from s.used s.uses)
  unfolding section_floor
  floor_low h = rw h

  -- what a call answered
  module _ (r : Option ℕ) (told : floored low r ≡ section_floor s d i low) where
    pub dies : r ≡ None → section_live d i s ≡ false
    dies e = sym floor_live ∙ ap (λ (f : Floor). f.live) (sym told) ∙ rw e

    module _ (least : ℕ) (e : r ≡ Some least) where
      pub lives : section_live d i s ≡ true
      lives = sym floor_live ∙ ap (λ (f : Floor). f.live) (sym told) ∙ rw e

      pub lowers : lowest low (uses_of s.from s.used s.uses) ≡ least
      lowers = sym (floor_low lives) ∙ ap (λ (f : Floor). f.low) (sym told) ∙ rw e

-- ---- the queue's answer

-- what a read past the places' end gives
abbrev pub past_end : Section
past_end = record { stream = 0; from = 0; used = 0; uses = [] }

module _ (q : Queue) (d i low : ℕ) where
  pub many_sections : queue_places < q.queued → no_floor low ≡ queue_floor q d i low
  unfolding queue_floor
  many_sections h = rw (lt-leb q.queued queue_places h)

  pub a_dead_section : all_sections_live d i (take q.queued q.places) ≡ false → no_floor low ≡ queue_floor q d i low
  unfolding queue_floor
  a_dead_section a = rw (a, and-false)

  pub live_sections : (least : ℕ) → q.queued ≤ queue_places
      → all_sections_live d i (take q.queued q.places) ≡ true
      → lowest_of_all low (take q.queued q.places) ≡ least
      → record { live = true; low = least } ≡ queue_floor q d i low
  unfolding queue_floor
  live_sections least h a b = rw (le-leb q.queued queue_places h, a, b)

  pub queue_low : q.queued ≤ queue_places → all_sections_live d i (take q.queued q.places) ≡ true
      → (queue_floor q d i low).low ≡ lowest_of_all low (take q.queued q.places)
  unfolding queue_floor
  queue_low h a = rw (le-leb q.queued queue_places h, a)
