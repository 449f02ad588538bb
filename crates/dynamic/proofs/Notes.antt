-- The uses that an insertion notes, of its new entry and of an older one: the model agrees, they are live, and they are one more. Assumes nothing.
use mathlib.Core.Path.{◌≡◌, refl, ◌∙◌}
use mathlib.Core.Bool.{Bool, true, false, cond}
use mathlib.Core.List.{List, [], ◌∷◌}
use mathlib.Core.Option.{Option, some, none}
use Prim.Native.Nat.{ℕ, ◌+◌, ◌-◌, ◌≤◌, ◌<◌}
use native.Mathlib.Omega.{arith}
use lib.Dec.{ltb}
use lib.ListN.{length, length-map}
use lib.Seq.{length-take-le}
use borrow.Author.Tests.{le-ltb, ltb-true, ltb-false, ne_eqb}
use Rattle.model.specs.Bounds.{section_entries}
use Rattle.model.specs.Insert as model
use Rattle.model.specs.Insert.{Origin, equal_entry, static_name, named_entry, plain}
use Rattle.model.specs.Section.{note, note_in}
use Rattle.model.specs.Table.{Use}
use Rattle.ring.specs.declared.Ring.{Ring}
use Rattle.static_table.specs.Static.{lowest_name}
use Rattle.tracking.specs.Queue.{is_live_use, all_live, section_live}
use Rattle.tracking.specs.Uses.{Noted}
use Rattle.tracking.specs.declared.Section.{Section}
use Rattle.tracking.proofs.Floors.{few_uses, uses_live}
use Rattle.tracking.proofs.Flooring.{inserted}
use Rattle.blocked.proofs.Lists.{and_left, and_right}
use Rattle.tracking.proofs.Using.{used_few, noted_new}
use Rattle.dynamic.specs.Calls.{latest_after, origin_after, noted_in, with_uses, note_also, noted_for}
use Rattle.dynamic.specs.Record.{uses_here}
use Rattle.dynamic.proofs.Searched.{found_within}
use Rattle.dynamic.proofs.Refer.{note_is, still_long, not_fewer, note_live}

-- ---- what names a new entry is above a number and at most another

abbrev pub Within : ℕ → ℕ → Origin → Type 0
Within d i (equal_entry y) = (d < y) × (y ≤ i)
Within d i (static_name k) = Unit {0}
Within d i (named_entry y) = (d < y) × (y ≤ i)
Within d i plain = Unit {0}

pub within_more : (d i d' i' : ℕ) (w : Origin) → d' ≤ d → i ≤ i' → Within d i w → Within d' i' w
within_more d i d' i' (equal_entry y) h g w = (omega (arith, w.0), omega (arith, w.1))
within_more d i d' i' (static_name k) h g w = tt
within_more d i d' i' (named_entry y) h g w = (omega (arith, w.0), omega (arith, w.1))
within_more d i d' i' plain h g w = tt

pub origin_within : (r : Ring) (gone : ℕ) (a n v : List ℕ) → Within gone r.inserted (origin_after r gone a n v)
unfolding origin_after
origin_within r gone a n v = go (latest_after r gone a n v true) refl (lowest_name n) (latest_after r gone a n v false) refl
  where
    go : (o : Option ℕ) → latest_after r gone a n v true ≡ o → (m p : Option ℕ) → latest_after r gone a n v false ≡ p
        → Within gone r.inserted
        (model.or_else o (λ (k : ℕ). equal_entry (gone + k + 1))
        (model.or_else m static_name (model.or_else p (λ (k : ℕ). named_entry (gone + k + 1)) plain)))
    go (some k) h m p g = (omega arith, omega (arith, found_within r a gone n v true k h))
    go none h (some i) p g = tt
    go none h none (some k) g = (omega arith, omega (arith, found_within r a gone n v false k g))
    go none h none none g = tt

-- ---- a use of an entry that was not there yet

-- it needs a place of its own
no_place_left : (d i x room : ℕ) (us : List Use) → all_live d i us ≡ true → i < x → room ≤ length us → note_in x room us ≡ none
no_place_left d i x room [] h g l = rw (le-ltb 0 room (omega arith))
no_place_left d i x room (u ∷ us) h g l =
    let first = and_left (is_live_use d i u) _ h in
    let other = ne_eqb u.entry x (λ e. omega (arith, inserted d i u first)) in
    rw (other, no_place_left d i x (room - 1) us (and_right (is_live_use d i u) _ h) g (omega arith))

module _ (d i : ℕ) (s : Section) (x : ℕ) (long : length s.uses ≡ section_entries) (live : section_live d i s ≡ true)
    (low : s.from ≤ x) (new : i < x) where
  few : s.used ≤ section_entries
  few = few_uses d i s live

  place_left : (noted_in s x).fits ≡ true → s.used < section_entries
  unfolding note
  place_left fits = go (ltb s.used section_entries) refl
    where
      count : length (uses_here s) ≡ s.used
      count = rw length-map (length-take-le s.used s.uses (omega (arith, few)))

      go : (b : Bool) → ltb s.used section_entries ≡ b → s.used < section_entries
      go true e = ltb-true _ _ e
      go false e =
          let full : note x (uses_here s) ≡ none =
          no_place_left d i x section_entries (uses_here s) (uses_live d i s live) new (rw count (ltb-false _ _ e)) in
          let fit : note x (uses_here s) ≡ some (uses_here (with_uses s (noted_in s x))) = note_is s x few long low ∙ rw fits in
          let z : ◌≡◌ {A = ℕ} 0 1 = cc in
          absurd (omega arith)

  one_more : (noted_in s x).fits ≡ true → s.used + 1 ≤ (noted_in s x).used
  one_more fits = rw (noted_new s.from x (x - s.from) low refl s.uses s.used few long d i (uses_live d i s live) new (place_left fits)) (omega arith)

  also_one_more : (y : ℕ) → (note_also s y (noted_in s x)).fits ≡ true → s.used + 1 ≤ (note_also s y (noted_in s x)).used
  also_one_more y h = go (noted_in s x).fits refl
    where
      go : (b : Bool) → (noted_in s x).fits ≡ b → s.used + 1 ≤ (note_also s y (noted_in s x)).used
      go true e =
          let r = with_uses s (noted_in s x) in
          let more = not_fewer r y (used_few s.uses s.used (x - s.from) few) (still_long s x few long) in
          rw e (omega (arith, one_more e, more))
      go false e = let f = rw e at h in let z : ◌≡◌ {A = ℕ} 0 1 = cc in absurd (omega arith)

  pub uses_one_more : (w : Origin) → (noted_for s x w).fits ≡ true → s.used + 1 ≤ (noted_for s x w).used
  uses_one_more (equal_entry y) h = also_one_more y h
  uses_one_more (static_name k) h = one_more h
  uses_one_more (named_entry y) h = also_one_more y h
  uses_one_more plain h = one_more h

-- ---- the uses of both entries, which are live

module _ (d i : ℕ) (s : Section) (x : ℕ) (long : length s.uses ≡ section_entries) (from : s.from ≤ d)
    (above : d < x) (below : x ≤ i) (live : section_live d i s ≡ true) where
  first_live : section_live d i (with_uses s (noted_in s x)) ≡ true
  first_live = note_live d i s x long from above below live

  long_first : length (with_uses s (noted_in s x)).uses ≡ section_entries
  long_first = still_long s x (few_uses d i s live) long

  also_live : (y : ℕ) → d < y → y ≤ i → section_live d i (with_uses s (note_also s y (noted_in s x))) ≡ true
  also_live y l h = go (noted_in s x).fits
    where
      go : (b : Bool) → section_live d i (with_uses s (cond b (noted_in (with_uses s (noted_in s x)) y) (noted_in s x))) ≡ true
      go true = note_live d i (with_uses s (noted_in s x)) y long_first from l h first_live
      go false = first_live

  pub both_live : (w : Origin) → Within d i w → section_live d i (with_uses s (noted_for s x w)) ≡ true
  both_live (equal_entry y) w = also_live y w.0 w.1
  both_live (static_name k) w = first_live
  both_live (named_entry y) w = also_live y w.0 w.1
  both_live plain w = first_live

-- in the model
module _ (s : Section) (x : ℕ) (long : length s.uses ≡ section_entries) (few : s.used ≤ section_entries) (low : s.from ≤ x) where
  -- what the record's uses are there
  abbrev uses_by : Noted → Option (List Use)
  uses_by r = cond r.fits (some (uses_here (with_uses s r))) none

  also_in_model : (y : ℕ) → s.from ≤ y → model.note_also y (note x (uses_here s)) ≡ uses_by (note_also s y (noted_in s x))
  also_in_model y l = rw (note_is s x few long low) (go (noted_in s x).fits refl)
    where
      go : (b : Bool) → (noted_in s x).fits ≡ b
          → model.note_also y (cond b (some (uses_here (with_uses s (noted_in s x)))) none)
          ≡ uses_by (cond b (noted_in (with_uses s (noted_in s x)) y) (noted_in s x))
      go true e = note_is (with_uses s (noted_in s x)) y (used_few s.uses s.used (x - s.from) few) (still_long s x few long) l
      go false e = rw e

  pub both_in_model : (d i : ℕ) (w : Origin) → s.from ≤ d → Within d i w → model.noted_for x w (uses_here s) ≡ uses_by (noted_for s x w)
  both_in_model d i (equal_entry y) l w = also_in_model y (omega (arith, w.0))
  both_in_model d i (static_name k) l w = note_is s x few long low
  both_in_model d i (named_entry y) l w = also_in_model y (omega (arith, w.0))
  both_in_model d i plain l w = note_is s x few long low
