-- What the rule of live uses and the lowest used entry say, for a section and for the queue. Assumes nothing.
use mathlib.Core.Path.{◌≡◌, refl, sym, subst, ◌∙◌}
use mathlib.Core.Bool.{Bool, true, false, cond}
use mathlib.Core.List.{List, [], ◌∷◌, map}
use mathlib.Core.Logic.{◌⊎◌, inl, inr, ⊎_elim}
use Prim.Native.Nat.{ℕ, ◌+◌, ◌≤◌, ◌<◌, min}
use native.Mathlib.Omega.{arith}
use lib.Dec.{leb, ltb, eqb}
use borrow.Author.Tests.{lt-ltb, ltb-true, ltb-false, le-leb, leb-true, leb-false, eqb-true, eq-eqb}
use Rattle.model.specs.Bounds.{section_entries}
use Rattle.model.specs.Table.{Use, uses_in, uses_queued}
use Rattle.tracking.specs.declared.Section.{Section}
use Rattle.tracking.specs.Uses.{uses_of}
use Rattle.tracking.specs.Queue.{section_of, is_live_use, all_live, lowest, section_live, all_sections_live, lowest_of_all}
use Rattle.blocked.proofs.Lists.{and_left, and_right}
use Rattle.tracking.proofs.Flooring.{not_dropped, inserted, counted}

pub live_use : (d i : ℕ) (u : Use) → d < u.entry → u.entry ≤ i → 1 ≤ u.count → is_live_use d i u ≡ true
live_use d i u h g c = rw (lt-ltb d u.entry h, le-leb u.entry i g, le-leb 1 u.count c)

-- an entry that a list uses is the first use's, or one that the others use
used_by : {P : Type 0} (a : ℕ) (u : Use) (us : List Use) → 0 < uses_in a (u ∷ us) → (u.entry ≡ a → P) → (0 < uses_in a us → P) → P
used_by {P} a u us h f g = go (eqb u.entry a) refl h
  where
    go : (b : Bool) → eqb u.entry a ≡ b → 0 < cond b u.count 0 + uses_in a us → P
    go true e z = f (eqb-true u.entry a e)
    go false e z = g (omega arith)

pub used_live : (d i : ℕ) (us : List Use) → all_live d i us ≡ true → (a : ℕ) → 0 < uses_in a us → (d < a) × (a ≤ i)
used_live d i [] h a z = absurd (omega arith)
used_live d i (u ∷ us) h a z =
    let first = and_left (is_live_use d i u) _ h in
    used_by a u us z
    (λ e. (omega (arith, not_dropped d i u first), omega (arith, inserted d i u first)))
    (used_live d i us (and_right (is_live_use d i u) _ h) a)

-- an entry above all that were inserted has no uses yet
pub not_yet_used : (d i : ℕ) (us : List Use) → all_live d i us ≡ true → (a : ℕ) → i < a → uses_in a us ≡ 0
not_yet_used d i us h a g = go (ltb 0 (uses_in a us)) refl
  where
    go : (b : Bool) → ltb 0 (uses_in a us) ≡ b → uses_in a us ≡ 0
    go true e = absurd (omega (arith, (used_live d i us h a (ltb-true 0 (uses_in a us) e)).1))
    go false e = omega (arith, ltb-false 0 (uses_in a us) e)

lowest_low : (low : ℕ) (us : List Use) → lowest low us ≤ low
lowest_low low [] = omega arith
lowest_low low (u ∷ us) = omega (arith, lowest_low (min low u.entry) us)

pub lowest_used_lem : (low : ℕ) (us : List Use) (a : ℕ) → 0 < uses_in a us → lowest low us ≤ a
lowest_used_lem low [] a z = absurd (omega arith)
lowest_used_lem low (u ∷ us) a z =
    used_by a u us z
    (λ e. omega (arith, lowest_low (min low u.entry) us))
    (lowest_used_lem (min low u.entry) us a)

-- a live use is one of its entry
pub first_used : (d i : ℕ) (u : Use) (us : List Use) → is_live_use d i u ≡ true → 0 < uses_in u.entry (u ∷ us)
first_used d i u us h = rw (eq-eqb u.entry u.entry refl) (omega (arith, counted d i u h))

then_used : (a : ℕ) (u : Use) (us : List Use) → 0 < uses_in a us → 0 < uses_in a (u ∷ us)
then_used a u us h = omega arith

pub lowest_is_used : (d i low : ℕ) (us : List Use) → all_live d i us ≡ true → (lowest low us ≡ low) ⊎ (0 < uses_in (lowest low us) us)
lowest_is_used d i low [] h = inl refl
lowest_is_used d i low (u ∷ us) h =
    ⊎_elim (λ e. go (leb low u.entry) refl e) (λ z. inr (then_used (lowest (min low u.entry) us) u us z))
    (lowest_is_used d i (min low u.entry) us (and_right (is_live_use d i u) _ h))
  where
    least : ℕ
    least = lowest (min low u.entry) us

    go : (b : Bool) → leb low u.entry ≡ b → least ≡ min low u.entry → (least ≡ low) ⊎ (0 < uses_in least (u ∷ us))
    go true q e = inl (omega (arith, leb-true low u.entry q))
    go false q e =
        let z : least ≡ u.entry = omega (arith, leb-false low u.entry q) in
        inr (subst (λ (x : ℕ). 0 < uses_in x (u ∷ us)) (sym z) (first_used d i u us (and_left (is_live_use d i u) _ h)))

-- entries that no use is of may be dropped, and more may be inserted
module _ (d i d' i' : ℕ) (more : i ≤ i') where
  pub still_live : (us : List Use) → all_live d i us ≡ true → ((a : ℕ) → 0 < uses_in a us → d' < a) → all_live d' i' us ≡ true
  still_live [] h f = refl
  still_live (u ∷ us) h f =
      let first = and_left (is_live_use d i u) _ h in
      rw (live_use d' i' u (f u.entry (first_used d i u us first)) (omega (arith, inserted d i u first)) (counted d i u first))
      (still_live us (and_right (is_live_use d i u) _ h) (λ a z. f a (then_used a u us z)))

-- ---- a section

module _ (d i : ℕ) (s : Section) (h : section_live d i s ≡ true) where
  pub few_uses : s.used ≤ section_entries
  few_uses = leb-true s.used section_entries (and_left (leb s.used section_entries) _ h)

  pub uses_live : all_live d i (uses_of s.from s.used s.uses) ≡ true
  uses_live = and_right (leb s.used section_entries) _ h

pub section_live_lem : (d i : ℕ) (s : Section) → s.used ≤ section_entries → all_live d i (uses_of s.from s.used s.uses) ≡ true → section_live d i s ≡ true
section_live_lem d i s h a = rw (le-leb s.used section_entries h, a)

-- ---- the queue

-- an entry that queued sections use is one that the first uses, or that the others use
used_in : {P : Type 0} (a : ℕ) (s : Section) (q : List Section) → 0 < uses_queued a (map section_of (s ∷ q))
    → (0 < uses_in a (section_of s).uses → P) → (0 < uses_queued a (map section_of q) → P) → P
used_in {P} a s q h f g = go (ltb 0 (uses_in a (section_of s).uses)) refl
  where
    go : (b : Bool) → ltb 0 (uses_in a (section_of s).uses) ≡ b → P
    go true e = f (ltb-true 0 _ e)
    go false e = g (omega (arith, ltb-false 0 (uses_in a (section_of s).uses) e))

pub queued_live : (d i : ℕ) (q : List Section) → all_sections_live d i q ≡ true
    → (a : ℕ) → 0 < uses_queued a (map section_of q) → (d < a) × (a ≤ i)
queued_live d i [] h a z = absurd (omega arith)
queued_live d i (s ∷ q) h a z =
    used_in a s q z
    (used_live d i (section_of s).uses (uses_live d i s (and_left (section_live d i s) _ h)) a)
    (queued_live d i q (and_right (section_live d i s) _ h) a)

all_lowest_low : (low : ℕ) (q : List Section) → lowest_of_all low q ≤ low
all_lowest_low low [] = omega arith
all_lowest_low low (s ∷ q) =
    omega (arith, all_lowest_low (lowest low (section_of s).uses) q, lowest_low low (section_of s).uses)

pub lowest_queued_lem : (low : ℕ) (q : List Section) (a : ℕ) → 0 < uses_queued a (map section_of q) → lowest_of_all low q ≤ a
lowest_queued_lem low [] a z = absurd (omega arith)
lowest_queued_lem low (s ∷ q) a z =
    let first = lowest low (section_of s).uses in
    used_in a s q z
    (λ y. omega (arith, lowest_used_lem low (section_of s).uses a y, all_lowest_low first q))
    (lowest_queued_lem first q a)

pub lowest_is_queued : (d i low : ℕ) (q : List Section) → all_sections_live d i q ≡ true
    → (lowest_of_all low q ≡ low) ⊎ (0 < uses_queued (lowest_of_all low q) (map section_of q))
lowest_is_queued d i low [] h = inl refl
lowest_is_queued d i low (s ∷ q) h =
    ⊎_elim go (λ z. inr (omega arith)) (lowest_is_queued d i first q (and_right (section_live d i s) _ h))
  where
    first : ℕ
    first = lowest low (section_of s).uses

    least : ℕ
    least = lowest_of_all first q

    go : least ≡ first → (least ≡ low) ⊎ (0 < uses_queued least (map section_of (s ∷ q)))
    go e =
        ⊎_elim (λ y. inl (e ∙ y)) (λ (y : 0 < uses_in first (section_of s).uses). inr (rw e (omega arith)))
        (lowest_is_used d i low (section_of s).uses (uses_live d i s (and_left (section_live d i s) _ h)))

module _ (d i d' i' : ℕ) (more : i ≤ i') where
  pub still_queued : (q : List Section) → all_sections_live d i q ≡ true
      → ((a : ℕ) → 0 < uses_queued a (map section_of q) → d' < a) → all_sections_live d' i' q ≡ true
  still_queued [] h f = refl
  still_queued (s ∷ q) h f =
      let first = and_left (section_live d i s) _ h in
      let live = still_live d i d' i' more (section_of s).uses (uses_live d i s first) (λ a z. f a (omega arith)) in
      rw (section_live_lem d' i' s (few_uses d i s first) live)
      (still_queued q (and_right (section_live d i s) _ h) (λ a z. f a (omega arith)))
