-- Which entries may go: those below the lowest that a section uses are the model's unreferenced oldest ones. Assumes nothing.
use mathlib.Core.Path.{◌≡◌, refl, sym, ap, ◌∙◌}
use mathlib.Core.Bool.{Bool, true, false, cond}
use mathlib.Core.List.{List, [], ◌∷◌, map}
use mathlib.Core.Logic.{◌⊎◌, inl, inr, ⊎_elim}
use mathlib.Core.Option.{Option, some, none}
use Prim.Native.Nat.{ℕ, zero, suc, ◌+◌, ◌-◌, ◌≤◌, ◌<◌, min}
use native.Mathlib.Nat.{add-zero}
use native.Mathlib.Omega.{arith}
use lib.Dec.{leb, ltb}
use lib.ListN.{length, take}
use borrow.Author.Tests.{lt-ltb, ltb-true, ltb-false}
use Rattle.arena.proofs.Tab.{length_tab}
use Rattle.entries.specs.Drop.{fewest, one_more_dropped}
use Rattle.entries.specs.Entry.{Entry, size_of, field_of}
use Rattle.model.specs.Drop as drops
use Rattle.model.specs.Table.{Use, uses_in, uses_queued, uses_open, size_of_all}
use Rattle.ring.specs.Ring.{live, free_below, making}
use Rattle.ring.proofs.Keeping.{kept, length_live}
use Rattle.tracking.specs.Queue.{sections_of, lowest}
use Rattle.tracking.proofs.Floors.{used_live, queued_live, uses_live, lowest_used_lem, lowest_queued_lem, lowest_is_used, lowest_is_queued}
use Rattle.dynamic.specs.Record.{view, open_of, uses_here, nothing_used, lowest_queued, lowest_used}
use Rattle.dynamic.specs.declared.Table.{Table}
use Rattle.dynamic.proofs.Sound.{Sound, open_facts}

-- ---- on lists: the first that may not go is used

module _ (a : List ℕ) where
  pub sizes : (l : List Entry) → size_of_all (map (field_of a) l) ≡ size_of l
  sizes [] = refl
  sizes (e ∷ l) = rw (length_tab e.name, length_tab e.value, sizes l)

  more : (o : Option ℕ) → drops.one_more_dropped o ≡ one_more_dropped o
  more none = refl
  more (some k) = refl

  same_fewest : (used : ℕ → Bool) (x free : ℕ) (l : List Entry) (room : ℕ) → ((j : ℕ) → j < free → used (x + j) ≡ false)
      → (free < length l → used (x + free) ≡ true) → drops.fewest_from used x (map (field_of a) l) room ≡ fewest free l room
  same_fewest used x free [] room f g = refl
  same_fewest used x zero (e ∷ l) room f g =
      let first : used x ≡ true = ap used (sym (add-zero x)) ∙ g (omega arith) in
      rw (sizes (e ∷ l), first)
  same_fewest used x (suc n) (e ∷ l) room f g =
      let first : used x ≡ false = ap used (sym (add-zero x)) ∙ f 0 (omega arith) in
      let less : suc n - 1 ≡ n = omega arith in
      let rest : drops.fewest_from used (suc x) (map (field_of a) l) room ≡ fewest n l room =
      same_fewest used (suc x) n l room
      (λ j h. ap used (omega arith) ∙ f (suc j) (omega arith))
      (λ h. ap used (omega arith) ∙ g (omega arith)) in
      rw (sizes (e ∷ l), first, less, rest, more, lt-ltb 0 (suc n) (omega arith))

-- ---- the uses of a table

-- how often queued sections and the open one use an entry
abbrev pub uses_at : Table → ℕ → ℕ
uses_at t x = uses_queued x (sections_of t.queue) + uses_open x (open_of t)

at_most : (low : ℕ) (us : List Use) → lowest low us ≤ low
at_most low [] = omega arith
at_most low (u ∷ us) = omega (arith, at_most (min low u.entry) us)

by_either : {P : Type 0} (m n : ℕ) → 0 < m + n → (0 < m → P) → (0 < n → P) → P
by_either {P} m n h f g = go (ltb 0 m) refl
  where
    go : (b : Bool) → ltb 0 m ≡ b → P
    go true e = f (ltb-true 0 m e)
    go false e = g (omega (arith, ltb-false 0 m e))

module _ (t : Table) (s : Sound t) where
  pub used_is_live : (x : ℕ) → 0 < uses_at t x → (t.ring.dropped < x) × (x ≤ t.ring.inserted)
  used_is_live x h = go t.active refl
    where
      queued : 0 < uses_queued x (sections_of t.queue) → (t.ring.dropped < x) × (x ≤ t.ring.inserted)
      queued z = queued_live _ _ (take t.queue.queued t.queue.places) s.live x z

      go : (b : Bool) → t.active ≡ b → (t.ring.dropped < x) × (x ≤ t.ring.inserted)
      go true e =
          by_either (uses_queued x (sections_of t.queue)) (uses_in x (uses_here t.section)) (rw e at h) queued
          (used_live _ _ (uses_here t.section) (uses_live _ _ t.section (open_facts t s e).live) x)
      go false e = let z = rw e at h in queued (omega arith)

  pub lowest_below : (x : ℕ) → 0 < uses_at t x → lowest_used t ≤ x
  unfolding lowest_used
  lowest_below x h = go t.active refl
    where
      queued : 0 < uses_queued x (sections_of t.queue) → lowest_queued t ≤ x
      queued z = lowest_queued_lem nothing_used (take t.queue.queued t.queue.places) x z

      go : (b : Bool) → t.active ≡ b → cond b (lowest (lowest_queued t) (uses_here t.section)) (lowest_queued t) ≤ x
      go true e =
          by_either (uses_queued x (sections_of t.queue)) (uses_in x (uses_here t.section)) (rw e at h)
          (λ z. omega (arith, queued z, at_most (lowest_queued t) (uses_here t.section)))
          (lowest_used_lem (lowest_queued t) (uses_here t.section) x)
      go false e = let z = rw e at h in queued (omega arith)

  pub lowest_is_one : (lowest_used t ≡ nothing_used) ⊎ (0 < uses_at t (lowest_used t))
  unfolding lowest_used
  lowest_is_one = go t.active refl
    where
      queued : (lowest_queued t ≡ nothing_used) ⊎ (0 < uses_queued (lowest_queued t) (sections_of t.queue))
      queued = lowest_is_queued _ _ nothing_used (take t.queue.queued t.queue.places) s.live

      go : (b : Bool) → t.active ≡ b
          → (cond b (lowest (lowest_queued t) (uses_here t.section)) (lowest_queued t) ≡ nothing_used)
          ⊎ (0 < uses_at t (cond b (lowest (lowest_queued t) (uses_here t.section)) (lowest_queued t)))
      go true e =
          let us = uses_here t.section in
          ⊎_elim
          (λ (y : lowest (lowest_queued t) us ≡ lowest_queued t).
          ⊎_elim (λ q. inl (y ∙ q))
          (λ (q : 0 < uses_queued (lowest_queued t) (sections_of t.queue)). inr (rw (e, y) (omega arith)))
          queued)
          (λ (z : 0 < uses_in (lowest (lowest_queued t) us) us). inr (rw e (omega arith)))
          (lowest_is_used _ _ (lowest_queued t) us (uses_live _ _ t.section (open_facts t s e).live))
      go false e =
          ⊎_elim inl (λ (z : 0 < uses_queued (lowest_queued t) (sections_of t.queue)). inr (rw e (omega arith))) queued

  -- the k oldest are used by none, where k may go
  pub still_above : (k x : ℕ) → k ≤ free_below t.ring (lowest_used t) → 0 < uses_at t x → t.ring.dropped + k < x
  still_above k x h z = omega (arith, (used_is_live x z).0, lowest_below x z)

  not_used : (j : ℕ) → j < free_below t.ring (lowest_used t) → ltb 0 (uses_at t (t.ring.dropped + 1 + j)) ≡ false
  not_used j h = go (ltb 0 (uses_at t (t.ring.dropped + 1 + j))) refl
    where
      go : (b : Bool) → ltb 0 (uses_at t (t.ring.dropped + 1 + j)) ≡ b → b ≡ false
      go true e = absurd (omega (arith, lowest_below (t.ring.dropped + 1 + j) (ltb-true 0 _ e)))
      go false e = refl

  first_used : free_below t.ring (lowest_used t) < length (live t.ring)
      → ltb 0 (uses_at t (t.ring.dropped + 1 + free_below t.ring (lowest_used t))) ≡ true
  first_used h =
      ⊎_elim
      (λ (e : lowest_used t ≡ nothing_used). absurd (omega (arith, length_live t.ring, (kept t.ring s.ring).counted)))
      (λ (z : 0 < uses_at t (lowest_used t)).
      let here : t.ring.dropped + 1 + free_below t.ring (lowest_used t) ≡ lowest_used t =
      omega (arith, (used_is_live (lowest_used t) z).0) in
      rw here (lt-ltb 0 (uses_at t (lowest_used t)) z))
      lowest_is_one

  module _ (a : List ℕ) where
    pub same_room : (room : ℕ) → drops.fewest (view t a) room ≡ fewest (free_below t.ring (lowest_used t)) (live t.ring) room
    unfolding view drops.fewest
    same_room room =
        same_fewest a (λ (x : ℕ). ltb 0 (uses_at t x)) (t.ring.dropped + 1) (free_below t.ring (lowest_used t)) (live t.ring) room
        not_used
        first_used

    pub same_making : (size : ℕ) → drops.making (view t a) size ≡ making t.ring (lowest_used t) size
    unfolding view drops.making
    same_making size = ap (λ (o : Option ℕ). cond (leb size t.ring.capacity) o none) (same_room (t.ring.capacity - size))
