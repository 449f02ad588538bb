-- Laws of the live entries that stand in the arrays: their number, each one, and the list after a drop and after a push. Assumes nothing.
use mathlib.Core.Path.{◌≡◌, sym, ap, ◌∙◌}
use mathlib.Core.Logic.{◌≢◌}
use mathlib.Core.List.{List, [], ◌∷◌, ◌++◌, map}
use Prim.Native.Nat.{ℕ, suc, ◌+◌, ◌-◌, ◌%◌, ◌≤◌, ◌<◌}
use native.Mathlib.Omega.{arith}
use lib.ListN.{length, get_or, drop, set, length-map, get_or-map}
use lib.Seq.{drop-cons, get_or-set_same, get_or-set_other}
use Rattle.arena.specs.Tab.{tab}
use Rattle.arena.proofs.Tab.{length_tab, get_d_tab, tab_ext, tab_add, drop_tab}
use Rattle.entries.specs.Entry.{Entry, slots, no_entry, slot_of, between, field_of}

module _ (ss ns vs : List ℕ) (d m : ℕ) where
  pub length_between : length (between ss ns vs d m) ≡ m - d
  unfolding between
  length_between = length_tab (m - d) _

  pub between_at : (k : ℕ) → k < m - d → get_or (between ss ns vs d m) k no_entry ≡ slot_of ss ns vs ((d + k) % slots)
  unfolding between
  between_at k h = get_d_tab (m - d) _ k no_entry h

  pub between_next : (k : ℕ) → k < m - d
      → drop k (between ss ns vs d m) ≡ slot_of ss ns vs ((d + k) % slots) ∷ drop (suc k) (between ss ns vs d m)
  between_next k h =
      drop-cons (between ss ns vs d m) k no_entry (rw length_between h)
      ∙ ap (λ (e : Entry). e ∷ drop (suc k) (between ss ns vs d m)) (between_at k h)

  pub between_drop : (k : ℕ) → k ≤ m - d → between ss ns vs (d + k) m ≡ drop k (between ss ns vs d m)
  unfolding between
  between_drop k h =
      let at : ℕ → Entry = λ (j : ℕ). slot_of ss ns vs ((d + j) % slots) in
      let all : m - d ≡ k + (m - (d + k)) = omega arith in
      let left : tab (m - (d + k)) (λ (j : ℕ). at (k + j)) ≡ drop k (tab (m - d) at) =
      rw all (sym (drop_tab k (m - (d + k)) at)) in
      tab_ext (m - (d + k)) _ (λ (j : ℕ). at (k + j)) (λ j l. ap (λ (i : ℕ). slot_of ss ns vs (i % slots)) (omega arith)) ∙ left

  -- the fields that they stand for
  module _ (a : List ℕ) where
    pub length_fields : length (map (field_of a) (between ss ns vs d m)) ≡ m - d
    length_fields = rw (length-map, length_between)

    pub field_at : (k : ℕ) → k < m - d
        → get_or (map (field_of a) (between ss ns vs d m)) k (field_of a no_entry) ≡ field_of a (slot_of ss ns vs ((d + k) % slots))
    field_at k h = get_or-map (field_of a) (between ss ns vs d m) k no_entry ∙ ap (field_of a) (between_at k h)

  module _ (s n v : ℕ) (order : d ≤ m) (few : m - d < slots) where
    -- the slot after the live ones is none of theirs
    other : (k : ℕ) → k < m - d
        → slot_of (set ss (m % slots) s) (set ns (m % slots) n) (set vs (m % slots) v) ((d + k) % slots) ≡ slot_of ss ns vs ((d + k) % slots)
    other k h =
        let apart : (d + k) % slots ≢ m % slots = λ e. omega arith in
        rw (get_or-set_other ss _ _ s 0 apart, get_or-set_other ns _ _ n 0 apart, get_or-set_other vs _ _ v 0 apart)

    pub between_push : length ss ≡ slots → length ns ≡ slots → length vs ≡ slots
        → between (set ss (m % slots) s) (set ns (m % slots) n) (set vs (m % slots) v) d (m + 1)
        ≡ between ss ns vs d m ++ (record { start = s; name = n; value = v } ∷ [])
    unfolding between
    between_push ls ln lv =
        let at : ℕ → Entry =
        λ (k : ℕ). slot_of (set ss (m % slots) s) (set ns (m % slots) n) (set vs (m % slots) v) ((d + k) % slots) in
        let more : m + 1 - d ≡ (m - d) + 1 = omega arith in
        let here : (d + (m - d + 0)) % slots ≡ m % slots = omega arith in
        let last : at (m - d + 0) ≡ record { start = s; name = n; value = v } =
        rw (
          here,
          get_or-set_same ss (m % slots) s 0 (omega arith),
          get_or-set_same ns (m % slots) n 0 (omega arith),
          get_or-set_same vs (m % slots) v 0 (omega arith),
        ) in
        let old : tab (m - d) at ≡ tab (m - d) (λ (k : ℕ). slot_of ss ns vs ((d + k) % slots)) = tab_ext (m - d) _ _ other in
        rw more (tab_add (m - d) 1 at ∙ rw (old, last))
