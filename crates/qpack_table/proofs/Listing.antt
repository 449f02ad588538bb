-- The lines of the entries, put one after the other: what is left of them gives what all of them give. Assumes nothing.
use mathlib.Core.Path.{◌≡◌, refl, sym, ap, ◌∙◌}
use mathlib.Core.Bool.{true}
use mathlib.Core.List.{List, [], ◌∷◌, ◌++◌, append_assoc, append-nil}
use Prim.Native.Nat.{ℕ, ◌+◌, ◌-◌, ◌*◌, ◌%◌, ◌≤◌, ◌<◌}
use native.Mathlib.Nat.{add-zero}
use native.Mathlib.Omega.{arith}
use lib.ListN.{length, get_or, drop, drop_of_length-le}
use Rattle.entries.specs.Entry.{slots, slot_of, between}
use Rattle.entries.proofs.Between.{length_between, between_next, between_drop}
use Rattle.ring.specs.Ring.{largest_count, keeps}
use Rattle.ring.specs.declared.Ring.{Ring}
use Rattle.ring.proofs.Keeping.{kept}
use Rattle.qpack_table.specs.Text.{entry_line, entry_lines}

-- the lines after the first `gone` entries
abbrev pub lines_from : Ring → ℕ → List ℕ
lines_from r gone = entry_lines gone (between r.starts r.names r.values gone r.inserted)

-- of the text l before the lines, m has those of the first `gone` entries
pub record Listed (r : Ring) (l m : List ℕ) (gone : ℕ) : Type 0 where
  pub low : r.dropped ≤ gone
  pub high : gone ≤ r.inserted
  pub few : r.inserted ≤ r.dropped + slots
  pub counted : r.inserted ≤ largest_count
  pub room : length m ≤ length l + 84 * (gone - r.dropped)
  pub rest : m ++ lines_from r gone ≡ l ++ lines_from r r.dropped

module _ (r : Ring) (gone : ℕ) where
  -- the line of the next entry
  front : gone < r.inserted
      → lines_from r gone
      ≡ entry_line (gone + 1) (get_or r.names (gone % slots) 0) (get_or r.values (gone % slots) 0) ++ lines_from r (gone + 1)
  unfolding entry_lines
  front more =
      let ss = r.starts in
      let ns = r.names in
      let vs = r.values in
      let i = r.inserted in
      let h : between ss ns vs gone i ≡ slot_of ss ns vs ((gone + 0) % slots) ∷ drop 1 (between ss ns vs gone i) =
      between_next ss ns vs gone i 0 (omega arith) in
      let t : between ss ns vs (gone + 1) i ≡ drop 1 (between ss ns vs gone i) = between_drop ss ns vs gone i 1 (omega arith) in
      rw (h, add-zero, t)

  -- after the last
  none_left : r.inserted ≤ gone → lines_from r gone ≡ []
  unfolding entry_lines
  none_left end =
      let left = between r.starts r.names r.values gone r.inserted in
      let short : length left ≤ 0 = omega (arith, length_between r.starts r.names r.values gone r.inserted) in
      let none : left ≡ [] = drop_of_length-le left {i = 0} short in
      rw none

pub listed_start : (r : Ring) (l : List ℕ) → keeps r ≡ true → Listed r l l r.dropped
listed_start r l h =
    let k = kept r h in
    record {
      low = omega arith;
      high = k.rules.order;
      few = omega (arith, k.rules.few, k.rules.order);
      counted = k.counted;
      room = omega arith;
      rest = refl;
    }

module _ {r : Ring} {l m : List ℕ} {gone : ℕ} (L : Listed r l m gone) where
  pub listed_more : gone < r.inserted → (w : List ℕ)
      → w ≡ m ++ entry_line (gone + 1) (get_or r.names (gone % slots) 0) (get_or r.values (gone % slots) 0) → length w ≤ length m + 84
      → Listed r l w (gone + 1)
  listed_more more w put most =
      let later = lines_from r (gone + 1) in
      let line = entry_line (gone + 1) (get_or r.names (gone % slots) 0) (get_or r.values (gone % slots) 0) in
      record {
        low = omega (arith, L.low);
        high = omega arith;
        few = L.few;
        counted = L.counted;
        room = omega (arith, L.low, L.room);
        rest =
            ap (λ (x : List ℕ). x ++ later) put
            ∙ append_assoc m line later
            ∙ ap (λ (x : List ℕ). m ++ x) (sym (front r gone more))
            ∙ L.rest;
      }

  pub listed_end : r.inserted ≤ gone → m ≡ l ++ lines_from r r.dropped
  listed_end end = sym (append-nil m) ∙ ap (λ (x : List ℕ). m ++ x) (sym (none_left r gone end)) ∙ L.rest
