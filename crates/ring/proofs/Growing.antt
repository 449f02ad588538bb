-- A ring that keeps its rules after its k oldest went and a field came: its list of fields, its numbers, its rules. Assumes nothing.
use mathlib.Core.Path.{◌≡◌, refl, ap, ◌∙◌}
use mathlib.Core.Bool.{true}
use mathlib.Core.List.{List, [], ◌∷◌, ◌++◌, map, map-append}
use Prim.Native.Nat.{ℕ, zero, suc, ◌+◌, ◌-◌, ◌≤◌, ◌<◌}
use native.Mathlib.Omega.{arith}
use lib.ListN.{length, take, drop, length-set, length-drop, length-append}
use borrow.Author.Tests.{leb-true}
use Rattle.arena.specs.Ring.{ring, long_enough, ring_write}
use Rattle.arena.proofs.RingWrite.{length_ring_write}
use Rattle.entries.specs.Entry.{Entry, slots, between, end_of, field_of, size_of as sizeIn}
use Rattle.entries.proofs.Between.{between_drop, between_push}
use Rattle.entries.proofs.Chain.{bytes_in, size_is_bytes}
use Rattle.entries.proofs.Rules.{Rules, rules_drop, rules_push}
use Rattle.entries.proofs.Strings.{fields_kept, field_new}
use Rattle.field.specs.Field.{Field, size_of}
use Rattle.ring.specs.Ring.{largest_count, live, fields_of, keeps, pushed_by, cut_by}
use Rattle.ring.specs.declared.Ring.{Ring}
use Rattle.ring.proofs.Keeping.{Kept, Arrays, keeps_true, length_live}
use Rattle.ring.proofs.Making.{room_after}

pub map_drop : {A B : Type 0} (f : A → B) (k : ℕ) (l : List A) → map f (drop k l) ≡ drop k (map f l)
map_drop f zero [] = refl
map_drop f zero (x ∷ l) = refl
map_drop f (suc k) [] = refl
map_drop f (suc k) (x ∷ l) = map_drop f k l

-- the k oldest went, a field came, and the arena changed from a to b
pub record Grown (r : Ring) (a : List ℕ) (k : ℕ) (f : Field) (next : Ring) (b : List ℕ) : Type 0 where
  pub fields : fields_of next b ≡ drop k (fields_of r a) ++ (f ∷ [])
  pub inserted : next.inserted ≡ r.inserted + 1
  pub dropped : next.dropped ≡ r.dropped + k
  pub capacity : next.capacity ≡ r.capacity
  pub within : k ≤ r.inserted - r.dropped
  pub rules : keeps next ≡ true
  pub arrays : Arrays next
  pub long : long_enough b ≡ true

-- the k oldest went, whatever the arena, and the capacity is c
pub record Shrunk (r : Ring) (k c : ℕ) (next : Ring) : Type 0 where
  pub fields : (a : List ℕ) → fields_of next a ≡ drop k (fields_of r a)
  pub inserted : next.inserted ≡ r.inserted
  pub dropped : next.dropped ≡ r.dropped + k
  pub capacity : next.capacity ≡ c
  pub within : k ≤ r.inserted - r.dropped
  pub rules : keeps next ≡ true
  pub arrays : Arrays next

module _ (r : Ring) (w : Kept r) (k : ℕ) (within : k ≤ r.inserted - r.dropped) where
  length_left : length (drop k (live r)) ≡ r.inserted - (r.dropped + k)
  length_left = omega (arith, length-drop k (live r), length_live r)

  left : (c : ℕ) → c ≤ ring → sizeIn (drop k (live r)) ≤ c
      → Rules (drop k (live r)) (r.dropped + k) r.inserted (sizeIn (drop k (live r))) c (end_of r.tail (take k (live r))) r.head
  left c most fits = rules_drop _ _ _ _ _ _ _ w.rules (length_live r) k c (rw (length_live r) within) fits most

  live_cut : between r.starts r.names r.values (r.dropped + k) r.inserted ≡ drop k (live r)
  live_cut = between_drop r.starts r.names r.values r.dropped r.inserted k within

  -- at another capacity
  module _ (c : ℕ) (most : c ≤ ring) (fits : sizeIn (drop k (live r)) ≤ c) where
    kept_cut : Kept (cut_by r (room_after r k) c)
    kept_cut = record { counted = w.counted; rules = rw live_cut (left c most fits) }

    pub shrunk : Arrays r → Shrunk r k c (cut_by r (room_after r k) c)
    shrunk arrays =
        record {
          fields = λ a. rw live_cut (map_drop (field_of a) k (live r));
          inserted = refl;
          dropped = refl;
          capacity = refl;
          within = within;
          rules = keeps_true _ kept_cut;
          arrays = record { starts = arrays.starts; names = arrays.names; values = arrays.values };
        }

  -- with one more field
  module _ (a : List ℕ) (f : Field) (fits : sizeIn (drop k (live r)) + size_of f ≤ r.capacity) (arrays : Arrays r) where
    abbrev new : Entry
    new = record { start = r.head; name = length f.name; value = length f.value }

    abbrev next : Ring
    next = pushed_by r (room_after r k) (length f.name) (length f.value)

    rules_left : Rules (drop k (live r)) (r.dropped + k) r.inserted (sizeIn (drop k (live r))) r.capacity
        (end_of r.tail (take k (live r)))
        r.head
    rules_left = left r.capacity w.rules.most (omega arith)

    few : r.inserted - (r.dropped + k) < slots
    few = omega (arith, length_left, size_is_bytes (drop k (live r)), w.rules.most)

    live_push : live next ≡ drop k (live r) ++ (new ∷ [])
    live_push =
        between_push r.starts r.names r.values (r.dropped + k) r.inserted r.head (length f.name) (length f.value)
        rules_left.order few arrays.starts arrays.names arrays.values
        ∙ ap (λ (l : List Entry). l ++ (new ∷ [])) live_cut

    kept_push : r.inserted < largest_count → Kept next
    kept_push more =
        record {
          counted = omega arith;
          rules = rw live_push (rules_push _ _ _ _ _ _ _ rules_left length_left (length f.name) (length f.value) fits);
        }

    fields_push : ring ≤ length a → fields_of next (ring_write a r.head (f.name ++ f.value)) ≡ drop k (fields_of r a) ++ (f ∷ [])
    fields_push long =
        let b = ring_write a r.head (f.name ++ f.value) in
        let room : bytes_in (drop k (live r)) + length (f.name ++ f.value) ≤ ring =
        rw (length-append f.name f.value) (omega (arith, size_is_bytes (drop k (live r)), w.rules.most)) in
        let old : map (field_of b) (drop k (live r)) ≡ map (field_of a) (drop k (live r)) =
        fields_kept a (f.name ++ f.value) (drop k (live r)) _ r.head rules_left.chain rules_left.ends room in
        let came : field_of b new ≡ f =
        field_new a r.head f.name f.value long (omega (arith, w.rules.most)) in
        rw (live_push, map-append (field_of b) (drop k (live r)) (new ∷ []), old, came, map_drop (field_of a) k (live r))

    pub grown : long_enough a ≡ true → r.inserted < largest_count → Grown r a k f next (ring_write a r.head (f.name ++ f.value))
    grown long more =
        record {
          fields = fields_push (leb-true _ _ long);
          inserted = refl;
          dropped = refl;
          capacity = refl;
          within = within;
          rules = keeps_true _ (kept_push more);
          arrays = record {
            starts = simp length-set arrays.starts;
            names = simp length-set arrays.names;
            values = simp length-set arrays.values;
          };
          long = rw (length_ring_write a r.head (f.name ++ f.value)) long;
        }
