-- Dropping entries, and the calls on the table itself: set capacity, set blocked maximum, put.
use Rattle.std.specs.Prelude.{Bool, cond, List, [], ◌∷◌, ◌++◌, ◌≡◌, ℕ, suc, ◌+◌, ◌-◌, ◌≤◌, ◌<◌, leb, ltb, eqb, length, drop}
use Rattle.std.proofs.Math.Option.{Option, some, none}
use Rattle.answers.specs.Answer.{done}
use Rattle.answers.specs.Table.{Done, ok}
use Rattle.answers.specs.declared.Refusal.TheVariants.{
  MaxTableSizeReached,
  MaximumTableSizeTooLarge,
  AboveLentRoom,
  MaxBlockedStreamsTooLarge,
  ShrinkBlocked,
  SectionOpen,
  CountTooLarge,
}
use Rattle.field.specs.Field.{Field, size_of}
use Rattle.model.specs.Bounds.{blocked_sections, largest_capacity, lent_room}
use Rattle.ring.specs.Ring.{largest_count}
use Rattle.model.specs.Table.{Open, Table, inserted_of, size_of_all, references, is_referenced, Step, refuse}

-- "the fewest oldest entries, none of them referenced, that leave size + s <= C": k of them, where room is C - s
pub record Fewest (t : Table) (room k : ℕ) : Type 0 where
  pub within : k ≤ length t.fields
  pub unreferenced : (a : ℕ) → t.dropped < a → a ≤ t.dropped + k → references t a ≡ 0
  pub fits : size_of_all (drop k t.fields) ≤ room
  pub least : (j : ℕ) → j < k → room < size_of_all (drop j t.fields)

-- the same, computed: a is the absolute index of the first field
abbrev pub one_more_dropped : Option ℕ → Option ℕ
one_more_dropped none = none
one_more_dropped (some k) = some (suc k)

abbrev pub fewest_from : (ℕ → Bool) → ℕ → List Field → ℕ → Option ℕ
fewest_from referenced a [] room = some 0
fewest_from referenced a (f ∷ l) room =
    cond (leb (size_of_all (f ∷ l)) room) (some 0) (cond (referenced a) none (one_more_dropped (fewest_from referenced (suc a) l room)))

unfoldable pub fewest : Table → ℕ → Option ℕ
fewest t room = fewest_from (is_referenced t) (t.dropped + 1) t.fields room

-- the fewest to drop for an insertion of size s; none where it is not made
unfoldable pub making : Table → ℕ → Option ℕ
unfolding fewest
making t s = cond (leb s t.capacity) (fewest t (t.capacity - s)) none

-- the table after k entries went
abbrev pub without : ℕ → Table → Table
without k t =
    record {
      fields = drop k t.fields;
      dropped = t.dropped + k;
      capacity = t.capacity;
      known = t.known;
      blocked_max = t.blocked_max;
      blocked = t.blocked;
      queue = t.queue;
      section = t.section;
    }

abbrev pub with_field : Field → Table → Table
with_field f t =
    record {
      fields = t.fields ++ (f ∷ []);
      dropped = t.dropped;
      capacity = t.capacity;
      known = t.known;
      blocked_max = t.blocked_max;
      blocked = t.blocked;
      queue = t.queue;
      section = t.section;
    }

abbrev pub with_capacity : ℕ → Table → Table
with_capacity c t =
    record {
      fields = t.fields;
      dropped = t.dropped;
      capacity = c;
      known = t.known;
      blocked_max = t.blocked_max;
      blocked = t.blocked;
      queue = t.queue;
      section = t.section;
    }

abbrev pub with_blocked_max : ℕ → Table → Table
with_blocked_max b t =
    record {
      fields = t.fields;
      dropped = t.dropped;
      capacity = t.capacity;
      known = t.known;
      blocked_max = b;
      blocked = t.blocked;
      queue = t.queue;
      section = t.section;
    }

-- "18 SectionOpen: table call, .. report or begin while open"
abbrev pub closed : {A : Type 0} → Table → Option Open → Step A → Step A
closed t (some o) s = refuse t SectionOpen
closed t none s = s

-- a cut drops the fewest; "17 ShrinkBlocked: capacity cut needs a referenced entry dropped"
abbrev pub cut_to : Table → ℕ → Option ℕ → Step Done
cut_to t c (some k) = record { next = with_capacity c (without k t); answer = done ok }
cut_to t c none = refuse t ShrinkBlocked

-- "9: capacity above 1,073,741,823. 10: capacity 16,385 to 1,073,741,823"
unfoldable pub set_capacity : Table → ℕ → Step Done
set_capacity t c =
    closed t t.section
    (cond (ltb largest_capacity c)
    (refuse t MaximumTableSizeTooLarge)
    (cond (ltb lent_room c) (refuse t AboveLentRoom) (cut_to t c (fewest t c))))

-- "11 MaxBlockedStreamsTooLarge: 65,535 or more"
unfoldable pub set_blocked_max : Table → ℕ → Step Done
set_blocked_max t b =
    closed t t.section
    (cond (leb blocked_sections b) (refuse t MaxBlockedStreamsTooLarge) (record { next = with_blocked_max b t; answer = done ok }))

-- "23 last, only where the step would otherwise be made"
abbrev pub put_after : Table → Field → Option ℕ → Step Done
put_after t f none = record { next = t; answer = done ok }
put_after t f (some k) =
    cond (ltb (inserted_of t) largest_count)
    (record { next = with_field f (without k t); answer = done ok })
    (refuse t CountTooLarge)

-- "`put` at capacity 0, or kept out by references, answers 0 and does nothing"; "8: `put` larger than a capacity above 0"
unfoldable pub put : Table → Field → Step Done
put t f =
    closed t t.section
    (cond (eqb t.capacity 0)
    (record { next = t; answer = done ok })
    (cond (ltb t.capacity (size_of f)) (refuse t MaxTableSizeReached) (put_after t f (making t (size_of f)))))
