-- The insert of a section: "in this order: blocked count at or above its maximum, not inserted; then capacity".
use Rattle.std.specs.Prelude.{Bool, cond, List, ℕ, ◌+◌, ◌-◌, leb, ltb}
use Rattle.std.proofs.Math.Option.{Option, some, none}
use Rattle.answers.specs.Answer.{done}
use Rattle.answers.specs.declared.Insertion.{Insertion}
use Rattle.answers.specs.declared.Insertion.TheVariants.{
  Inserted,
  Duplicated,
  InsertedWithNameRef,
  InsertedWithStaticNameRef,
  NotInserted,
}
use Rattle.answers.specs.declared.Lookup.TheVariants.{Static, NotFound}
use Rattle.answers.specs.declared.Refusal.TheVariants.{TrackingFull, CountTooLarge}
use Rattle.entries.specs.Latest.{last_of}
use Rattle.field.specs.Field.{Field, size_of, same, equal}
use Rattle.static_table.specs.Static.{lowest_name}
use Rattle.ring.specs.Ring.{largest_count}
use Rattle.model.specs.Table.{Use, Open, Table, inserted_of, blocked_count, Step, refuse}
use Rattle.model.specs.Drop.{making, without, with_field}
use Rattle.model.specs.Section.{in_section, with_open, with_uses, note, lookup_of, refer_to}

abbrev pub has_name : List ℕ → Field → Bool
has_name n f = same n f.name

-- ---- not made: "the static name's lowest index, else the latest live entry of that name (now referenced), else nothing"

abbrev pub name_at : Table → Open → Option ℕ → Step Insertion
name_at t o none = record { next = t; answer = done (NotInserted NotFound) }
name_at t o (some k) =
    refer_to t o (note (t.dropped + k + 1) o.uses) (NotInserted (lookup_of o.base (t.dropped + k + 1)))

abbrev pub static_else : Option ℕ → (ℕ → Step Insertion) → Step Insertion → Step Insertion
static_else (some i) f e = f i
static_else none f e = e

unfoldable pub not_inserted : Table → Open → List ℕ → Step Insertion
not_inserted t o n =
    static_else (lowest_name n)
    (λ i. record { next = t; answer = done (NotInserted (Static i)) })
    (name_at t o (last_of (has_name n) t.fields))

-- ---- made: "duplicate if an equal older entry is still live, else static name, else the latest live entry of that name, else plain"

-- what names the new entry's field or name: an older entry, by its absolute index, or an index of the static table
pub data Origin : Type 0 where
  equal_entry : ℕ → Origin
  static_name : ℕ → Origin
  named_entry : ℕ → Origin
  plain : Origin

abbrev pub or_else : {A B : Type 0} → Option A → (A → B) → B → B
or_else (some a) f b = f a
or_else none f b = b

-- t: the table after the drops, before the new entry
unfoldable pub origin_in : Table → Field → Origin
origin_in t f =
    or_else (last_of (equal f) t.fields) (λ k. equal_entry (t.dropped + k + 1))
    (or_else (lowest_name f.name) static_name
    (or_else (last_of (has_name f.name) t.fields) (λ k. named_entry (t.dropped + k + 1)) plain))

-- a is the new entry's absolute index
abbrev pub insertion_of : ℕ → ℕ → Origin → Insertion
insertion_of base a (equal_entry r) = Duplicated (a - r - 1) (a - base - 1) a
insertion_of base a (static_name i) = InsertedWithStaticNameRef (a - base - 1) i a
insertion_of base a (named_entry r) = InsertedWithNameRef (a - base - 1) (a - r - 1) a
insertion_of base a plain = Inserted (a - base - 1) a

-- "an insert refers to its new entry, and to an older one too for a duplicate or dynamic name reference"
abbrev pub note_also : ℕ → Option (List Use) → Option (List Use)
note_also r none = none
note_also r (some us) = note r us

abbrev pub noted_for : ℕ → Origin → List Use → Option (List Use)
noted_for a (equal_entry r) us = note_also r (note a us)
noted_for a (static_name i) us = note a us
noted_for a (named_entry r) us = note_also r (note a us)
noted_for a plain us = note a us

-- "20 is given exactly when the references so found .. would pass a bound"; 23 last
abbrev pub inserted_by : Table → Table → Open → Field → Origin → Option (List Use) → Step Insertion
inserted_by t u o f w none = refuse t TrackingFull
inserted_by t u o f w (some us) =
    cond (ltb (inserted_of t) largest_count)
    (record { next = with_open (some (with_uses us o)) (with_field f u); answer = done (insertion_of o.base (inserted_of t + 1) w) })
    (refuse t CountTooLarge)

-- u: the table after the drops
unfoldable pub made : Table → Table → Open → Field → Step Insertion
made t u o f = inserted_by t u o f (origin_in u f) (noted_for (inserted_of t + 1) (origin_in u f) o.uses)

abbrev pub made_or : Table → Open → Field → Option ℕ → Step Insertion
made_or t o f none = not_inserted t o f.name
made_or t o f (some k) = made t (without k t) o f

unfoldable pub insert : Table → Field → Step Insertion
insert t f =
    in_section t t.section
    (λ o. cond (leb t.blocked_max (blocked_count t.blocked)) (not_inserted t o f.name) (made_or t o f (making t (size_of f))))
