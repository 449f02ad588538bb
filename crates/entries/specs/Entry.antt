-- The live entries of a table, oldest first, read off the arrays of a ring of entries; and the fields that they stand for.
use Rattle.std.specs.Prelude.{List, [], ◌∷◌, ℕ, ◌+◌, ◌-◌, ◌%◌, get_or}
use Rattle.arena.specs.Ring.{ring, ring_read}
use Rattle.arena.specs.Tab.{tab}
use Rattle.entries.specs.declared.Slots.{Slots}
use Rattle.field.specs.Field.{Field, overhead}

-- "512 entries"
abbrev pub slots : ℕ
slots = 512

-- where an entry's bytes start in the arena, and how many its name and its value have: the value's follow the name's
pub record Entry : Type 0 where
  pub start : ℕ
  pub name : ℕ
  pub value : ℕ

abbrev pub no_entry : Entry
no_entry = record { start = 0; name = 0; value = 0 }

abbrev pub bytes_of : Entry → ℕ
bytes_of e = e.name + e.value

-- "entry size is name length + value length + 32"
abbrev pub cost_of : Entry → ℕ
cost_of e = bytes_of e + overhead

abbrev pub slot_of : List ℕ → List ℕ → List ℕ → ℕ → Entry
slot_of starts names values i = record { start = get_or starts i 0; name = get_or names i 0; value = get_or values i 0 }

-- the entries after the first d up to the m-th: the entry with absolute index k + 1 stands in slot k modulo the number of slots
unfoldable pub between : List ℕ → List ℕ → List ℕ → ℕ → ℕ → List Entry
between starts names values d m = tab (m - d) (λ (k : ℕ). slot_of starts names values ((d + k) % slots))

-- the same of the arrays as a call takes them
abbrev pub entries_of : Slots → ℕ → ℕ → List Entry
entries_of s d m = between s.starts.now s.names.now s.values.now d m

-- the field that an entry stands for
abbrev pub field_of : List ℕ → Entry → Field
field_of a e = record { name = ring_read a e.start e.name; value = ring_read a (e.start + e.name) e.value }

-- "the size is the sum over live entries"
abbrev pub size_of : List Entry → ℕ
size_of [] = 0
size_of (e ∷ l) = cost_of e + size_of l

-- where the bytes of the last entry end, if each starts where the one before ends
abbrev pub end_of : ℕ → List Entry → ℕ
end_of p [] = p
end_of p (e ∷ l) = end_of ((p + bytes_of e) % ring) l
