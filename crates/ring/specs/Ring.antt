-- A ring of entries by value: its rules, what a push and a smaller capacity do to it to the last field, and what that is on its list of fields.
use Rattle.std.specs.Prelude.{◌≡◌, Some, None, Option as Maybe, Bool, true, false, ◌&&◌, cond, List, ◌++◌, map, ℕ, ◌+◌, ◌-◌, ◌^◌, ◌%◌, leb, ltb, length, get_or, set}
use Rattle.std.proofs.Math.Option.{Option, none}
use Rattle.arena.specs.Ring.{ring, long_enough, ring_write, ring_move}
use Rattle.entries.specs.Drop.{walked, fewest}
use Rattle.entries.specs.Entry.{Entry, no_entry, bytes_of, slots, between, field_of}
use Rattle.entries.specs.Rules.{keeps_rules}
use Rattle.entries.specs.declared.Room.{Room}
use Rattle.field.specs.Field.{Field, overhead, size_of}
use Rattle.ring.specs.declared.Push.{Push}
use Rattle.ring.specs.declared.Push.TheVariants.{Made, TooLarge, NoRoom, Full, BadCall}
use Rattle.ring.specs.declared.Pushed.{Pushed}
use Rattle.ring.specs.declared.Ring.{Ring}
use Rattle.ring.specs.declared.Source.{Source}
use Rattle.ring.specs.declared.Source.TheVariants.{Given, NameOf, CopyOf}

-- "total .. past 2^62-1"
abbrev pub largest_count : ℕ
largest_count = 2 ^ 62 - 1

-- the live entries, oldest first, and the fields that they stand for
abbrev pub live : Ring → List Entry
live r = between r.starts r.names r.values r.dropped r.inserted

abbrev pub fields_of : Ring → List ℕ → List Field
fields_of r a = map (field_of a) (live r)

unfoldable pub keeps : Ring → Bool
keeps r =
    leb r.inserted largest_count
    && keeps_rules (live r) r.dropped r.inserted r.size r.capacity r.tail r.head

-- how many of the oldest may go, if those below low may
abbrev pub free_below : Ring → ℕ → ℕ
free_below r low = low - r.dropped - 1

-- ---- room

abbrev pub room_in : Ring → ℕ → ℕ → Room
room_in r low room = walked r.size r.tail (free_below r low) (live r) room

abbrev pub no_room : Ring → Room
no_room r = record { made = false; count = 0; size = r.size; tail = r.tail }

-- for an entry of n and v bytes
unfoldable pub room_for : Ring → ℕ → ℕ → ℕ → Room
room_for r low n v =
    cond (leb (n + v + overhead) r.capacity) (room_in r low (r.capacity - (n + v + overhead))) (no_room r)

-- ---- a push

abbrev pub entry_in : Ring → ℕ → Entry
entry_in r k = get_or (live r) k no_entry

unfoldable pub field_from : Ring → List ℕ → Source → List ℕ → List ℕ → Field
field_from r a Given n v = record { name = n; value = v }
field_from r a (NameOf k) n v = record { name = (field_of a (entry_in r k)).name; value = v }
field_from r a (CopyOf k) n v = field_of a (entry_in r k)

-- whether a source is one of so many live entries
abbrev pub live_in : ℕ → Source → Bool
live_in m Given = true
live_in m (NameOf k) = ltb k m
live_in m (CopyOf k) = ltb k m

abbrev pub source_live : Ring → Source → Bool
source_live r s = live_in (r.inserted - r.dropped) s

-- what a push tests by itself: a ring that keeps its rules passes
abbrev pub pushable : Ring → List ℕ → Source → Bool
pushable r a s = leb r.capacity ring && (ltb r.head ring && (long_enough a && source_live r s))

-- the entries of a room went, and one of n and v bytes came
abbrev pub pushed_by : Ring → Room → ℕ → ℕ → Ring
pushed_by r m n v =
    record {
      inserted = r.inserted + 1;
      dropped = r.dropped + m.count;
      size = m.size + (n + v + overhead);
      capacity = r.capacity;
      tail = m.tail;
      head = (r.head + (n + v)) % ring;
      starts = set r.starts (r.inserted % slots) r.head;
      names = set r.names (r.inserted % slots) n;
      values = set r.values (r.inserted % slots) v;
    }

abbrev pub pushed : Ring → Push → Pushed
pushed r p = record { ring = r; push = p }

abbrev pub push_room : Ring → Room → ℕ → ℕ → Pushed
push_room r m n v =
    cond m.made (cond (ltb r.inserted largest_count) (pushed (pushed_by r m n v) Made) (pushed r Full)) (pushed r NoRoom)

abbrev pub push_field : Ring → ℕ → Field → Pushed
push_field r low f =
    cond (ltb r.capacity (size_of f))
    (pushed r TooLarge)
    (push_room r (room_in r low (r.capacity - size_of f)) (length f.name) (length f.value))

unfoldable pub pushing : Ring → List ℕ → ℕ → Source → List ℕ → List ℕ → Pushed
unfolding field_from
pushing r a low s n v = cond (pushable r a s) (push_field r low (field_from r a s n v)) (pushed r BadCall)

-- the entry that comes as it stands at its source, from the live entries and the lengths of the strings handed in
abbrev pub drawn : List Entry → Source → ℕ → ℕ → Entry
drawn l Given n v = record { start = 0; name = n; value = v }
drawn l (NameOf k) n v = record { start = (get_or l k no_entry).start; name = (get_or l k no_entry).name; value = v }
drawn l (CopyOf k) n v = get_or l k no_entry

-- the arena with its strings at the head: those of the source are moved there, the others written
abbrev pub placed : List ℕ → ℕ → Source → Entry → List ℕ → List ℕ → List ℕ
placed a head Given e n v = ring_write a head (n ++ v)
placed a head (NameOf k) e n v = ring_write (ring_move e.name a e.start head) (head + e.name) v
placed a head (CopyOf k) e n v = ring_move (bytes_of e) a e.start head

-- in a ring that keeps its rules these are the strings of the field, written at the head
unfoldable pub placed_bytes : Ring → List ℕ → Source → List ℕ → List ℕ → List ℕ
placed_bytes r a s n v = placed a r.head s (drawn (live r) s (length n) (length v)) n v

-- the arena after a push: b where it is made
abbrev pub bytes_after : Push → List ℕ → List ℕ → List ℕ
bytes_after Made a b = b
bytes_after TooLarge a b = a
bytes_after NoRoom a b = a
bytes_after Full a b = a
bytes_after BadCall a b = a

-- how many entries go, said on the list of entries: "the fewest oldest entries .. that leave size + s <= C", or none where it is not made
abbrev pub making : Ring → ℕ → ℕ → Option ℕ
making r low s = cond (leb s r.capacity) (fewest (free_below r low) (live r) (r.capacity - s)) none

pub record Pushes (r : Ring) (a b : List ℕ) (low : ℕ) (s : Source) (n v : List ℕ) (p : Pushed) : Type 0 where
  -- the outcome and the next ring, to the last field
  pub next : p ≡ pushing r a low s n v
  -- the whole arena
  pub bytes : b ≡ bytes_after p.push a (placed_bytes r a s n v)

-- ---- another capacity

abbrev pub cut_by : Ring → Room → ℕ → Ring
cut_by r m c =
    record {
      inserted = r.inserted;
      dropped = r.dropped + m.count;
      size = m.size;
      capacity = c;
      tail = m.tail;
      head = r.head;
      starts = r.starts;
      names = r.names;
      values = r.values;
    }

-- a ring after its capacity was set, or as it was where entries that may not go were in the way
pub record Cut : Type 0 where
  pub made : Bool
  pub ring : Ring

abbrev pub was_cut : Ring → Maybe Ring → Cut
was_cut r (Some next) = record { made = true; ring = next }
was_cut r None = record { made = false; ring = r }

unfoldable pub cutting : Ring → ℕ → ℕ → Cut
cutting r low c =
    cond (room_in r low c).made (record { made = true; ring = cut_by r (room_in r low c) c }) (record { made = false; ring = r })
