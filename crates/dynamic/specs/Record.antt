-- The table's record: what it stands for in the model, and the rules that it keeps.
use Rattle.std.specs.Prelude.{◌≡◌, Some, None, Option as Maybe, length, Bool, true, false, ◌&&◌, cond, List, ℕ, ◌-◌, ◌^◌, leb, ltb, take}
use Rattle.std.proofs.Math.Option.{Option, some, none}
use Rattle.arena.specs.Ring.{long_enough}
use Rattle.entries.specs.Entry.{slots}
use Rattle.model.specs.Bounds.{section_entries, blocked_values, blocked_sections, queue_places}
use Rattle.model.specs.Table as model
use Rattle.entries.specs.declared.Room.{Room}
use Rattle.ring.specs.Ring.{largest_count, fields_of, keeps, room_for}
use Rattle.tracking.specs.Queue.{sections_of, lowest, lowest_of_all, all_sections_live}
use Rattle.blocked.specs.Waiting.{waiting_of, keeps_count}
use Rattle.dynamic.specs.declared.Table.{Table}
-- the open section's rules and floor, which need no record
unfoldable pub use Rattle.call_parts.specs.Parts.{open_floor}
pub use Rattle.call_parts.specs.Parts.{uses_here, open_rules}

abbrev pub open_of : Table → Option model.Open
open_of t = cond t.active (some (record { stream = t.section.stream; base = t.base; uses = uses_here t.section })) none

-- what a record and its arena stand for
unfoldable pub view : Table → List ℕ → model.Table
view t a =
    record {
      fields = fields_of t.ring a;
      dropped = t.ring.dropped;
      capacity = t.ring.capacity;
      known = t.known;
      blocked_max = t.most;
      blocked = waiting_of t.waiting;
      queue = sections_of t.queue;
      section = open_of t;
    }

-- ---- the rules

-- the known received count and the blocked maximum are within their bounds
abbrev pub counts_within : Table → Bool
counts_within t = leb t.known largest_count && ltb t.most blocked_sections

-- every use of a queued section is of a live entry
abbrev pub queue_keeps : Table → Bool
queue_keeps t =
    leb t.queue.queued queue_places
    && all_sections_live t.ring.dropped t.ring.inserted (take t.queue.queued t.queue.places)

abbrev pub open_keeps : Table → Bool
open_keeps t = cond t.active (open_rules t.base t.section t.ring.dropped t.ring.inserted) true

-- "record breaking its own rules"
unfoldable pub sound : Table → Bool
sound t = keeps t.ring && (counts_within t && (keeps_count t.waiting && (queue_keeps t && open_keeps t)))

-- "22: short arena, .. record breaking its own rules"
abbrev pub usable : Table → List ℕ → Bool
usable t a = sound t && long_enough a

-- ---- which entries may go: those below the lowest that a section uses

-- larger than any entry
abbrev pub nothing_used : ℕ
nothing_used = 2 ^ 64 - 1

abbrev pub lowest_queued : Table → ℕ
lowest_queued t = lowest_of_all nothing_used (take t.queue.queued t.queue.places)

unfoldable pub lowest_used : Table → ℕ
lowest_used t = cond t.active (lowest (lowest_queued t) (uses_here t.section)) (lowest_queued t)

-- ---- what a check of the record finds

-- whether it keeps its rules, and the lowest entry that a section uses
pub record Checked : Type 0 where
  pub sound : Bool
  pub low : ℕ

abbrev pub checked : Maybe ℕ → Checked
checked (Some low) = record { sound = true; low = low }
checked None = record { sound = false; low = 0 }

unfoldable pub checking : Table → Checked
unfolding lowest_used
checking t = cond (sound t) (record { sound = true; low = lowest_used t }) (record { sound = false; low = 0 })

-- a record that keeps its rules and has a section open
pub record Opens (t : Table) : Type 0 where
  pub rules : sound t ≡ true
  pub active : t.active ≡ true

-- a room that was made for a field, in a table whose sections use no entry below low
pub record RoomOf (t : Table) (low : ℕ) (r : Room) (n v : List ℕ) : Type 0 where
  pub lowest : low ≡ lowest_used t
  pub room : r ≡ room_for t.ring low (length n) (length v)
  pub made : r.made ≡ true

-- the arrays of a record have all their places, as they do in every record of the program
pub record Shape (t : Table) : Type 0 where
  pub uses : length t.section.uses ≡ section_entries
  pub starts : length t.ring.starts ≡ slots
  pub names : length t.ring.names ≡ slots
  pub values : length t.ring.values ≡ slots
  pub places : length t.queue.places ≡ queue_places
  pub blocked : length t.waiting.values ≡ blocked_values
