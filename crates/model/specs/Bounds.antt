-- The bounds of the specification.
use Rattle.std.specs.Prelude.{ℕ}
use Rattle.arena.specs.Ring.{ring}

-- "a section holds at most 32 distinct entries"
abbrev pub section_entries : ℕ
section_entries = 32

-- "with a use count each, up to 255"
abbrev pub entry_uses : ℕ
entry_uses = 255

-- "at most 32 sections are queued"
abbrev pub queue_places : ℕ
queue_places = 32

-- "64 distinct blocked values"
abbrev pub blocked_values : ℕ
blocked_values = 64

-- "65,535 blocked sections"; "11 MaxBlockedStreamsTooLarge: 65,535 or more"
abbrev pub blocked_sections : ℕ
blocked_sections = 65535

-- "9 MaximumTableSizeTooLarge: capacity above 1,073,741,823"
abbrev pub largest_capacity : ℕ
largest_capacity = 1073741823

-- "capacity up to 16,384"
abbrev pub lent_room : ℕ
lent_room = ring
