-- The specification: "An insertion of size s at capacity C drops the fewest oldest entries, none of them referenced, that leave
-- size + s <= C. It is not made exactly when no such number exists." Here `free` is how many of the oldest may go, and `room` is C - s.
use Rattle.std.specs.Prelude.{true, false, cond, List, [], ◌∷◌, ℕ, suc, ◌+◌, ◌-◌, ◌%◌, ◌≤◌, ◌<◌, leb, ltb, length, drop}
use Rattle.std.proofs.Math.Option.{Option, some, none}
use Rattle.arena.specs.Ring.{ring}
use Rattle.entries.specs.Entry.{Entry, bytes_of, cost_of, size_of}
use Rattle.entries.specs.declared.Room.{Room}

-- k is that number
pub record Fewest (free : ℕ) (l : List Entry) (room k : ℕ) : Type 0 where
  pub within : k ≤ length l
  pub allowed : k ≤ free
  pub fits : size_of (drop k l) ≤ room
  pub least : (j : ℕ) → j < k → room < size_of (drop j l)

-- the same, computed
abbrev pub one_more_dropped : Option ℕ → Option ℕ
one_more_dropped none = none
one_more_dropped (some k) = some (suc k)

abbrev pub fewest : ℕ → List Entry → ℕ → Option ℕ
fewest free [] room = some 0
fewest free (e ∷ l) room =
    cond (leb (size_of (e ∷ l)) room) (some 0) (cond (ltb 0 free) (one_more_dropped (fewest (free - 1) l room)) none)

-- the code's walk, on any numbers: from a size and a tail that are handed in, it goes on while the size is above the room
abbrev pub counted : Room → Room
counted r = record { made = r.made; count = r.count + 1; size = r.size; tail = r.tail }

abbrev pub walked : ℕ → ℕ → ℕ → List Entry → ℕ → Room
walked size tail free [] room = record { made = leb size room; count = 0; size = size; tail = tail }
walked size tail free (e ∷ l) room =
    cond (leb size room)
    (record { made = true; count = 0; size = size; tail = tail })
    (cond (ltb 0 free)
    (counted (walked (size - cost_of e) ((tail + bytes_of e) % ring) (free - 1) l room))
    (record { made = false; count = 0; size = size; tail = tail }))
