-- The rules that a ring of entries keeps.
use Rattle.std.specs.Prelude.{Bool, true, ◌&&◌, List, [], ◌∷◌, ℕ, ◌+◌, ◌-◌, ◌%◌, leb, ltb, eqb}
use Rattle.arena.specs.Ring.{ring}
use Rattle.entries.specs.Entry.{Entry, slots, bytes_of, size_of, end_of}

-- each entry starts where the one before ends
abbrev pub chained : ℕ → List Entry → Bool
chained p [] = true
chained p (e ∷ l) = eqb e.start p && chained ((p + bytes_of e) % ring) l

-- the chain goes from the tail to the head, and the size is the sum
abbrev pub in_order : List Entry → ℕ → ℕ → ℕ → Bool
in_order l size tail head = chained tail l && (eqb (end_of tail l) head && eqb (size_of l) size)

-- besides, the numbers are in range, and the size is within the capacity
unfoldable pub keeps_rules : List Entry → ℕ → ℕ → ℕ → ℕ → ℕ → ℕ → Bool
keeps_rules l dropped inserted size capacity tail head =
    leb dropped inserted
    && (leb (inserted - dropped) slots
    && (leb capacity ring
    && (leb size capacity
    && (ltb tail ring
    && in_order l size tail head))))
