-- `entries::Slots::fewest`: the loop keeps `Dropping`, whatever the starts are. Assumes nothing.
use mathlib.Core.List.{List}
use Prim.Native.Nat.{ℕ}
use Rattle.entries.specs.Entry.{between}
use Rattle.entries.proofs.Dropping.{Dropping}
use Rattle.entries.proofs.Slots.fewest.Given as goal

abbrev pub invariant-loop-count : goal.invariant-loop-count
invariant-loop-count l =
    (starts : List ℕ) → Dropping l.size l.tail l.free (between starts l.self.names.now l.self.values.now l.dropped l.inserted) l.room l.left l.at l.count
