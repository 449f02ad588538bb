-- `entries::Slots::walk`: the loop keeps `Walking`, and at its end the head and the size are left to compare. Assumes nothing.
use Rattle.entries.specs.Entry.{entries_of}
use Rattle.entries.proofs.Walking.{Walking}
use Rattle.entries.proofs.Slots.walk.Given as goal

abbrev pub invariant-loop-k : goal.invariant-loop-k
invariant-loop-k l =
    Walking (entries_of l.self l.dropped l.inserted) l.tail l.p l.sum l.k
