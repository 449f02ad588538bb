-- `entries::Slots::newest`: a short arena has no entry; in a long one the loop keeps `Searching`. Assumes nothing.
use Rattle.entries.specs.Latest.{bytes_in, is_given}
use Rattle.entries.proofs.Searching.{Searching}
use Rattle.entries.proofs.Slots.newest.Given as goal

abbrev pub invariant-loop-k : goal.invariant-loop-k
invariant-loop-k l =
    Searching l.arena l.self.starts.now l.self.names.now l.self.values.now l.dropped l.inserted l.name (bytes_in l.value) (is_given l.value) l.k
