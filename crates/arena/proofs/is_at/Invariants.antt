-- `arena::is_at`: a short arena has no string; in a long one the loop keeps `Matching`. Assumes nothing.
use Rattle.arena.proofs.Matching.{Matching}
use Rattle.arena.proofs.is_at.Given as goal

abbrev pub invariant-loop-byte : goal.invariant-loop-byte
invariant-loop-byte l = Matching l.arena l.at l.s l.p l.byte-index
