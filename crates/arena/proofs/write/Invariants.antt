-- `arena::write`: a short arena stays as it is; in a long one the loop keeps `Writing`. Assumes nothing.
use Rattle.arena.proofs.Writing.{Writing}
use Rattle.arena.proofs.write.Given as goal

abbrev pub invariant-loop-byte : goal.invariant-loop-byte
invariant-loop-byte l = Writing l.initial.arena l.at l.s l.arena l.q l.byte-index
