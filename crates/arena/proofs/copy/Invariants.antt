-- `arena::copy`: a short arena, then a full buffer is refused; else the loop keeps `Copying`. Assumes nothing.
use Rattle.arena.proofs.Copying.{Copying}
use Rattle.arena.proofs.copy.Given as goal

abbrev pub invariant-loop-place : goal.invariant-loop-place
invariant-loop-place l = Copying l.arena l.from l.len l.initial.place-items 0 l.len l.place-items l.p l.place-index
