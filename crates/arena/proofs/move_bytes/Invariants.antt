-- `arena::move_bytes`: a short arena stays as it is; in a long one the loop keeps `Moving`. Assumes nothing.
use Prim.Native.Nat.{◌-◌}
use Rattle.arena.proofs.Moving.{Moving}
use Rattle.arena.proofs.move_bytes.Given as goal

abbrev pub invariant-loop : goal.invariant-loop
invariant-loop l = Moving l.initial.arena l.from l.to l.len l.arena l.p l.q (l.len - l.counter)
