-- `qpack_table::read_front`: what was read lies in the buffer. Assumes nothing.
use Prim.Native.Nat.{◌-◌, ◌≤◌}
use lib.ListN.{length}
use Rattle.qpack_table.proofs.read_front.Given as goal

abbrev pub invariant-loop-n : goal.invariant-loop-n
invariant-loop-n l = l.n ≤ length l.buf

abbrev pub decreases-loop-n : goal.decreases-loop-n
decreases-loop-n l = length l.buf - l.n
