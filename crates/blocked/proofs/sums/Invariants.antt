-- `blocked::sums`: the loop keeps `Counting`. Assumes nothing.
use Rattle.blocked.proofs.Counting.{Counting}
use Rattle.blocked.specs.Waiting.{values_of}
use Rattle.blocked.proofs.sums.Given as goal

abbrev pub invariant-loop-value : goal.invariant-loop-value
invariant-loop-value l = Counting l.waiting.total (values_of l.waiting) l.left l.value-index
