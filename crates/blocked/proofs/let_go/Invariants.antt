-- `blocked::let_go`: the loop keeps `Keeping`. Assumes nothing.
use Rattle.blocked.proofs.Keeping.{Keeping}
use Rattle.blocked.specs.Waiting.{values_of}
use Rattle.blocked.proofs.let_go.Given as goal

abbrev pub invariant-loop-value : goal.invariant-loop-value
invariant-loop-value l = Keeping l.known (values_of l.waiting) l.values l.total l.kept l.value-index
