-- `tracking::release`. The loop's invariant: the sections so far have moved up by one place, and the rest is as it was. Assumes nothing.
use mathlib.Core.Path.{◌≡◌}
use lib.Seq.{paste}
use Rattle.tracking.proofs.release.Given as goal

abbrev pub invariant-loop-k : goal.invariant-loop-k
invariant-loop-k l = l.next.places ≡ paste l.queue.places l.i l.section-items l.k
