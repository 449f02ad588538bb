-- `tracking::queue_floor`: the loop keeps `Walking`. Assumes nothing.
use lib.ListN.{take}
use Rattle.tracking.specs.Queue.{all_sections_live, lowest_of_all}
use Rattle.tracking.proofs.Flooring.{Walking}
use Rattle.tracking.proofs.queue_floor.Given as goal

abbrev pub invariant-loop-section : goal.invariant-loop-section
invariant-loop-section l =
    Walking (all_sections_live l.dropped l.inserted) lowest_of_all l.low (take l.queue.queued l.queue.places) l.least l.section-index
