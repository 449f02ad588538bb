-- `tracking::push`: the test is the one of `pushing`. Assumes nothing.
use borrow.Author.Tests.{lt-ltb, le-ltb}
use Rattle.tracking.specs.Queue.{pushing}
use Rattle.tracking.proofs.push.Goals as goal

pub returns-then-queued-ge-QUEUE_PLACES : goal.returns-then-queued-ge-QUEUE_PLACES
unfolding pushing
returns-then-queued-ge-QUEUE_PLACES c = rw (le-ltb _ _ c.if-queued-ge-QUEUE_PLACES.true)

pub returns : goal.returns
unfolding pushing
returns c = rw (lt-ltb _ _ c.if-queued-ge-QUEUE_PLACES.false)
