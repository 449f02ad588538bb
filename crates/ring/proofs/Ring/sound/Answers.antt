-- `ring::Ring::sound`: the count is tested, and `entries::Slots::check` tells the rest. Assumes nothing.
use borrow.Author.Tests.{le-leb, lt-leb}
use Rattle.ring.specs.Ring.{keeps}
use Rattle.ring.proofs.Ring.sound.Goals as goal

pub returns-then-self-gt-LARGEST_COUNT : goal.returns-then-self-gt-LARGEST_COUNT
unfolding keeps
returns-then-self-gt-LARGEST_COUNT c = rw (lt-leb _ _ c.if-self-gt-LARGEST_COUNT.true)

pub returns : goal.returns
unfolding keeps
returns c = rw (le-leb _ _ c.if-self-gt-LARGEST_COUNT.false) (rw (c.slots.ensures.starts, c.slots.ensures.names, c.slots.ensures.values) at c.check.ensures)
