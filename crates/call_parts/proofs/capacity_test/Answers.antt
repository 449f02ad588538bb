-- The proof of `capacity_test`: its answer is the capacity's. Assumes nothing.
use borrow.Author.Tests.{lt-ltb, le-ltb}
use Rattle.call_parts.specs.Parts.{capacity_answer}
use Rattle.call_parts.proofs.capacity_test.Goals as goal

pub returns-then-capacity-gt-LARGEST_CAPACITY : goal.returns-then-capacity-gt-LARGEST_CAPACITY
unfolding capacity_answer
returns-then-capacity-gt-LARGEST_CAPACITY c = simp (lt-ltb _ _ c.if-capacity-gt-LARGEST_CAPACITY.true)

pub returns-then-capacity-gt-RING : goal.returns-then-capacity-gt-RING
unfolding capacity_answer
returns-then-capacity-gt-RING c = simp (le-ltb _ _ c.if-capacity-gt-LARGEST_CAPACITY.false, lt-ltb _ _ c.if-capacity-gt-RING.true)

pub returns : goal.returns
unfolding capacity_answer
returns c = simp (le-ltb _ _ c.if-capacity-gt-LARGEST_CAPACITY.false, le-ltb _ _ c.if-capacity-gt-RING.false)
