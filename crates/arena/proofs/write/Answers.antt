-- `arena::write`: a short arena stays as it is; in a long one the loop keeps `Writing`. Assumes nothing.
use native.Mathlib.Omega.{arith}
use borrow.Author.Tests.{le-leb, lt-leb}
use Rattle.arena.proofs.Writing.{none, one, all}
use Rattle.arena.proofs.write.Goals as goal

pub returns-then-arena-lt-RING : goal.returns-then-arena-lt-RING
returns-then-arena-lt-RING c = rw (lt-leb _ _ c.if-arena-lt-RING.true)

pub loop-byte-init : goal.loop-byte-init
loop-byte-init c = none _ _ _

pub loop-byte-preserved : goal.loop-byte-preserved
loop-byte-preserved c = one _ _ _ _ _ _ c.loop-byte.invariant (omega arith)

pub returns : goal.returns
returns c = rw (le-leb _ _ c.if-arena-lt-RING.false) (all _ _ _ _ _ _ c.loop-byte.invariant c.loop-byte-test.false)
