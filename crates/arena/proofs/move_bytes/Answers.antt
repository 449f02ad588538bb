-- `arena::move_bytes`: a short arena stays as it is; in a long one the loop keeps `Moving`. Assumes nothing.
use native.Mathlib.Omega.{arith}
use borrow.Author.Tests.{le-leb, lt-leb}
use Rattle.arena.proofs.Moving.{none, one, all}
use Rattle.arena.proofs.move_bytes.Goals as goal

pub returns-then-arena-lt-RING : goal.returns-then-arena-lt-RING
returns-then-arena-lt-RING c = rw (lt-leb _ _ c.if-arena-lt-RING.true)

pub loop-init : goal.loop-init
loop-init c = none _ _ _ _

pub loop-preserved : goal.loop-preserved
loop-preserved c = one _ _ _ _ _ _ _ _ c.loop.invariant (omega arith)

pub returns : goal.returns
returns c = rw (le-leb _ _ c.if-arena-lt-RING.false) (all _ _ _ _ _ _ _ _ c.loop.invariant c.loop-test.false)
