-- `arena::is_at`: a short arena has no string; in a long one the loop keeps `Matching`. Assumes nothing.
use mathlib.Core.Path.{sym}
use native.Mathlib.Omega.{arith}
use borrow.Author.Tests.{le-leb, lt-leb}
use Rattle.arena.proofs.Matching.{none, on, off, all}
use Rattle.arena.proofs.is_at.Goals as goal

pub returns-then-arena-lt-RING : goal.returns-then-arena-lt-RING
returns-then-arena-lt-RING c = rw (lt-leb _ _ c.if-arena-lt-RING.true)

pub loop-byte-init : goal.loop-byte-init
loop-byte-init c = none _ _ _

pub returns-then-arena-p : goal.returns-then-arena-p
returns-then-arena-p c =
    let i = c.before.before.before.before in
    rw (le-leb _ _ i.if-arena-lt-RING.false) (sym (off _ _ _ _ _ i.loop-byte.invariant (omega arith) c.if-arena-p.true))

pub loop-byte-preserved : goal.loop-byte-preserved
loop-byte-preserved c =
    let i = c.before.before.before.before in
    on _ _ _ _ _ i.loop-byte.invariant (omega arith) c.if-arena-p.false

pub returns : goal.returns
returns c = rw (le-leb _ _ c.if-arena-lt-RING.false) (sym (all _ _ _ _ _ c.loop-byte.invariant c.loop-byte-test.false))
