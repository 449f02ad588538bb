-- `entries::Slots::newest`: a short arena has no entry; in a long one the loop keeps `Searching`. Assumes nothing.
use mathlib.Core.Path.{sym}
use native.Mathlib.Omega.{arith}
use borrow.Author.Tests.{le-leb, lt-leb}
use Rattle.entries.proofs.Searching.{start, over, other_name, other, found}
use Rattle.entries.proofs.Slots.newest.Goals as goal

pub returns-then-arena-lt-RING : goal.returns-then-arena-lt-RING
returns-then-arena-lt-RING c = rw (lt-leb _ _ c.if-arena-lt-RING.true)

pub loop-k-init : goal.loop-k-init
loop-k-init c = start _ _ _ _ _ _ _ _ _ _ c.saturating_sub-k.ensures

pub stands-requires : goal.stands-requires
stands-requires c = (le-leb _ _ c.if-arena-lt-RING.false, omega arith)

pub returns-then-stands : goal.returns-then-stands
returns-then-stands c =
    rw (le-leb _ _ c.if-arena-lt-RING.false)
    (sym (found _ _ _ _ _ _ _ _ _ _ c.loop-k.invariant (omega arith) _ c.from.ensures _ _ _
    c.if-from-name.true
    c.from-start.ensures
    c.from-len.ensures
    c.stands.ensures
    c.if-stands.true))

pub loop-k-preserved-else-stands : goal.loop-k-preserved-else-stands
loop-k-preserved-else-stands c =
    other _ _ _ _ _ _ _ _ _ _ c.loop-k.invariant (omega arith) _ c.from.ensures _ _ _
    c.if-from-name.true
    c.from-start.ensures
    c.from-len.ensures
    c.stands.ensures
    c.if-stands.false

pub loop-k-preserved : goal.loop-k-preserved
loop-k-preserved c =
    other_name _ _ _ _ _ _ _ _ _ _ c.loop-k.invariant (omega arith) _ c.from.ensures c.if-from-name.false

pub returns : goal.returns
returns c =
    rw (le-leb _ _ c.if-arena-lt-RING.false) (sym (over _ _ _ _ _ _ _ _ _ _ c.loop-k.invariant c.loop-k-test.false))
