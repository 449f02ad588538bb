-- `arena::copy`: a short arena, then a full buffer is refused; else the loop keeps `Copying`. Assumes nothing.
use mathlib.Core.Path.{◌≡◌}
use Prim.Native.Nat.{◌+◌, ◌-◌}
use native.Mathlib.Omega.{arith}
use borrow.Author.Tests.{lt-leb}
use Rattle.answers.proofs.Write.{writes_refused}
use Rattle.arena.specs.Ring.{ring_read}
use Rattle.arena.proofs.RingRead.{length_ring_read}
use Rattle.arena.proofs.Copying.{none, one, all, part, no_room, room}
use borrow.Rule.Slice.PartMut.{mid_len}
use Rattle.arena.proofs.copy.Goals as goal

pub returns-then-arena-lt-RING : goal.returns-then-arena-lt-RING
returns-then-arena-lt-RING c = writes_refused _ _ _ _ (rw (lt-leb _ _ c.if-arena-lt-RING.true))

pub returns-then-buf-at : goal.returns-then-buf-at
returns-then-buf-at c =
    let g = c.args in
    no_room g.arena.now g.from g.len g.buf.now g.at (omega arith) (omega arith)

pub returns-then-buf-at-2 : goal.returns-then-buf-at-2
returns-then-buf-at-2 c =
    let g = c.args in
    no_room g.arena.now g.from g.len g.buf.now g.at (omega arith) (omega arith)

pub loop-place-init : goal.loop-place-init
loop-place-init c = none _ _ _ _

pub loop-place-preserved : goal.loop-place-preserved
loop-place-preserved c = one _ _ _ _ _ _ _ _ _ c.loop-place.invariant (omega arith)

pub returns : goal.returns
returns c =
    let g = c.args in
    let width : g.at + g.len - g.at ≡ g.len = omega arith in
    room g.arena.now g.from g.len g.buf.now g.at (omega arith) _ (omega arith)
    (rw width (part _ (ring_read g.arena.now g.from g.len) _ _ _ (omega arith) (length_ring_read _ _ _) (rw width at (all _ _ _ _ _ _ _ _ _ c.loop-place.invariant (omega (arith, mid_len g.at (g.at + g.len) g.buf.now (omega arith)))))))
