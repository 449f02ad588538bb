-- `ring::Ring::cut`: as `fewest` makes room. Assumes nothing.
use native.Mathlib.Omega.{arith}
use borrow.Author.Tests.{not-true, not-false}
use Rattle.ring.proofs.Cutting.{stays, goes}
use Rattle.ring.proofs.Walked.{bounds}
use Rattle.ring.proofs.Ring.cut.Goals as goal

pub returns-then-not-room : goal.returns-then-not-room
returns-then-not-room c = stays _ _ _ _ c.fewest-room.ensures (not-true _ c.if-not-room.true)

pub overflow_add-self : goal.overflow_add-self
overflow_add-self c = omega (arith, (bounds c.args.self _ _ _ c.fewest-room.ensures).count, c)

pub returns : goal.returns
returns c = goes _ _ _ _ c.fewest-room.ensures (not-false _ c.if-not-room.false)
