-- `decoder_stream::apply`: an increment past the largest count, or one that counts. Assumes nothing.
use native.Mathlib.Omega.{arith}
use Rattle.dynamic.proofs.Reports.{increment_past, increment_done}
use Rattle.dynamic.proofs.Sound.{facts}
use Rattle.decoder_stream.proofs.apply.Goals as goal

pub overflow_sub-known : goal.overflow_sub-known
overflow_sub-known c = (facts c.args.table.now c.requires.0).known

pub returns-then-known-inserts : goal.returns-then-known-inserts
returns-then-known-inserts c =
    let known = (facts c.args.table.now c.requires.0).known in
    rw c.in-Increment.is (increment_past c.args.table.now _ c.requires.0 c.requires.1 (omega (arith, known, c.if-known-inserts.true)))

pub returns-else-known-inserts : goal.returns-else-known-inserts
returns-else-known-inserts c =
    let known = (facts c.args.table.now c.requires.0).known in
    rw (c.in-Increment.is, c.let_go-table.ensures)
    (increment_done c.args.table.now _ c.requires.0 c.requires.1 (omega (arith, known, c.if-known-inserts.false)))
