-- `qpack_table::run`: a fresh table keeps its rules, and a call on it keeps them. Assumes nothing.
use native.Mathlib.Omega.{arith}
use Rattle.qpack_table.proofs.Usable.{received_keeps}
use Rattle.qpack_table.proofs.run.Goals as goal

pub returns : goal.returns
returns c =
    received_keeps c.fresh.ensures c.on_encoder_recv.ensures (omega arith)
