-- `static_table::get`: the arrays are Appendix A's starts and lengths, which antt computes, so their elements are the entry's place. Assumes nothing.
use native.Mathlib.Omega.{arith}
use Rattle.static_table.specs.AppendixA.{appendix_a}
use Rattle.static_table.proofs.Table.{arrays, entry_done, entry_refused}
use Rattle.static_table.proofs.get.Goals as goal

pub returns-then-index : goal.returns-then-index
returns-then-index c = entry_refused c.args.index (omega arith)

pub returns : goal.returns
unfolding appendix_a
returns c =
    let i = c.args.index in
    entry_done arrays i _ _ (omega arith) c.from.ensures c.from-2.ensures _ c.from-3.ensures
