-- The proof of `Table::fresh`: nothing is in the table, and every slot is empty. Assumes nothing.
use mathlib.Core.Path.{refl}
use Rattle.dynamic.specs.Calls.{fresh_table}
use Rattle.dynamic.proofs.Table.fresh.Goals as goal

pub returns : goal.returns
unfolding fresh_table
returns c = refl
