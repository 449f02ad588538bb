-- `static_table::copy`: the bytes are the table's, so what is written is a stretch of it. Assumes nothing.
use mathlib.Core.Path.{refl}
use Rattle.static_table.specs.AppendixA.{appendix_a}
use Rattle.static_table.proofs.Copied.{copied}
use Rattle.static_table.proofs.copy.Goals as goal

pub returns : goal.returns
unfolding appendix_a
returns c = copied _ _ _ _ _ _ _ refl c.write.ensures
