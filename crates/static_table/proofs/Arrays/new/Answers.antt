-- `static_table::Arrays::new`: with Appendix A open, each array is computed and compared whole. Assumes nothing.
use mathlib.Core.Path.{refl}
use Rattle.static_table.specs.AppendixA.{appendix_a}
use Rattle.static_table.proofs.Arrays.new.Goals as goal

pub invariant_of-result : goal.invariant_of-result
unfolding appendix_a
invariant_of-result c = record { bytes_laid = refl; starts_laid = refl; names_laid = refl; values_laid = refl }
