-- `static_table::find_name`: the search from here on gives what the whole one gives. Assumes nothing.
use mathlib.Core.Path.{◌≡◌}
use lib.ListN.{drop}
use Rattle.field.specs.Field.{same}
use Rattle.static_table.specs.AppendixA.{appendix_a}
use Rattle.static_table.specs.Static.{lowest, lowest_name}
use Rattle.static_table.proofs.find_name.Given as goal

abbrev pub invariant-loop-index : goal.invariant-loop-index
invariant-loop-index l = lowest (λ f. same l.name f.name) l.index (drop l.index appendix_a) ≡ lowest_name l.name
