-- `static_table::find`: the search from here on gives what the whole one gives. Assumes nothing.
use mathlib.Core.Path.{◌≡◌}
use lib.ListN.{drop}
use Rattle.field.specs.Field.{equal}
use Rattle.static_table.specs.AppendixA.{appendix_a}
use Rattle.static_table.specs.Static.{lowest, lowest_field}
use Rattle.static_table.proofs.find.Given as goal

abbrev pub invariant-loop-index : goal.invariant-loop-index
invariant-loop-index l = lowest (equal (record { name = l.name; value = l.value })) l.index (drop l.index appendix_a) ≡ lowest_field l.name l.value
