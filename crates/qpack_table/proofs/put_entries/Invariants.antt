-- `qpack_table::put_entries`. The invariant: the lines that are left give what all of them give. Assumes nothing.
use Rattle.qpack_table.proofs.Listing.{Listed}
use Rattle.qpack_table.proofs.put_entries.Given as goal

abbrev pub invariant-loop-gone : goal.invariant-loop-gone
invariant-loop-gone l = Listed l.ring l.initial.out.bytes l.out.bytes l.gone
