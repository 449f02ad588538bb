-- `qpack_table::main`: a fresh table keeps its rules, and so does the one after the stream. Assumes nothing.
use Rattle.qpack_table.proofs.Usable.{fresh_keeps}
use Rattle.qpack_table.proofs.main.Goals as goal

pub report_of-requires : goal.report_of-requires
report_of-requires c = (fresh_keeps c.fresh.ensures, c.new-report.ensures)
