-- `line_entries::live_entry`: where the strings of the entry at a position stand in the arena. Assumes nothing.
use Rattle.line_entries.proofs.Laws.{live_field}
use Rattle.line_entries.proofs.live_entry.Goals as goal

pub returns-clause-by_index : goal.returns-clause-by_index
returns-clause-by_index c = λ a. rw (live_field c.args.ring.now a c.args.position c.requires, c.from-start.ensures, c.from-name.ensures, c.from-value.ensures)
