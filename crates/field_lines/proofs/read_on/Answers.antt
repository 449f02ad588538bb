-- `field_lines::read_on`: the field of the line that was read, with the entry found on the ring. Assumes nothing.
use mathlib.Core.Path.{◌≡◌, sym, ap, ◌∙◌}
use Rattle.std.specs.Prelude.{Ok}
use Rattle.std.proofs.Common.{rules}
use Rattle.block.specs.Lines.{line_at, line_read}
use Rattle.field_lines.specs.Line.{entry_on, live_of, line_on}
use Rattle.field_lines.proofs.Laws.{line_field, line_inside}
use Rattle.field_lines.proofs.read_on.Goals as goal

pub returns-clause-by_index : goal.returns-clause-by_index
unfolding line_on
returns-clause-by_index c =
    let z = c.args in
    let e : line_read (Ok c.in_ok-line.line) ≡ line_at z.s.now z.at = sym (ap line_read c.in_ok-line.was) ∙ c.read_line.ensures in
    λ a. rw (← e) (line_field (λ a. entry_on (live_of z.ring.now a) z.base) _ (λ r x p. search rules) z.s.now a c.in_ok-line.line c.field_of.result c.field_of.ensures)

pub returns-clause-field_inside : goal.returns-clause-field_inside
returns-clause-field_inside c =
    let z = c.args in
    let e : line_read (Ok c.in_ok-line.line) ≡ line_at z.s.now z.at = sym (ap line_read c.in_ok-line.was) ∙ c.read_line.ensures in
    line_inside (λ a. entry_on (live_of z.ring.now a) z.base) _ (λ r x p. search rules) z.s.now z.at c.in_ok-line.line c.field_of.result e c.field_of.ensures
