-- `field_lines::read_static`: the field of the line that was read, with an entry of the static table. Assumes nothing.
use mathlib.Core.Path.{◌≡◌, sym, ap, ◌∙◌}
use borrow.Author.Tests.{lt-leb}
use Rattle.std.specs.Prelude.{Ok}
use Rattle.std.proofs.Common.{rules}
use Rattle.block.specs.Lines.{line_at, line_read}
use Rattle.field_lines.specs.Line.{entry_static, is_post_base, line_static}
use Rattle.field_lines.proofs.Laws.{line_field, line_inside}
use Rattle.field_lines.proofs.read_static.Goals as goal

pub returns-clause-field_inside : goal.returns-clause-field_inside
returns-clause-field_inside c =
    let z = c.args in
    let e : line_read (Ok c.in_ok-line.line) ≡ line_at z.s.now z.at = sym (ap line_read c.in_ok-line.was) ∙ c.read_line.ensures in
    line_inside (λ a. entry_static) _ (λ r x p. search rules) z.s.now z.at c.in_ok-line.line c.field_of.result e c.field_of.ensures

pub returns-clause-by_index : goal.returns-clause-by_index
unfolding line_static
returns-clause-by_index c =
    let z = c.args in
    let e : line_read (Ok c.in_ok-line.line) ≡ line_at z.s.now z.at = sym (ap line_read c.in_ok-line.was) ∙ c.read_line.ensures in
    let kind = sym (c.is_post_base.ensures ∙ ap is_post_base c.line_kind.ensures) ∙ c.if-is_post_base.false in
    λ a. rw (lt-leb _ _ c.if-s-at.false, kind, ← e)
    (line_field (λ a. entry_static) _ (λ r x p. search rules) z.s.now a c.in_ok-line.line c.field_of.result c.field_of.ensures)
