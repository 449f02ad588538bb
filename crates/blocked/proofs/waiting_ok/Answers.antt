-- `blocked::waiting_ok`: two bounds, then what is left of `keeps_count`. Assumes nothing.
use mathlib.Core.Path.{sym, ◌∙◌}
use Rattle.blocked.proofs.Counting.{many_values, many_sections, keeps_sum}
use Rattle.blocked.proofs.waiting_ok.Goals as goal

pub returns-then-waiting-gt-BLOCKED_VALUES : goal.returns-then-waiting-gt-BLOCKED_VALUES
returns-then-waiting-gt-BLOCKED_VALUES c = sym (many_values _ c.if-waiting-gt-BLOCKED_VALUES.true)

pub returns-then-waiting-gt-BLOCKED_SECTIONS : goal.returns-then-waiting-gt-BLOCKED_SECTIONS
returns-then-waiting-gt-BLOCKED_SECTIONS c = sym (many_sections _ c.if-waiting-gt-BLOCKED_SECTIONS.true)

pub returns : goal.returns
returns c = c.sums.ensures ∙ sym (keeps_sum _ c.if-waiting-gt-BLOCKED_VALUES.false c.if-waiting-gt-BLOCKED_SECTIONS.false)
