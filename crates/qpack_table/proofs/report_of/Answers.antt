-- `qpack_table::report_of`: the heading, the counts, the entries and the last line. Assumes nothing.
use mathlib.Core.Path.{ap, ◌∙◌}
use mathlib.Core.List.{List, ◌++◌}
use Prim.Native.Nat.{ℕ}
use Rattle.ring.specs.Ring.{live}
use Rattle.qpack_table.specs.Text.{heading, newline, counts, entry_lines, ending, report_of}
use Rattle.qpack_table.proofs.report_of.Goals as goal

pub returns : goal.returns
unfolding report_of
returns c =
    let z = c.args in
    let r = z.ring.now in
    let lines = entry_lines r.dropped (live r) in
    c.put_ending.ensures.text
    ∙ ap (λ (t : List ℕ). t ++ ending z.consumed z.reply)
    (c.put_entries.ensures.text
    ∙ ap (λ (t : List ℕ). t ++ lines)
    (c.put_counts.ensures.text
    ∙ ap (λ (t : List ℕ). t ++ counts r) (c.push_str.ensures.bytes ∙ ap (λ (t : List ℕ). t ++ (heading ++ newline)) c.requires.1)))
