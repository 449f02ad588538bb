-- `shape_writing::int_size`: a bad call is refused first; then the flags do not matter. Assumes nothing.
use mathlib.Core.Path.{sym, ◌∙◌}
use borrow.Author.Tests.{not-true, not-false}
use Rattle.int_writing.proofs.Writing.{bytes_bad}
use Rattle.shape_writing.proofs.Laws.{size_flags}
use Rattle.shape_writing.proofs.int_size.Goals as goal

pub returns-then-not-call_ok : goal.returns-then-not-call_ok
returns-then-not-call_ok c =
    let a = c.args in
    rw (bytes_bad a.width a.flags a.index (sym c.call_ok.ensures ∙ not-true _ c.if-not-call_ok.true-raw))

pub returns : goal.returns
returns c =
    let a = c.args in
    c.size.ensures
    ∙ size_flags a.width a.flags a.index (sym c.call_ok.ensures ∙ not-false _ c.if-not-call_ok.false-raw)
