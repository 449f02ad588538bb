-- `text_writing::call_ok`: the length's width is good, so one bit more can be counted. Assumes nothing.
use mathlib.Core.Path.{◌≡◌, sym, ◌∙◌}
use mathlib.Core.Bool.{true}
use native.Mathlib.Omega.{arith}
use borrow.Author.Tests.{not-true, not-false}
use Rattle.prefix_int.specs.Integer.{good_call}
use Rattle.int_writing.proofs.Writing.{call_good}
use Rattle.text_writing.proofs.call_ok.Lts
use Rattle.text_writing.proofs.call_ok.Reads
use Rattle.text_writing.proofs.call_ok.Tie
use Rattle.text_writing.proofs.call_ok.Goals as goal

abbrev Else-not-call_ok : Type 0
Else-not-call_ok = Lts.Else1 Tie.the-claims Reads.Pre Reads.Post

good : (c : Else-not-call_ok) → good_call c.args.width 0 ≡ true
good c = sym c.call_ok.ensures ∙ not-false _ c.if-not-call_ok.false-raw

pub returns-then-not-call_ok : goal.returns-then-not-call_ok
returns-then-not-call_ok c = simp (sym c.call_ok.ensures ∙ not-true _ c.if-not-call_ok.true-raw)

pub overflow_add-width : goal.overflow_add-width
overflow_add-width c = omega (arith, (call_good c.args.width 0 (good c)).high)

pub returns : goal.returns
returns c = simp (good c.before, c.call_ok-2.ensures)
