-- `int_writing::size`: each return rewrites with the tests that led there. Assumes nothing.
use mathlib.Core.Path.{◌≡◌, sym, ap, ◌∙◌}
use mathlib.Core.Bool.{true}
use native.Mathlib.Omega.{arith}
use borrow.Author.Tests.{not-true, not-false}
use Rattle.answers.specs.Answer.{done}
use Rattle.int_writing.specs.Octets.{good_call}
use Rattle.int_writing.proofs.Writing.{call_good, bytes_bad, bytes_large, bytes_good}
use Rattle.int_writing.proofs.size.Lts
use Rattle.int_writing.proofs.size.Reads
use Rattle.int_writing.proofs.size.Tie
use Rattle.int_writing.proofs.size.Goals as goal

abbrev Else-not-call_ok : Type 0
Else-not-call_ok = Lts.Else1 Tie.the-claims Reads.Pre Reads.Post

good : (c : Else-not-call_ok) → good_call c.args.width 0 ≡ true
good c = sym c.call_ok.ensures ∙ not-false _ c.if-not-call_ok.false-raw

pub returns-then-not-call_ok : goal.returns-then-not-call_ok
returns-then-not-call_ok c =
    let a = c.args in
    rw (bytes_bad a.width 0 a.value (sym c.call_ok.ensures ∙ not-true _ c.if-not-call_ok.true-raw))

pub returns-then-value-ge-VALUE_LIMIT : goal.returns-then-value-ge-VALUE_LIMIT
returns-then-value-ge-VALUE_LIMIT c =
    let a = c.args in
    rw (bytes_large a.width 0 a.value (good c.before) c.if-value-ge-VALUE_LIMIT.true)

pub bytes_of-requires : goal.bytes_of-requires
bytes_of-requires c = ((call_good _ _ (good c.before)).high, omega arith)

pub returns : goal.returns
returns c =
    let a = c.args in
    rw (bytes_good a.width 0 a.value (good c.before.before) c.if-value-ge-VALUE_LIMIT.false) (ap done c.bytes_of.ensures.0)
