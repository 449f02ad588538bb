-- `int_writing::call_ok`: each return rewrites with the tests that led there. Assumes nothing.
use borrow.Author.Tests.{lt-ltb, le-ltb}
use Rattle.int_writing.proofs.call_ok.Goals as goal

pub returns-then-width-lt1 : goal.returns-then-width-lt1
returns-then-width-lt1 c = simp (lt-ltb _ _ c.if-width-lt1.true)

pub returns-then-width-gt8 : goal.returns-then-width-gt8
returns-then-width-gt8 c = simp (le-ltb _ _ c.if-width-lt1.false, lt-ltb _ _ c.if-width-gt8.true)

pub returns : goal.returns
returns c =
    let d = c.before in
    simp (le-ltb _ _ d.if-width-lt1.false, le-ltb _ _ d.if-width-gt8.false, c.power.ensures.0)
