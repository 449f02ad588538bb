-- `text_writing::write`: what the size answers, and then one of the outcomes of a writer, by the tests that led there. Assumes nothing.
use mathlib.Core.Path.{sym, ap, ◌∙◌}
use Prim.Native.Nat.{◌+◌}
use native.Mathlib.Omega.{arith}
use Rattle.answers.specs.Answer.{answered}
use Rattle.answers.proofs.Write.{writes_refused, writes_full, writes_next}
use Rattle.int_writing.proofs.Writers.{unsized}
use Rattle.text_writing.proofs.Laws.{TextOf, text_of, text_size_lem}
use Rattle.text_writing.proofs.write.Goals.{In_ok-n}
use Rattle.text_writing.proofs.write.Goals as goal

-- the bytes to write, and how many
text : (c : In_ok-n)
    → let a = c.args in
    TextOf a.width a.flags a.text.now c.in_ok-n.n
text c =
    let size = sym c.size.ensures ∙ ap answered c.in_ok-n.was in
    text_of c.args.width c.args.flags c.args.text.now (omega (arith, c.well_formed)) _ size

pub returns-then-buf-n : goal.returns-then-buf-n
returns-then-buf-n c = let t = text (goal.at.returns-then-buf-n c).In_ok-n in writes_full _ _ _ _ t.given (omega (arith, t.many))

pub returns-then-buf-n-2 : goal.returns-then-buf-n-2
returns-then-buf-n-2 c = let t = text (goal.at.returns-then-buf-n-2 c).In_ok-n in writes_full _ _ _ _ t.given (omega (arith, t.many))

pub store-requires : goal.store-requires
store-requires c = let t = text (goal.at.store-requires c).In_ok-n in (t.good, omega (arith, t.many))

pub returns : goal.returns
returns c =
    let t = text (goal.at.returns c).In_ok-n in
    let a = c.args in
    writes_next _ _ _ _ t.given _ _ (omega (arith, t.many)) (ap (◌+◌ a.at) (sym t.many)) c.store.ensures
