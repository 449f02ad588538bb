-- `entries::Slots::walk`: the loop keeps `Walking`, and at its end the head and the size are left to compare. Assumes nothing.
use mathlib.Core.Path.{◌≡◌, sym, ◌∙◌}
use mathlib.Core.Bool.{◌&&◌}
use lib.Dec.{eqb}
use borrow.Author.Tests.{eq-eqb, ne_eqb}
use Rattle.entries.specs.Entry.{entries_of}
use Rattle.entries.specs.Rules.{in_order}
use Rattle.entries.proofs.Between.{length_between, between_next}
use Rattle.entries.proofs.Walking.{start, off, step, done}
use Rattle.entries.proofs.Slots.walk.Goals.{After-loop-k}
use Rattle.entries.proofs.Slots.walk.Goals as goal

-- after the loop the end of the last bytes and the sum decide
passed : (c : After-loop-k)
    → let g = c.args in
    in_order (entries_of g.self g.dropped g.inserted) g.size g.tail g.head ≡ (eqb c.loop-k.p g.head && eqb c.loop-k.sum g.size)
passed c = done _ _ _ _ _ c.loop-k.invariant _ _ (rw length_between c.loop-k-test.false)

pub loop-k-init : goal.loop-k-init
loop-k-init c = start _ _ c.requires.2

pub returns-then-from-p : goal.returns-then-from-p
returns-then-from-p c =
    let next = between_next _ _ _ _ _ _ c.loop-k-test.true in
    sym (rw (off _ _ _ _ _ c.loop-k.invariant _ next _ c.from.ensures c.if-from-p.true))

pub loop-k-preserved : goal.loop-k-preserved
loop-k-preserved c =
    step _ _ _ _ _ c.loop-k.invariant _ (between_next _ _ _ _ _ _ c.loop-k-test.true) _ _
    c.from.ensures
    c.if-from-p.false
    c.bytes_at-len.ensures.0
    c.bytes_at-len.ensures.1

pub returns-then-p-head : goal.returns-then-p-head
returns-then-p-head c = sym (passed (goal.at.returns-then-p-head c).After-loop-k ∙ rw (ne_eqb _ _ c.if-p-head.true))

pub returns : goal.returns
returns c = sym (passed (goal.at.returns c).After-loop-k ∙ rw (eq-eqb _ _ c.if-p-head.false))
