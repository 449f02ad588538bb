-- `entries::Slots::check`: each number that is out of range is refused; `walk` tells the rest. Assumes nothing.
use mathlib.Core.Path.{sym, ◌∙◌}
use borrow.Author.Tests.{le-leb, lt-leb, le-ltb}
use Rattle.entries.specs.Rules.{keeps_rules}
use Rattle.entries.proofs.Rules.{tested}
use Rattle.entries.proofs.Slots.check.Goals as goal

pub returns-then-inserted-dropped : goal.returns-then-inserted-dropped
unfolding keeps_rules
returns-then-inserted-dropped c = simp (lt-leb _ _ c.if-inserted-dropped.true)

pub returns-then-inserted-dropped-gt-SLOTS : goal.returns-then-inserted-dropped-gt-SLOTS
unfolding keeps_rules
returns-then-inserted-dropped-gt-SLOTS c = simp (le-leb _ _ c.if-inserted-dropped.false, lt-leb _ _ c.if-inserted-dropped-gt-SLOTS.true)

pub returns-then-capacity-gt-RING : goal.returns-then-capacity-gt-RING
unfolding keeps_rules
returns-then-capacity-gt-RING c =
    let e2 = c.before in
    simp (le-leb _ _ e2.if-inserted-dropped.false, le-leb _ _ e2.if-inserted-dropped-gt-SLOTS.false, lt-leb _ _ c.if-capacity-gt-RING.true)

pub returns-then-capacity-size : goal.returns-then-capacity-size
unfolding keeps_rules
returns-then-capacity-size c =
    let e3 = c.before in
    let e2 = e3.before in
    simp (le-leb _ _ e2.if-inserted-dropped.false, le-leb _ _ e2.if-inserted-dropped-gt-SLOTS.false, le-leb _ _ e3.if-capacity-gt-RING.false, lt-leb _ _ c.if-capacity-size.true)

pub returns-then-tail-ge-RING : goal.returns-then-tail-ge-RING
unfolding keeps_rules
returns-then-tail-ge-RING c =
    let e4 = c.before in
    let e3 = e4.before in
    let e2 = e3.before in
    simp (
      le-leb _ _ e2.if-inserted-dropped.false,
      le-leb _ _ e2.if-inserted-dropped-gt-SLOTS.false,
      le-leb _ _ e3.if-capacity-gt-RING.false,
      le-leb _ _ e4.if-capacity-size.false,
      le-ltb _ _ c.if-tail-ge-RING.true,
    )

pub returns : goal.returns
returns c =
    let e5 = c.before in
    let e4 = e5.before in
    let e3 = e4.before in
    let e2 = e3.before in
    c.walk.ensures
    ∙ sym (tested _ _ _ _ _ _ _ e2.if-inserted-dropped.false e2.if-inserted-dropped-gt-SLOTS.false e3.if-capacity-gt-RING.false e4.if-capacity-size.false e5.if-tail-ge-RING.false)
