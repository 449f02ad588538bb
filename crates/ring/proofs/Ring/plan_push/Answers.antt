-- `ring::Ring::plan_push`: each test that refuses gives its answer; past them all the facts are there that the sums need. Assumes nothing.
use mathlib.Core.Path.{◌≡◌, sym, ap, ◌∙◌}
use Prim.Native.Nat.{ℕ, ◌≤◌}
use borrow.Author.Tests.{not-true, not-false, leb-true, leb-false}
use Rattle.entries.specs.Entry.{cost_of}
use Rattle.ring.specs.Plan.{entry_of}
use Rattle.ring.specs.Ring.{live_in, source_live}
use Rattle.ring.proofs.Planning.{Tested, bad_capacity, bad_head, bad_arena, bad_source, too_large, no_room, full, ready}
use Rattle.ring.proofs.Ring.plan_push.Goals.{After-is_live, Else-not-fits, Else-not-is_live}
use Rattle.ring.proofs.Ring.plan_push.Goals as goal

-- whether the source is live
told : (c : After-is_live) → c.is_live.result ≡ source_live c.args.self.now c.args.source
told c = c.is_live.ensures ∙ ap (λ (m : ℕ). live_in m c.args.source) c.saturating_sub.ensures

tested : (c : Else-not-is_live) → Tested c.args.self.now c.args.arena.now c.args.source
tested c =
    record {
      capacity = c.if-self-gt-RING.false;
      head = c.if-self-ge-RING.false;
      long = c.if-arena-lt-RING.false;
      live = sym (told (goal.at.Else-not-is_live c).After-is_live) ∙ c.if-not-is_live.false;
    }

within : (c : Else-not-fits) → cost_of (entry_of c.entry_from-e.result) ≤ c.args.self.now.capacity
within c = leb-true _ _ (sym c.fits.ensures ∙ c.if-not-fits.false)

pub returns-then-self-gt-RING : goal.returns-then-self-gt-RING
returns-then-self-gt-RING c = bad_capacity _ _ _ _ _ _ c.if-self-gt-RING.true

pub returns-then-self-ge-RING : goal.returns-then-self-ge-RING
returns-then-self-ge-RING c = bad_head _ _ _ _ _ _ c.if-self-gt-RING.false c.if-self-ge-RING.true

pub returns-then-arena-lt-RING : goal.returns-then-arena-lt-RING
returns-then-arena-lt-RING c = bad_arena _ _ _ _ _ _ c.if-self-gt-RING.false c.if-self-ge-RING.false c.if-arena-lt-RING.true

pub returns-then-not-is_live : goal.returns-then-not-is_live
returns-then-not-is_live c =
    bad_source _ _ _ _ _ _ c.if-self-gt-RING.false c.if-self-ge-RING.false c.if-arena-lt-RING.false
    (sym (told (goal.at.returns-then-not-is_live c).After-is_live) ∙ c.if-not-is_live.true)

pub returns-then-not-fits : goal.returns-then-not-fits
returns-then-not-fits c =
    too_large _ _ _ _ _ _ (tested (goal.at.returns-then-not-fits c).Else-not-is_live) _ c.entry_from-e.ensures
    (leb-false _ _ (sym c.fits.ensures ∙ c.if-not-fits.true))

pub returns-then-not-m : goal.returns-then-not-m
returns-then-not-m c =
    let at = goal.at.returns-then-not-m c in
    no_room _ _ _ _ _ _ (tested at.Else-not-is_live) _ c.entry_from-e.ensures (within at.Else-not-fits) _ c.fewest-m.ensures (not-true _ c.if-not-m.true)

pub returns-then-self-ge-LARGEST_COUNT : goal.returns-then-self-ge-LARGEST_COUNT
returns-then-self-ge-LARGEST_COUNT c =
    let at = goal.at.returns-then-self-ge-LARGEST_COUNT c in
    full _ _ _ _ _ _ (tested at.Else-not-is_live) _ c.entry_from-e.ensures (within at.Else-not-fits) _ c.fewest-m.ensures
    (not-false _ c.if-not-m.false)
    c.if-self-ge-LARGEST_COUNT.true

pub returns : goal.returns
returns c =
    let at = goal.at.returns c in
    ready _ _ _ _ _ _ (tested at.Else-not-is_live) _ c.entry_from-e.ensures (within at.Else-not-fits) _ c.fewest-m.ensures
    (not-false _ c.if-not-m.false)
    c.if-self-ge-LARGEST_COUNT.false
