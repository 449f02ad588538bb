-- `tracking::section_floor`: the loop keeps `Walking`. Assumes nothing.
use mathlib.Core.Path.{refl, sym, ◌∙◌}
use Rattle.tracking.specs.Uses.{no_held}
use Rattle.tracking.proofs.Flooring.{fails, passes, lowered, many_uses, a_dead_use, live_uses}
use Rattle.tracking.proofs.section_floor.Goals as goal

pub returns-then-section-gt-SECTION_ENTRIES : goal.returns-then-section-gt-SECTION_ENTRIES
returns-then-section-gt-SECTION_ENTRIES c = many_uses _ _ _ _ c.if-section-gt-SECTION_ENTRIES.true

pub returns-then-not-is_live : goal.returns-then-not-is_live
returns-then-not-is_live c =
    let dead = sym c.is_live.ensures ∙ c.if-not-is_live.true in
    a_dead_use _ _ _ _ (fails _ _ _ _ _ _ c.loop-held.invariant no_held c.loop-held-test.true (λ m. rw dead))

pub returns : goal.returns
returns c =
    let w = c.loop-held.invariant in
    let end = c.loop-held-test.false in
    live_uses _ _ _ _ _ c.if-section-gt-SECTION_ENTRIES.false (passes _ _ _ _ _ _ w end refl) (lowered _ _ _ _ _ _ w end refl)
