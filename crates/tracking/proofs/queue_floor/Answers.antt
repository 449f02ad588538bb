-- `tracking::queue_floor`: the loop keeps `Walking`. Assumes nothing.
use mathlib.Core.Path.{refl}
use Rattle.tracking.proofs.Flooring.{one, fails, passes, lowered, dies, lives, lowers, past_end, many_sections, a_dead_section, live_sections}
use Rattle.tracking.proofs.queue_floor.Goals as goal

pub returns-then-queue-gt-QUEUE_PLACES : goal.returns-then-queue-gt-QUEUE_PLACES
returns-then-queue-gt-QUEUE_PLACES c = many_sections _ _ _ _ c.if-queue-gt-QUEUE_PLACES.true

pub returns-in_err-least : goal.returns-in_err-least
returns-in_err-least c =
    let dead = dies _ _ _ _ _ c.section_floor.ensures c.in_err-least.was in
    rw c.from_residual.ensures
    (a_dead_section _ _ _ _ (fails _ _ _ _ _ _ c.loop-section.invariant past_end c.loop-section-test.true (λ m. rw dead)))

pub loop-section-preserved : goal.loop-section-preserved
loop-section-preserved c =
    let live = lives _ _ _ _ _ c.section_floor.ensures _ c.in_ok-least.was in
    let low = lowers _ _ _ _ _ c.section_floor.ensures _ c.in_ok-least.was in
    one _ _ _ _ _ _ c.loop-section.invariant past_end _ c.loop-section-test.true (λ m. rw live) (λ m. rw low)

pub returns : goal.returns
returns c =
    let w = c.loop-section.invariant in
    let end = c.loop-section-test.false in
    live_sections _ _ _ _ _ c.if-queue-gt-QUEUE_PLACES.false (passes _ _ _ _ _ _ w end refl) (lowered _ _ _ _ _ _ w end refl)
