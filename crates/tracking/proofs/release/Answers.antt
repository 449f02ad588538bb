-- `tracking::release`: refusals by the cases of `releasing`; the loop and one store close the places up. Assumes nothing.
use mathlib.Core.Path.{◌≡◌, refl, sym, ◌∙◌}
use Prim.Native.Nat.{◌+◌, ◌-◌, ◌<◌}
use native.Mathlib.Omega.{arith}
use lib.ListN.{take, drop}
use Rattle.std.proofs.lemmas.List.{length-take, length-drop}
use Rattle.std.proofs.lemmas.List.Edits.{paste_more}
use Rattle.blocked.proofs.Searching.{found, absent}
use Rattle.tracking.specs.declared.Section.{Section}
use Rattle.tracking.specs.Queue.{no_section}
use Rattle.tracking.proofs.Moving.{closes, too_long, nothing, released}
use Rattle.tracking.proofs.release.Goals as goal

pub returns-then-queue-gt-QUEUE_PLACES : goal.returns-then-queue-gt-QUEUE_PLACES
returns-then-queue-gt-QUEUE_PLACES c = sym (too_long _ _ c.if-queue-gt-QUEUE_PLACES.true)

pub returns-in_err-i : goal.returns-in_err-i
returns-in_err-i c =
    let q = c.args.queue.now in
    let f = absent (λ (s : Section). s.stream) c.args.stream (take q.queued q.places) (sym c.oldest_of.ensures ∙ c.in_err-i.was) in
    rw c.from_residual.ensures (sym (nothing _ _ c.if-queue-gt-QUEUE_PLACES.false _ refl (omega (arith, f, length-take q.queued q.places))))

pub loop-k-preserved : goal.loop-k-preserved
loop-k-preserved c =
    let q = c.args.queue.now in
    let i = c.in_ok-i.i in
    let s = take (q.queued - (i + 1)) (drop (i + 1) q.places) in
    rw c.loop-k.invariant (paste_more q.places i s c.loop-k.k _ (omega (arith, c.loop-k-test.true, length-take {A = Section})) c.loop-k-test.true)

pub returns : goal.returns
returns c =
    let q = c.args.queue.now in
    let f = found (λ (s : Section). s.stream) c.args.stream (take q.queued q.places) _ (sym c.oldest_of.ensures ∙ c.in_ok-i.was) in
    let here : c.in_ok-i.i < q.queued = omega (arith, f.1, length-take q.queued q.places) in
    let whole : c.loop-k.k ≡ q.queued - (c.in_ok-i.i + 1) = omega (arith, c.loop-k-test.false, c.loop-k.auto.k-end, length-take {A = Section}, length-drop {A = Section}) in
    rw (c.loop-k.invariant, closes no_section q.places q.queued c.in_ok-i.i c.loop-k.k here (omega arith) whole)
    (sym (released _ _ c.if-queue-gt-QUEUE_PLACES.false _ f.0 here))
