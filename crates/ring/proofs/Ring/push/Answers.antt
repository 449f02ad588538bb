-- `ring::Ring::push`: the plan says whether it is made; `place` writes the arena, and the stores make the next ring. Assumes nothing.
use mathlib.Core.Path.{sym, ◌∙◌}
use Rattle.ring.specs.Plan.{Readies}
use Rattle.ring.specs.Ring.{placed_bytes}
use Rattle.ring.proofs.Ring.push.Goals as goal

pub returns-in-Ok : goal.returns-in-Ok
unfolding placed_bytes
returns-in-Ok c =
    let z = c.args in
    let w : Readies z.self z.arena.now z.low z.source z.name.now z.value.now c.in-Ok.e c.in-Ok.m = c.in-Ok.ensures in
    record { next = sym w.answer; bytes = c.place.ensures ∙ rw w.entry }
