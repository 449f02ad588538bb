-- `decoder::section_without`: each turn stores a field, or ends the section. Assumes nothing.
use mathlib.Core.Path.{refl, sym, ◌∙◌}
use Prim.Native.Nat.{◌<◌}
use native.Mathlib.Omega.{arith}
use lib.ListN.{length, length-set}
use borrow.Author.Rules.{rules}
use Rattle.decoder.specs.Section.{stateless}
use Rattle.decoder.proofs.Turns.{first, told_ended, told_within, told_moves, told_next}
use Rattle.decoder.proofs.section_without.Goals as goal

pub loop-reply-init : goal.loop-reply-init
loop-reply-init g c =
    let a = c.args in
    (record { turn = first g.R.Record.make (stateless a.max.bytes) a.s.now a.fields.now a.out.now; is_c = sym c.begin-c.ensures; is_fs = refl; is_os = refl; is_room = refl }, refl, refl)

pub returns-in-Ended : goal.returns-in-Ended
returns-in-Ended g c =
    let n = c.next_stateless in
    rw c.decoded.ensures (told_ended c.loop-reply.invariant.0 n.result _ n.ensures.0 n.ensures.1 _ _ c.in-Ended.is)

pub bounds-fields-c : goal.bounds-fields-c
bounds-fields-c g c =
    let n = c.next_stateless in
    told_within c.loop-reply.invariant.0 n.result _ n.ensures.0 n.ensures.1 _ _ c.in-Found.is

pub offset_bounds-fields-c : goal.offset_bounds-fields-c
offset_bounds-fields-c g c =
    let n = c.next_stateless in
    let within : c.loop-reply.c.count < length c.loop-reply.fields = told_within c.loop-reply.invariant.0 n.result _ n.ensures.0 n.ensures.1 _ _ c.in-Found.is in
    search rules

pub loop-reply-smaller : goal.loop-reply-smaller
loop-reply-smaller g c =
    let n = c.next_stateless in
    let m = told_moves c.loop-reply.invariant.0 n.result _ n.ensures.0 n.ensures.1 _ _ c.in-Found.is in
    omega (arith, m.0, m.1)

pub loop-reply-preserved : goal.loop-reply-preserved
loop-reply-preserved g c =
    let n = c.next_stateless in
    let kept = n.auto.out in (
      rw c.of.ensures (told_next c.loop-reply.invariant.0 n.result _ n.ensures.0 n.ensures.1 _ _ c.in-Found.is kept),
      simp length-set c.loop-reply.invariant.1,
      kept ∙ c.loop-reply.invariant.2,
    )
