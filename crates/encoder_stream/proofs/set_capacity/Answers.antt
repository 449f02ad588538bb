-- `encoder_stream::set_capacity`: a capacity that no table has, a cut that a reference blocks, or the cut. Assumes nothing.
use mathlib.Core.Path.{◌≡◌, refl, sym, ap, ◌∙◌}
use mathlib.Core.Option.{none}
use borrow.Author.Rules.{rules}
use Rattle.std.specs.Prelude.{Err, Some, None}
use Rattle.dynamic.specs.Calls.{tested, capacity_answer}
use Rattle.dynamic.proofs.Steps.{or_ok, or_err}
use Rattle.ring.specs.Ring.{was_cut}
use Rattle.encoder_stream.proofs.Applying.{capacity_kept, capacity_blocked, capacity_set}
use Rattle.encoder_stream.proofs.set_capacity.Goals.{In_ok-capacity_test}
use Rattle.encoder_stream.proofs.set_capacity.Goals as goal

within : (c : In_ok-capacity_test) → capacity_answer c.args.capacity ≡ none
within c = sym c.capacity_test.ensures ∙ ap tested c.in_ok-capacity_test.was

pub returns-in_err-capacity_test : goal.returns-in_err-capacity_test
returns-in_err-capacity_test c a =
    let z = c.args in
    let e : c.from_residual.result ≡ Err c.in_err-capacity_test.field-0.0 = search rules in
    rw e (capacity_kept z.low z.ring.now a z.capacity _ (sym c.capacity_test.ensures ∙ ap tested c.in_err-capacity_test.was))

pub returns-in_err-cut : goal.returns-in_err-cut
returns-in_err-cut c a =
    let z = c.args in
    let e : c.from_residual-in_err-cut.result ≡ Err c.in_err-cut.field-0.0 = search rules in
    let gone = or_err _ _ _ c.ok_or.ensures.value _ c.in_err-cut.was in
    rw (e, gone.1) (capacity_blocked z.low z.ring.now a z.capacity (was_cut z.ring.now None)
    (ap (was_cut z.ring.now) (sym gone.0) ∙ c.cut.ensures) (within (goal.at.returns-in_err-cut c).In_ok-capacity_test) refl)

pub returns : goal.returns
returns c a =
    let z = c.args in
    let made = or_ok _ _ _ c.ok_or.ensures.value _ c.in_ok-cut.was in
    capacity_set z.low z.ring.now a z.capacity (was_cut z.ring.now (Some c.in_ok-cut.cut))
    (ap (was_cut z.ring.now) (sym made) ∙ c.cut.ensures) (within (goal.at.returns c).In_ok-capacity_test) refl
