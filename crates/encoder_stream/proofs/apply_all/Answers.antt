-- `encoder_stream::apply_all`: each turn applies an instruction, or ends the call at it. Assumes nothing.
use mathlib.Core.Path.{◌≡◌, refl, sym, ap, ◌∙◌}
use mathlib.Core.Option.{some}
use Prim.Native.Nat.{◌<◌, ◌≤◌}
use native.Mathlib.Omega.{arith}
use lib.ListN.{length}
use Rattle.std.specs.Prelude.{Ok}
use Rattle.answers.specs.Answer.{done}
use Rattle.instructions.specs.Instruction.{Instruction, parsed, instruction_at, instruction_read, Inside}
use Rattle.running.specs.Run.{Whole}
use Rattle.encoder_stream.specs.Entries.{holding}
use Rattle.encoder_stream.proofs.Turns.{whole_within, going, ends_over, ends_cut, ends_bad, ends_refused, goes_on}
use Rattle.encoder_stream.proofs.apply_all.Goals.{In-Ok-Some}
use Rattle.encoder_stream.proofs.apply_all.Goals as goal

pub loop-at-init : goal.loop-at-init
loop-at-init c = let a = c.args in (going a.low a.s.now (holding a.ring.now a.arena.now), refl)

-- an instruction was read
abbrev whole_read : In-Ok-Some → Whole Instruction
whole_read c = record { instruction = parsed c.args.s.now c.in-Ok-Some.read.instruction; next = c.in-Ok-Some.read.next }

-- it lies in the slice
whole_lies : (c : In-Ok-Some)
    → Inside (length c.args.s.now) c.in-Ok-Some.read.instruction
    × (c.loop-at.at < c.in-Ok-Some.read.next)
    × (c.in-Ok-Some.read.next ≤ length c.args.s.now)
whole_lies c = whole_within _ _ _ c.in-Ok-Some.read (c.in-Ok-Some.is ∙ ap Ok c.in-Ok-Some.field-0-is) c.read_instruction.ensures.1

whole_is : (c : In-Ok-Some) → instruction_at c.args.s.now c.loop-at.at ≡ done (some (whole_read c))
whole_is c =
    sym c.read_instruction.ensures.0 ∙ ap (instruction_read c.args.s.now) (c.in-Ok-Some.is ∙ ap Ok c.in-Ok-Some.field-0-is)

pub returns-in-Ok-None : goal.returns-in-Ok-None
returns-in-Ok-None c =
    let s = c.args.s.now in
    rw c.ended-in-Ok-None.ensures
    (ends_cut c.loop-at.invariant.0 c.loop-at-test.true
    (sym c.read_instruction.ensures.0 ∙ ap (instruction_read s) (c.in-Ok-None.is ∙ ap Ok c.in-Ok-None.field-0-is)))

pub returns-in-Err : goal.returns-in-Err
returns-in-Err c =
    rw c.ended-in-Err.ensures
    (ends_bad c.loop-at.invariant.0 c.loop-at-test.true _
    (sym c.read_instruction.ensures.0 ∙ ap (instruction_read c.args.s.now) c.in-Err.is))

pub apply-requires : goal.apply-requires
apply-requires c = (whole_lies (goal.at.apply-requires c).In-Ok-Some).0

pub returns-in-Err-apply : goal.returns-in-Err-apply
returns-in-Err-apply c =
    let w = (goal.at.returns-in-Err-apply c).In-Ok-Some in
    rw c.ended.ensures
    (ends_refused c.loop-at.invariant.0 c.loop-at-test.true (whole_read w) (whole_is w) _ _ _ c.apply.ensures _ c.in-Err-apply.is)

pub loop-at-smaller : goal.loop-at-smaller
loop-at-smaller c =
    omega (arith, whole_lies (goal.at.loop-at-smaller c).In-Ok-Some, c.loop-at-test.true)

pub loop-at-preserved : goal.loop-at-preserved
loop-at-preserved c =
    let w = (goal.at.loop-at-preserved c).In-Ok-Some in (
      goes_on c.loop-at.invariant.0 c.loop-at-test.true (whole_read w) (whole_is w) _ _ _ c.apply.ensures c.in_default.is (whole_lies w).1,
      c.apply.auto.arena ∙ c.loop-at.invariant.1,
    )

pub returns : goal.returns
returns c = rw c.ended-2.ensures (ends_over c.loop-at.invariant.0 c.loop-at-test.false)
