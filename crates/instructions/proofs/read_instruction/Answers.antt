-- `instructions::read_instruction`: past the last byte every instruction is cut. Assumes nothing.
use Rattle.forms.specs.declared.EncoderInstruction.TheVariants.{Duplicate}
use Rattle.forms.specs.declared.Kind.TheVariants.{Encoder}
use Rattle.stream.proofs.Found.{past_end, integer_over}
use Rattle.instructions.specs.Instruction.{of_kind, instruction_at}
use Rattle.instructions.proofs.read_instruction.Goals as goal

pub returns-then-s-at : goal.returns-then-s-at
unfolding instruction_at of_kind
returns-then-s-at c =
    let a = c.args in
    (rw (past_end a.s.now a.at c.if-s-at.true, integer_over a.s.now a.at (Encoder Duplicate) c.if-s-at.true), tt)
