-- `instructions::read_duplicate`: what its reader found, as a duplicate. Assumes nothing.
use mathlib.Core.Path.{sym, ap, ◌∙◌}
use Rattle.std.specs.Prelude.{Ok}
use Rattle.answers.specs.Answer.{answered_or_cut}
use Rattle.forms.specs.declared.EncoderInstruction.TheVariants.{Duplicate}
use Rattle.forms.specs.declared.Kind.TheVariants.{Encoder}
use Rattle.stream.proofs.Found.{integer_behind}
use Rattle.instructions.specs.Instruction.{of_kind}
use Rattle.instructions.proofs.read_duplicate.Goals as goal

pub returns : goal.returns
unfolding of_kind
returns c =
    let a = c.args in
    let h = sym c.read_integer.ensures ∙ ap answered_or_cut (c.in_ok-index.was ∙ ap Ok c.in-Some.is) in
    let f = integer_behind a.s.now a.at (Encoder Duplicate) _ h in
    (rw h, (tt, f.past, f.within))
