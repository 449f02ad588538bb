-- `instructions::read_name_ref`: what its reader found, as an insert with a name reference. Assumes nothing.
use mathlib.Core.Path.{sym, ap, ◌∙◌}
use Rattle.std.specs.Prelude.{Ok}
use Rattle.answers.specs.Answer.{answered_or_cut}
use Rattle.stream.proofs.Found.{name_ref_found}
use Rattle.instructions.specs.Instruction.{of_kind}
use Rattle.instructions.proofs.read_name_ref.Goals as goal

pub returns : goal.returns
unfolding of_kind
returns c =
    let a = c.args in
    let h = sym c.read_name_ref.ensures ∙ ap answered_or_cut (c.in_ok-reference.was ∙ ap Ok c.in-Some.is) in
    let f = name_ref_found a.s.now a.at _ h in
    (rw h, (f.value, f.behind.past, f.behind.within))
