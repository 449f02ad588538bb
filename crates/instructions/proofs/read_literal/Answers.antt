-- `instructions::read_literal`: what its reader found, as an insert with both strings. Assumes nothing.
use mathlib.Core.Path.{sym, ap, ◌∙◌}
use Rattle.std.specs.Prelude.{Ok}
use Rattle.answers.specs.Answer.{answered_or_cut}
use Rattle.stream.proofs.Found.{literal_found}
use Rattle.instructions.specs.Instruction.{of_kind}
use Rattle.instructions.proofs.read_literal.Goals as goal

pub returns : goal.returns
unfolding of_kind
returns c =
    let a = c.args in
    let h = sym c.read_literal.ensures ∙ ap answered_or_cut (c.in_ok-literal.was ∙ ap Ok c.in-Some.is) in
    let f = literal_found a.s.now a.at _ h in
    (rw h, ((f.name, f.value), f.behind.past, f.behind.within))
