-- `forms::form_of`: the row of the constant table is the form of the kind. Assumes nothing.
use mathlib.Core.Path.{ap, ◌∙◌}
use Rattle.forms.proofs.Table.{form_in, tabled}
use Rattle.forms.proofs.form_of.Goals as goal

pub returns : goal.returns
returns c = ap form_in c.row-at.ensures.0 ∙ tabled c.args.kind
