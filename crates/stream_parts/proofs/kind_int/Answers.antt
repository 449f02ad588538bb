-- `stream_parts::kind_int`: an integer that was read starts inside the bytes. Assumes nothing.
use mathlib.Core.Path.{◌≡◌, sym, ap, ◌∙◌}
use native.Mathlib.Omega.{arith}
use Rattle.answers.specs.Answer.{answered, done}
use Rattle.forms.specs.Forms.{form_of}
use Rattle.prefix_int.specs.Integer.{int_at}
use Rattle.prefix_int.proofs.Bounds.{found}
use Rattle.stream_parts.proofs.kind_int.Goals as goal

pub bounds-s-at : goal.bounds-s-at
bounds-s-at c =
    let a = c.args in
    let got : int_at a.s.now a.at c.form_of-form.result.width ≡ done c.in_ok-integer.integer = sym c.read.ensures ∙ ap answered c.in_ok-integer.was in
    let f = found a.s.now a.at c.form_of-form.result.width _ got in
    omega (arith, f.past, f.within)
