-- `prefix_string::plain_at`: a length that was read ends inside the bytes. Assumes nothing.
use mathlib.Core.Path.{◌≡◌, sym, ap, ◌∙◌}
use Rattle.answers.specs.Answer.{answered, done}
use Rattle.prefix_int.specs.Integer.{int_at}
use Rattle.prefix_int.proofs.Bounds.{found}
use Rattle.prefix_string.proofs.plain_at.Goals as goal

pub overflow_sub-room : goal.overflow_sub-room
overflow_sub-room c =
    let a = c.args in
    let got : int_at a.s.now a.at a.width ≡ done c.in_ok-length.length = sym c.read.ensures ∙ ap answered c.in_ok-length.was in
    (found a.s.now a.at a.width _ got).within
