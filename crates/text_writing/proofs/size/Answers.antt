-- `text_writing::size`: the length's size and the bytes have a sum that fits. Assumes nothing.
use mathlib.Core.Path.{◌≡◌, sym, ap, ◌∙◌}
use native.Mathlib.Omega.{arith}
use Rattle.answers.specs.Answer.{answered, done}
use Rattle.prefix_int.specs.Integer.{size_of}
use Rattle.prefix_int.proofs.Bounds.{encode_most}
use Rattle.text_writing.proofs.Laws.{head_is}
use Rattle.text_writing.proofs.size.Goals as goal

pub overflow_add-result : goal.overflow_add-result
overflow_add-result c =
    let a = c.args in
    let got : size_of a.width a.len ≡ done c.in_ok-head.head = sym c.size.ensures ∙ ap answered c.in_ok-head.was in
    let h = head_is a.width a.len _ got in
    omega (arith, h.0, h.1, encode_most a.width 0 a.len)
