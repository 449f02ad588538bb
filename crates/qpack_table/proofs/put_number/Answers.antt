-- `qpack_table::put_number`: the library's digits. Assumes nothing.
use mathlib.Core.Path.{ap, ◌∙◌}
use mathlib.Core.List.{List, ◌++◌}
use Prim.Native.Nat.{ℕ}
use native.Mathlib.Omega.{arith}
use Rattle.qpack_table.proofs.Digits.{decimal_is}
use Rattle.qpack_table.proofs.put_number.Goals as goal

pub returns-clause-text : goal.returns-clause-text
returns-clause-text c =
    c.push_str.ensures.bytes ∙ ap (λ (t : List ℕ). c.args.out.now.bytes ++ t) (c.format.ensures.text ∙ decimal_is c.args.n (omega arith))
