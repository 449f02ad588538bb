-- `encoder_stream::write_increment`: nothing, too many, or the bytes of the increment. Assumes nothing.
use Prim.Native.Nat.{◌-◌}
use native.Mathlib.Omega.{arith}
use Rattle.encoder_stream.proofs.Increments.{none_inserted, too_many, told_increment}
use Rattle.encoder_stream.proofs.write_increment.Goals as goal

pub returns-then-after-before : goal.returns-then-after-before
returns-then-after-before c = let a = c.args in none_inserted (a.after - a.before) a.out.now (omega arith)

pub returns-then-after-before-gt-MOST_INSERTS : goal.returns-then-after-before-gt-MOST_INSERTS
returns-then-after-before-gt-MOST_INSERTS c = let a = c.args in too_many (a.after - a.before) a.out.now (omega arith)

pub returns : goal.returns
returns c =
    let a = c.args in
    told_increment (a.after - a.before) a.out.now (omega arith) (omega arith) (omega arith) _ c.write_integer.result c.write_integer.ensures
