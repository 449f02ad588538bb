-- `int_writing::bytes_of`: one octet, and the groups of a value that does not end in it. Assumes nothing.
use mathlib.Core.Path.{◌≡◌, sym}
use Prim.Native.Nat.{suc, ◌-◌}
use lib.ListN.{length}
use Rattle.int_writing.specs.Octets.{encode, spell}
use native.Mathlib.Omega.{arith}
use Rattle.int_writing.proofs.Writing.{length_short, length_long}
use Rattle.int_writing.proofs.bytes_of.Goals as goal

pub returns-then-value-top : goal.returns-then-value-top
returns-then-value-top c =
    let a = c.args in
    (sym (length_short a.width 0 a.value c.power-top.result c.power-top.ensures.0 c.if-value-top.true), omega arith)

pub returns : goal.returns
returns c =
    let a = c.args in
    let p = c.power-top in
    let e : length (encode a.width 0 a.value) ≡ suc (length (spell 8 (a.value - (p.result - 1)))) =
    length_long a.width 0 a.value p.result p.ensures.0 c.if-value-top.false in
    (omega arith, omega arith)
