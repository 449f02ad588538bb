-- `byte_writing::inside`: the test without the sum is the test with it. Assumes nothing.
use mathlib.Core.Path.{sym}
use Prim.Native.Nat.{◌+◌}
use native.Mathlib.Omega.{arith}
use borrow.Author.Tests.{lt-leb}
use Rattle.byte_writing.proofs.Stretch.{ends_inside}
use Rattle.byte_writing.proofs.inside.Goals as goal

pub returns-then-size-len : goal.returns-then-size-len
returns-then-size-len c =
    let a = c.args in
    sym (lt-leb (a.start + a.len) a.size (omega arith))

pub returns : goal.returns
returns c =
    let a = c.args in
    ends_inside a.size a.start a.len (omega arith)
