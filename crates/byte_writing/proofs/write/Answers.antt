-- `byte_writing::write`: a turn of the loop is one byte more of the copy. Assumes nothing.
use mathlib.Core.Path.{sym}
use Prim.Native.Nat.{ℕ, ◌+◌, ◌-◌, ◌≤◌}
use native.Mathlib.Omega.{arith}
use lib.ListN.{length}
use borrow.Author.Tests.{leb-true}
use Rattle.std.proofs.lemmas.List.{length-take}
use Rattle.std.proofs.lemmas.List.Edits.{paste_more}
use Rattle.byte_writing.proofs.Stretch.{cut}
use Rattle.byte_writing.proofs.write.Goals as goal

pub loop-k-preserved : goal.loop-k-preserved
loop-k-preserved c =
    let a = c.args in
    let s = cut a.from.now a.start (a.start + a.len - a.start) in
    let room : a.at + a.len ≤ length a.buf.now = leb-true _ _ (sym c.if-not-inside-2.ensures) in
    rw c.loop-k.invariant (paste_more a.buf.now a.at s c.loop-k.k 0 (omega (arith, c.loop-k-test.true, length-take {A = ℕ})) c.loop-k-test.true)
