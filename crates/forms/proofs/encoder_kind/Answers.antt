-- `forms::encoder_kind`: each range has its kind. Assumes nothing.
use Prim.Native.Nat.{◌≤◌, ◌<◌}
use native.Mathlib.Omega.{arith}
use borrow.Author.Tests.{lt-ltb, le-ltb}
use Rattle.forms.proofs.encoder_kind.Goals as goal

pub returns-in-0-to-31 : goal.returns-in-0-to-31
returns-in-0-to-31 c =
    let h0 : c.args.first < 32 = omega arith in
    simp (lt-ltb _ _ h0)

pub returns-in-32-to-63 : goal.returns-in-32-to-63
returns-in-32-to-63 c =
    let h0 : 32 ≤ c.args.first = omega arith in
    let h1 : c.args.first < 64 = omega arith in
    simp (le-ltb _ _ h0, lt-ltb _ _ h1)

pub returns-in-64-to-127 : goal.returns-in-64-to-127
returns-in-64-to-127 c =
    let h0 : 32 ≤ c.args.first = omega arith in
    let h1 : 64 ≤ c.args.first = omega arith in
    let h2 : c.args.first < 128 = omega arith in
    simp (le-ltb _ _ h0, le-ltb _ _ h1, lt-ltb _ _ h2)

pub returns-in-128-to-255 : goal.returns-in-128-to-255
returns-in-128-to-255 c =
    let h0 : 32 ≤ c.args.first = omega arith in
    let h1 : 64 ≤ c.args.first = omega arith in
    let h2 : 128 ≤ c.args.first = omega arith in
    simp (le-ltb _ _ h0, le-ltb _ _ h1, le-ltb _ _ h2)
