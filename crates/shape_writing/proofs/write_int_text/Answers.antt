-- `shape_writing::write_int_text`: what the sizes say, and then one part after the other. Assumes nothing.
use mathlib.Core.Path.{◌≡◌, sym, ap, ◌∙◌}
use Prim.Native.Nat.{◌+◌, ◌≤◌}
use native.Mathlib.Omega.{arith}
use lib.ListN.{length}
use borrow.Author.Rules.{rules}
use borrow.Author.Tests.{not-true, not-false, leb-true, leb-false}
use Rattle.std.specs.Prelude.{Ok, Err}
use Rattle.answers.specs.Answer.{answered, done, and_then}
use Rattle.prefix_int.specs.Integer.{int_bytes}
use Rattle.shape_writing.specs.Joined.{int_text_bytes}
use Rattle.shape_writing.proofs.Laws.{value_bytes, both_refused, both_full, first_ends, both_next}
use Rattle.shape_writing.proofs.write_int_text.Goals.{After-write, Else-not-both_fit, In_ok-index_size}
use Rattle.shape_writing.proofs.write_int_text.Goals as goal

-- the size of the first part
size : (c : In_ok-index_size)
    → let a = c.args in
    and_then (int_bytes a.width a.flags a.index) (λ bytes. done (length bytes)) ≡ done c.in_ok-index_size.index_size
size c = sym c.int_size.ensures ∙ ap answered c.in_ok-index_size.was

-- both parts fit, as the test says
room : (c : Else-not-both_fit)
    → let a = c.args in
    a.at + (c.in_ok-index_size.index_size + length (value_bytes a.value.now)) ≤ length a.buf.now
room c =
    let v = c.value_size in
    let a = c.args in
    let yes = sym c.both_fit.ensures ∙ not-false _ c.if-not-both_fit.false-raw in
    omega (arith, leb-true (a.at + (c.in_ok-index_size.index_size + v.result)) (length a.buf.now) yes, v.ensures)

pub returns-then-not-both_fit : goal.returns-then-not-both_fit
unfolding int_text_bytes
returns-then-not-both_fit c =
    let a = c.args in
    let v = c.value_size in
    let no = sym c.both_fit.ensures ∙ not-true _ c.if-not-both_fit.true-raw in
    let long = leb-false (a.at + (c.in_ok-index_size.index_size + v.result)) (length a.buf.now) no in
    both_full (int_bytes a.width a.flags a.index) a.value.now _ _ _ (size (goal.at.returns-then-not-both_fit c).In_ok-index_size) (omega (arith, long, v.ensures))

pub returns-in_err-index_size : goal.returns-in_err-index_size
unfolding int_text_bytes
returns-in_err-index_size c =
    let a = c.args in
    let e : c.from_residual.result ≡ Err c.in_err-index_size.field-0.0 = search rules in
    rw e (both_refused (int_bytes a.width a.flags a.index) a.value.now _ _ _ (sym c.int_size.ensures ∙ ap answered c.in_err-index_size.was))

-- where the value goes
between : (c : After-write) → c.write.result ≡ Ok (c.args.at + c.in_ok-index_size.index_size)
between c =
    let a = c.args in
    first_ends (int_bytes a.width a.flags a.index) a.value.now _ _ _ (size (goal.at.After-write c).In_ok-index_size) _ _ (room (goal.at.After-write c).Else-not-both_fit) c.write.ensures

pub unwrap-between-requires : goal.unwrap-between-requires
unwrap-between-requires c = rw (between (goal.at.unwrap-between-requires c).After-write)

pub returns : goal.returns
unfolding int_text_bytes
returns c =
    let a = c.args in
    let e : c.unwrap-between.result ≡ a.at + c.in_ok-index_size.index_size = let p = c.unwrap-between.ensures in let q = between (goal.at.returns c).After-write in cc in
    both_next (int_bytes a.width a.flags a.index) a.value.now _ _ _ (size (goal.at.returns c).In_ok-index_size) _ _ _ _ (room (goal.at.returns c).Else-not-both_fit) c.write.ensures (rw e at c.write-2.ensures)
