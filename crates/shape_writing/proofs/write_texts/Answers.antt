-- `shape_writing::write_texts`: what the sizes say, and then one part after the other. Assumes nothing.
use mathlib.Core.Path.{◌≡◌, sym, ap, ◌∙◌}
use Prim.Native.Nat.{◌+◌, ◌≤◌}
use native.Mathlib.Omega.{arith}
use lib.ListN.{length}
use borrow.Author.Rules.{rules}
use borrow.Author.Tests.{not-true, not-false, leb-true, leb-false}
use Rattle.std.specs.Prelude.{Ok, Err}
use Rattle.answers.specs.Answer.{answered, done, and_then}
use Rattle.text_writing.specs.Plain.{text_bytes, text_size}
use Rattle.text_writing.proofs.Laws.{text_size_lem}
use Rattle.shape_writing.specs.Joined.{texts_bytes}
use Rattle.shape_writing.proofs.Laws.{value_bytes, both_refused, both_full, first_ends, both_next}
use Rattle.shape_writing.proofs.write_texts.Goals.{After-write, Else-not-both_fit, In_ok-name_size, Start}
use Rattle.shape_writing.proofs.write_texts.Goals as goal

-- a size is that of the bytes of the name
same : (c : Start)
    → let a = c.args in
    and_then (text_bytes a.width a.flags a.name.now) (λ bytes. done (length bytes))
    ≡ text_size a.width a.flags (length a.name.now)
same c = let a = c.args in sym (text_size_lem a.width a.flags a.name.now (omega (arith, c.well_formed)))

-- the size of the first part
size : (c : In_ok-name_size)
    → let a = c.args in
    and_then (text_bytes a.width a.flags a.name.now) (λ bytes. done (length bytes)) ≡ done c.in_ok-name_size.name_size
size c = same (goal.at.In_ok-name_size c).Start ∙ sym c.size.ensures ∙ ap answered c.in_ok-name_size.was

-- both parts fit, as the test says
room : (c : Else-not-both_fit)
    → let a = c.args in
    a.at + (c.in_ok-name_size.name_size + length (value_bytes a.value.now)) ≤ length a.buf.now
room c =
    let v = c.value_size in
    let a = c.args in
    let yes = sym c.both_fit.ensures ∙ not-false _ c.if-not-both_fit.false-raw in
    omega (arith, leb-true (a.at + (c.in_ok-name_size.name_size + v.result)) (length a.buf.now) yes, v.ensures)

pub returns-then-not-both_fit : goal.returns-then-not-both_fit
unfolding texts_bytes
returns-then-not-both_fit c =
    let a = c.args in
    let v = c.value_size in
    let no = sym c.both_fit.ensures ∙ not-true _ c.if-not-both_fit.true-raw in
    let long = leb-false (a.at + (c.in_ok-name_size.name_size + v.result)) (length a.buf.now) no in
    both_full (text_bytes a.width a.flags a.name.now) a.value.now _ _ _ (size (goal.at.returns-then-not-both_fit c).In_ok-name_size) (omega (arith, long, v.ensures))

pub returns-in_err-name_size : goal.returns-in_err-name_size
unfolding texts_bytes
returns-in_err-name_size c =
    let a = c.args in
    let e : c.from_residual.result ≡ Err c.in_err-name_size.field-0.0 = search rules in
    rw e (both_refused (text_bytes a.width a.flags a.name.now) a.value.now _ _ _ (same (goal.at.returns-in_err-name_size c).Start ∙ sym c.size.ensures ∙ ap answered c.in_err-name_size.was))

-- where the value goes
between : (c : After-write) → c.write.result ≡ Ok (c.args.at + c.in_ok-name_size.name_size)
between c =
    let a = c.args in
    first_ends (text_bytes a.width a.flags a.name.now) a.value.now _ _ _ (size (goal.at.After-write c).In_ok-name_size) _ _ (room (goal.at.After-write c).Else-not-both_fit) c.write.ensures

pub unwrap-between-requires : goal.unwrap-between-requires
unwrap-between-requires c = rw (between (goal.at.unwrap-between-requires c).After-write)

pub returns : goal.returns
unfolding texts_bytes
returns c =
    let a = c.args in
    let e : c.unwrap-between.result ≡ a.at + c.in_ok-name_size.name_size = let p = c.unwrap-between.ensures in let q = between (goal.at.returns c).After-write in cc in
    both_next (text_bytes a.width a.flags a.name.now) a.value.now _ _ _ (size (goal.at.returns c).In_ok-name_size) _ _ _ _ (room (goal.at.returns c).Else-not-both_fit) c.write.ensures (rw e at c.write-2.ensures)
