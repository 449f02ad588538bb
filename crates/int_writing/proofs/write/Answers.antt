-- `int_writing::write`: each return is one of the outcomes of a writer, by the tests that led there. Assumes nothing.
use mathlib.Core.Path.{◌≡◌, sym, ap, ◌∙◌}
use mathlib.Core.Bool.{true}
use Prim.Native.Nat.{◌+◌}
use native.Mathlib.Omega.{arith}
use lib.ListN.{length}
use borrow.Author.Tests.{not-true, not-false}
use Rattle.answers.specs.Answer.{done}
use Rattle.answers.specs.declared.Refusal.TheVariants.{BadCall, CountTooLarge}
use Rattle.answers.proofs.Write.{writes_refused, writes_full, writes_next}
use Rattle.int_writing.specs.Octets.{encode, good_call, int_bytes}
use Rattle.int_writing.proofs.Writing.{call_good, bytes_bad, bytes_large, bytes_good, length_flags}
use Rattle.int_writing.proofs.write.Lts
use Rattle.int_writing.proofs.write.Reads
use Rattle.int_writing.proofs.write.Tie
use Rattle.int_writing.proofs.write.Goals as goal

abbrev After-bytes_of-n : Type 0
After-bytes_of-n = Lts.After-bytes_of Tie.the-claims Reads.Pre Reads.Post

abbrev Else-not-call_ok : Type 0
Else-not-call_ok = Lts.Else1 Tie.the-claims Reads.Pre Reads.Post

good : (c : Else-not-call_ok) → good_call c.args.width c.args.flags ≡ true
good c = sym c.call_ok.ensures ∙ not-false _ c.if-not-call_ok.false-raw

-- the octets to write, and how many they are
module _ (c : After-bytes_of-n) where
  bytes : let a = c.args in
      int_bytes a.width a.flags a.value ≡ done (encode a.width a.flags a.value)
  bytes = bytes_good _ _ _ (good c.before.before) c.if-value-ge-VALUE_LIMIT.false

  many : let a = c.args in
      length (encode a.width a.flags a.value) ≡ c.bytes_of-n.result
  many =
      let a = c.args in
      length_flags a.width a.flags a.value ∙ sym c.bytes_of-n.ensures.0

pub returns-then-not-call_ok : goal.returns-then-not-call_ok
returns-then-not-call_ok c =
    let a = c.args in
    writes_refused _ _ _ BadCall (bytes_bad a.width a.flags a.value (sym c.call_ok.ensures ∙ not-true _ c.if-not-call_ok.true-raw))

pub returns-then-value-ge-VALUE_LIMIT : goal.returns-then-value-ge-VALUE_LIMIT
returns-then-value-ge-VALUE_LIMIT c =
    let a = c.args in
    writes_refused _ _ _ CountTooLarge (bytes_large a.width a.flags a.value (good c.before.before) c.if-value-ge-VALUE_LIMIT.true)

pub bytes_of-n-requires : goal.bytes_of-n-requires
bytes_of-n-requires c = ((call_good _ _ (good c.before.before)).high, omega arith)

pub returns-then-buf-n : goal.returns-then-buf-n
returns-then-buf-n c = writes_full _ _ _ _ (bytes c.before.before) (omega (arith, many c.before.before))

pub returns-then-buf-n-2 : goal.returns-then-buf-n-2
returns-then-buf-n-2 c = writes_full _ _ _ _ (bytes c.before.before.before) (omega (arith, many c.before.before.before))

pub store-requires : goal.store-requires
store-requires c =
    let b = c.before.before.before in
    let g = call_good _ _ (good b.before.before) in
    (g.high, g.flags, omega arith, omega (arith, many b))

pub returns : goal.returns
returns c =
    let b = c.before.before.before.before.before.before.before in
    let next = ap (◌+◌ b.args.at) (sym (many b)) in
    writes_next _ _ _ _ (bytes b) _ _ (omega (arith, many b)) next c.store.ensures
