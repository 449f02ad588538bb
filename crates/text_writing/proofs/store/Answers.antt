-- `text_writing::store`: the length's octets are stored, as there is room, and then the text's bytes. Assumes nothing.
use mathlib.Core.Path.{◌≡◌, ap₂, ◌∙◌}
use mathlib.Core.List.{List}
use Prim.Native.Nat.{ℕ, ◌+◌, ◌-◌, ◌*◌, ◌≤◌}
use native.Mathlib.Omega.{arith}
use lib.ListN.{length, length-append}
use lib.Pow.{pow_mono}
use lib.Seq.{sets}
use Rattle.std.specs.Prelude.{Ok}
use Rattle.answers.proofs.Write.{sets_append}
use Rattle.byte_writing.proofs.Stretch.{text_sets}
use Rattle.prefix_int.specs.Integer.{encode}
use Rattle.int_writing.proofs.Writers.{writes_stored}
use Rattle.int_writing.proofs.Writing.{bytes_good, good_call_lem}
use Rattle.text_writing.proofs.Laws.{length_call, text_good}
use Rattle.text_writing.proofs.store.Goals.{After-write}
use Rattle.text_writing.proofs.store.Goals as goal

module _ (c : After-write) where
  -- the length's octets and the text's bytes have room
  room : let a = c.args in
      let t = a.text.now in
      a.at + length (encode a.width (a.flags * 2) (length t)) + length t ≤ length a.buf.now
  room =
      let a = c.args in
      let t = a.text.now in
      omega (arith, length-append (encode a.width (a.flags * 2) (length t)) t, c.requires.1)

  stored : let a = c.args in
      let bytes = encode a.width (a.flags * 2) (length a.text.now) in
      (c.write.result ≡ Ok (a.at + length bytes)) × (c.write.new.buf ≡ sets a.buf.now a.at bytes)
  stored =
      let a = c.args in
      let g = length_call a.width a.flags (text_good a.width a.flags c.requires.0) in
      let given = bytes_good a.width (a.flags * 2) (length a.text.now) (good_call_lem _ _ g) (omega (arith, c.well_formed)) in
      writes_stored _ _ _ a.at _ _ given (omega (arith, room)) c.write.ensures

pub unwrap-start-requires : goal.unwrap-start-requires
unwrap-start-requires c = rw (stored (goal.at.unwrap-start-requires c).After-write).0

pub returns : goal.returns
returns c =
    let a = c.args in
    let t = a.text.now in
    let w = (goal.at.returns c).After-write in
    let s = stored w in
    let long = length (encode a.width (a.flags * 2) (length t)) in
    let start : c.unwrap-start.result ≡ a.at + long = let p = c.unwrap-start.ensures in let q = s.0 in cc in
    let there : c.unwrap-start.result + length t ≤ length c.write.new.buf = omega (arith, start, room w, c.write.auto.buf) in
    (text_sets t _ _ _ _ there c.write-2.ensures).1
    ∙ ap₂ (λ (l : List ℕ) (k : ℕ). sets l k t) s.1 start
    ∙ sets_append (encode a.width (a.flags * 2) (length t)) t a.buf.now a.at
