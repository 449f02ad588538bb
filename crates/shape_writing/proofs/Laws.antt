-- Laws of two parts: what their writer answers and leaves, where the first part has a size and the second is a value. Assumes nothing.
use mathlib.Core.Path.{◌≡◌, refl, sym, ap, ap₂, ◌∙◌, subst}
use mathlib.Core.Bool.{Bool, true, false}
use mathlib.Core.List.{List, ◌++◌}
use Prim.Native.Nat.{ℕ, ◌+◌, ◌^◌, ◌≤◌, ◌<◌}
use native.Mathlib.Omega.{arith}
use lib.Dec.{ltb}
use lib.ListN.{length, length-append}
use lib.Seq.{sets, length-sets}
use borrow.Author.Tests.{ltb-true, ltb-false}
use Rattle.std.specs.Prelude.{Result, Ok, Err}
use Rattle.answers.specs.Answer.{Answer, done, refused, and_then}
use Rattle.answers.specs.Write.{Writes}
use Rattle.answers.specs.declared.Refusal.{Refusal}
use Rattle.answers.specs.declared.Refusal.TheVariants.{OutputFull}
use Rattle.answers.proofs.Write.{writes_refused, writes_full, writes_next, sets_append}
use Rattle.prefix_int.specs.Integer.{good_call, int_bytes, size_of}
use Rattle.int_writing.proofs.Writers.{sized, unsized, writes_stored}
use Rattle.int_writing.proofs.Writing.{Good, call_good, width_call, bytes_good, bytes_large, length_flags}
use Rattle.text_writing.specs.Plain.{plain, text_bytes}
use Rattle.shape_writing.specs.Joined.{value_width, joined}

-- flags do not change an integer's size, where they are good
pub size_flags : (n f v : ℕ) → good_call n f ≡ true → size_of n v ≡ and_then (int_bytes n f v) (λ bytes. done (length bytes))
size_flags n f v good = go (ltb v (2 ^ 63)) refl
  where
    g : Good 8 n f
    g = call_good n f good

    zero : good_call n 0 ≡ true
    zero = width_call n g.low g.high

    count : Answer (List ℕ) → Answer ℕ
    count w = and_then w (λ bytes. done (length bytes))

    go : (b : Bool) → ltb v (2 ^ 63) ≡ b → count (int_bytes n 0 v) ≡ count (int_bytes n f v)
    go true e =
        let l = ltb-true v (2 ^ 63) e in
        ap count (bytes_good n 0 v zero l) ∙ ap done (sym (length_flags n f v)) ∙ ap count (sym (bytes_good n f v good l))
    go false e =
        let l = ltb-false v (2 ^ 63) e in
        ap count (bytes_large n 0 v zero l ∙ sym (bytes_large n f v good l))

-- the bytes of a value
abbrev pub value_bytes : List ℕ → List ℕ
value_bytes t = plain value_width 0 t

-- a is the first part, t the value
module _ (a : Answer (List ℕ)) (t l : List ℕ) (at : ℕ) where
  pub both_refused : (r : Refusal) → and_then a (λ bytes. done (length bytes)) ≡ refused r
      → Writes (joined a (text_bytes value_width 0 t)) l at (Err r) l
  both_refused r h = writes_refused _ l at r (rw (unsized a r h))

  module _ (n : ℕ) (size : and_then a (λ bytes. done (length bytes)) ≡ done n) where
    -- the bytes of both, and how many they are
    two : (x : List ℕ) × (a ≡ done x) × (length x ≡ n) × (joined a (text_bytes value_width 0 t) ≡ done (x ++ value_bytes t))
        × (length (x ++ value_bytes t) ≡ n + length (value_bytes t))
    two =
        let s = sized a n size in (
          s.bytes,
          s.given,
          s.many,
          ap (λ (w : Answer (List ℕ)). joined w (text_bytes value_width 0 t)) s.given,
          length-append s.bytes (value_bytes t) ∙ ap (λ (k : ℕ). k + length (value_bytes t)) s.many,
        )

    pub both_full : length l < at + (n + length (value_bytes t)) → Writes (joined a (text_bytes value_width 0 t)) l at (Err OutputFull) l
    both_full long = writes_full _ l at (two.0 ++ value_bytes t) two.3 (omega (arith, two.4))

    -- where the first write ends
    pub first_ends : (p : Result ℕ Refusal) (m : List ℕ) → at + (n + length (value_bytes t)) ≤ length l → Writes a l at p m → p ≡ Ok (at + n)
    first_ends p m room first =
        (writes_stored a two.0 l at p m two.1 (omega (arith, two.2)) first).0 ∙ ap (λ (k : ℕ). Ok (at + k)) two.2

    -- p and m: what the first write answers and leaves; q and o: the second
    pub both_next : (p q : Result ℕ Refusal) (m o : List ℕ) → at + (n + length (value_bytes t)) ≤ length l → Writes a l at p m
        → Writes (text_bytes value_width 0 t) m (at + n) q o → Writes (joined a (text_bytes value_width 0 t)) l at q o
    both_next p q m o room first second =
        let x = two.0 in
        let y = value_bytes t in
        let f = writes_stored a x l at p m two.1 (omega (arith, two.2)) first in
        let same : length m ≡ length l = ap length f.1 ∙ length-sets l at x in
        let s = writes_stored (text_bytes value_width 0 t) y m (at + n) q o refl (omega arith) second in
        let e : at + n + length y ≡ at + length (x ++ y) = omega (arith, two.4) in
        let stores : o ≡ sets l at (x ++ y) =
        s.1 ∙ ap₂ (λ (k : List ℕ) (i : ℕ). sets k i y) f.1 (ap (◌+◌ at) (sym two.2)) ∙ sets_append x y l at in
        subst (λ (r : Result ℕ Refusal). Writes (joined a (text_bytes value_width 0 t)) l at r o) (sym s.0)
        (writes_next _ l at (x ++ y) two.3 _ o (omega (arith, two.4)) e stores)
