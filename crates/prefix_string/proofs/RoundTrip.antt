-- Reading a string that the writer wrote gives back its flags and where its bytes stand; and the bytes stand there. Assumes nothing.
use mathlib.Core.Path.{◌≡◌, refl, sym, ap, ◌∙◌}
use mathlib.Core.List.{List, ◌++◌, append_assoc}
use Prim.Native.Nat.{ℕ, ◌+◌, ◌-◌, ◌*◌, ◌/◌, ◌%◌, ◌^◌, ◌<◌}
use native.Mathlib.Omega.{arith}
use lib.ListN.{length, get_or, take, drop, length-append, length-drop}
use lib.Seq.{drop_at, take_at, drop-drop}
use borrow.Author.Tests.{le-ltb, ne_eqb}
use Rattle.answers.specs.Answer.{Answer, done, and_then}
use Rattle.answers.specs.Write.{fitted, left}
use Rattle.prefix_int.specs.Integer.{int_at, encode}
use Rattle.prefix_int.specs.declared.Integer.{Integer}
use Rattle.prefix_int.proofs.Bounds.{found}
use Rattle.prefix_int.proofs.RoundTrip.{read_there}
use Rattle.int_writing.proofs.Writers.{leaves}
use Rattle.int_writing.proofs.Writing.{Good}
use Rattle.prefix_string.specs.Text.{h_bit, bytes_after, text_at, plain, text_bytes}
use Rattle.text_writing.proofs.Laws.{length_call, text_bytes_lem, text_good, text_width}
use Rattle.prefix_string.proofs.Reading.{text_plain}

-- a string that stands at a position: what its read answers, and its bytes where that says
pub record Stands (s : List ℕ) (at n f : ℕ) (t : List ℕ) (start next : ℕ) : Type 0 where
  pub read : text_at s at n ≡ done (record { flags = f; start = start; len = length t; next = next })
  pub bytes : take (length t) (drop start s) ≡ t

-- the octets of its length
abbrev pub head : ℕ → ℕ → List ℕ → List ℕ
head n f t = encode n (f * 2) (length t)

module _ (s : List ℕ) (at n f : ℕ) (t rest : List ℕ) (good : Good 7 n f) (small : length t < 2 ^ 63)
    (here : drop at s ≡ plain n f t ++ rest) where
  split : drop at s ≡ head n f t ++ (t ++ rest)
  split = here ∙ append_assoc (head n f t) t rest

  int : int_at s at n ≡ done (record { flags = f * 2; value = length t; next = at + length (head n f t) })
  int = read_there s at n (f * 2) (length t) (t ++ rest) (length_call n f good) small split

  -- a string's bytes, wherever they stand in a list
  pub stands : Stands s at n f t (at + length (head n f t)) (at + length (plain n f t))
  stands =
      let m = length (head n f t) in
      let i = found s at n _ int in
      let long : length s - at ≡ m + (length t + length rest) =
      sym (length-drop at s) ∙ ap length split ∙ length-append (head n f t) (t ++ rest) ∙ ap (◌+◌ m) (length-append t rest) in
      let clear = ne_eqb (h_bit n (get_or s at 0)) 1 (λ z. omega (arith, ap (λ (x : ℕ). x % 2) i.flags)) in
      let double : f * 2 / 2 ≡ f = omega arith in
      let e : at + m + length t ≡ at + length (plain n f t) = omega (arith, length-append (head n f t) t) in
      let fits = le-ltb (length s - (at + m)) (length t) (omega arith) in
      record {
        read =
            text_plain s at n (text_width n good.low good.high) (omega arith) clear
            ∙ ap (λ (x : Answer Integer). and_then x (bytes_after s)) int
            ∙ rw (fits, double, e);
        bytes =
            ap (take (length t)) (sym (drop-drop m at s) ∙ ap (drop m) split ∙ drop_at (head n f t) (t ++ rest) m refl)
            ∙ take_at t rest (length t) refl;
      }

-- what the writer says yes to, the reader gives back from the buffer that the writer left
pub round_trip : (l : List ℕ) (at n f : ℕ) (t : List ℕ) (e : ℕ) → length t < 2 ^ 63 → and_then (text_bytes n f t) (fitted l at) ≡ done e
    → Stands (left (text_bytes n f t) l at) at n f t (at + length (head n f t)) e
round_trip l at n f t e small h =
    let w = leaves (text_bytes n f t) l at e h in
    let b = text_bytes_lem n f t w.bytes w.given in
    rw (rw b.1 at w.next) at (stands (left (text_bytes n f t) l at) at n f t (drop e l) (text_good n f b.0) small (rw b.1 at w.here))
