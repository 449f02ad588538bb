-- Reading two parts that the writer wrote gives both back, and the strings stand where the read says. Assumes nothing.
use mathlib.Core.Path.{◌≡◌, refl, sym, ap, ◌∙◌}
use mathlib.Core.List.{List, ◌++◌, append_assoc}
use Prim.Native.Nat.{ℕ, ◌+◌, ◌^◌, ◌<◌}
use native.Mathlib.Omega.{arith}
use lib.ListN.{length, take, drop, length-append}
use lib.Seq.{drop_at, drop-drop}
use Rattle.answers.specs.Answer.{Answer, done, refused, and_then}
use Rattle.answers.specs.Write.{fitted, left}
use Rattle.prefix_int.specs.Integer.{int_at, encode, int_bytes}
use Rattle.prefix_int.proofs.RoundTrip.{encoded, read_there}
use Rattle.int_writing.proofs.Writers.{leaves}
use Rattle.text_writing.proofs.Laws.{text_bytes_lem, text_good}
use Rattle.prefix_string.specs.Text.{plain, text_bytes}
use Rattle.prefix_string.proofs.RoundTrip.{Stands, stands, head}
use Rattle.shapes.specs.Shapes.{value_width, text_after, texts_at, joined, int_text_bytes, texts_bytes}
use Rattle.shape_writing.proofs.Laws.{value_bytes}

-- a write of two parts that was done: the bytes of the first, what stands after them, and the value
record Parts (a : Answer (List ℕ)) (t l : List ℕ) (at e : ℕ) : Type 0 where
  bytes : List ℕ
  given : a ≡ done bytes
  here : drop at (left (joined a (text_bytes value_width 0 t)) l at) ≡ bytes ++ (value_bytes t ++ drop e l)
  value : let start = at + length bytes + length (head value_width 0 t) in
      Stands (left (joined a (text_bytes value_width 0 t)) l at) (at + length bytes) value_width 0 t start e

parts : (a : Answer (List ℕ)) (t l : List ℕ) (at e : ℕ) → length t < 2 ^ 63 → and_then (joined a (text_bytes value_width 0 t)) (fitted l at) ≡ done e
    → Parts a t l at e
parts (refused r) t l at e small h = let z : ◌≡◌ {A = ℕ} 0 1 = cc in absurd (omega arith)
parts (done x) t l at e small h =
    let y = value_bytes t in
    let s = left (done (x ++ y)) l at in
    let w = leaves (done (x ++ y)) l at e h in
    let b : w.bytes ≡ x ++ y = let z = w.given in cc in
    let here : drop at s ≡ x ++ (y ++ drop e l) = rw b at w.here ∙ append_assoc x y (drop e l) in
    let after : drop (at + length x) s ≡ y ++ drop e l =
    sym (drop-drop (length x) at s) ∙ ap (drop (length x)) here ∙ drop_at x (y ++ drop e l) (length x) refl in
    let next : at + length x + length y ≡ e = omega (arith, w.next, ap length b, length-append x y) in
    record {
      bytes = x;
      given = refl;
      here = here;
      value = rw next at (stands s (at + length x) value_width 0 t (drop e l) (text_good value_width 0 refl) small after);
    }

-- an integer and a value that stand at a position
pub record IntTextStands (s : List ℕ) (at n f i : ℕ) (t : List ℕ) (e : ℕ) : Type 0 where
  pub start : ℕ
  pub read : text_after s (int_at s at n) ≡ done (record { flags = f; index = i; start = start; len = length t; next = e })
  pub value : take (length t) (drop start s) ≡ t

pub int_text_round_trip : (l : List ℕ) (at n f i : ℕ) (t : List ℕ) (e : ℕ) → length t < 2 ^ 63
    → and_then (int_text_bytes n f i t) (fitted l at) ≡ done e → IntTextStands (left (int_text_bytes n f i t) l at) at n f i t e
unfolding int_text_bytes text_after
int_text_round_trip l at n f i t e small h =
    let p = parts (int_bytes n f i) t l at e small h in
    let c = encoded n f i p.bytes p.given in
    let int = read_there _ at n f i _ c.good c.value (rw c.bytes_are at p.here) in
    let v = rw c.bytes_are at p.value in
    record { start = at + length (encode n f i) + length (head value_width 0 t); read = rw (int, v.read); value = v.bytes }

-- a name and a value that stand at a position
pub record TextsStand (s : List ℕ) (at n f : ℕ) (m t : List ℕ) (e : ℕ) : Type 0 where
  pub name : ℕ
  pub value : ℕ
  pub read : texts_at s at n
      ≡ done (record { flags = f; name = name; name_len = length m; value = value; value_len = length t; next = e })
  pub name_bytes : take (length m) (drop name s) ≡ m
  pub value_bytes_lem : take (length t) (drop value s) ≡ t

pub texts_round_trip : (l : List ℕ) (at n f : ℕ) (m t : List ℕ) (e : ℕ) → length m < 2 ^ 63 → length t < 2 ^ 63
    → and_then (texts_bytes n f m t) (fitted l at) ≡ done e → TextsStand (left (texts_bytes n f m t) l at) at n f m t e
unfolding texts_bytes texts_at
texts_round_trip l at n f m t e small-name small h =
    let p = parts (text_bytes n f m) t l at e small h in
    let b = text_bytes_lem n f m p.bytes p.given in
    let k = stands _ at n f m _ (text_good n f b.0) small-name (rw b.1 at p.here) in
    let v = rw b.1 at p.value in
    record {
      name = at + length (head n f m);
      value = at + length (plain n f m) + length (head value_width 0 t);
      read = rw (k.read, v.read);
      name_bytes = k.bytes;
      value_bytes_lem = v.bytes;
    }
