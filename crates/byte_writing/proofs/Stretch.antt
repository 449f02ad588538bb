-- A stretch of bytes, front by front, and what `write` answers and leaves on each of its ways out. Assumes nothing.
use mathlib.Core.Path.{◌≡◌, refl, sym}
use mathlib.Core.Bool.{Bool, true, false}
use mathlib.Core.List.{List, [], ◌∷◌}
use Prim.Native.Nat.{ℕ, ◌+◌, ◌-◌, ◌≤◌, ◌<◌}
use native.Mathlib.Numerals.{add-one}
use native.Mathlib.Omega.{arith}
use lib.Dec.{leb}
use lib.ListN.{length, get_or, take, drop, length-take, length-drop, drop_of_length-le}
use lib.Seq.{sets, drop-cons, get_or-take, get_or-drop, take-length}
use borrow.Author.Tests.{le-leb, lt-leb, leb-true, leb-false}
use Rattle.std.specs.Prelude.{Result}
use Rattle.answers.specs.declared.Refusal.{Refusal}
use Rattle.answers.specs.Answer.{answered, done, refused}
use Rattle.answers.specs.Write.{Writes}
use Rattle.answers.specs.declared.Refusal.TheVariants.{BadCall}
use Rattle.answers.proofs.Write.{writes_sets}
use Rattle.byte_writing.specs.Stretch.{stretch_of}

-- a test of the start alone, where the length is not past the end
pub ends_inside : (size start len : ℕ) → len ≤ size → leb start (size - len) ≡ leb (start + len) size
ends_inside size start len h = go (leb start (size - len)) refl
  where
    go : (b : Bool) → leb start (size - len) ≡ b → b ≡ leb (start + len) size
    go true e = sym (le-leb (start + len) size (omega (arith, leb-true start (size - len) e)))
    go false e = sym (lt-leb (start + len) size (omega (arith, leb-false start (size - len) e)))

abbrev pub cut : List ℕ → ℕ → ℕ → List ℕ
cut b start len = take len (drop start b)

pub stretch_refused : (b : List ℕ) (start len : ℕ) → length b < start + len → stretch_of b start len ≡ refused BadCall
stretch_refused b start len h = rw (lt-leb _ _ h)

module _ (b : List ℕ) (start len : ℕ) (inside : start + len ≤ length b) where
  pub stretch_done : stretch_of b start len ≡ done (cut b start len)
  stretch_done = rw (le-leb _ _ inside)

  pub cut_length : length (cut b start len) ≡ len
  cut_length = simp (length-take, length-drop) (omega arith)

  pub cut_front : (i : ℕ) → i < len → drop i (cut b start len) ≡ get_or b (start + i) 0 ∷ drop (i + 1) (cut b start len)
  cut_front i h =
      let k : i < length (cut b start len) = omega (arith, cut_length) in
      rw (drop-cons (cut b start len) i 0 k, get_or-take, get_or-drop, add-one)

  pub cut_end : (i : ℕ) → len ≤ i → drop i (cut b start len) ≡ []
  cut_end i h = drop_of_length-le (cut b start len) {i = i} (omega (arith, cut_length))

module _ (b : List ℕ) (start len : ℕ) (l : List ℕ) (at : ℕ) where
  module _ (inside : start + len ≤ length b) where
    -- what a write tells its caller, where the stretch is inside and there is room
    pub write_sets : (r : Result ℕ Refusal) (m : List ℕ) → at + len ≤ length l → Writes (stretch_of b start len) l at r m
        → (answered r ≡ done (at + len)) × (m ≡ sets l at (cut b start len))
    write_sets r m f w =
        let long = cut_length b start len inside in
        let v : Writes (done (cut b start len)) l at r m = rw (stretch_done b start len inside) at w in
        let q = writes_sets (cut b start len) l at r m (omega (arith, long)) v in
        (rw long at q.0, q.1)

-- the same for all of a text
pub text_sets : (text l : List ℕ) (at : ℕ) (r : Result ℕ Refusal) (m : List ℕ) → at + length text ≤ length l → Writes (stretch_of text 0 (length text)) l at r m
    → (answered r ≡ done (at + length text)) × (m ≡ sets l at text)
text_sets text l at r m room w =
    rw (take-length text) at (write_sets text 0 (length text) l at (omega arith) r m room w)
