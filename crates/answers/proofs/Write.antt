-- Laws of writers: how each of the three outcomes meets `Writes`, and what stands in the buffer after a write. Assumes nothing.
use mathlib.Core.Path.{◌≡◌, refl, sym, ◌∙◌}
use mathlib.Core.Bool.{Bool, true, false, cond}
use mathlib.Core.List.{List, [], ◌∷◌, ◌++◌, append_assoc}
use Prim.Native.Nat.{ℕ, suc, ◌+◌, ◌≤◌, ◌<◌}
use native.Mathlib.Nat.{add-zero}
use native.Mathlib.Omega.{arith}
use Rattle.std.specs.Prelude.{Result, Ok, Err}
use lib.Dec.{leb}
use lib.ListN.{length, take, drop, set}
use lib.Seq.{sets, sets-eq, length-take-le, drop_at}
use borrow.Author.Tests.{le-leb, lt-leb, leb-true}
use Rattle.answers.specs.Answer.{Answer, done, refused, and_then, answered}
use Rattle.answers.specs.Write.{fitted, placed, Writes}
use Rattle.answers.specs.declared.Refusal.{Refusal}
use Rattle.answers.specs.declared.Refusal.TheVariants.{OutputFull}

module _ (w : Answer (List ℕ)) (l : List ℕ) (at : ℕ) where
  pub writes_refused : (r : Refusal) → w ≡ refused r → Writes w l at (Err r) l
  writes_refused r h = record { answer = rw h; bytes = rw h }

  module _ (bytes : List ℕ) (h : w ≡ done bytes) where
    pub writes_full : length l < at + length bytes → Writes w l at (Err OutputFull) l
    writes_full long =
        let no_room : leb (at + length bytes) (length l) ≡ false = lt-leb _ _ long in
        record { answer = rw (h, no_room); bytes = rw (h, no_room) }

    pub writes_next : (e : ℕ) (m : List ℕ) → at + length bytes ≤ length l → e ≡ at + length bytes → m ≡ sets l at bytes
        → Writes w l at (Ok e) m
    writes_next e m room next stores =
        let fits : leb (at + length bytes) (length l) ≡ true = le-leb _ _ room in
        record { answer = rw (h, fits, next); bytes = rw (h, fits) (stores ∙ sets-eq bytes l at room) }

-- what a write that was done tells: its bytes, that they fit, and the position past them
pub record Wrote (w : Answer (List ℕ)) (l : List ℕ) (at e : ℕ) : Type 0 where
  pub bytes : List ℕ
  pub given : w ≡ done bytes
  pub room : at + length bytes ≤ length l
  pub next : at + length bytes ≡ e

pub wrote : (w : Answer (List ℕ)) (l : List ℕ) (at e : ℕ) → and_then w (fitted l at) ≡ done e → Wrote w l at e
wrote (done bytes) l at e h = go (leb (at + length bytes) (length l)) refl h
  where
    go : (b : Bool) → leb (at + length bytes) (length l) ≡ b → cond b (done (at + length bytes)) (refused OutputFull) ≡ done e
        → Wrote (done bytes) l at e
    go true q p = record { bytes = bytes; given = refl; room = leb-true _ _ q; next = let z = p in cc }
    go false q p = let z : ◌≡◌ {A = ℕ} 0 1 = cc in absurd (omega arith)
wrote (refused r) l at e h = let z : ◌≡◌ {A = ℕ} 0 1 = cc in absurd (omega arith)

-- the bytes stand where they were written
pub there : (l : List ℕ) (at : ℕ) (bytes : List ℕ) → at + length bytes ≤ length l
    → drop at (placed l at bytes) ≡ bytes ++ drop (at + length bytes) l
there l at bytes room =
    let rest = drop (at + length bytes) l in
    let fits : leb (at + length bytes) (length l) ≡ true = le-leb _ _ room in
    let front : length (take at l) ≡ at = length-take-le at l (omega arith) in
    rw (fits, append_assoc) (drop_at (take at l) (bytes ++ rest) at front)

-- a write that had room is a run of stores
pub writes_sets : (bytes l : List ℕ) (at : ℕ) (r : Result ℕ Refusal) (m : List ℕ) → at + length bytes ≤ length l → Writes (done bytes) l at r m
    → (answered r ≡ done (at + length bytes)) × (m ≡ sets l at bytes)
writes_sets bytes l at r m room w =
    let fits : leb (at + length bytes) (length l) ≡ true = le-leb _ _ room in
    (rw fits at w.answer, rw fits at w.bytes ∙ sym (sets-eq bytes l at room))

-- two runs of stores are one
pub sets_append : (xs ys l : List ℕ) (i : ℕ) → sets (sets l i xs) (i + length xs) ys ≡ sets l i (xs ++ ys)
sets_append [] ys l i = rw add-zero
sets_append (x ∷ xs) ys l i =
    let e : i + suc (length xs) ≡ suc i + length xs = omega arith in
    rw e (sets_append xs ys (set l i x) (suc i))
