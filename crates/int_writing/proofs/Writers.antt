-- Laws of any writer: what the size of its bytes tells, what it stores where there is room, and what stands there after. Assumes nothing.
use mathlib.Core.Path.{◌≡◌, refl, ap, ◌∙◌, subst}
use mathlib.Core.List.{List, ◌++◌}
use Prim.Native.Nat.{ℕ, ◌+◌, ◌≤◌}
use native.Mathlib.Omega.{arith}
use Rattle.std.specs.Prelude.{Result, Ok, Err}
use lib.ListN.{length, drop}
use lib.Seq.{sets}
use Rattle.answers.specs.Answer.{Answer, done, refused, and_then, answered}
use Rattle.answers.specs.Write.{fitted, left, Writes}
use Rattle.answers.specs.declared.Refusal.{Refusal}
use Rattle.answers.proofs.Write.{wrote, there, writes_sets}

-- what a size tells: there are bytes to write, and so many
pub record Sized (w : Answer (List ℕ)) (k : ℕ) : Type 0 where
  pub bytes : List ℕ
  pub given : w ≡ done bytes
  pub many : length bytes ≡ k

module _ (w : Answer (List ℕ)) where
  pub sized : (k : ℕ) → and_then w (λ bytes. done (length bytes)) ≡ done k → Sized w k
  sized k h = go w refl h
    where
      go : (v : Answer (List ℕ)) → w ≡ v → and_then v (λ bytes. done (length bytes)) ≡ done k → Sized w k
      go (done bytes) p q = record { bytes = bytes; given = p; many = let z = q in cc }
      go (refused r) p q = let z : ◌≡◌ {A = ℕ} 0 1 = cc in absurd (omega arith)

  pub unsized : (r : Refusal) → and_then w (λ bytes. done (length bytes)) ≡ refused r → w ≡ refused r
  unsized r h = go w refl h
    where
      go : (v : Answer (List ℕ)) → w ≡ v → and_then v (λ bytes. done (length bytes)) ≡ refused r → w ≡ refused r
      go (done bytes) p q = let z : ◌≡◌ {A = ℕ} 0 1 = cc in absurd (omega arith)
      go (refused r') p q = let z = q in cc

-- it answers the position past its bytes, which it stored
pub writes_stored : (w : Answer (List ℕ)) (bytes l : List ℕ) (at : ℕ) (r : Result ℕ Refusal) (m : List ℕ) → w ≡ done bytes
    → at + length bytes ≤ length l → Writes w l at r m → (r ≡ Ok (at + length bytes)) × (m ≡ sets l at bytes)
writes_stored w bytes l at r m given room writes =
    let s = writes_sets bytes l at r m room (subst (λ (x : Answer (List ℕ)). Writes x l at r m) given writes) in
    (next r (at + length bytes) s.0, s.1)
  where
    next : (r : Result ℕ Refusal) (e : ℕ) → answered r ≡ done e → r ≡ Ok e
    next (Ok d) e h = cc
    next (Err q) e h = let z : ◌≡◌ {A = ℕ} 0 1 = cc in absurd (omega arith)

-- what a write that was done leaves: its bytes, from the position on, up to where it ends
pub record Leaves (w : Answer (List ℕ)) (l : List ℕ) (at e : ℕ) : Type 0 where
  pub bytes : List ℕ
  pub given : w ≡ done bytes
  pub next : at + length bytes ≡ e
  pub here : drop at (left w l at) ≡ bytes ++ drop e l

pub leaves : (w : Answer (List ℕ)) (l : List ℕ) (at e : ℕ) → and_then w (fitted l at) ≡ done e → Leaves w l at e
leaves w l at e h =
    let o = wrote w l at e h in
    record {
      bytes = o.bytes;
      given = o.given;
      next = o.next;
      here =
          ap (λ (x : Answer (List ℕ)). drop at (left x l at)) o.given
          ∙ there l at o.bytes o.room
          ∙ ap (λ (k : ℕ). o.bytes ++ drop k l) o.next;
    }
