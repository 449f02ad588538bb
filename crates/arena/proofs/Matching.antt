-- What the loop of `is_at` keeps: the bytes passed are the same, so the rest decides. Assumes nothing.
use mathlib.Core.Path.{◌≡◌, sym, ap, ◌∙◌}
use mathlib.Core.Bool.{true, false}
use mathlib.Core.List.{List, ◌∷◌}
use Prim.Native.Nat.{ℕ, suc, ◌+◌, ◌-◌, ◌%◌, ◌≤◌, ◌<◌}
use native.Mathlib.Numerals.{add-one}
use native.Mathlib.Omega.{arith}
use lib.ListN.{length, get_or, drop, drop_of_length-le}
use lib.Seq.{drop-cons}
use borrow.Author.Tests.{eq-eqb, ne_eqb}
use Rattle.field.specs.Field.{same}
use Rattle.arena.specs.Ring.{ring, ring_read}
use Rattle.arena.proofs.RingRead.{read_mod, read_step}

pub record Matching (a : List ℕ) (at : ℕ) (s : List ℕ) (p i : ℕ) : Type 0 where
  pub low : p < ring
  pub rest : same s (ring_read a at (length s)) ≡ same (drop i s) (ring_read a p (length s - i))

pub none : (a : List ℕ) (at : ℕ) (s : List ℕ) → Matching a at s (at % ring) 0
none a at s =
    let n : length s - 0 ≡ length s = omega arith in
    record { low = omega arith; rest = rw n (ap (same s) (read_mod a at (at % ring) (length s) (omega arith))) }

module _ (a : List ℕ) (at : ℕ) (s : List ℕ) (p i : ℕ) (w : Matching a at s p i) where
  module _ (h : i < length s) where
    next : ring_read a p (length s - i) ≡ get_or a p 0 ∷ ring_read a ((p + 1) % ring) (length s - (i + 1))
    next =
        let n : length s - i ≡ suc (length s - (i + 1)) = omega arith in
        rw n (read_step a p (length s - (i + 1)) w.low)

    pub on : get_or a p 0 ≡ get_or s i 0 → Matching a at s ((p + 1) % ring) (i + 1)
    on e = record { low = omega arith; rest = w.rest ∙ rw (next, drop-cons s i 0 h, eq-eqb _ _ (sym e), add-one i) }

    pub off : (get_or a p 0 ≡ get_or s i 0 → ⊥) → same s (ring_read a at (length s)) ≡ false
    off e = w.rest ∙ rw (next, drop-cons s i 0 h, ne_eqb _ _ (λ z. e (sym z)))

  pub all : length s ≤ i → same s (ring_read a at (length s)) ≡ true
  all h = let n : length s - i ≡ 0 = omega arith in w.rest ∙ rw (n, drop_of_length-le s {i = i} h)
