-- What the loop of `move_bytes` keeps: moving what is left makes up the whole. Assumes nothing.
use mathlib.Core.Path.{◌≡◌, refl, sym, ◌∙◌}
use mathlib.Core.List.{List}
use Prim.Native.Nat.{ℕ, suc, ◌+◌, ◌-◌, ◌%◌, ◌≤◌, ◌<◌}
use native.Mathlib.Omega.{arith}
use lib.ListN.{length, get_or, set, length-set}
use Rattle.arena.specs.Ring.{ring, ring_move}
use Rattle.arena.proofs.RingMove.{move_mod, move_step}

pub record Moving (a₀ : List ℕ) (from to len : ℕ) (a : List ℕ) (p q left : ℕ) : Type 0 where
  pub low : p < ring
  pub low' : q < ring
  pub long : length a ≡ length a₀
  pub whole : ring_move left a p q ≡ ring_move len a₀ from to

pub none : (a : List ℕ) (from to len : ℕ) → Moving a from to len a (from % ring) (to % ring) (len - 0)
none a from to len =
    let n : len - 0 ≡ len = omega arith in
    rw n
    record {
      low = omega arith;
      low' = omega arith;
      long = refl;
      whole = move_mod len a (from % ring) (to % ring) from to (omega arith) (omega arith);
    }

-- after i of them
module _ (a₀ : List ℕ) (from to len : ℕ) (a : List ℕ) (p q i : ℕ) (w : Moving a₀ from to len a p q (len - i)) where
  pub one : i < len → Moving a₀ from to len (set a q (get_or a p 0)) ((p + 1) % ring) ((q + 1) % ring) (len - (i + 1))
  one h =
      let n : len - i ≡ suc (len - (i + 1)) = omega arith in
      record {
        low = omega arith;
        low' = omega arith;
        long = length-set a q _ ∙ w.long;
        whole = sym (move_step (len - (i + 1)) a p q w.low w.low') ∙ rw n at w.whole;
      }

  pub all : len ≤ i → a ≡ ring_move len a₀ from to
  all h = let n : len - i ≡ 0 = omega arith in rw n at w.whole
