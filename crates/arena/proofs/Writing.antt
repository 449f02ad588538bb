-- What the loop of `write` keeps: writing what is left makes up the whole. Assumes nothing.
use mathlib.Core.Path.{◌≡◌, refl, sym, ◌∙◌}
use mathlib.Core.List.{List}
use Prim.Native.Nat.{ℕ, suc, ◌+◌, ◌%◌, ◌≤◌, ◌<◌}
use native.Mathlib.Numerals.{add-one}
use native.Mathlib.Omega.{arith}
use lib.ListN.{length, get_or, drop, set, length-set, drop_of_length-le}
use lib.Seq.{drop-cons}
use Rattle.arena.specs.Ring.{ring, ring_write}
use Rattle.arena.proofs.RingWrite.{write_mod, write_step}

pub record Writing (a₀ : List ℕ) (at : ℕ) (s a : List ℕ) (q i : ℕ) : Type 0 where
  pub low : q < ring
  pub long : length a ≡ length a₀
  pub whole : ring_write a q (drop i s) ≡ ring_write a₀ at s

pub none : (a : List ℕ) (at : ℕ) (s : List ℕ) → Writing a at s a (at % ring) 0
none a at s = record { low = omega arith; long = refl; whole = write_mod a (at % ring) at s (omega arith) }

module _ (a₀ : List ℕ) (at : ℕ) (s a : List ℕ) (q i : ℕ) (w : Writing a₀ at s a q i) where
  pub one : i < length s → Writing a₀ at s (set a q (get_or s i 0)) ((q + 1) % ring) (i + 1)
  one h =
      record {
        low = omega arith;
        long = length-set a q _ ∙ w.long;
        whole = rw (add-one i) (sym (write_step a q (get_or s i 0) (drop (suc i) s) w.low) ∙ rw (drop-cons s i 0 h) at w.whole);
      }

  pub all : length s ≤ i → a ≡ ring_write a₀ at s
  all h = rw (drop_of_length-le s h) at w.whole
