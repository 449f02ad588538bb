-- What the calls of `place` make of the arena, by the source. Assumes nothing.
use mathlib.Core.Path.{◌≡◌, sym, ◌∙◌}
use mathlib.Core.Bool.{true, cond}
use mathlib.Core.List.{List}
use Prim.Native.Nat.{ℕ, ◌+◌}
use lib.ListN.{length}
use Rattle.arena.specs.Ring.{long_enough, ring_write}
use Rattle.arena.proofs.RingWrite.{length_ring_write, write_append}
use Rattle.entries.specs.Entry.{Entry}
use Rattle.ring.specs.Ring.{placed}
use Rattle.ring.specs.declared.Source.{Source}
use Rattle.ring.specs.declared.Source.TheVariants.{Given}

module _ (a : List ℕ) (head : ℕ) (s : Source) (e : Entry) (n v : List ℕ) (long : long_enough a ≡ true) (b : List ℕ) where
  pub written : s ≡ Given → b ≡ cond (long_enough a) (ring_write a head n) a → (c : List ℕ)
      → c ≡ cond (long_enough b) (ring_write b (head + length n) v) b → c ≡ placed a head s e n v
  written q first c second =
      let b_is : b ≡ ring_write a head n = rw long at first in
      let long' : long_enough b ≡ true = rw (b_is, length_ring_write a head n) long in
      let c_is : c ≡ ring_write b (head + length n) v = rw long' at second in
      rw q (c_is ∙ rw b_is (sym (write_append a head n v)))
