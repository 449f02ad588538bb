-- Laws of writing the ring: what is read after a write, and how writes are put together. Assumes nothing.
use mathlib.Core.Path.{◌≡◌, refl, ◌∙◌}
use mathlib.Core.Logic.{◌≢◌}
use mathlib.Core.List.{List, [], ◌∷◌, ◌++◌}
use Prim.Native.Nat.{ℕ, zero, suc, ◌+◌, ◌%◌, ◌≤◌, ◌<◌}
use native.Mathlib.Nat.{add-zero}
use native.Mathlib.Omega.{arith}
use lib.ListN.{length, get_or, set, length-set}
use lib.Seq.{get_or-set_same, get_or-set_other, ext_get_or}
use Rattle.arena.specs.Ring.{ring, ring_read, ring_write}
use Rattle.arena.proofs.Tab.{get_d_tab, tab_ext}
use Rattle.arena.proofs.RingRead.{length_ring_read}

pub length_ring_write : (a : List ℕ) (p : ℕ) (s : List ℕ) → length (ring_write a p s) ≡ length a
length_ring_write a p [] = refl
length_ring_write a p (b ∷ s) = length_ring_write (set a (p % ring) b) (suc p) s ∙ length-set a (p % ring) b

-- only the position modulo the ring matters
pub write_mod : (a : List ℕ) (p q : ℕ) (s : List ℕ) → p % ring ≡ q % ring → ring_write a p s ≡ ring_write a q s
write_mod a p q [] e = refl
write_mod a p q (b ∷ s) e = write_mod (set a (p % ring) b) (suc p) (suc q) s (omega arith) ∙ rw e

-- a byte written at a position in the ring, with the next one wrapped
pub write_step : (a : List ℕ) (p b : ℕ) (s : List ℕ) → p < ring → ring_write a p (b ∷ s) ≡ ring_write (set a p b) ((p + 1) % ring) s
write_step a p b s low =
    let here : p % ring ≡ p = omega arith in
    rw here (write_mod (set a p b) (suc p) ((p + 1) % ring) s (omega arith))

pub write_append : (a : List ℕ) (p : ℕ) (s t : List ℕ) → ring_write a p (s ++ t) ≡ ring_write (ring_write a p s) (p + length s) t
write_append a p [] t = rw add-zero
write_append a p (b ∷ s) t =
    let e : p + suc (length s) ≡ suc p + length s = omega arith in
    rw e (write_append (set a (p % ring) b) (suc p) s t)

-- a place that is not written keeps its byte
pub write_other : (a : List ℕ) (p : ℕ) (s : List ℕ) (j : ℕ) → ((k : ℕ) → k < length s → j ≢ (p + k) % ring)
    → get_or (ring_write a p s) j 0 ≡ get_or a j 0
write_other a p [] j h = refl
write_other a p (b ∷ s) j h =
    write_other (set a (p % ring) b) (suc p) s j (λ k l e. h (suc k) (omega arith) (omega arith))
    ∙ get_or-set_other a (p % ring) j b 0 (λ e. h zero (omega arith) (omega arith))

-- a place that is written has its byte of the string
pub write_same : (a : List ℕ) (p : ℕ) (s : List ℕ) → ring ≤ length a → length s ≤ ring → (i : ℕ) → i < length s
    → get_or (ring_write a p s) ((p + i) % ring) 0 ≡ get_or s i 0
write_same a p [] long short i h = absurd (omega arith)
write_same a p (b ∷ s) long short zero h =
    let e : (p + zero) % ring ≡ p % ring = omega arith in
    rw e (write_other (set a (p % ring) b) (suc p) s (p % ring) (λ k l q. omega arith) ∙ get_or-set_same a (p % ring) b 0 (omega arith))
write_same a p (b ∷ s) long short (suc i) h =
    let e : (p + suc i) % ring ≡ (suc p + i) % ring = omega arith in
    rw e (write_same (set a (p % ring) b) (suc p) s (rw length-set long) (omega arith) i (omega arith))

-- what is written is read back
pub read_back : (a : List ℕ) (p : ℕ) (s : List ℕ) → ring ≤ length a → length s ≤ ring → ring_read (ring_write a p s) p (length s) ≡ s
read_back a p s long short =
    let n = length_ring_read (ring_write a p s) p (length s) in
    ext_get_or 0 (ring_read (ring_write a p s) p (length s)) s n
    (λ i h. let l : i < length s = omega arith in get_d_tab (length s) _ i 0 l ∙ write_same a p s long short i l)

-- a stretch before the one that is written, with which it makes at most one round, is kept
pub read_kept : (a : List ℕ) (q m d : ℕ) (s : List ℕ) → m ≤ d → d + length s ≤ ring
    → ring_read (ring_write a ((q + d) % ring) s) q m ≡ ring_read a q m
read_kept a q m d s h g =
    tab_ext m _ _ (λ i l. write_other a ((q + d) % ring) s ((q + i) % ring) (λ k u e. omega arith))
