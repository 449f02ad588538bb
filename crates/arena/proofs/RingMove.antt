-- Laws of moving bytes in the ring: a move forward writes what was read before it began. Assumes nothing.
use mathlib.Core.Path.{◌≡◌, refl, ap, ◌∙◌}
use mathlib.Core.List.{List}
use Prim.Native.Nat.{ℕ, zero, suc, ◌+◌, ◌%◌, ◌≤◌, ◌<◌}
use native.Mathlib.Nat.{suc-add}
use native.Mathlib.Omega.{arith}
use lib.ListN.{length, get_or, set, length-set}
use Rattle.arena.specs.Ring.{ring, ring_read, ring_write, ring_move}
use Rattle.arena.proofs.RingRead.{read_suc, read_set}
use Rattle.arena.proofs.RingWrite.{write_mod}

pub length_ring_move : (n : ℕ) (a : List ℕ) (p q : ℕ) → length (ring_move n a p q) ≡ length a
length_ring_move zero a p q = refl
length_ring_move (suc n) a p q = length_ring_move n _ (suc p) (suc q) ∙ length-set a (q % ring) _

-- only the positions modulo the ring matter
pub move_mod : (n : ℕ) (a : List ℕ) (p q p' q' : ℕ) → p % ring ≡ p' % ring → q % ring ≡ q' % ring
    → ring_move n a p q ≡ ring_move n a p' q'
move_mod zero a p q p' q' e f = refl
move_mod (suc n) a p q p' q' e f = simp (e, f) (move_mod n _ (suc p) (suc q) (suc p') (suc q') (omega arith) (omega arith))

-- a byte moved between positions in the ring, with the next ones wrapped
pub move_step : (n : ℕ) (a : List ℕ) (p q : ℕ) → p < ring → q < ring
    → ring_move (suc n) a p q ≡ ring_move n (set a q (get_or a p 0)) ((p + 1) % ring) ((q + 1) % ring)
move_step n a p q low low' =
    let from : p % ring ≡ p = omega arith in
    let to : q % ring ≡ q = omega arith in
    simp (from, to) (move_mod n (set a q (get_or a p 0)) (suc p) (suc q) ((p + 1) % ring) ((q + 1) % ring) (omega arith) (omega arith))

-- a byte is read before a write reaches it
pub move_is_copy : (a : List ℕ) (p d n : ℕ) → n ≤ d → d ≤ ring → ring_move n a p (p + d) ≡ ring_write a (p + d) (ring_read a p n)
move_is_copy a p d zero h g = refl
move_is_copy a p d (suc n) h g =
    let b = get_or a (p % ring) 0 in
    let m : List ℕ = set a ((p + d) % ring) b in
    let kept : ring_read m (suc p) n ≡ ring_read a (suc p) n = read_set a (suc p) n ((p + d) % ring) b (λ i l q. omega arith) in
    let rest : ring_move n m (suc p) (suc (p + d)) ≡ ring_write m (suc (p + d)) (ring_read m (suc p) n) =
    rw suc-add at (move_is_copy m (suc p) d n (omega arith) g) in
    rw (read_suc a p n) (rest ∙ ap (ring_write m (suc (p + d))) kept)

pub move_is_copy_mod : (a : List ℕ) (p d n : ℕ) → n ≤ d → d ≤ ring
    → ring_move n a p ((p + d) % ring) ≡ ring_write a ((p + d) % ring) (ring_read a p n)
move_is_copy_mod a p d n h g =
    move_mod n a p ((p + d) % ring) p (p + d) refl (omega arith)
    ∙ move_is_copy a p d n h g
    ∙ write_mod a (p + d) ((p + d) % ring) (ring_read a p n) (omega arith)
