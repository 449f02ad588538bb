-- Laws of reading the ring: what a stretch is made of, and that only its position modulo the ring matters. Assumes nothing.
use mathlib.Core.Path.{◌≡◌, ap, ◌∙◌}
use mathlib.Core.Logic.{◌≢◌}
use mathlib.Core.List.{List, ◌∷◌, ◌++◌}
use Prim.Native.Nat.{ℕ, zero, suc, ◌+◌, ◌%◌, ◌<◌}
use native.Mathlib.Omega.{arith}
use lib.ListN.{length, get_or, set}
use lib.Seq.{get_or-set_other}
use Rattle.arena.specs.Tab.{tab}
use Rattle.arena.specs.Ring.{ring, ring_read}
use Rattle.arena.proofs.Tab.{length_tab, tab_ext, tab_add}

pub length_ring_read : (a : List ℕ) (p n : ℕ) → length (ring_read a p n) ≡ n
length_ring_read a p n = length_tab n _

-- bytes at the same places are the same
same_places : (a : List ℕ) (n : ℕ) (f g : ℕ → ℕ) → ((i : ℕ) → f i % ring ≡ g i % ring)
    → tab n (λ (i : ℕ). get_or a (f i % ring) 0) ≡ tab n (λ (i : ℕ). get_or a (g i % ring) 0)
same_places a n f g e = tab_ext n _ _ (λ i l. ap (λ (j : ℕ). get_or a j 0) (e i))

-- only the position modulo the ring matters
pub read_mod : (a : List ℕ) (p q n : ℕ) → p % ring ≡ q % ring → ring_read a p n ≡ ring_read a q n
read_mod a p q n e = same_places a n (λ i. p + i) (λ i. q + i) (λ i. omega arith)

pub read_suc : (a : List ℕ) (p n : ℕ) → ring_read a p (suc n) ≡ get_or a (p % ring) 0 ∷ ring_read a (suc p) n
read_suc a p n =
    let first : (p + zero) % ring ≡ p % ring = omega arith in
    let rest : tab n (λ (i : ℕ). get_or a ((p + suc i) % ring) 0) ≡ ring_read a (suc p) n =
    same_places a n (λ i. p + suc i) (λ i. suc p + i) (λ i. omega arith) in
    cc

-- the same for a position in the ring, with the next one wrapped
pub read_step : (a : List ℕ) (p n : ℕ) → p < ring → ring_read a p (suc n) ≡ get_or a p 0 ∷ ring_read a ((p + 1) % ring) n
read_step a p n low =
    let here : p % ring ≡ p = omega arith in
    let first : get_or a (p % ring) 0 ≡ get_or a p 0 = ap (λ (j : ℕ). get_or a j 0) here in
    let rest : ring_read a (suc p) n ≡ ring_read a ((p + 1) % ring) n = read_mod a (suc p) ((p + 1) % ring) n (omega arith) in
    cc (read_suc a p n)

pub read_add : (a : List ℕ) (p m n : ℕ) → ring_read a p (m + n) ≡ ring_read a p m ++ ring_read a (p + m) n
read_add a p m n =
    tab_add m n _ ∙ ap (λ (l : List ℕ). ring_read a p m ++ l) (same_places a n (λ i. p + (m + i)) (λ i. p + m + i) (λ i. omega arith))

-- a store at a place outside of a stretch keeps it
pub read_set : (a : List ℕ) (p n j b : ℕ) → ((i : ℕ) → i < n → (p + i) % ring ≢ j) → ring_read (set a j b) p n ≡ ring_read a p n
read_set a p n j b h = tab_ext n _ _ (λ i l. get_or-set_other a j ((p + i) % ring) b 0 (h i l))
