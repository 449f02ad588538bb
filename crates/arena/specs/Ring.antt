-- The specification: "bytes in the lent arena, wrapping". A position is taken modulo the ring's size.
use Rattle.std.specs.Prelude.{Bool, cond, List, [], ◌∷◌, ℕ, zero, suc, ◌+◌, ◌%◌, leb, length, get_or, set}
use Rattle.answers.specs.Answer.{Answer, done, refused}
use Rattle.answers.specs.declared.Refusal.TheVariants.{BadCall}
use Rattle.arena.specs.Tab.{tab}

-- "arena at least 16,384 bytes"
abbrev pub ring : ℕ
ring = 16384

abbrev pub long_enough : List ℕ → Bool
long_enough a = leb ring (length a)

-- the n bytes from position p on
abbrev pub ring_read : List ℕ → ℕ → ℕ → List ℕ
ring_read a p n = tab n (λ (i : ℕ). get_or a ((p + i) % ring) 0)

-- the arena with s written from position p on
abbrev pub ring_write : List ℕ → ℕ → List ℕ → List ℕ
ring_write a p [] = a
ring_write a p (b ∷ s) = ring_write (set a (p % ring) b) (suc p) s

-- the arena with the n bytes from position p on copied to position q on, the first byte first
abbrev pub ring_move : ℕ → List ℕ → ℕ → ℕ → List ℕ
ring_move zero a p q = a
ring_move (suc n) a p q = ring_move n (set a (q % ring) (get_or a (p % ring) 0)) (suc p) (suc q)

-- "22: short arena"
abbrev pub ring_cut : List ℕ → ℕ → ℕ → Answer (List ℕ)
ring_cut a p n = cond (long_enough a) (done (ring_read a p n)) (refused BadCall)
