-- What the loop of `copy` keeps: storing what is left makes up the whole; and what `copy` answers by the room. Assumes nothing.
use mathlib.Core.Path.{◌≡◌, refl, ap, ◌∙◌}
use mathlib.Core.List.{List, [], ◌∷◌}
use Prim.Native.Nat.{ℕ, suc, ◌+◌, ◌-◌, ◌%◌, ◌≤◌, ◌<◌}
use native.Mathlib.Numerals.{add-one}
use native.Mathlib.Omega.{arith}
use lib.ListN.{length, get_or, set, drop, length-set, length-drop, drop_of_length-le}
use lib.Seq.{sets, sets-eq}
use borrow.Rule.Slice.PartMut.{mid_of, put_mid}
use Rattle.std.proofs.lemmas.List.{append-nil, append_assoc, drop-drop, length-take}
use borrow.Author.Tests.{le-leb}
use Rattle.std.specs.Prelude.{Ok, Err}
use Rattle.answers.specs.Answer.{done}
use Rattle.answers.specs.Write.{Writes}
use Rattle.answers.specs.declared.Refusal.TheVariants.{OutputFull}
use Rattle.answers.proofs.Write.{writes_full, writes_next}
use Rattle.arena.specs.Ring.{ring, ring_read, ring_cut}
use Rattle.arena.proofs.RingRead.{length_ring_read, read_mod, read_step}

pub record Copying (a : List ℕ) (from len : ℕ) (l : List ℕ) (at end : ℕ) (m : List ℕ) (p i : ℕ) : Type 0 where
  pub low : p < ring
  pub long : length m ≡ length l
  pub whole : sets m i (ring_read a p (end - i)) ≡ sets l at (ring_read a from len)

pub none : (a : List ℕ) (from len : ℕ) (l : List ℕ) → Copying a from len l 0 len l (from % ring) 0
none a from len l =
    let n : len - 0 ≡ len = omega arith in
    record {
      low = omega arith;
      long = refl;
      whole = rw n (ap (sets l 0) (read_mod a (from % ring) from len (omega arith)));
    }

module _ (a : List ℕ) (from len : ℕ) (l : List ℕ) (at end : ℕ) (m : List ℕ) (p i : ℕ) (w : Copying a from len l at end m p i) where
  pub one : i < end → Copying a from len l at end (set m i (get_or a p 0)) ((p + 1) % ring) (i + 1)
  one h =
      let n : end - i ≡ suc (end - suc i) = omega arith in
      let next : ring_read a p (end - i) ≡ get_or a p 0 ∷ ring_read a ((p + 1) % ring) (end - suc i) =
      rw n (read_step a p (end - suc i) w.low) in
      record {
        low = omega arith;
        long = length-set m i _ ∙ w.long;
        whole = rw (add-one i) (rw next at w.whole);
      }

  pub all : end ≤ i → m ≡ sets l at (ring_read a from len)
  all h = let n : end - i ≡ 0 = omega arith in rw n at w.whole

-- what is stored in the part from a place on is stored in the whole
pub part : (l s : List ℕ) (at n : ℕ) (m : List ℕ) → at + n ≤ length l → length s ≡ n → m ≡ sets (mid_of at n l) 0 s
    → put_mid at n l m ≡ sets l at s
part l s at n m h e stores =
    let long : length (mid_of at n l) ≡ n = simp (length-take, length-drop) (omega arith) in
    let last : drop (0 + length s) (mid_of at n l) ≡ [] = drop_of_length-le (mid_of at n l) (omega arith) in
    let whole : m ≡ s = stores ∙ sets-eq s (mid_of at n l) 0 (omega arith) ∙ rw last (append-nil s) in
    rw (whole, sets-eq s l at (omega arith), e, drop-drop, append_assoc)

module _ (a : List ℕ) (from len : ℕ) (l : List ℕ) (at : ℕ) (long : ring ≤ length a) where
  cut : ring_cut a from len ≡ done (ring_read a from len)
  cut = rw (le-leb ring (length a) long)

  pub no_room : length l < at + len → Writes (ring_cut a from len) l at (Err OutputFull) l
  no_room h = writes_full _ l at (ring_read a from len) cut (rw length_ring_read h)

  pub room : (m : List ℕ) → at + len ≤ length l → m ≡ sets l at (ring_read a from len)
      → Writes (ring_cut a from len) l at (Ok (at + len)) m
  room m h stores = writes_next _ l at (ring_read a from len) cut (at + len) m (rw length_ring_read h) (rw length_ring_read) stores
