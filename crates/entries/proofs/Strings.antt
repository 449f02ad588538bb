-- Laws of the strings of a chain: a push keeps them, is read back, and copies those of an entry that goes as they were. Assumes nothing.
use mathlib.Core.Path.{◌≡◌, refl, sym, ap, ◌∙◌}
use mathlib.Core.Bool.{true}
use mathlib.Core.List.{List, [], ◌∷◌, ◌++◌, map}
use Prim.Native.Nat.{ℕ, suc, ◌+◌, ◌%◌, ◌≤◌, ◌<◌}
use native.Mathlib.Omega.{arith}
use lib.Dec.{eqb}
use lib.ListN.{length, get_or, take, drop}
use lib.Seq.{drop-cons}
use borrow.Author.Tests.{eqb-true}
use Rattle.arena.specs.Ring.{ring, ring_read, ring_write, ring_move}
use Rattle.arena.proofs.RingRead.{read_add}
use Rattle.arena.proofs.RingWrite.{length_ring_write, write_mod, write_append, read_back, read_kept}
use Rattle.arena.proofs.RingMove.{move_is_copy_mod}
use Rattle.entries.specs.Entry.{Entry, no_entry, bytes_of, end_of, field_of}
use Rattle.entries.specs.Rules.{chained}
use Rattle.entries.proofs.Chain.{and_left, and_right, chained_drop, end_of_drop, bytes_in, bytes_drop, end_of_bytes}

-- the end of a chain, from the first entry
end_of_first : (e : Entry) (l : List Entry) (p : ℕ) → chained p (e ∷ l) ≡ true
    → end_of p (e ∷ l) ≡ (e.start + bytes_in (e ∷ l)) % ring
end_of_first e l p c =
    let st : e.start ≡ p = eqb-true e.start p (and_left (eqb e.start p) _ c) in
    rw st (end_of_bytes p e l)

-- all strings are kept by a write at the end, if both together go round at most once
pub fields_kept : (a s : List ℕ) (l : List Entry) (tail head : ℕ) → chained tail l ≡ true → end_of tail l ≡ head
    → bytes_in l + length s ≤ ring → map (field_of (ring_write a head s)) l ≡ map (field_of a) l
fields_kept a s [] tail head c e b = refl
fields_kept a s (x ∷ l) tail head c e b =
    let at : head ≡ (x.start + bytes_in (x ∷ l)) % ring = sym e ∙ end_of_first x l tail c in
    let at' : head ≡ (x.start + x.name + (x.value + bytes_in l)) % ring = at ∙ ap (λ (i : ℕ). i % ring) (omega arith) in
    let rest : map (field_of (ring_write a head s)) l ≡ map (field_of a) l =
    fields_kept a s l ((tail + bytes_of x) % ring) head (and_right (eqb x.start tail) _ c) e (omega arith) in
    let name : ring_read (ring_write a head s) x.start x.name ≡ ring_read a x.start x.name =
    rw at (read_kept a x.start x.name (bytes_in (x ∷ l)) s (omega arith) b) in
    let value : ring_read (ring_write a head s) (x.start + x.name) x.value ≡ ring_read a (x.start + x.name) x.value =
    rw at' (read_kept a (x.start + x.name) x.value (x.value + bytes_in l) s (omega arith) (omega arith)) in
    rw (rest, name, value)

-- the entry that comes is read back
pub field_new : (a : List ℕ) (head : ℕ) (n v : List ℕ) → ring ≤ length a → length n + length v ≤ ring
    → field_of (ring_write a head (n ++ v)) (record { start = head; name = length n; value = length v }) ≡ record { name = n; value = v }
field_new a head n v long short =
    let b : List ℕ = ring_write a head n in
    let long' : ring ≤ length b = rw (length_ring_write a head n) long in
    let wraps : ring_write b (head + length n) v ≡ ring_write b ((head + length n) % ring) v =
    write_mod b (head + length n) ((head + length n) % ring) v (omega arith) in
    let name : ring_read (ring_write b (head + length n) v) head (length n) ≡ n =
    ap (λ (x : List ℕ). ring_read x head (length n)) wraps
    ∙ read_kept b head (length n) (length n) v (omega arith) short
    ∙ read_back a head n long (omega arith) in
    let value : ring_read (ring_write b (head + length n) v) (head + length n) (length v) ≡ v =
    read_back b (head + length n) v long' (omega arith) in
    rw (write_append a head n v, name, value)

-- the entry at a place of the chain is copied to the end as it was, though it goes: a byte is read before it is written
module _ (a : List ℕ) (l : List Entry) (tail head : ℕ) (c : chained tail l ≡ true) (e : end_of tail l ≡ head) (b : bytes_in l ≤ ring)
    (k : ℕ) (h : k < length l) (x : Entry) (at : get_or l k no_entry ≡ x) where
  moved : (n : ℕ) → n ≤ bytes_of x → ring_move n a x.start head ≡ ring_write a head (ring_read a x.start n)
  moved n u =
      let left : drop k l ≡ x ∷ drop (suc k) l = drop-cons l k no_entry h ∙ ap (λ (y : Entry). y ∷ drop (suc k) l) at in
      let chain : chained (end_of tail (take k l)) (x ∷ drop (suc k) l) ≡ true = rw left at (chained_drop k tail l c) in
      let end : end_of (end_of tail (take k l)) (x ∷ drop (suc k) l) ≡ head = rw left at (end_of_drop k tail l ∙ e) in
      let far : head ≡ (x.start + bytes_in (x ∷ drop (suc k) l)) % ring =
      sym end ∙ end_of_first x (drop (suc k) l) (end_of tail (take k l)) chain in
      let part : bytes_in (drop k l) ≤ ring = omega (arith, bytes_drop k l) in
      let most : bytes_in (x ∷ drop (suc k) l) ≤ ring = rw left at part in
      rw far (move_is_copy_mod a x.start (bytes_in (x ∷ drop (suc k) l)) n (omega arith) most)

  pub field_moved : ring_move (bytes_of x) a x.start head ≡ ring_write a head ((field_of a x).name ++ (field_of a x).value)
  field_moved = moved (bytes_of x) (omega arith) ∙ ap (ring_write a head) (read_add a x.start x.name x.value)

  pub name_moved : ring_move x.name a x.start head ≡ ring_write a head (field_of a x).name
  name_moved = moved x.name (omega arith)
