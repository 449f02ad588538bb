-- Laws of the source of an entry: how long its strings are, and that a ring that keeps its rules places just these. Assumes nothing.
use mathlib.Core.Path.{◌≡◌, refl, sym}
use mathlib.Core.Bool.{true}
use mathlib.Core.List.{List, ◌++◌}
use Prim.Native.Nat.{ℕ, ◌+◌, ◌<◌}
use lib.ListN.{length}
use borrow.Author.Tests.{ltb-true}
use Rattle.arena.specs.Ring.{ring_write, ring_move}
use Rattle.arena.proofs.RingRead.{length_ring_read}
use Rattle.arena.proofs.RingWrite.{write_append}
use Rattle.entries.specs.Entry.{bytes_of, field_of}
use Rattle.entries.proofs.Strings.{name_moved, field_moved}
use Rattle.ring.specs.Ring.{live, keeps, entry_in, drawn, field_from, live_in, source_live, placed_bytes}
use Rattle.ring.specs.declared.Ring.{Ring}
use Rattle.ring.specs.declared.Source.{Source}
use Rattle.ring.specs.declared.Source.TheVariants.{Given, NameOf, CopyOf}
use Rattle.ring.proofs.Keeping.{Kept, kept, length_live, bytes_most}

-- a source that is live
pub name_live : (m k : ℕ) (s : Source) → s ≡ NameOf k → live_in m s ≡ true → k < m
name_live m k s e h = ltb-true k m (rw e at h)

pub copy_live : (m k : ℕ) (s : Source) → s ≡ CopyOf k → live_in m s ≡ true → k < m
copy_live m k s e h = ltb-true k m (rw e at h)

pub name_length : (r : Ring) (a : List ℕ) (s : Source) (n v : List ℕ)
    → length (field_from r a s n v).name ≡ (drawn (live r) s (length n) (length v)).name
unfolding field_from
name_length r a Given n v = refl
name_length r a (NameOf k) n v = length_ring_read a (entry_in r k).start (entry_in r k).name
name_length r a (CopyOf k) n v = length_ring_read a (entry_in r k).start (entry_in r k).name

pub value_length : (r : Ring) (a : List ℕ) (s : Source) (n v : List ℕ)
    → length (field_from r a s n v).value ≡ (drawn (live r) s (length n) (length v)).value
unfolding field_from
value_length r a Given n v = refl
value_length r a (NameOf k) n v = refl
value_length r a (CopyOf k) n v = length_ring_read a ((entry_in r k).start + (entry_in r k).name) (entry_in r k).value

-- the strings of a live entry are moved as they were
module _ (r : Ring) (a : List ℕ) (w : Kept r) (k : ℕ) (h : k < length (live r)) where
  name_there : ring_move (entry_in r k).name a (entry_in r k).start r.head ≡ ring_write a r.head (field_of a (entry_in r k)).name
  name_there = name_moved a (live r) r.tail r.head w.rules.chain w.rules.ends (bytes_most r w) k h (entry_in r k) refl

  field_there : ring_move (bytes_of (entry_in r k)) a (entry_in r k).start r.head
      ≡ ring_write a r.head ((field_of a (entry_in r k)).name ++ (field_of a (entry_in r k)).value)
  field_there = field_moved a (live r) r.tail r.head w.rules.chain w.rules.ends (bytes_most r w) k h (entry_in r k) refl

  -- and a value is written behind a name
  name_then : (v : List ℕ)
      → ring_write (ring_move (entry_in r k).name a (entry_in r k).start r.head) (r.head + (entry_in r k).name) v
      ≡ ring_write a r.head ((field_of a (entry_in r k)).name ++ v)
  name_then v =
      let l = length_ring_read a (entry_in r k).start (entry_in r k).name in
      let both = write_append a r.head (field_of a (entry_in r k)).name v in
      rw name_there (sym (rw l at both))

pub placed_written : (r : Ring) (a : List ℕ) (s : Source) (n v : List ℕ) → keeps r ≡ true → source_live r s ≡ true
    → placed_bytes r a s n v ≡ ring_write a r.head ((field_from r a s n v).name ++ (field_from r a s n v).value)
unfolding placed_bytes field_from
placed_written r a Given n v w h = refl
placed_written r a (NameOf k) n v w h = name_then r a (kept r w) k (rw (length_live r) (ltb-true _ _ h)) v
placed_written r a (CopyOf k) n v w h = field_there r a (kept r w) k (rw (length_live r) (ltb-true _ _ h))
