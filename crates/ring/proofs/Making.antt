-- Laws of the room in a ring that keeps its rules: as many of the oldest go as are the fewest on its list. Assumes nothing.
use mathlib.Core.Path.{◌≡◌, refl, sym}
use mathlib.Core.Bool.{Bool, true, false, cond}
use mathlib.Core.Option.{Option, some, none}
use Prim.Native.Nat.{ℕ, ◌+◌, ◌-◌, ◌≤◌}
use native.Mathlib.Omega.{arith}
use lib.Dec.{leb}
use lib.ListN.{take, drop}
use borrow.Author.Tests.{leb-true}
use Rattle.entries.specs.Drop.{Fewest, fewest}
use Rattle.entries.specs.Entry.{size_of, end_of}
use Rattle.entries.specs.declared.Room.{Room}
use Rattle.entries.proofs.Drop.{found_is_fewest, walked_some, walked_none}
use Rattle.field.specs.Field.{overhead}
use Rattle.ring.specs.Ring.{live, keeps, free_below, room_in, no_room, room_for, making}
use Rattle.ring.specs.declared.Ring.{Ring}
use Rattle.ring.proofs.Keeping.{kept, length_live}

-- the room after the k oldest went
abbrev pub room_after : Ring → ℕ → Room
room_after r k = record { made = true; count = k; size = size_of (drop k (live r)); tail = end_of r.tail (take k (live r)) }

-- a room by the number that goes
abbrev Told : Ring → Room → Option ℕ → Type 0
Told r m (some k) = m ≡ room_after r k
Told r m none = m.made ≡ false

-- the number that a room tells
abbrev pub count_of : Room → Option ℕ
count_of m = cond m.made (some m.count) none

module _ (r : Ring) (rules : keeps r ≡ true) (low : ℕ) where
  told_in : (room : ℕ) → Told r (room_in r low room) (fewest (free_below r low) (live r) room)
  told_in room = go (fewest (free_below r low) (live r) room) refl
    where
      go : (o : Option ℕ) → fewest (free_below r low) (live r) room ≡ o → Told r (room_in r low room) o
      go (some n) q = walked_some r.size r.tail (free_below r low) (live r) room (sym (kept r rules).rules.total) n q
      go none q = walked_none r.size r.tail (free_below r low) (live r) room (sym (kept r rules).rules.total) q

  told_for : (n v : ℕ) → Told r (room_for r low n v) (making r low (n + v + overhead))
  unfolding room_for
  told_for n v = go (leb (n + v + overhead) r.capacity)
    where
      go : (b : Bool)
          → Told r (cond b (room_in r low (r.capacity - (n + v + overhead))) (no_room r))
          (cond b (fewest (free_below r low) (live r) (r.capacity - (n + v + overhead))) none)
      go true = told_in (r.capacity - (n + v + overhead))
      go false = refl

  -- a room to the last field where it is made
  pub room_in_some : (room n : ℕ) → fewest (free_below r low) (live r) room ≡ some n → room_in r low room ≡ room_after r n
  room_in_some room n h = rw h at (told_in room)

  pub room_in_none : (room : ℕ) → fewest (free_below r low) (live r) room ≡ none → (room_in r low room).made ≡ false
  room_in_none room h = rw h at (told_in room)

  module _ (n v : ℕ) where
    pub room_for_some : (c : ℕ) → making r low (n + v + overhead) ≡ some c → room_for r low n v ≡ room_after r c
    room_for_some c h = rw h at (told_for n v)

    pub room_for_none : making r low (n + v + overhead) ≡ none → (room_for r low n v).made ≡ false
    room_for_none h = rw h at (told_for n v)

    pub room_for_tells : count_of (room_for r low n v) ≡ making r low (n + v + overhead)
    room_for_tells = go (making r low (n + v + overhead)) (told_for n v)
      where
        go : (o : Option ℕ) → Told r (room_for r low n v) o → count_of (room_for r low n v) ≡ o
        go (some c) t = rw t
        go none t = rw t

-- what the number says, for a size
pub record Makes (r : Ring) (low size c : ℕ) : Type 0 where
  pub fits : size ≤ r.capacity
  pub fewest : Fewest (free_below r low) (live r) (r.capacity - size) c
  pub within : c ≤ r.inserted - r.dropped
  pub left : size_of (drop c (live r)) + size ≤ r.capacity

pub makes : (r : Ring) (low size c : ℕ) → making r low size ≡ some c → Makes r low size c
makes r low size c h = go (leb size r.capacity) refl h
  where
    go : (b : Bool) → leb size r.capacity ≡ b → cond b (fewest (free_below r low) (live r) (r.capacity - size)) none ≡ some c
        → Makes r low size c
    go true p h =
        let fits : size ≤ r.capacity = leb-true _ _ p in
        let found = found_is_fewest (free_below r low) (live r) (r.capacity - size) c h in
        record {
          fits = fits;
          fewest = found;
          within = rw (← length_live r) found.within;
          left = omega (arith, found.fits);
        }
    go false p h = let z : ◌≡◌ {A = ℕ} 0 1 = cc in absurd (omega arith)
