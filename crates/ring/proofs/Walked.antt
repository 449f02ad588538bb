-- Bounds of the walk on any numbers: it passes entries of the list only, and where room is made the size is within it. Assumes nothing.
use mathlib.Core.Path.{◌≡◌, refl}
use mathlib.Core.Bool.{Bool, true, false, cond}
use mathlib.Core.List.{List, [], ◌∷◌}
use Prim.Native.Nat.{ℕ, suc, ◌+◌, ◌-◌, ◌%◌, ◌≤◌}
use native.Mathlib.Omega.{arith}
use lib.Dec.{leb, ltb}
use lib.ListN.{length}
use borrow.Author.Tests.{leb-true}
use Rattle.arena.specs.Ring.{ring}
use Rattle.entries.specs.Drop.{counted, walked}
use Rattle.entries.specs.Entry.{Entry, bytes_of, cost_of}
use Rattle.entries.specs.declared.Room.{Room}
use Rattle.entries.proofs.Between.{length_between}
use Rattle.ring.specs.Ring.{live, room_in}
use Rattle.ring.specs.declared.Ring.{Ring}

-- what holds of a walk's answer over so many entries
pub record Bounded (most room : ℕ) (m : Room) : Type 0 where
  pub count : m.count ≤ most
  pub size : m.made ≡ true → m.size ≤ room

stays : (most room size tail : ℕ) (made : Bool) → (made ≡ true → size ≤ room)
    → Bounded most room (record { made = made; count = 0; size = size; tail = tail })
stays most room size tail made h = record { count = omega arith; size = h }

bounded : (size tail free : ℕ) (l : List Entry) (room : ℕ) → Bounded (length l) room (walked size tail free l room)
bounded size tail free [] room = stays 0 room size tail (leb size room) (leb-true size room)
bounded size tail free (e ∷ l) room =
    go (leb size room) refl (ltb 0 free) _ (bounded (size - cost_of e) ((tail + bytes_of e) % ring) (free - 1) l room)
  where
    go : (b : Bool) → leb size room ≡ b → (c : Bool) (m : Room) → Bounded (length l) room m
        → Bounded (suc (length l)) room
        (cond b
        (record { made = true; count = 0; size = size; tail = tail })
        (cond c (counted m) (record { made = false; count = 0; size = size; tail = tail })))
    go true p c m w = stays _ room size tail true (λ h. leb-true size room p)
    go false p true m w = record { count = omega (arith, w.count); size = w.size }
    go false p false m w = stays _ room size tail false (λ h. let z : ◌≡◌ {A = ℕ} 0 1 = cc in absurd (omega arith))

module _ (r : Ring) (low room : ℕ) (m : Room) where
  pub bounds : m ≡ room_in r low room → Bounded (r.inserted - r.dropped) room m
  bounds w =
      rw (w, ← length_between r.starts r.names r.values r.dropped r.inserted)
      (bounded r.size r.tail (low - r.dropped - 1) (live r) room)
