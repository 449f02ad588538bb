-- Laws of another capacity: what the answer is by the room that is made, and on the list of fields. Assumes nothing.
use mathlib.Core.Path.{◌≡◌, refl, ◌∙◌}
use mathlib.Core.Bool.{true, false}
use mathlib.Core.Option.{Option, some, none}
use Prim.Native.Nat.{ℕ, ◌≤◌}
use native.Mathlib.Omega.{arith}
use Rattle.arena.specs.Ring.{ring}
use Rattle.entries.specs.Drop.{fewest}
use Rattle.entries.specs.declared.Room.{Room}
use Rattle.entries.proofs.Drop.{found_is_fewest}
use Rattle.ring.specs.Ring.{Cut, live, keeps, free_below, room_in, cut_by, cutting}
use Rattle.ring.specs.declared.Ring.{Ring}
use Rattle.ring.proofs.Growing.{Shrunk, shrunk}
use Rattle.ring.proofs.Keeping.{Arrays, kept, length_live}
use Rattle.ring.proofs.Making.{room_after, room_in_some, room_in_none}

-- on any numbers
module _ (r : Ring) (low c : ℕ) (m : Room) (w : m ≡ room_in r low c) where
  pub stays : m.made ≡ false → ◌≡◌ {A = Cut} (record { made = false; ring = r }) (cutting r low c)
  unfolding cutting
  stays h = rw (← w, h)

  pub goes : m.made ≡ true → ◌≡◌ {A = Cut} (record { made = true; ring = cut_by r m c }) (cutting r low c)
  unfolding cutting
  goes h = rw (← w, h)

-- what a cut comes to, by how many go
abbrev pub cut_of : Ring → ℕ → Option ℕ → Cut
cut_of r c (some k) = record { made = true; ring = cut_by r (room_after r k) c }
cut_of r c none = record { made = false; ring = r }

module _ (r : Ring) (low c : ℕ) (rules : keeps r ≡ true) where
  pub cutting_is : cutting r low c ≡ cut_of r c (fewest (free_below r low) (live r) c)
  unfolding cutting
  cutting_is = go (fewest (free_below r low) (live r) c) refl
    where
      go : (o : Option ℕ) → fewest (free_below r low) (live r) c ≡ o → cutting r low c ≡ cut_of r c o
      go (some k) q = rw (room_in_some r rules low c k q)
      go none q = rw (room_in_none r rules low c q)

  -- it is made only where a number is found
  pub cut_tells : (cutting r low c).made ≡ true → (k : ℕ) × (fewest (free_below r low) (live r) c ≡ some k)
  cut_tells h = go (fewest (free_below r low) (live r) c) refl (rw cutting_is at h)
    where
      go : (o : Option ℕ) → fewest (free_below r low) (live r) c ≡ o → (cut_of r c o).made ≡ true
          → (k : ℕ) × (fewest (free_below r low) (live r) c ≡ some k)
      go (some k) q h = (k, q)
      go none q h = let z : ◌≡◌ {A = ℕ} 0 1 = cc in absurd (omega arith)

  pub cut_stays : fewest (free_below r low) (live r) c ≡ none → cutting r low c ≡ record { made = false; ring = r }
  cut_stays h = cutting_is ∙ rw h

  module _ (k : ℕ) (h : fewest (free_below r low) (live r) c ≡ some k) where
    pub cut_made : (cutting r low c).made ≡ true
    cut_made = rw (cutting_is, h)

    pub cut_shrunk : c ≤ ring → Arrays r → Shrunk r k c (cutting r low c).ring
    cut_shrunk most arrays =
        let f = found_is_fewest (free_below r low) (live r) c k h in
        rw (cutting_is, h) (shrunk r (kept r rules) k (rw (← length_live r) f.within) c most f.fits arrays)
