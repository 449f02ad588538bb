-- Laws of the fewest to drop: what is computed is the least number and the only one, and the walk finds it. Assumes nothing.
use mathlib.Core.Path.{◌≡◌, refl, ap, ◌∙◌}
use mathlib.Core.Bool.{Bool, true, false, cond}
use mathlib.Core.List.{List, [], ◌∷◌}
use mathlib.Core.Option.{Option, some, none}
use Prim.Native.Nat.{ℕ, zero, suc, ◌+◌, ◌-◌, ◌%◌, ◌≤◌, ◌<◌}
use native.Mathlib.Numerals.{add-one}
use native.Mathlib.Omega.{arith}
use lib.Dec.{leb, ltb}
use lib.ListN.{take, drop}
use borrow.Author.Tests.{le-leb, leb-true, leb-false, ltb-true, ltb-false}
use Rattle.arena.specs.Ring.{ring}
use Rattle.entries.specs.Entry.{Entry, bytes_of, cost_of, size_of, end_of}
use Rattle.entries.specs.Drop.{Fewest, fewest, one_more_dropped, counted, walked}
use Rattle.entries.specs.declared.Room.{Room}

-- what an answer says of the numbers that would do
abbrev Least : ℕ → List Entry → ℕ → Option ℕ → Type 0
Least free l room (some k) = Fewest free l room k
Least free l room none = (k : ℕ) → Fewest free l room k → ⊥

module _ (free : ℕ) (e : Entry) (l : List Entry) (room : ℕ) (over : room < size_of (e ∷ l)) where
  above : (k : ℕ) → ((j : ℕ) → j < k → room < size_of (drop j l)) → (j : ℕ) → j < suc k → room < size_of (drop j (e ∷ l))
  above k w zero h = over
  above k w (suc j) h = w j (omega arith)

  -- where the first must go and may, the rest decides
  next : (o : Option ℕ) → 0 < free → Least (free - 1) l room o → Least free (e ∷ l) room (one_more_dropped o)
  next (some k) h w =
      record {
        within = omega (arith, w.within);
        allowed = omega (arith, w.allowed);
        fits = w.fits;
        least = above k w.least;
      }
  next none h w = λ k u. go k u
    where
      go : (k : ℕ) → Fewest free (e ∷ l) room k → ⊥
      go zero u = omega (arith, u.fits)
      go (suc k) u =
          w k (record {
            within = omega (arith, u.within);
            allowed = omega (arith, u.allowed);
            fits = u.fits;
            least = λ j v. u.least (suc j) (omega arith);
          })

  -- where it must and may not, no number does
  stuck : free ≤ 0 → (k : ℕ) → Fewest free (e ∷ l) room k → ⊥
  stuck h zero u = omega (arith, u.fits)
  stuck h (suc k) u = omega (arith, u.allowed)

least : (free : ℕ) (l : List Entry) (room : ℕ) → Least free l room (fewest free l room)
least free [] room = record { within = omega arith; allowed = omega arith; fits = omega arith; least = λ j u. absurd (omega arith) }
least free (e ∷ l) room = go (leb (size_of (e ∷ l)) room) refl (ltb 0 free) refl (least (free - 1) l room)
  where
    go : (b : Bool) → leb (size_of (e ∷ l)) room ≡ b → (c : Bool) → ltb 0 free ≡ c → Least (free - 1) l room (fewest (free - 1) l room)
        → Least free (e ∷ l) room (cond b (some 0) (cond c (one_more_dropped (fewest (free - 1) l room)) none))
    go true p c q w =
        record { within = omega arith; allowed = omega arith; fits = leb-true _ _ p; least = λ j u. absurd (omega arith) }
    go false p true q w = next free e l room (leb-false _ _ p) (fewest (free - 1) l room) (ltb-true _ _ q) w
    go false p false q w = stuck free e l room (leb-false _ _ p) (ltb-false _ _ q)

pub found_is_fewest : (free : ℕ) (l : List Entry) (room k : ℕ) → fewest free l room ≡ some k → Fewest free l room k
found_is_fewest free l room k h = rw h at (least free l room)

pub no_fewest : (free : ℕ) (l : List Entry) (room : ℕ) → fewest free l room ≡ none → (k : ℕ) → Fewest free l room k → ⊥
no_fewest free l room h = rw h at (least free l room)

-- there is at most one
pub one_fewest : {free : ℕ} {l : List Entry} {room j k : ℕ} → Fewest free l room j → Fewest free l room k → j ≡ k
one_fewest {free} {l} {room} {j} {k} u w = go (ltb j k) refl (ltb k j) refl
  where
    go : (b : Bool) → ltb j k ≡ b → (c : Bool) → ltb k j ≡ c → j ≡ k
    go true p c q = absurd (omega (arith, u.fits, w.least j (ltb-true j k p)))
    go false p true q = absurd (omega (arith, w.fits, u.least k (ltb-true k j q)))
    go false p false q = omega (arith, ltb-false j k p, ltb-false k j q)

-- what the walk answers where the number is known
abbrev Told : ℕ → List Entry → Room → Option ℕ → Type 0
Told tail l r (some k) = r ≡ record { made = true; count = k; size = size_of (drop k l); tail = end_of tail (take k l) }
Told tail l r none = r.made ≡ false

told : (tail free : ℕ) (l : List Entry) (room : ℕ) → Told tail l (walked (size_of l) tail free l room) (fewest free l room)
told tail free [] room = rw (le-leb 0 room (omega arith))
told tail free (e ∷ l) room =
    let left : cost_of e + size_of l - cost_of e ≡ size_of l = omega arith in
    rw left (go (leb (size_of (e ∷ l)) room) (ltb 0 free) (fewest (free - 1) l room) _ (told ((tail + bytes_of e) % ring) (free - 1) l room))
  where
    go : (b c : Bool) (o : Option ℕ) (r : Room) → Told ((tail + bytes_of e) % ring) l r o
        → Told tail (e ∷ l)
        (cond b
        (record { made = true; count = 0; size = size_of (e ∷ l); tail = tail })
        (cond c (counted r) (record { made = false; count = 0; size = size_of (e ∷ l); tail = tail })))
        (cond b (some 0) (cond c (one_more_dropped o) none))
    go true c o r t = refl
    go false true (some k) r t = ap counted t ∙ rw add-one
    go false true none r t = t
    go false false o r t = refl

module _ (size tail free : ℕ) (l : List Entry) (room : ℕ) (right : size ≡ size_of l) where
  pub walked_some : (k : ℕ) → fewest free l room ≡ some k
      → walked size tail free l room ≡ record { made = true; count = k; size = size_of (drop k l); tail = end_of tail (take k l) }
  walked_some k h = rw right (rw h at (told tail free l room))

  pub walked_none : fewest free l room ≡ none → (walked size tail free l room).made ≡ false
  walked_none h = rw right (rw h at (told tail free l room))
