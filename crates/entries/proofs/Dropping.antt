-- What the loop of `fewest` keeps: the walk over what is left makes up the whole. Assumes nothing.
use mathlib.Core.Path.{◌≡◌, ap, ◌∙◌}
use mathlib.Core.Bool.{Bool, true, false, cond}
use lib.Dec.{leb}
use mathlib.Core.List.{List, [], ◌∷◌}
use Prim.Native.Nat.{ℕ, suc, ◌+◌, ◌-◌, ◌%◌, ◌≤◌, ◌<◌, min}
use native.Mathlib.Nat.{add-zero, zero-add}
use native.Mathlib.Numerals.{add-one}
use native.Mathlib.Omega.{arith}
use lib.ListN.{length, drop, length-drop}
use borrow.Author.Tests.{le-leb, lt-leb, le-ltb, lt-ltb}
use Rattle.arena.specs.Ring.{ring}
use Rattle.field.specs.Field.{overhead}
use Rattle.entries.specs.Entry.{Entry, bytes_of, cost_of}
use Rattle.entries.specs.Drop.{counted, walked}
use Rattle.entries.specs.declared.Room.{Room}

-- the answer where k went before
abbrev after : ℕ → Room → Room
after k r = record { made = r.made; count = r.count + k; size = r.size; tail = r.tail }

after_counted : (k : ℕ) (r : Room) → after k (counted r) ≡ after (k + 1) r
after_counted k r = let n : r.count + 1 + k ≡ r.count + (k + 1) = omega arith in rw n

-- the first k of l went, and left and at are the size and the tail since
pub record Dropping (size tail free : ℕ) (l : List Entry) (room left at k : ℕ) : Type 0 where
  pub rest : walked size tail free l room ≡ after k (walked left at (free - k) (drop k l) room)

pub start : (size tail free : ℕ) (l : List Entry) (room : ℕ) → Dropping size tail free l room size tail 0
start size tail free l room = let n : free - 0 ≡ free = omega arith in record { rest = rw (n, add-zero) }

module _ (size tail free : ℕ) (l : List Entry) (room left at k : ℕ) (w : Dropping size tail free l room left at k) where
  pub enough : left ≤ room → walked size tail free l room ≡ record { made = true; count = k; size = left; tail = at }
  enough h = w.rest ∙ go (drop k l)
    where
      go : (m : List Entry) → after k (walked left at (free - k) m room) ≡ record { made = true; count = k; size = left; tail = at }
      go [] = rw (le-leb _ _ h, zero-add)
      go (e ∷ m) = rw (le-leb _ _ h, zero-add)

  -- as many as may go went
  pub over : k ≡ min free (length l) → walked size tail free l room ≡ record { made = leb left room; count = k; size = left; tail = at }
  over most = w.rest ∙ go (drop k l) (length-drop k l)
    where
      by_test : (b : Bool)
          → after k (cond b (record { made = true; count = 0; size = left; tail = at }) (record { made = false; count = 0; size = left; tail = at }))
          ≡ record { made = b; count = k; size = left; tail = at }
      by_test true = rw zero-add
      by_test false = rw zero-add

      go : (m : List Entry) → length m ≡ length l - k
          → after k (walked left at (free - k) m room) ≡ record { made = leb left room; count = k; size = left; tail = at }
      go [] n = rw zero-add
      go (e ∷ m) n = rw (le-ltb 0 (free - k) (omega arith)) (by_test (leb left room))

  module _ (h : room < left) where
    pub step : k < free → (e : Entry) → drop k l ≡ e ∷ drop (suc k) l → (n size' : ℕ) → n ≡ bytes_of e
        → size' ≡ left - (n + overhead) → Dropping size tail free l room size' ((at % ring + n) % ring) (k + 1)
    step f e next n size' en es =
        let one : walked left at (free - k) (drop k l) room
        ≡ counted (walked (left - cost_of e) ((at + bytes_of e) % ring) (free - k - 1) (drop (suc k) l) room) =
        rw (next, lt-leb _ _ h, lt-ltb 0 (free - k) (omega arith)) in
        let left' : left - cost_of e ≡ size' = rw (es, en) in
        let tail' : (at + bytes_of e) % ring ≡ (at % ring + n) % ring = rw en (omega arith) in
        let free' : free - k - 1 ≡ free - (k + 1) = omega arith in
        record { rest = w.rest ∙ ap (after k) one ∙ after_counted k _ ∙ rw (left', tail', free', add-one k) }
