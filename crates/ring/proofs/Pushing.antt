-- Laws of a push to a ring that keeps its rules: which answer when, and what is then on its list of fields. Assumes nothing.
use mathlib.Core.Path.{◌≡◌, refl, ◌∙◌}
use mathlib.Core.Bool.{Bool, true, false, cond}
use mathlib.Core.List.{List, ◌++◌}
use mathlib.Core.Option.{Option, some, none}
use Prim.Native.Nat.{ℕ, ◌-◌, ◌≤◌, ◌<◌}
use lib.Dec.{leb, ltb}
use lib.ListN.{length}
use borrow.Author.Tests.{leb-true, leb-false, ltb-true, ltb-false, le-leb, lt-leb, le-ltb, lt-ltb}
use Rattle.arena.specs.Ring.{long_enough, ring_write}
use Rattle.entries.specs.Drop.{fewest}
use Rattle.field.specs.Field.{Field, size_of}
use Rattle.ring.specs.Ring.{largest_count, live, keeps, free_below, room_in, field_from, source_live, pushed_by, pushed, push_room, push_field, pushing, placed_bytes, bytes_after, making, Pushes}
use Rattle.ring.specs.declared.Push.{Push}
use Rattle.ring.specs.declared.Push.TheVariants.{Made, TooLarge, NoRoom, Full, BadCall}
use Rattle.ring.specs.declared.Pushed.{Pushed}
use Rattle.ring.specs.declared.Ring.{Ring}
use Rattle.ring.specs.declared.Source.{Source}
use Rattle.ring.proofs.Keeping.{Arrays, kept, passes}
use Rattle.ring.proofs.Growing.{Grown, grown}
use Rattle.ring.proofs.Making.{room_after, room_in_some, room_in_none, makes}
use Rattle.ring.proofs.Sources.{placed_written}

-- a ring that keeps its rules, with the arena and the source of an entry
pub record Usable (r : Ring) (a : List ℕ) (s : Source) : Type 0 where
  pub rules : keeps r ≡ true
  pub long : long_enough a ≡ true
  pub there : source_live r s ≡ true

-- what a push of a field comes to, by how many go
abbrev pub push_of : Ring → Field → Option ℕ → Pushed
push_of r f (some k) =
    cond (ltb r.inserted largest_count)
    (pushed (pushed_by r (room_after r k) (length f.name) (length f.value)) Made)
    (pushed r Full)
push_of r f none = pushed r (cond (leb (size_of f) r.capacity) NoRoom TooLarge)

module _ (r : Ring) (low : ℕ) (f : Field) (rules : keeps r ≡ true) where
  pushes_field : push_field r low f ≡ push_of r f (making r low (size_of f))
  pushes_field = go (leb (size_of f) r.capacity) refl
    where
      room : (o : Option ℕ) → fewest (free_below r low) (live r) (r.capacity - size_of f) ≡ o → leb (size_of f) r.capacity ≡ true
          → push_room r (room_in r low (r.capacity - size_of f)) (length f.name) (length f.value) ≡ push_of r f o
      room (some k) q p = rw (room_in_some r rules low _ k q)
      room none q p = rw (room_in_none r rules low _ q, p)

      go : (b : Bool) → leb (size_of f) r.capacity ≡ b
          → push_field r low f ≡ push_of r f (cond b (fewest (free_below r low) (live r) (r.capacity - size_of f)) none)
      go true p = rw (le-ltb r.capacity (size_of f) (leb-true _ _ p)) (room _ refl p)
      go false p = rw (lt-ltb r.capacity (size_of f) (leb-false _ _ p), p)

pub pushing_is : (r : Ring) (a : List ℕ) (low : ℕ) (s : Source) (n v : List ℕ) → Usable r a s
    → pushing r a low s n v ≡ push_of r (field_from r a s n v) (making r low (size_of (field_from r a s n v)))
unfolding pushing
pushing_is r a low s n v u =
    rw (passes r (kept r u.rules) a s u.long u.there) (pushes_field r low (field_from r a s n v) u.rules)

-- what an answer to a push of a size tells
abbrev pub Tells : Ring → ℕ → ℕ → Push → Type 0
Tells r low size Made = ((k : ℕ) × (making r low size ≡ some k)) × (r.inserted < largest_count)
Tells r low size Full = ((k : ℕ) × (making r low size ≡ some k)) × (largest_count ≤ r.inserted)
Tells r low size NoRoom = (size ≤ r.capacity) × (fewest (free_below r low) (live r) (r.capacity - size) ≡ none)
Tells r low size TooLarge = r.capacity < size
Tells r low size BadCall = ⊥

pub record Stays (r : Ring) (a b : List ℕ) (p : Pushed) (x : Push) : Type 0 where
  pub answer : p.push ≡ x
  pub same : p.ring ≡ r
  pub bytes : b ≡ a

module _ (r : Ring) (low : ℕ) (f : Field) where
  tells_of : (o : Option ℕ) → making r low (size_of f) ≡ o → Tells r low (size_of f) (push_of r f o).push
  tells_of (some k) q = go (ltb r.inserted largest_count) refl
    where
      go : (b : Bool) → ltb r.inserted largest_count ≡ b
          → Tells r low (size_of f)
          (cond b (pushed (pushed_by r (room_after r k) (length f.name) (length f.value)) Made) (pushed r Full)).push
      go true p = ((k, q), ltb-true _ _ p)
      go false p = ((k, q), ltb-false _ _ p)
  tells_of none q = go (leb (size_of f) r.capacity) refl
    where
      go : (b : Bool) → leb (size_of f) r.capacity ≡ b → Tells r low (size_of f) (cond b NoRoom TooLarge)
      go true p = (leb-true _ _ p, rw p at q)
      go false p = leb-false _ _ p

module _ {r : Ring} {a b : List ℕ} {low : ℕ} {s : Source} {n v : List ℕ} {p : Pushed} (u : Usable r a s)
    (w : Pushes r a b low s n v p) where
  answered : p ≡ push_of r (field_from r a s n v) (making r low (size_of (field_from r a s n v)))
  answered = w.next ∙ pushing_is r a low s n v u

  -- what the answer tells
  pub push_tells : Tells r low (size_of (field_from r a s n v)) p.push
  push_tells = rw answered (tells_of r low (field_from r a s n v) _ refl)

  same_where : (x : Push) → p ≡ pushed r x → bytes_after x a (placed_bytes r a s n v) ≡ a → Stays r a b p x
  same_where x e h = record { answer = rw e; same = rw e; bytes = w.bytes ∙ rw e h }

  pub push_too_large : r.capacity < size_of (field_from r a s n v) → Stays r a b p TooLarge
  push_too_large h = same_where TooLarge (answered ∙ simp (lt-leb _ _ h)) refl

  pub push_no_room : size_of (field_from r a s n v) ≤ r.capacity
      → fewest (free_below r low) (live r) (r.capacity - size_of (field_from r a s n v)) ≡ none → Stays r a b p NoRoom
  push_no_room fits h = same_where NoRoom (answered ∙ simp (le-leb _ _ fits, h)) refl

  module _ (k : ℕ) (h : making r low (size_of (field_from r a s n v)) ≡ some k) where
    pub push_full : largest_count ≤ r.inserted → Stays r a b p Full
    push_full g = same_where Full (answered ∙ rw (h, le-ltb _ _ g)) refl

    module _ (g : r.inserted < largest_count) where
      made : p ≡ pushed (pushed_by r (room_after r k) (length (field_from r a s n v).name) (length (field_from r a s n v).value)) Made
      made = answered ∙ rw (h, lt-ltb _ _ g)

      pub push_made : p.push ≡ Made
      push_made = rw made

      pub push_grown : Arrays r → Grown r a k (field_from r a s n v) p.ring b
      push_grown arrays =
          let f = field_from r a s n v in
          let m = makes r low (size_of f) k h in
          let written : b ≡ ring_write a r.head (f.name ++ f.value) =
          w.bytes ∙ rw made (placed_written r a s n v u.rules u.there) in
          rw (made, written) (grown r (kept r u.rules) k m.within a f m.left arrays u.long g)
