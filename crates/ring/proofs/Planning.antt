-- What the plan of a push says of the push: which test refuses it with which answer, and what is known where none does. Assumes nothing.
use mathlib.Core.Path.{◌≡◌, refl, sym, ap, ◌∙◌}
use mathlib.Core.Bool.{true, false}
use mathlib.Core.List.{List}
use Prim.Native.Nat.{ℕ, ◌-◌, ◌≤◌, ◌<◌}
use native.Mathlib.Omega.{arith}
use lib.ListN.{length}
use borrow.Author.Tests.{le-leb, lt-leb, lt-ltb, le-ltb}
use Rattle.arena.specs.Ring.{ring}
use Rattle.entries.specs.Entry.{Entry, cost_of}
use Rattle.entries.specs.declared.Room.{Room}
use Rattle.ring.specs.Plan.{entry_of, Refuses, Readies}
use Rattle.ring.specs.Ring.{largest_count, live, room_in, source_live, pushable, pushed, field_from, drawn, pushing}
use Rattle.ring.specs.declared.Push.TheVariants.{TooLarge, NoRoom, Full, BadCall}
use Rattle.ring.specs.declared.Ring.{Ring}
use Rattle.ring.specs.declared.Source.{Source}
use Rattle.ring.specs.declared.Stored.{Stored}
use Rattle.ring.proofs.Sources.{name_length, value_length}
use Rattle.ring.proofs.Walked.{bounds}

-- what is tested before the entry is looked at
pub record Tested (r : Ring) (a : List ℕ) (s : Source) : Type 0 where
  pub capacity : r.capacity ≤ ring
  pub head : r.head < ring
  pub long : ring ≤ length a
  pub live : source_live r s ≡ true

module _ (r : Ring) (a : List ℕ) (low : ℕ) (s : Source) (n v : List ℕ) where
  not_pushable : pushable r a s ≡ false → pushing r a low s n v ≡ pushed r BadCall
  unfolding pushing
  not_pushable h = rw h

  bad : pushable r a s ≡ false → Refuses r a low s n v BadCall
  bad h = record { answer = not_pushable h; same = λ b. refl }

  pub bad_capacity : ring < r.capacity → Refuses r a low s n v BadCall
  bad_capacity h = bad (rw (lt-leb _ _ h))

  pub bad_head : r.capacity ≤ ring → ring ≤ r.head → Refuses r a low s n v BadCall
  bad_head h₁ h = bad (rw (le-leb _ _ h₁, le-ltb _ _ h))

  pub bad_arena : r.capacity ≤ ring → r.head < ring → length a < ring → Refuses r a low s n v BadCall
  bad_arena h₁ h₂ h = bad (rw (le-leb _ _ h₁, lt-ltb _ _ h₂, lt-leb _ _ h))

  pub bad_source : r.capacity ≤ ring → r.head < ring → ring ≤ length a → source_live r s ≡ false → Refuses r a low s n v BadCall
  bad_source h₁ h₂ h₃ h = bad (rw (le-leb _ _ h₁, lt-ltb _ _ h₂, le-leb _ _ h₃, h))

  module _ (t : Tested r a s) (e : Stored) (d : entry_of e ≡ drawn (live r) s (length n) (length v)) where
    good : pushable r a s ≡ true
    good = rw (le-leb _ _ t.capacity, lt-ltb _ _ t.head, le-leb _ _ t.long, t.live)

    name : length (field_from r a s n v).name ≡ e.name
    name = name_length r a s n v ∙ ap (λ (x : Entry). x.name) (sym d)

    value : length (field_from r a s n v).value ≡ e.value
    value = value_length r a s n v ∙ ap (λ (x : Entry). x.value) (sym d)

    pub too_large : r.capacity < cost_of (entry_of e) → Refuses r a low s n v TooLarge
    unfolding pushing
    too_large h = record { answer = rw (good, name, value, lt-ltb _ _ h); same = λ b. refl }

    module _ (fits : cost_of (entry_of e) ≤ r.capacity) (m : Room) (w : m ≡ room_in r low (r.capacity - cost_of (entry_of e))) where
      pub no_room : m.made ≡ false → Refuses r a low s n v NoRoom
      unfolding pushing
      no_room h = record { answer = rw (good, name, value, le-ltb _ _ fits, ← w, h); same = λ b. refl }

      pub full : m.made ≡ true → largest_count ≤ r.inserted → Refuses r a low s n v Full
      unfolding pushing
      full made h = record { answer = rw (good, name, value, le-ltb _ _ fits, ← w, made, le-ltb _ _ h); same = λ b. refl }

      pub ready : m.made ≡ true → r.inserted < largest_count → Readies r a low s n v e m
      unfolding pushing
      ready made h =
          let b = bounds r low _ m w in
          record {
            answer = rw (good, name, value, le-ltb _ _ fits, ← w, made, lt-ltb _ _ h);
            entry = d;
            long = t.long;
            head = t.head;
            few = h;
            most = t.capacity;
            gone = b.count;
            room = omega (arith, fits, b.size made);
          }
