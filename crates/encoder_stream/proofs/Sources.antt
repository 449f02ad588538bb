-- An insert from a live entry is a put of the field that it stands for. Assumes nothing.
use mathlib.Core.Path.{◌≡◌, refl, sym, ◌∙◌}
use mathlib.Core.Bool.{Bool, true, false, cond}
use mathlib.Core.List.{List}
use Prim.Native.Nat.{ℕ, ◌-◌, ◌%◌}
use lib.Dec.{ltb}
use lib.ListN.{length, length-set}
use Rattle.entries.specs.Entry.{slots}
use Rattle.field.specs.Field.{Field, size_of}
use Rattle.ring.specs.Ring.{largest_count, room_in, field_from, pushable, pushed_by, pushed, pushing, placed_bytes, Pushes, cut_by, cutting, Cut}
use Rattle.ring.specs.declared.Push.TheVariants.{Made, TooLarge, NoRoom, Full, BadCall}
use Rattle.ring.specs.declared.Pushed.{Pushed}
use Rattle.ring.specs.declared.Ring.{Ring}
use Rattle.ring.specs.declared.Source.{Source}
use Rattle.ring.specs.declared.Source.TheVariants.{Given}
use Rattle.ring.proofs.Keeping.{Arrays}
use Rattle.ring.proofs.Pushing.{Usable, pushing_is}
use Rattle.ring.proofs.Sources.{placed_written}

module _ (r : Ring) (a : List ℕ) (low : ℕ) (s : Source) (n v : List ℕ) (u : Usable r a s) where
  abbrev f : Field
  f = field_from r a s n v

  given : Usable r a Given
  given = record { rules = u.rules; long = u.long; there = refl }

  same_push : pushing r a low s n v ≡ pushing r a low Given f.name f.value
  unfolding field_from
  same_push = pushing_is r a low s n v u ∙ sym (pushing_is r a low Given f.name f.value given)

  same_bytes : placed_bytes r a s n v ≡ placed_bytes r a Given f.name f.value
  unfolding field_from
  same_bytes =
      placed_written r a s n v u.rules u.there ∙ sym (placed_written r a Given f.name f.value u.rules refl)

  pub as_given : (b : List ℕ) (p : Pushed) → Pushes r a b low s n v p → Pushes r a b low Given f.name f.value p
  as_given b p w = record { next = w.next ∙ same_push; bytes = rw (← same_bytes) w.bytes }

-- the arrays keep their lengths
pub arrays_kept : (r : Ring) (a : List ℕ) (low : ℕ) (s : Source) (n v : List ℕ) → Arrays r → Arrays (pushing r a low s n v).ring
unfolding pushing field_from
arrays_kept r a low s n v w =
    go (pushable r a s) (ltb r.capacity (size_of f')) (room_in r low (r.capacity - size_of f')).made (ltb r.inserted largest_count)
  where
    f' : Field
    f' = field_from r a s n v

    go : (can over made few : Bool)
        → Arrays
        (cond can
        (cond over
        (pushed r TooLarge)
        (cond made
        (cond few (pushed (pushed_by r (room_in r low (r.capacity - size_of f')) (length f'.name) (length f'.value)) Made) (pushed r Full))
        (pushed r NoRoom)))
        (pushed r BadCall)).ring
    go false over made few = w
    go true true made few = w
    go true false false few = w
    go true false true false = w
    go true false true true =
        record {
          starts = length-set r.starts (r.inserted % slots) r.head ∙ w.starts;
          names = length-set r.names (r.inserted % slots) (length f'.name) ∙ w.names;
          values = length-set r.values (r.inserted % slots) (length f'.value) ∙ w.values;
        }

pub arrays_cut : (r : Ring) (low c : ℕ) → Arrays r → Arrays (cutting r low c).ring
unfolding cutting
arrays_cut r low c w = go (room_in r low c).made
  where
    go : (b : Bool) → Arrays (cond {A = Cut} b (record { made = true; ring = cut_by r (room_in r low c) c }) (record { made = false; ring = r })).ring
    go true = record { starts = w.starts; names = w.names; values = w.values }
    go false = w
