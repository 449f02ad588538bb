-- What a search of the entries found. Assumes nothing.
use mathlib.Core.Path.{◌≡◌, sym}
use mathlib.Core.Bool.{Bool, true, cond}
use mathlib.Core.List.{List, map}
use mathlib.Core.Option.{some, none}
use Prim.Native.Nat.{ℕ, ◌-◌, ◌<◌}
use Rattle.std.specs.Prelude.{Some, None, Option as Maybe}
use Rattle.arena.specs.Ring.{long_enough}
use Rattle.entries.specs.Entry.{no_entry, between, field_of}
use Rattle.entries.specs.Latest.{matches, latest}
use Rattle.entries.proofs.Between.{length_fields}
use Rattle.entries.proofs.Last.{some_is_last}
use Rattle.field.specs.Field.{Field}
use Rattle.ring.specs.declared.Ring.{Ring}
use Rattle.dynamic.specs.Calls.{latest_after}

abbrev pub fields_after : Ring → ℕ → List ℕ → List Field
fields_after r gone a = map (field_of a) (between r.starts r.names r.values gone r.inserted)

module _ (r : Ring) (a : List ℕ) (gone : ℕ) (n v : List ℕ) (whole : Bool) where
  -- it is one of the entries that were searched
  pub found_within : (k : ℕ) → latest_after r gone a n v whole ≡ some k → k < r.inserted - gone
  found_within k h =
      rw (← length_fields r.starts r.names r.values gone r.inserted a)
      (some_is_last (matches n v whole) (field_of a no_entry) (fields_after r gone a) k h).within

  module _ (x : Maybe ℕ) (long : long_enough a ≡ true) (told : latest x ≡ cond (long_enough a) (latest_after r gone a n v whole) none) where
    pub found_at : (k : ℕ) → x ≡ Some k → latest_after r gone a n v whole ≡ some k
    found_at k e = sym (rw (long, e) at told)

    pub found_none : x ≡ None → latest_after r gone a n v whole ≡ none
    found_none e = sym (rw (long, e) at told)
