-- What names a new entry, by what the searches found; and the uses that it notes. Assumes nothing.
use mathlib.Core.Path.{◌≡◌}
use mathlib.Core.Bool.{true, false}
use mathlib.Core.List.{List}
use mathlib.Core.Option.{some, none}
use Prim.Native.Nat.{ℕ, ◌+◌, ◌≤◌}
use native.Mathlib.Omega.{arith}
use Rattle.model.specs.Insert.{Origin, equal_entry, static_name, named_entry, plain}
use Rattle.ring.specs.declared.Ring.{Ring}
use Rattle.static_table.specs.Static.{lowest_name}
use Rattle.tracking.specs.Uses.{Noted}
use Rattle.tracking.specs.declared.Section.{Section}
use Rattle.dynamic.specs.Calls.{latest_after, origin_after, noted_in, with_uses, note_also, noted_for, NewerThan}
use Rattle.dynamic.specs.declared.Origin.{Origin as Naming}
use Rattle.dynamic.specs.declared.Origin.TheVariants.{EqualEntry, StaticName, NamedEntry, Plain}

module _ (r : Ring) (gone : ℕ) (a n v : List ℕ) where
  pub names_equal : (k : ℕ) → latest_after r gone a n v true ≡ some k → equal_entry (gone + k + 1) ≡ origin_after r gone a n v
  unfolding origin_after
  names_equal k h = rw h

  module _ (other : latest_after r gone a n v true ≡ none) where
    pub names_static : (i : ℕ) → lowest_name n ≡ some i → static_name i ≡ origin_after r gone a n v
    unfolding origin_after
    names_static i h = rw (other, h)

    module _ (unlisted : lowest_name n ≡ none) where
      pub names_named : (k : ℕ) → latest_after r gone a n v false ≡ some k → named_entry (gone + k + 1) ≡ origin_after r gone a n v
      unfolding origin_after
      names_named k h = rw (other, unlisted, h)

      pub names_plain : latest_after r gone a n v false ≡ none → plain ≡ origin_after r gone a n v
      unfolding origin_after
      names_plain h = rw (other, unlisted, h)

module _ (s : Section) (x : ℕ) (r : Noted) (e : r ≡ noted_in s x) where
  -- no room for the new entry's use
  pub noted_not : (w : Origin) → r.fits ≡ false → r ≡ noted_for s x w
  noted_not (equal_entry y) h = rw (← e, h)
  noted_not (static_name i) h = e
  noted_not (named_entry y) h = rw (← e, h)
  noted_not plain h = e

  -- the older one's too
  pub noted_also : (y : ℕ) (u : Noted) → r.fits ≡ true → u ≡ noted_in (with_uses s r) y → u ≡ note_also s y (noted_in s x)
  noted_also y u h f = rw (← e, h) f

pub newer_more : (d d' : ℕ) (w : Naming) → d' ≤ d → NewerThan d w → NewerThan d' w
newer_more d d' (EqualEntry y) h w = omega arith
newer_more d d' (StaticName i) h w = tt
newer_more d d' (NamedEntry y) h w = omega arith
newer_more d d' Plain h w = tt
