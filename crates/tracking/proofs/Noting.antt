-- `noting` by its cases. Assumes nothing.
use mathlib.Core.Path.{◌≡◌}
use mathlib.Core.Bool.{true, false}
use mathlib.Core.List.{List}
use Prim.Native.Nat.{ℕ, ◌+◌, ◌≤◌, ◌<◌}
use lib.ListN.{get_or, take, set}
use borrow.Author.Tests.{lt-ltb, le-ltb, le-leb, lt-leb}
use Rattle.model.specs.Bounds.{section_entries, entry_uses}
use Rattle.tracking.specs.declared.Held.{Held}
use Rattle.tracking.specs.Uses.{no_held, place_of, noting}

module _ (us : List Held) (n x : ℕ) where
  pub too_long : section_entries < n → noting us n x ≡ record { fits = false; used = n; uses = us }
  unfolding noting
  too_long h = rw (lt-leb n section_entries h)

  module _ (h : n ≤ section_entries) (i : ℕ) (e : i ≡ place_of x (take n us)) where
    pub used_up : i < n → entry_uses ≤ (get_or us i no_held).count → noting us n x ≡ record { fits = false; used = n; uses = us }
    unfolding noting
    used_up l g = rw (le-leb n section_entries h, ← e, lt-ltb i n l, le-ltb (get_or us i no_held).count entry_uses g)

    pub used_again : i < n → (get_or us i no_held).count < entry_uses
        → noting us n x ≡ record { fits = true; used = n; uses = set us i (record { offset = x; count = (get_or us i no_held).count + 1 }) }
    unfolding noting
    used_again l g = rw (le-leb n section_entries h, ← e, lt-ltb i n l, lt-ltb (get_or us i no_held).count entry_uses g)

    pub no_place : n ≤ i → section_entries ≤ n → noting us n x ≡ record { fits = false; used = n; uses = us }
    unfolding noting
    no_place l g = rw (le-leb n section_entries h, ← e, le-ltb i n l, le-ltb n section_entries g)

    pub used_first : n ≤ i → n < section_entries
        → noting us n x ≡ record { fits = true; used = n + 1; uses = set us n (record { offset = x; count = 1 }) }
    unfolding noting
    used_first l g = rw (le-leb n section_entries h, ← e, le-ltb i n l, lt-ltb n section_entries g)
