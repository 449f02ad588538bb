-- The uses of a section in its array, and what they are in the model.
use Rattle.std.specs.Prelude.{Some, None, Option, Bool, true, false, cond, List, map, ℕ, ◌+◌, leb, ltb, get_or, take, set}
use Rattle.model.specs.Bounds.{section_entries, entry_uses}
use Rattle.model.specs.Table.{Use}
use Rattle.tracking.specs.declared.Held.{Held}
use Rattle.tracking.specs.declared.Uses.{Uses}
use Rattle.blocked.specs.Search.{first_of}

abbrev pub no_held : Held
no_held = record { offset = 0; count = 0 }

-- an entry's absolute index is its offset above the section's first number
abbrev pub use_of : ℕ → Held → Use
use_of from h = record { entry = from + h.offset; count = h.count }

-- the first n uses of an array, in the model
abbrev pub uses_of : ℕ → ℕ → List Held → List Use
uses_of from n us = map (use_of from) (take n us)

-- the place of an entry among the uses, or their number
abbrev pub place_of : ℕ → List Held → ℕ
place_of x us = first_of (λ (h : Held). h.offset) x us

-- a section's uses with one more, or as they were where a bound would be passed
pub record Noted : Type 0 where
  pub fits : Bool
  pub used : ℕ
  pub uses : List Held

abbrev pub noted : List Held → ℕ → Option Uses → Noted
noted us n (Some u) = record { fits = true; used = u.used; uses = u.uses }
noted us n None = record { fits = false; used = n; uses = us }

abbrev pub noted_at : List Held → ℕ → ℕ → ℕ → Noted
noted_at us n x i =
    cond (ltb i n)
    (cond (ltb (get_or us i no_held).count entry_uses)
    (record { fits = true; used = n; uses = set us i (record { offset = x; count = (get_or us i no_held).count + 1 }) })
    (record { fits = false; used = n; uses = us }))
    (cond (ltb n section_entries)
    (record { fits = true; used = n + 1; uses = set us n (record { offset = x; count = 1 }) })
    (record { fits = false; used = n; uses = us }))

-- more uses than an array holds are never there
unfoldable pub noting : List Held → ℕ → ℕ → Noted
noting us n x =
    cond (leb n section_entries) (noted_at us n x (place_of x (take n us))) (record { fits = false; used = n; uses = us })
