-- The queue of committed sections in its array, and what it is in the model.
use Rattle.std.specs.Prelude.{Some, None, Option, Bool, true, false, ◌&&◌, cond, List, [], ◌∷◌, ◌++◌, map, ℕ, suc, ◌+◌, ◌-◌, min, leb, ltb, take, drop, set, replicate}
use Rattle.model.specs.Bounds.{section_entries, queue_places}
use Rattle.model.specs.Table as model
use Rattle.tracking.specs.declared.Queue.{Queue}
use Rattle.tracking.specs.declared.Section.{Section}
use Rattle.blocked.specs.Search.{first_of}
use Rattle.tracking.specs.Uses.{no_held, uses_of}

abbrev pub section_of : Section → model.Section
section_of s = record { stream = s.stream; uses = uses_of s.from s.used s.uses }

abbrev pub sections_of : Queue → List model.Section
sections_of q = map section_of (take q.queued q.places)

-- ---- the rule: every use is of a live entry, and counts at least one

abbrev pub is_live_use : ℕ → ℕ → model.Use → Bool
is_live_use d i u = ltb d u.entry && (leb u.entry i && leb 1 u.count)

abbrev pub all_live : ℕ → ℕ → List model.Use → Bool
all_live d i [] = true
all_live d i (u ∷ us) = is_live_use d i u && all_live d i us

-- the lowest entry that is used, or a number handed in
abbrev pub lowest : ℕ → List model.Use → ℕ
lowest low [] = low
lowest low (u ∷ us) = lowest (min low u.entry) us

-- whether every use is of a live entry, and the lowest entry that is used
pub record Floor : Type 0 where
  pub live : Bool
  pub low : ℕ

abbrev pub no_floor : ℕ → Floor
no_floor low = record { live = false; low = low }

abbrev pub floored : ℕ → Option ℕ → Floor
floored low (Some least) = record { live = true; low = least }
floored low None = no_floor low

abbrev pub section_live : ℕ → ℕ → Section → Bool
section_live d i s = leb s.used section_entries && all_live d i (uses_of s.from s.used s.uses)

-- a section that breaks the rule gives the number handed in back
unfoldable pub section_floor : Section → ℕ → ℕ → ℕ → Floor
section_floor s d i low =
    cond (section_live d i s)
    (record { live = true; low = lowest low (uses_of s.from s.used s.uses) })
    (no_floor low)

abbrev pub all_sections_live : ℕ → ℕ → List Section → Bool
all_sections_live d i [] = true
all_sections_live d i (s ∷ q) = section_live d i s && all_sections_live d i q

abbrev pub lowest_of_all : ℕ → List Section → ℕ
lowest_of_all low [] = low
lowest_of_all low (s ∷ q) = lowest_of_all (lowest low (uses_of s.from s.used s.uses)) q

unfoldable pub queue_floor : Queue → ℕ → ℕ → ℕ → Floor
queue_floor q d i low =
    cond (leb q.queued queue_places && all_sections_live d i (take q.queued q.places))
    (record { live = true; low = lowest_of_all low (take q.queued q.places) })
    (no_floor low)

-- ---- one more, and one less

-- the queue after a step, and whether the step was made
pub record Queued : Type 0 where
  pub made : Bool
  pub queue : Queue

abbrev pub stepped : Queue → Option Queue → Queued
stepped q (Some next) = record { made = true; queue = next }
stepped q None = record { made = false; queue = q }

unfoldable pub pushing : Queue → Section → Queued
pushing q s =
    cond (ltb q.queued queue_places)
    (record { made = true; queue = record { queued = q.queued + 1; places = set q.places q.queued s } })
    (record { made = false; queue = q })

abbrev pub no_section : Section
no_section = record { stream = 0; from = 0; used = 0; uses = replicate section_entries no_held }

-- the place of the stream's oldest section, or how many there are
abbrev pub oldest_of : ℕ → List Section → ℕ
oldest_of stream q = first_of (λ (s : Section). s.stream) stream q

-- the places without the i-th of the first n: what follows it moves up, and the last of them is cleared
abbrev pub closed_up : {A : Type 0} → A → List A → ℕ → ℕ → List A
closed_up empty l n i = take i l ++ (take (n - 1 - i) (drop (suc i) l) ++ (empty ∷ drop n l))

abbrev pub released_at : Queue → ℕ → Queued
released_at q i =
    cond (ltb i q.queued)
    (record { made = true; queue = record { queued = q.queued - 1; places = closed_up no_section q.places q.queued i } })
    (record { made = false; queue = q })

unfoldable pub releasing : Queue → ℕ → Queued
releasing q stream =
    cond (leb q.queued queue_places)
    (released_at q (oldest_of stream (take q.queued q.places)))
    (record { made = false; queue = q })
