-- Sections: begin, find, commit, abandon.
use Rattle.std.specs.Prelude.{cond, List, [], ◌∷◌, ◌++◌, ℕ, ◌+◌, ◌-◌, leb, ltb, eqb, length}
use Rattle.std.proofs.Math.Option.{Option, some, none}
use Rattle.answers.specs.Answer.{done}
use Rattle.answers.specs.Table.{Done, ok}
use Rattle.answers.specs.declared.Lookup.{Lookup}
use Rattle.answers.specs.declared.Lookup.TheVariants.{Relative, PostBase, NotFound}
use Rattle.answers.specs.declared.Refusal.TheVariants.{NoSection, TrackingFull, BadLargest}
use Rattle.field.specs.Field.{Field, equal}
use Rattle.entries.specs.Latest.{last_of}
use Rattle.model.specs.Bounds.{section_entries, entry_uses, queue_places, blocked_values, blocked_sections}
use Rattle.model.specs.Table.{Use, Open, Blocked, Table, inserted_of, blocked_count, Step, refuse}
use Rattle.model.specs.Drop.{closed}

abbrev pub with_open : Option Open → Table → Table
with_open o t =
    record {
      fields = t.fields;
      dropped = t.dropped;
      capacity = t.capacity;
      known = t.known;
      blocked_max = t.blocked_max;
      blocked = t.blocked;
      queue = t.queue;
      section = o;
    }

abbrev pub with_uses : List Use → Open → Open
with_uses us o = record { stream = o.stream; base = o.base; uses = us }

-- "19 NoSection: section call while none"
abbrev pub in_section : {A : Type 0} → Table → Option Open → (Open → Step A) → Step A
in_section t none f = refuse t NoSection
in_section t (some o) f = f o

-- "a section's base is I-D, the live count"
unfoldable pub begin : Table → ℕ → Step Done
begin t stream =
    closed t t.section
    (record { next = with_open (some (record { stream = stream; base = length t.fields; uses = [] })) t; answer = done ok })

-- ---- a reference: "at most 32 distinct entries with a use count each, up to 255"; none where a bound would be passed

abbrev pub before : Use → Option (List Use) → Option (List Use)
before u none = none
before u (some us) = some (u ∷ us)

abbrev pub note_in : ℕ → ℕ → List Use → Option (List Use)
note_in a room [] = cond (ltb 0 room) (some (record { entry = a; count = 1 } ∷ [])) none
note_in a room (u ∷ us) =
    cond (eqb u.entry a)
    (cond (ltb u.count entry_uses) (some (record { entry = u.entry; count = u.count + 1 } ∷ us)) none)
    (before u (note_in a (room - 1) us))

unfoldable pub note : ℕ → List Use → Option (List Use)
note a us = note_in a section_entries us

-- "relative if at or below the base, else post-base"
abbrev pub lookup_of : ℕ → ℕ → Lookup
lookup_of base a = cond (leb a base) (Relative (base - a) a) (PostBase (a - base - 1) a)

-- the entry that a search gave, now referenced
abbrev pub refer_to : {A : Type 0} → Table → Open → Option (List Use) → A → Step A
refer_to t o none x = refuse t TrackingFull
refer_to t o (some us) x = record { next = with_open (some (with_uses us o)) t; answer = done x }

abbrev pub found_at : Table → Open → Option ℕ → Step Lookup
found_at t o none = record { next = t; answer = done NotFound }
found_at t o (some k) = refer_to t o (note (t.dropped + k + 1) o.uses) (lookup_of o.base (t.dropped + k + 1))

-- "a find answers the latest live equal entry, .. and refers to it"
unfoldable pub find : Table → Field → Step Lookup
find t f = in_section t t.section (λ o. found_at t o (last_of (equal f) t.fields))

-- ---- commit and abandon

abbrev pub before_blocked : Blocked → Option (List Blocked) → Option (List Blocked)
before_blocked b none = none
before_blocked b (some bs) = some (b ∷ bs)

abbrev pub block_in : ℕ → ℕ → List Blocked → Option (List Blocked)
block_in v room [] = cond (ltb 0 room) (some (record { largest = v; sections = 1 } ∷ [])) none
block_in v room (b ∷ bs) =
    cond (eqb b.largest v)
    (some (record { largest = b.largest; sections = b.sections + 1 } ∷ bs))
    (before_blocked b (block_in v (room - 1) bs))

-- "if the largest reference is above the known received count it counts one blocked section"
unfoldable pub block : Table → ℕ → Option (List Blocked)
block t largest =
    cond (leb largest t.known)
    (some t.blocked)
    (cond (ltb (blocked_count t.blocked) blocked_sections) (block_in largest blocked_values t.blocked) none)

abbrev pub queued : Table → Open → Option (List Blocked) → Step Done
queued t o none = refuse t TrackingFull
queued t o (some bs) =
    record {
      next = record {
        fields = t.fields;
        dropped = t.dropped;
        capacity = t.capacity;
        known = t.known;
        blocked_max = t.blocked_max;
        blocked = bs;
        queue = t.queue ++ (record { stream = o.stream; uses = o.uses } ∷ []);
        section = none;
      };
      answer = done ok;
    }

-- "for a commit, 21 before 20"
unfoldable pub commit : Table → ℕ → Step Done
unfolding block
commit t largest =
    in_section t t.section
    (λ o. cond (ltb (inserted_of t) largest)
    (refuse t BadLargest)
    (cond (leb queue_places (length t.queue)) (refuse t TrackingFull) (queued t o (block t largest))))

-- "abandon gives all references back"
unfoldable pub abandon : Table → Step Done
abandon t = in_section t t.section (λ o. record { next = with_open none t; answer = done ok })
