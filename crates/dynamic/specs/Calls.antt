-- What each call does to the record, to the last field, and what it answers.
use Rattle.std.specs.Prelude.{Result, Ok, Err, Option as Maybe, Some, None, Bool, true, false, cond, List, map, ◌++◌, ◌≡◌, ℕ, ◌+◌, ◌-◌, ◌<◌, leb, ltb, length, replicate}
use Rattle.std.proofs.Math.Option.{Option, some, none}
use Rattle.answers.specs.declared.Insertion.{Insertion}
use Rattle.answers.specs.declared.Insertion.TheVariants.{NotInserted}
use Rattle.answers.specs.declared.Lookup.{Lookup}
use Rattle.answers.specs.declared.Lookup.TheVariants.{Static, NotFound}
use Rattle.answers.specs.declared.Refusal.{Refusal}
use Rattle.answers.specs.declared.Refusal.TheVariants.{MaxBlockedStreamsTooLarge, UnknownStreamId, ShrinkBlocked, SectionOpen, NoSection, TrackingFull, BadLargest, BadCall, CountTooLarge}
use Rattle.arena.specs.Ring.{ring_write, long_enough}
use Rattle.entries.specs.Entry.{slots, between, field_of}
use Rattle.entries.specs.Latest.{last_of, matches}
use Rattle.entries.specs.declared.Room.{Room}
use Rattle.model.specs.Bounds.{section_entries, queue_places, blocked_values, blocked_sections}
use Rattle.model.specs.Insert.{Origin, equal_entry, static_name, named_entry, plain, or_else, insertion_of}
use Rattle.model.specs.Section.{lookup_of}
use Rattle.ring.specs.Ring.{Cut, largest_count, fields_of, room_for, pushing, cutting}
use Rattle.ring.specs.declared.Pushed.{Pushed}
use Rattle.ring.specs.declared.Ring.{Ring}
use Rattle.ring.specs.declared.Source.TheVariants.{Given}
use Rattle.static_table.specs.Static.{lowest_name}
use Rattle.tracking.specs.Queue.{Queued, no_section, pushing as queueing, releasing}
use Rattle.tracking.specs.declared.Uses.{Uses}
use Rattle.tracking.specs.Uses.{Noted, no_held, noting}
use Rattle.blocked.specs.Waiting.{Counted, no_value, let_go}
use Rattle.tracking.specs.declared.Queue.{Queue}
use Rattle.tracking.specs.declared.Section.{Section}
use Rattle.blocked.specs.declared.Waiting.{Waiting}
use Rattle.dynamic.specs.declared.Inserting.{Inserting}
use Rattle.dynamic.specs.declared.Looked.{Looked}
use Rattle.dynamic.specs.declared.Origin.{Origin as Naming}
use Rattle.dynamic.specs.declared.Origin.TheVariants.{EqualEntry, StaticName, NamedEntry, Plain}
use Rattle.dynamic.specs.declared.Replied.{Replied}
use Rattle.dynamic.specs.declared.Table.{Table}
use Rattle.dynamic.specs.Record.{sound, usable, lowest_used}
-- the parts that need no record
unfoldable pub use Rattle.call_parts.specs.Parts.{capacity_answer, push_reply}
pub use Rattle.call_parts.specs.Parts.{tested, counted_with, with_uses}

-- ---- the record with some fields set

-- the entries
abbrev pub with_ring : Ring → Table → Table
with_ring r t =
    record {
      ring = r;
      known = t.known;
      most = t.most;
      waiting = t.waiting;
      queue = t.queue;
      active = t.active;
      base = t.base;
      section = t.section;
    }

-- the blocked maximum
abbrev pub with_most : ℕ → Table → Table
with_most m t =
    record {
      ring = t.ring;
      known = t.known;
      most = m;
      waiting = t.waiting;
      queue = t.queue;
      active = t.active;
      base = t.base;
      section = t.section;
    }

-- the open section
abbrev pub with_section : Bool → ℕ → Section → Table → Table
with_section on b s t =
    record {
      ring = t.ring;
      known = t.known;
      most = t.most;
      waiting = t.waiting;
      queue = t.queue;
      active = on;
      base = b;
      section = s;
    }

-- a section went into the queue, and is no longer open
abbrev pub committed : Queue → Waiting → Table → Table
committed q w t =
    record {
      ring = t.ring;
      known = t.known;
      most = t.most;
      waiting = w;
      queue = q;
      active = false;
      base = t.base;
      section = t.section;
    }

-- the parts that a commit changes
abbrev pub with_parts : Queue → Waiting → Bool → Table → Table
with_parts q w on t =
    record {
      ring = t.ring;
      known = t.known;
      most = t.most;
      waiting = w;
      queue = q;
      active = on;
      base = t.base;
      section = t.section;
    }

-- the queue
abbrev pub with_queue : Queue → Table → Table
with_queue q t =
    record {
      ring = t.ring;
      known = t.known;
      most = t.most;
      waiting = t.waiting;
      queue = q;
      active = t.active;
      base = t.base;
      section = t.section;
    }

-- the known received count
abbrev pub raised : ℕ → Table → Table
raised k t =
    record {
      ring = t.ring;
      known = k;
      most = t.most;
      waiting = let_go t.waiting k;
      queue = t.queue;
      active = t.active;
      base = t.base;
      section = t.section;
    }

abbrev pub answer : Table → Result Unit Refusal → Replied
answer t r = record { table = t; reply = r }

abbrev pub no : Table → Refusal → Replied
no t r = record { table = t; reply = Err r }

-- ---- 22 first, and then 18 or 19

abbrev pub when_sound : Table → Replied → Replied
when_sound t r = cond (sound t) r (no t BadCall)

-- 22 first, then 18 or 19, and else the lowest entry that a section uses; w: whether the call needs an open section
abbrev pub admitting : Table → Bool → Result ℕ Refusal
admitting t w =
    cond (sound t)
    (cond t.active (cond w (Ok (lowest_used t)) (Err SectionOpen)) (cond w (Err NoSection) (Ok (lowest_used t))))
    (Err BadCall)

-- with an arena, which is to be long enough
abbrev pub admitting_with : Table → List ℕ → Bool → Result ℕ Refusal
admitting_with t a w = cond (long_enough a) (admitting t w) (Err BadCall)

abbrev pub when_closed : Table → Replied → Replied
when_closed t r = when_sound t (cond t.active (no t SectionOpen) r)

abbrev pub when_open : Table → Replied → Replied
when_open t r = when_sound t (cond t.active r (no t NoSection))

-- ---- the table's own calls

-- "a fresh table has capacity and blocked maximum 0"
unfoldable pub fresh_table : Table
fresh_table =
    record {
      ring = record {
        inserted = 0;
        dropped = 0;
        size = 0;
        capacity = 0;
        tail = 0;
        head = 0;
        starts = replicate slots 0;
        names = replicate slots 0;
        values = replicate slots 0;
      };
      known = 0;
      most = 0;
      waiting = record { total = 0; distinct = 0; values = replicate blocked_values no_value };
      queue = record { queued = 0; places = replicate queue_places no_section };
      active = false;
      base = 0;
      section = no_section;
    }

abbrev pub cut_to : Table → Cut → Replied
cut_to t k = cond k.made (answer (with_ring k.ring t) (Ok tt)) (no t ShrinkBlocked)

abbrev pub cut_unless : Table → ℕ → Option Refusal → Replied
cut_unless t c (some r) = no t r
cut_unless t c none = cut_to t (cutting t.ring (lowest_used t) c)

unfoldable pub set_capacity : Table → ℕ → Replied
set_capacity t c = when_closed t (cut_unless t c (capacity_answer c))

unfoldable pub set_most : Table → ℕ → Replied
set_most t m = when_closed t (cond (leb blocked_sections m) (no t MaxBlockedStreamsTooLarge) (answer (with_most m t) (Ok tt)))

abbrev pub put_by : Table → Pushed → Replied
put_by t p = answer (with_ring p.ring t) (push_reply t.ring.capacity p.push)

unfoldable pub put : Table → List ℕ → List ℕ → List ℕ → Replied
put t a n v =
    cond (usable t a)
    (cond t.active (no t SectionOpen) (put_by t (pushing t.ring a (lowest_used t) Given n v)))
    (no t BadCall)

-- ---- sections

abbrev pub new_section : Table → ℕ → Section
new_section t stream = record { stream = stream; from = t.ring.dropped; used = 0; uses = replicate section_entries no_held }

unfoldable pub begin : Table → ℕ → Replied
begin t stream = when_closed t (answer (with_section true (t.ring.inserted - t.ring.dropped) (new_section t stream) t) (Ok tt))

unfoldable pub abandon : Table → Replied
abandon t = when_open t (answer (with_section false t.base t.section t) (Ok tt))

abbrev pub queued_with : Table → Counted → Queue → Replied
queued_with t w q = cond w.fits (answer (committed q w.waiting t) (Ok tt)) (no t TrackingFull)

abbrev pub commit_place : Table → ℕ → Queued → Replied
commit_place t largest q =
    cond q.made (queued_with t (counted_with t.waiting t.known largest) q.queue) (no t TrackingFull)

unfoldable pub commit : Table → ℕ → Replied
commit t largest =
    when_open t (cond (ltb t.ring.inserted largest) (no t BadLargest) (commit_place t largest (queueing t.queue t.section)))

-- one more use of an entry in a section
abbrev pub noted_in : Section → ℕ → Noted
noted_in s x = noting s.uses s.used (x - s.from)

abbrev pub with_noted : Noted → Table → Table
with_noted r t = with_section t.active t.base (with_uses t.section r) t

-- the latest live entry of a field or of a name, by its absolute index
abbrev pub latest_of : Table → List ℕ → List ℕ → List ℕ → Bool → Option ℕ
latest_of t a n v whole = last_of (matches n v whole) (fields_of t.ring a)

abbrev pub looked : Table → Result Lookup Refusal → Looked
looked t f = record { table = t; found = f }

abbrev pub refer_to : Table → ℕ → Noted → Looked
refer_to t x r = cond r.fits (looked (with_noted r t) (Ok (lookup_of t.base x))) (looked t (Err TrackingFull))

abbrev pub found_at : Table → Option ℕ → Looked
found_at t none = looked t (Ok NotFound)
found_at t (some k) = refer_to t (t.ring.dropped + k + 1) (noted_in t.section (t.ring.dropped + k + 1))

unfoldable pub find : Table → List ℕ → List ℕ → List ℕ → Looked
find t a n v =
    cond (usable t a)
    (cond t.active (found_at t (latest_of t a n v true)) (looked t (Err NoSection)))
    (looked t (Err BadCall))

-- ---- the insert of a section

abbrev pub inserting : Table → Result Insertion Refusal → Inserting
inserting t i = record { table = t; inserted = i }

abbrev pub not_made : Table → Lookup → Inserting
not_made t l = inserting t (Ok (NotInserted l))

abbrev pub name_to : Table → ℕ → Noted → Inserting
name_to t x r = cond r.fits (not_made (with_noted r t) (lookup_of t.base x)) (inserting t (Err TrackingFull))

abbrev pub name_at : Table → Option ℕ → Inserting
name_at t none = not_made t NotFound
name_at t (some k) = name_to t (t.ring.dropped + k + 1) (noted_in t.section (t.ring.dropped + k + 1))

unfoldable pub not_inserted : Table → List ℕ → List ℕ → List ℕ → Inserting
not_inserted t a n v = or_else (lowest_name n) (λ i. not_made t (Static i)) (name_at t (latest_of t a n v false))

-- what names the new entry: d is how many entries are gone once room is made
abbrev pub latest_after : Ring → ℕ → List ℕ → List ℕ → List ℕ → Bool → Option ℕ
latest_after r d a n v whole =
    last_of (matches n v whole) (map (field_of a) (between r.starts r.names r.values d r.inserted))

unfoldable pub origin_after : Ring → ℕ → List ℕ → List ℕ → List ℕ → Origin
origin_after r d a n v =
    or_else (latest_after r d a n v true) (λ k. equal_entry (d + k + 1))
    (or_else (lowest_name n) static_name (or_else (latest_after r d a n v false) (λ k. named_entry (d + k + 1)) plain))

abbrev pub origin_of : Naming → Origin
origin_of (EqualEntry x) = equal_entry x
origin_of (StaticName i) = static_name i
origin_of (NamedEntry x) = named_entry x
origin_of Plain = plain

-- the older entry lies below a new one, and above a number
abbrev pub OlderThan : ℕ → Naming → Type 0
OlderThan a (EqualEntry x) = x < a
OlderThan a (StaticName i) = Unit {0}
OlderThan a (NamedEntry x) = x < a
OlderThan a Plain = Unit {0}

abbrev pub NewerThan : ℕ → Naming → Type 0
NewerThan d (EqualEntry x) = d < x
NewerThan d (StaticName i) = Unit {0}
NewerThan d (NamedEntry x) = d < x
NewerThan d Plain = Unit {0}

-- the new entry's use, and an older one's too
abbrev pub note_also : Section → ℕ → Noted → Noted
note_also s x r = cond r.fits (noted_in (with_uses s r) x) r

abbrev pub noted_for : Section → ℕ → Origin → Noted
noted_for s a (equal_entry x) = note_also s x (noted_in s a)
noted_for s a (static_name i) = noted_in s a
noted_for s a (named_entry x) = note_also s x (noted_in s a)
noted_for s a plain = noted_in s a

-- uses that fit, as a section's; where they do not fit there are none
abbrev pub Fitted : Maybe Uses → Noted → Type 0
Fitted None r = r.fits ≡ false
Fitted (Some u) r = r ≡ record { fits = true; used = u.used; uses = u.uses }

abbrev pub inserted_with : Table → Pushed → Origin → Noted → Inserting
inserted_with t p w u =
    cond u.fits
    (cond (ltb t.ring.inserted largest_count)
    (inserting (with_noted u (with_ring p.ring t)) (Ok (insertion_of t.base (t.ring.inserted + 1) w)))
    (inserting t (Err CountTooLarge)))
    (inserting t (Err TrackingFull))

unfoldable pub made : Table → Room → List ℕ → List ℕ → List ℕ → Inserting
made t r a n v =
    inserted_with t (pushing t.ring a (lowest_used t) Given n v) (origin_after t.ring (t.ring.dropped + r.count) a n v)
    (noted_for t.section (t.ring.inserted + 1) (origin_after t.ring (t.ring.dropped + r.count) a n v))

abbrev pub made_or : Table → Room → List ℕ → List ℕ → List ℕ → Inserting
made_or t r a n v = cond r.made (made t r a n v) (not_inserted t a n v)

abbrev pub insert_open : Table → List ℕ → List ℕ → List ℕ → Inserting
insert_open t a n v =
    cond (leb t.most t.waiting.total)
    (not_inserted t a n v)
    (made_or t (room_for t.ring (lowest_used t) (length n) (length v)) a n v)

-- the arena after a call that may insert: the new entry's strings stand at the head
abbrev pub bytes_after : Table → Table → List ℕ → List ℕ → List ℕ → List ℕ
bytes_after t u a n v = cond (ltb t.ring.inserted u.ring.inserted) (ring_write a t.ring.head (n ++ v)) a

unfoldable pub insert : Table → List ℕ → List ℕ → List ℕ → Inserting
insert t a n v =
    cond (usable t a)
    (cond t.active (insert_open t a n v) (inserting t (Err NoSection)))
    (inserting t (Err BadCall))

-- ---- reports

unfoldable pub release : Table → ℕ → Replied
release t stream =
    when_closed t
    (cond (releasing t.queue stream).made
    (answer (with_queue (releasing t.queue stream).queue t) (Ok tt))
    (no t UnknownStreamId))

unfoldable pub increment : Table → ℕ → Replied
increment t n =
    when_closed t
    (cond (ltb largest_count (t.known + n)) (no t CountTooLarge) (answer (raised (t.known + n) t) (Ok tt)))
