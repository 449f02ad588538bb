-- What a call answers and makes of a record depends on the arena through its length and its live strings alone. Assumes nothing.
use mathlib.Core.Path.{◌≡◌, refl, sym, ap, ◌∙◌}
use mathlib.Core.Bool.{Bool, true, false, cond}
use mathlib.Core.List.{List, map}
use Prim.Native.Nat.{ℕ, zero, suc, ◌+◌, ◌-◌, ◌≤◌}
use native.Mathlib.Omega.{arith}
use lib.Dec.{leb}
use lib.ListN.{length, drop, set}
use lib.Seq.{sets}
use Rattle.answers.specs.Answer.{Answer, done, refused, and_then}
use Rattle.arena.specs.Ring.{long_enough}
use Rattle.decoder.specs.Section as section
use Rattle.section_steps.specs.declared.Cursor.{Cursor}
use Rattle.section_steps.specs.declared.Field.{Field as Kept}
use Rattle.dynamic.specs.Calls as calls
use Rattle.dynamic.specs.Record.{lowest_used}
use Rattle.dynamic.specs.declared.Table.{Table}
use Rattle.entries.specs.Entry.{between, field_of}
use Rattle.entries.specs.declared.Room.{Room}
use Rattle.entries.proofs.Between.{between_drop}
use Rattle.field.specs.Field.{Field, overhead}
use Rattle.field_lines.specs.Line.{line_on}
use Rattle.ring.specs.Ring.{live, fields_of, field_from, room_in, no_room, room_for, pushable, push_field, pushed, pushing, cut_by, cutting, Cut}
use Rattle.ring.specs.declared.Push.TheVariants.{BadCall}
use Rattle.ring.specs.declared.Pushed.{Pushed}
use Rattle.ring.specs.declared.Ring.{Ring}
use Rattle.ring.specs.declared.Source.{Source}
use Rattle.ring.specs.declared.Source.TheVariants.{Given}
use Rattle.ring.proofs.Growing.{map_drop}
use Rattle.ring.proofs.Sources.{name_length, value_length}
use Rattle.ring.proofs.Walked.{bounds}

-- ---- a push, by the length of the arena alone

same_lengths : (r : Ring) (low : ℕ) (f g : Field) → length f.name ≡ length g.name → length f.value ≡ length g.value
    → push_field r low f ≡ push_field r low g
same_lengths r low f g p q = rw (p, q)

-- a string's length stands in the ring
pub same_push : (r : Ring) (a b : List ℕ) (low : ℕ) (s : Source) (n v : List ℕ) → long_enough a ≡ long_enough b
    → pushing r a low s n v ≡ pushing r b low s n v
unfolding pushing
same_push r a b low s n v long =
    rw long
    (ap (λ (p : Pushed). cond (pushable r b s) p (pushed r BadCall))
    (same_lengths r low (field_from r a s n v) (field_from r b s n v)
    (name_length r a s n v ∙ sym (name_length r b s n v)) (value_length r a s n v ∙ sym (value_length r b s n v))))

-- ---- the entries that are left once the oldest went

module _ (r : Ring) (a b : List ℕ) (same : fields_of r a ≡ fields_of r b) where
  abbrev left : ℕ → List ℕ → List Field
  left k c = map (field_of c) (between r.starts r.names r.values (r.dropped + k) r.inserted)

  left_of : (k : ℕ) → k ≤ r.inserted - r.dropped → (c : List ℕ) → left k c ≡ drop k (fields_of r c)
  left_of k h c = rw (between_drop r.starts r.names r.values r.dropped r.inserted k h) (map_drop (field_of c) k (live r))

  same_left : (k : ℕ) → k ≤ r.inserted - r.dropped → left k a ≡ left k b
  same_left k h = left_of k h a ∙ ap (drop k) same ∙ sym (left_of k h b)

  pub same_cut : (low c : ℕ) → fields_of (cutting r low c).ring a ≡ fields_of (cutting r low c).ring b
  unfolding cutting
  same_cut low c = go (room_in r low c).made
    where
      cut : Bool → Cut
      cut made = cond made (record { made = true; ring = cut_by r (room_in r low c) c }) (record { made = false; ring = r })

      go : (made : Bool) → fields_of (cut made).ring a ≡ fields_of (cut made).ring b
      go true = same_left (room_in r low c).count (bounds r low c (room_in r low c) refl).count
      go false = same

  few : (low n v : ℕ) → (room_for r low n v).count ≤ r.inserted - r.dropped
  unfolding room_for
  few low n v = go (leb (n + v + overhead) r.capacity)
    where
      go : (fits : Bool) → (cond fits (room_in r low (r.capacity - (n + v + overhead))) (no_room r)).count ≤ r.inserted - r.dropped
      go true = (bounds r low (r.capacity - (n + v + overhead)) _ refl).count
      go false = omega arith

  same_origin : (k : ℕ) → k ≤ r.inserted - r.dropped → (n v : List ℕ)
      → calls.origin_after r (r.dropped + k) a n v ≡ calls.origin_after r (r.dropped + k) b n v
  unfolding calls.origin_after
  same_origin k h n v = rw (same_left k h)

module _ (t : Table) (a b : List ℕ) (long : long_enough a ≡ long_enough b) (same : fields_of t.ring a ≡ fields_of t.ring b) where
  -- ---- the calls with an arena

  module _ (n v : List ℕ) where
    push : pushing t.ring a (lowest_used t) Given n v ≡ pushing t.ring b (lowest_used t) Given n v
    push = same_push t.ring a b (lowest_used t) Given n v long

    pub same_put : calls.put t a n v ≡ calls.put t b n v
    unfolding calls.put
    same_put = rw (long, push)

    pub same_find : calls.find t a n v ≡ calls.find t b n v
    unfolding calls.find
    same_find = rw (long, same)

    same_named : calls.not_inserted t a n v ≡ calls.not_inserted t b n v
    unfolding calls.not_inserted
    same_named = rw same

    same_made : (room : Room) → room.count ≤ t.ring.inserted - t.ring.dropped → calls.made t room a n v ≡ calls.made t room b n v
    unfolding calls.made
    same_made room h = rw (push, same_origin t.ring a b same room.count h n v)

    pub same_insert : calls.insert t a n v ≡ calls.insert t b n v
    unfolding calls.insert
    same_insert =
        let room = room_for t.ring (lowest_used t) (length n) (length v) in
        rw (long, same_named, same_made room (few t.ring a b same (lowest_used t) (length n) (length v)))

  -- ---- a section

  module _ (s : List ℕ) where
    same_cursor : (c : Cursor) → section.cursor_at (section.on_table t a) s c ≡ section.cursor_at (section.on_table t b) s c
    unfolding section.cursor_at section.start_of
    same_cursor c = rw long

    same_field : (base at : ℕ) → section.line_with (section.on_table t a) base s at ≡ section.line_with (section.on_table t b) base s at
    unfolding section.line_with
    same_field base at =
        ap (λ (l : List Field). line_on (record { fields = l; inserted = t.ring.inserted; dropped = t.ring.dropped }) base s at) same

    pub same_line : (room cap : ℕ) (c : Cursor)
        → section.line_of (section.on_table t a) s room cap c ≡ section.line_of (section.on_table t b) s room cap c
    unfolding section.line_of
    same_line room cap c = rw (same_cursor c) (go (section.cursor_at (section.on_table t b) s c))
      where
        go : (x : Answer Cursor) → section.line_from (section.on_table t a) s room cap c x ≡ section.line_from (section.on_table t b) s room cap c x
        go (done d) = rw (same_field d.base d.at)
        go (refused r) = refl

    pub same_bytes : (c : Cursor) → section.bytes_at (section.on_table t a) s c ≡ section.bytes_at (section.on_table t b) s c
    unfolding section.bytes_at
    same_bytes c = rw (same_cursor c) (go (section.cursor_at (section.on_table t b) s c))
      where
        go : (x : Answer Cursor)
            → section.bytes_of (and_then x (λ d. section.line_with (section.on_table t a) d.base s d.at))
            ≡ section.bytes_of (and_then x (λ d. section.line_with (section.on_table t b) d.base s d.at))
        go (done d) = ap section.bytes_of (same_field d.base d.at)
        go (refused r) = refl

    module _ {R : Type 0} (make : Kept → R) where
      same_from : (k : ℕ) (c : Cursor) (fs : List R) (o : List ℕ)
          → section.read_from make (section.on_table t a) k s c fs o ≡ section.read_from make (section.on_table t b) k s c fs o
      unfolding section.read_from
      same_from zero c fs o = refl
      same_from (suc k) c fs o =
          let l = section.line_of (section.on_table t b) s (length fs) (length o) c in
          rw (same_line (length fs) (length o) c, same_bytes c)
          (ap (λ (x : section.Section R). cond l.done (section.section_of l.decoded fs o) x)
          (same_from k l.next (set fs c.count (make l.field)) (sets o c.used (section.bytes_at (section.on_table t b) s c))))

      pub same_section : (fs : List R) (o : List ℕ)
          → section.read_all make (section.on_table t a) s fs o ≡ section.read_all make (section.on_table t b) s fs o
      same_section fs o = same_from (suc (length s)) section.start fs o
