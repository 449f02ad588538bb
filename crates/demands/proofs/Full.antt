-- Every call leaves the arrays of a record as long as they are. Assumes nothing.
use mathlib.Core.Path.{◌≡◌, refl, ◌∙◌}
use mathlib.Core.Bool.{Bool, true, false, cond}
use mathlib.Core.List.{List}
use mathlib.Core.Option.{Option, some, none}
use Prim.Native.Nat.{ℕ, ◌+◌, ◌-◌}
use lib.Dec.{ltb, leb}
use lib.ListN.{length, get_or, take, length-set, length-replicate}
use Rattle.answers.specs.declared.Refusal.{Refusal}
use Rattle.answers.specs.declared.Lookup.TheVariants.{Static}
use Rattle.dynamic.specs.Calls as calls
use Rattle.dynamic.specs.Record.{Shape, sound, usable, lowest_used}
use Rattle.dynamic.specs.declared.Inserting.{Inserting}
use Rattle.dynamic.specs.declared.Looked.{Looked}
use Rattle.dynamic.specs.declared.Replied.{Replied}
use Rattle.dynamic.specs.declared.Table.{Table}
use Rattle.dynamic.proofs.Sound.{facts}
use Rattle.encoder_stream.proofs.Sources.{arrays_kept, arrays_cut}
use Rattle.entries.specs.declared.Room.{Room}
use Rattle.model.specs.Bounds.{section_entries, queue_places, blocked_values, blocked_sections, entry_uses}
use Rattle.model.specs.Insert.{Origin, equal_entry, static_name, named_entry, plain, or_else}
use Rattle.ring.specs.Ring.{largest_count, pushing, cutting, room_for}
use Rattle.ring.specs.declared.Ring.{Ring}
use Rattle.ring.specs.declared.Source.TheVariants.{Given}
use Rattle.ring.proofs.Keeping.{Arrays}
use Rattle.static_table.specs.Static.{lowest_name}
use Rattle.tracking.specs.Queue.{pushing as queueing, releasing, Queued}
use Rattle.tracking.specs.Uses.{no_held, noting, place_of, Noted}
use Rattle.blocked.specs.Waiting.{blocking, Counted}
use Rattle.tracking.specs.declared.Held.{Held as HeldUse}
use Rattle.tracking.specs.declared.Section.{Section}
use Rattle.blocked.proofs.Blocked.{blocking_values, let_go_length}
use Rattle.tracking.proofs.Sections.{released_places, pushed_places}
use Rattle.demands.proofs.Tests.{either, when_closed_lem, when_open_lem}

-- the arrays of a record have all their places, as those of every record of the program have
pub record Full (t : Table) : Type 0 where
  pub ring : Arrays t.ring
  pub queue : length t.queue.places ≡ queue_places
  pub waiting : length t.waiting.values ≡ blocked_values
  pub uses : length t.section.uses ≡ section_entries

pub shape_of : {t : Table} → Full t → Shape t
shape_of f =
    record {
      uses = f.uses;
      starts = f.ring.starts;
      names = f.ring.names;
      values = f.ring.values;
      places = f.queue;
      blocked = f.waiting;
    }

pub fresh_full : Full calls.fresh_table
unfolding calls.fresh_table
fresh_full = record { ring = record { starts = refl; names = refl; values = refl }; queue = refl; waiting = refl; uses = refl }

-- ---- one more use

-- so many places for uses
abbrev Uses : ℕ → Noted → Type 0
Uses m r = length r.uses ≡ m

length_noting : (us : List HeldUse) (n x : ℕ) → length (noting us n x).uses ≡ length us
unfolding noting
length_noting us n x =
    let i = place_of x (take n us) in
    either (Uses (length us)) (leb n section_entries) _ _
    (either (Uses (length us)) (ltb i n) _ _
    (either (Uses (length us)) (ltb (get_or us i no_held).count entry_uses) _ _ (length-set us _ _) refl)
    (either (Uses (length us)) (ltb n section_entries) _ _ (length-set us _ _) refl))
    refl

length_noted : (s : Section) (x : ℕ) (w : Origin) → length (calls.noted_for s x w).uses ≡ length s.uses
length_noted s x w = go w
  where
    one : length (calls.noted_in s x).uses ≡ length s.uses
    one = length_noting s.uses s.used (x - s.from)

    also : (y : ℕ) → length (calls.note_also s y (calls.noted_in s x)).uses ≡ length s.uses
    also y =
        either (Uses (length s.uses)) (calls.noted_in s x).fits _ _
        (length_noting (calls.noted_in s x).uses (calls.noted_in s x).used (y - s.from) ∙ one) one

    go : (w : Origin) → length (calls.noted_for s x w).uses ≡ length s.uses
    go (equal_entry y) = also y
    go (static_name i) = one
    go (named_entry y) = also y
    go plain = one

-- ---- the calls

-- of what a call made of the record
abbrev FullReplied : Replied → Type 0
FullReplied r = Full r.table

abbrev FullLooked : Looked → Type 0
FullLooked r = Full r.table

abbrev FullInserting : Inserting → Type 0
FullInserting r = Full r.table

module _ (t : Table) (p : Full t) where
  with_ring_lem : (r : Ring) → Arrays r → Full (calls.with_ring r t)
  with_ring_lem r w = record { ring = w; queue = p.queue; waiting = p.waiting; uses = p.uses }

  with_noted_lem : (r : Noted) → length r.uses ≡ length t.section.uses → Full (calls.with_noted r t)
  with_noted_lem r e = record { ring = p.ring; queue = p.queue; waiting = p.waiting; uses = e ∙ p.uses }

  pub capacity_full : (c : ℕ) → Full (calls.set_capacity t c).table
  unfolding calls.set_capacity
  capacity_full c = when_closed_lem Full t p (calls.cut_unless t c (calls.capacity_answer c)) (λ h. go (calls.capacity_answer c))
    where
      go : (o : Option Refusal) → Full (calls.cut_unless t c o).table
      go (some r) = p
      go none =
          let k = cutting t.ring (lowest_used t) c in
          either FullReplied k.made _ _ (with_ring_lem k.ring (arrays_cut t.ring (lowest_used t) c p.ring)) p

  pub most_full : (m : ℕ) → Full (calls.set_most t m).table
  unfolding calls.set_most
  most_full m =
      when_closed_lem Full t p _ (λ h. either FullReplied (leb blocked_sections m) _ _ p
      (record { ring = p.ring; queue = p.queue; waiting = p.waiting; uses = p.uses }))

  pub put_full : (a n v : List ℕ) → Full (calls.put t a n v).table
  unfolding calls.put
  put_full a n v =
      either FullReplied (usable t a) _ _
      (either FullReplied t.active _ _ p
      (with_ring_lem _ (arrays_kept t.ring a (lowest_used t) Given n v p.ring))) p

  pub begin_full : (stream : ℕ) → Full (calls.begin t stream).table
  unfolding calls.begin
  begin_full stream =
      when_closed_lem Full t p _ (λ h. record { ring = p.ring; queue = p.queue; waiting = p.waiting; uses = length-replicate section_entries no_held })

  pub abandon_full : Full (calls.abandon t).table
  unfolding calls.abandon
  abandon_full = when_open_lem Full t p _ (λ h. record { ring = p.ring; queue = p.queue; waiting = p.waiting; uses = p.uses })

  pub commit_full : (largest : ℕ) → Full (calls.commit t largest).table
  unfolding calls.commit
  commit_full largest =
      when_open_lem Full t p _ (λ h. either FullReplied (ltb t.ring.inserted largest) _ _ p
      (either FullReplied q.made _ _
      (either FullReplied w.fits _ _ (next h) p) p))
    where
      q : Queued
      q = queueing t.queue t.section

      w : Counted
      w = calls.counted_with t.waiting t.known largest

      counted : sound t ≡ true → (b : Bool)
          → length (cond b (record { fits = true; waiting = t.waiting }) (blocking t.waiting largest)).waiting.values ≡ blocked_values
      counted h true = p.waiting
      counted h false = blocking_values t.waiting largest (facts t h).waiting p.waiting

      next : sound t ≡ true → Full (calls.committed q.queue w.waiting t)
      next h =
          record {
            ring = p.ring;
            queue = pushed_places t.queue t.section ∙ p.queue;
            waiting = counted h (leb largest t.known);
            uses = p.uses;
          }

  pub release_full : (stream : ℕ) → Full (calls.release t stream).table
  unfolding calls.release
  release_full stream =
      when_closed_lem Full t p _ (λ h. either FullReplied (releasing t.queue stream).made _ _
      (record {
        ring = p.ring;
        queue = released_places t.queue (facts t h).queued p.queue stream;
        waiting = p.waiting;
        uses = p.uses;
      }) p)

  pub increment_full : (n : ℕ) → Full (calls.increment t n).table
  unfolding calls.increment
  increment_full n =
      when_closed_lem Full t p _ (λ h. either FullReplied (ltb largest_count (t.known + n)) _ _ p
      (record {
        ring = p.ring;
        queue = p.queue;
        waiting = let_go_length t.waiting (facts t h).waiting p.waiting (t.known + n);
        uses = p.uses;
      }))

  pub find_full : (a n v : List ℕ) → Full (calls.find t a n v).table
  unfolding calls.find
  find_full a n v =
      either FullLooked (usable t a) _ _
      (either FullLooked t.active _ _ (go (calls.latest_of t a n v true)) p) p
    where
      go : (o : Option ℕ) → Full (calls.found_at t o).table
      go none = p
      go (some k) =
          let x = t.ring.dropped + k + 1 in
          either FullLooked (calls.noted_in t.section x).fits _ _
          (with_noted_lem (calls.noted_in t.section x) (length_noting _ _ _)) p

  module _ (a n v : List ℕ) where
    named_full : Full (calls.not_inserted t a n v).table
    unfolding calls.not_inserted
    named_full = static (lowest_name n)
      where
        go : (o : Option ℕ) → Full (calls.name_at t o).table
        go none = p
        go (some k) =
            let x = t.ring.dropped + k + 1 in
            either FullInserting (calls.noted_in t.section x).fits _ _
            (with_noted_lem (calls.noted_in t.section x) (length_noting _ _ _)) p

        static : (o : Option ℕ)
            → Full (or_else o (λ i. calls.not_made t (Static i)) (calls.name_at t (calls.latest_of t a n v false))).table
        static (some i) = p
        static none = go (calls.latest_of t a n v false)

    made_full : (r : Room) → Full (calls.made t r a n v).table
    unfolding calls.made
    made_full r =
        let w = calls.origin_after t.ring (t.ring.dropped + r.count) a n v in
        let u = calls.noted_for t.section (t.ring.inserted + 1) w in
        let q = pushing t.ring a (lowest_used t) Given n v in
        either FullInserting u.fits _ _
        (either FullInserting (ltb t.ring.inserted largest_count) _ _
        (record {
          ring = arrays_kept t.ring a (lowest_used t) Given n v p.ring;
          queue = p.queue;
          waiting = p.waiting;
          uses = length_noted t.section (t.ring.inserted + 1) w ∙ p.uses;
        }) p) p

    pub insert_full : Full (calls.insert t a n v).table
    unfolding calls.insert
    insert_full =
        let r = room_for t.ring (lowest_used t) (length n) (length v) in
        either FullInserting (usable t a) _ _
        (either FullInserting t.active _ _
        (either FullInserting (leb t.most t.waiting.total) _ _ named_full
        (either FullInserting r.made _ _ (made_full r) named_full)) p) p
