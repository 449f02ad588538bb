-- An insertion for which there is room, to the last field, is one in the model, and keeps the rules; and its answer by the tests. Assumes nothing.
use mathlib.Core.Path.{◌≡◌, refl, sym, ap, ◌∙◌}
use mathlib.Core.Bool.{Bool, true, false, cond}
use mathlib.Core.List.{List, ◌++◌}
use mathlib.Core.Option.{some, none}
use Prim.Native.Nat.{ℕ, ◌+◌, ◌-◌, ◌^◌, ◌≤◌, ◌<◌}
use native.Mathlib.Omega.{arith}
use lib.Dec.{ltb}
use lib.ListN.{length, drop}
use borrow.Author.Tests.{le-ltb, lt-ltb, ltb-true}
use Rattle.std.specs.Prelude.{Result, Ok, Err}
use Rattle.answers.specs.Answer.{answered}
use Rattle.answers.specs.declared.Insertion.{Insertion}
use Rattle.answers.specs.declared.Refusal.{Refusal}
use Rattle.answers.specs.declared.Refusal.TheVariants.{TrackingFull, CountTooLarge}
use Rattle.arena.specs.Ring.{long_enough, ring_write}
use Rattle.entries.specs.declared.Room.{Room}
use Rattle.field.specs.Field.{Field, size_of}
use Rattle.model.specs.Bounds.{section_entries}
use Rattle.model.specs.Drop.{without, with_field}
use Rattle.model.specs.Insert as model
use Rattle.model.specs.Insert.{Origin, insertion_of}
use Rattle.model.specs.Section as sections
use Rattle.model.specs.Table.{Step, inserted_of, refuse}
use Rattle.ring.specs.Ring as rings
use Rattle.ring.specs.Ring.{largest_count, fields_of, keeps, field_from, placed_bytes, making, pushing, Pushes}
use Rattle.ring.specs.declared.Pushed.{Pushed}
use Rattle.ring.specs.declared.Ring.{Ring}
use Rattle.ring.specs.declared.Source.TheVariants.{Given}
use Rattle.ring.proofs.Growing.{Grown, shrunk}
use Rattle.ring.proofs.Keeping.{Kept, Arrays, kept, count_fields}
use Rattle.ring.proofs.Making.{count_of, room_for_tells, Makes, makes}
use Rattle.ring.proofs.Pushing.{Usable, push_made, push_grown}
use Rattle.tracking.specs.Uses.{Noted}
use Rattle.tracking.proofs.Floors.{few_uses}
use Rattle.dynamic.specs.Calls.{
  with_ring,
  with_noted,
  with_uses,
  inserting,
  origin_after,
  noted_for,
  made,
  bytes_after,
}
use Rattle.dynamic.specs.Promise.{outcome}
use Rattle.dynamic.specs.Record.{RoomOf, Shape, uses_here, view, sound, usable, lowest_used}
use Rattle.dynamic.specs.declared.Inserting.{Inserting}
use Rattle.dynamic.specs.declared.Table.{Table}
use Rattle.dynamic.proofs.Finding.{open_here}
use Rattle.dynamic.proofs.Free.{uses_at, still_above}
use Rattle.dynamic.proofs.Notes.{within_more, origin_within, uses_one_more, both_live, both_in_model}
use Rattle.dynamic.proofs.Searched.{fields_after}
use Rattle.call_parts.proofs.Opening.{Opened}
use Rattle.dynamic.proofs.Sound.{Sound, is_sound, open_facts, open_keeps_lem}
use Rattle.dynamic.proofs.Staying.{queue_stays, section_stays}
use Rattle.dynamic.proofs.Unmade.{last_name, Unmade}

-- those of its entries
pub arrays_of : {t : Table} → Shape t → Arrays t.ring
arrays_of s = record { starts = s.starts; names = s.names; values = s.values }

-- the numbers of an open table of which k entries may go
pub record Counts (t : Table) (k : ℕ) : Type 0 where
  pub counted : t.ring.inserted ≤ largest_count
  pub gone : t.ring.dropped + k ≤ t.ring.inserted
  pub from : t.section.from ≤ t.ring.dropped
  pub base : t.base ≤ t.ring.inserted
  pub near : t.ring.inserted + 1 - t.section.from < 2 ^ 16

module _ (t : Table) (a n v : List ℕ) where
  abbrev pub new : Field
  new = record { name = n; value = v }

  -- ---- the answer by the tests

  module _ (room : Room) (w : Origin) (u : Noted) (ew : w ≡ origin_after t.ring (t.ring.dropped + room.count) a n v)
      (eu : u ≡ noted_for t.section (t.ring.inserted + 1) w) where
    pub made_full : u.fits ≡ false → inserting t (Err TrackingFull) ≡ made t room a n v
    unfolding made
    made_full h = rw (← ew, ← eu, h)

    pub made_over : u.fits ≡ true → largest_count ≤ t.ring.inserted → inserting t (Err CountTooLarge) ≡ made t room a n v
    unfolding made
    made_over h g = rw (← ew, ← eu, h, le-ltb _ _ g)

    pub made_new : u.fits ≡ true → t.ring.inserted < largest_count → (p : Pushed) → p ≡ pushing t.ring a (lowest_used t) Given n v
        → inserting (with_noted u (with_ring p.ring t)) (Ok (insertion_of t.base (t.ring.inserted + 1) w)) ≡ made t room a n v
    unfolding made
    made_new h g p e = rw (← ew, ← eu, ← e, h, lt-ltb _ _ g)

  -- ---- the arena

  pub same_bytes : (u : Table) → u.ring ≡ t.ring → bytes_after t u a n v ≡ a
  same_bytes u e = rw (e, le-ltb t.ring.inserted t.ring.inserted (omega arith))

  pub new_bytes : (u : Table) → u.ring.inserted ≡ t.ring.inserted + 1 → bytes_after t u a n v ≡ ring_write a t.ring.head (n ++ v)
  new_bytes u e = rw (e, lt-ltb t.ring.inserted (t.ring.inserted + 1) (omega arith))

  -- the number that a room tells
  pub room_tells : (low : ℕ) (room : Room) → keeps t.ring ≡ true → RoomOf t low room n v
      → making t.ring (lowest_used t) (size_of new) ≡ some room.count
  room_tells low room rules w =
      let told : count_of room ≡ some room.count = rw w.made in
      let e : making t.ring low (size_of new) ≡ some room.count =
      sym (room_for_tells t.ring rules low (length n) (length v)) ∙ ap count_of (sym w.room) ∙ told in
      rw w.lowest at e

  -- ---- where so many go

  module _ (s : Sound t) (k : ℕ) (q : making t.ring (lowest_used t) (size_of new) ≡ some k) (active : t.active ≡ true) where
    pub counts : Counts t k
    counts =
        let r = kept t.ring s.ring in
        let o = open_facts t s active in
        let few = few_uses t.ring.dropped t.ring.inserted t.section o.live in
        record {
          counted = r.counted;
          gone = omega (arith, (makes t.ring (lowest_used t) (size_of new) k q).within, r.rules.order);
          from = o.from_low;
          base = o.base_within;
          near = omega (arith, o.every, few);
        }

  module _ (s : Sound t) (shape : Shape t) (long : long_enough a ≡ true) (k : ℕ)
      (q : making t.ring (lowest_used t) (size_of new) ≡ some k) where
    ring_rules : Kept t.ring
    ring_rules = kept t.ring s.ring

    goes : Makes t.ring (lowest_used t) (size_of new) k
    goes = makes t.ring (lowest_used t) (size_of new) k q

    usable_ring : Usable t.ring a Given
    usable_ring = record { rules = s.ring; long = long; there = refl }

    pub pushes_new : (b : List ℕ) (p : Pushed) → t.ring.inserted < largest_count → Pushes t.ring a b (lowest_used t) Given n v p
        → Grown t.ring a k new p.ring b
    unfolding field_from
    pushes_new b p less w = push_grown usable_ring w k q less (arrays_of shape)

    pub pushes_bytes : (b : List ℕ) (p : Pushed) → t.ring.inserted < largest_count → Pushes t.ring a b (lowest_used t) Given n v p
        → b ≡ ring_write a t.ring.head (n ++ v)
    unfolding field_from placed_bytes
    pushes_bytes b p less w = w.bytes ∙ rw (push_made usable_ring w k q less)

    -- ---- in an open section

    module _ (active : t.active ≡ true) where
      -- what names the new entry, and the uses that it notes
      abbrev by : Origin
      by = origin_after t.ring (t.ring.dropped + k) a n v

      abbrev noted : Noted
      noted = noted_for t.section (t.ring.inserted + 1) by

      opened : Opened t.base t.section t.ring.dropped t.ring.inserted
      opened = open_facts t s active

      few : t.section.used ≤ section_entries
      few = few_uses t.ring.dropped t.ring.inserted t.section opened.live

      cut_fields : fields_after t.ring (t.ring.dropped + k) a ≡ drop k (fields_of t.ring a)
      cut_fields =
          (shrunk t.ring ring_rules k goes.within t.ring.capacity ring_rules.rules.most (omega (arith, goes.left)) (arrays_of shape)
          ).fields a

      same_origin : model.origin_in (without k (view t a)) new ≡ by
      unfolding model.origin_in origin_after view
      same_origin = rw (cut_fields, last_name n v (drop k (fields_of t.ring a)))

      counted : inserted_of (view t a) ≡ t.ring.inserted
      unfolding view
      counted = omega (arith, count_fields t.ring a, ring_rules.rules.order)

      same_notes : model.noted_for (t.ring.inserted + 1) by (uses_here t.section)
          ≡ cond noted.fits (some (uses_here (with_uses t.section noted))) none
      same_notes =
          both_in_model t.section (t.ring.inserted + 1) shape.uses few (omega (arith, opened.from_low, ring_rules.rules.order))
          (t.ring.dropped + k) t.ring.inserted by
          (omega (arith, opened.from_low)) (origin_within t.ring (t.ring.dropped + k) a n v)

      -- the record with the new entry
      module _ (next : Ring) (b : List ℕ) (g : Grown t.ring a k new next b) where
        grown_view : view (with_noted noted (with_ring next t)) b
            ≡ sections.with_open (some (sections.with_uses (uses_here (with_uses t.section noted)) (open_here t))) (with_field new (without k (view t a)))
        unfolding view
        grown_view = rw (g.fields, g.dropped, g.capacity, active)

        grown_sound : noted.fits ≡ true → sound (with_noted noted (with_ring next t)) ≡ true
        grown_sound fits =
            let more : t.ring.inserted ≤ next.inserted = omega (arith, g.inserted) in
            let above : (x : ℕ) → 0 < uses_at t x → next.dropped < x =
            λ x z. omega (arith, still_above t s k x goes.fewest.allowed z, g.dropped) in
            let still = section_stays t s next more above active in
            let from : t.section.from ≤ next.dropped = omega (arith, opened.from_low, g.dropped) in
            let older = within_more _ _ next.dropped next.inserted by (omega (arith, g.dropped)) more
            (origin_within t.ring (t.ring.dropped + k) a n v) in
            let here : t.ring.inserted + 1 ≤ next.inserted = omega (arith, g.inserted) in
            let live = both_live _ _ t.section (t.ring.inserted + 1) shape.uses from
            (omega (arith, g.dropped, goes.within, ring_rules.rules.order)) here still by older in
            let one_more = uses_one_more _ _ t.section (t.ring.inserted + 1) shape.uses opened.live
            (omega (arith, opened.from_low, ring_rules.rules.order)) (omega arith) by fits in
            let keeps_open : Opened t.base (with_uses t.section noted) next.dropped next.inserted =
            record {
              live = live;
              base_within = omega (arith, opened.base_within, g.inserted);
              from_low = from;
              every = omega (arith, opened.every, g.inserted, one_more);
            } in
            is_sound (with_noted noted (with_ring next t))
            (record {
              ring = g.rules;
              known = s.known;
              most = s.most;
              waiting = s.waiting;
              queued = s.queued;
              live = queue_stays t s next more above;
              section = open_keeps_lem (with_noted noted (with_ring next t)) active keeps_open;
            })

-- what is promised of an answer, and of the arena after it
pub record Answers (t : Table) (a n v : List ℕ) (r : Inserting) (s : Step Insertion) : Type 0 where
  pub model : outcome r.table (bytes_after t r.table a n v) (answered r.inserted) ≡ s
  pub kept : usable r.table (bytes_after t r.table a n v) ≡ true

pub unmade_answers : (t : Table) (a n v : List ℕ) (r : Inserting) (s : Step Insertion) → long_enough a ≡ true → Unmade t a r s
    → Answers t a n v r s
unmade_answers t a n v r s long u =
    let e = same_bytes t a n v r.table u.ring in
    record { model = rw e u.model; kept = rw (e, u.kept, long) }

-- a refusal changes nothing
pub refused_answers : (t : Table) (a n v : List ℕ) (w : Refusal) → sound t ≡ true → long_enough a ≡ true
    → Answers t a n v (inserting t (Err w)) (refuse (view t a) w)
refused_answers t a n v w rules long = unmade_answers t a n v _ _ long (record { model = refl; kept = rules; ring = refl })

module _ (t : Table) (a n v : List ℕ) (s : Sound t) (shape : Shape t) (long : long_enough a ≡ true) (k : ℕ)
    (q : making t.ring (lowest_used t) (size_of (new t a n v)) ≡ some k) (active : t.active ≡ true) where
  abbrev origin : Origin
  origin = by t a n v s shape long k q active

  abbrev uses : Noted
  uses = noted t a n v s shape long k q active

  abbrev push : Pushed
  push = pushing t.ring a (lowest_used t) Given n v

  abbrev insertion : Result Insertion Refusal
  insertion = Ok (insertion_of t.base (t.ring.inserted + 1) origin)

  new_answers : uses.fits ≡ true → t.ring.inserted < largest_count
      → Answers t a n v (inserting (with_noted uses (with_ring push.ring t)) insertion)
      (record {
        next = sections.with_open (some (sections.with_uses (uses_here (with_uses t.section uses)) (open_here t)))
            (with_field (new t a n v) (without k (view t a)));
        answer = answered insertion;
      })
  new_answers fits less =
      let b = ring_write a t.ring.head (n ++ v) in
      let after = rings.bytes_after push.push a (placed_bytes t.ring a Given n v) in
      let did : Pushes t.ring a after (lowest_used t) Given n v push = record { next = refl; bytes = refl } in
      let written : after ≡ b = pushes_bytes t a n v s shape long k q after push less did in
      let g : Grown t.ring a k (new t a n v) push.ring b = rw written at (pushes_new t a n v s shape long k q after push less did) in
      let u = with_noted uses (with_ring push.ring t) in
      let e : bytes_after t u a n v ≡ b = new_bytes t a n v u g.inserted in
      record {
        model = rw (e, grown_view t a n v s shape long k q active push.ring b g);
        kept = rw (e, grown_sound t a n v s shape long k q active push.ring b g fits, g.long);
      }

  pub made_answers : (room : Room) → room.count ≡ k
      → Answers t a n v (made t room a n v) (model.made (view t a) (without k (view t a)) (open_here t) (new t a n v))
  unfolding made model.made
  made_answers room e =
      rw (e, same_origin t a n v s shape long k q active, counted t a n v s shape long k q active, same_notes t a n v s shape long k q active)
      (go uses.fits refl)
    where
      refuses : (w : Refusal) → Answers t a n v (inserting t (Err w)) (refuse (view t a) w)
      refuses w = refused_answers t a n v w (is_sound t s) long

      under : (c : Bool) → ltb t.ring.inserted largest_count ≡ c → uses.fits ≡ true
          → Answers t a n v
          (cond c (inserting (with_noted uses (with_ring push.ring t)) insertion) (inserting t (Err CountTooLarge)))
          (cond c
          (record {
            next = sections.with_open (some (sections.with_uses (uses_here (with_uses t.section uses)) (open_here t)))
                (with_field (new t a n v) (without k (view t a)));
            answer = answered insertion;
          })
          (refuse (view t a) CountTooLarge))
      under true c fits = new_answers fits (ltb-true _ _ c)
      under false c fits = refuses CountTooLarge

      go : (b : Bool) → uses.fits ≡ b
          → Answers t a n v
          (cond b
          (cond (ltb t.ring.inserted largest_count)
          (inserting (with_noted uses (with_ring push.ring t)) insertion)
          (inserting t (Err CountTooLarge)))
          (inserting t (Err TrackingFull)))
          (model.inserted_by (view t a) (without k (view t a)) (open_here t) (new t a n v) origin
          (cond b (some (uses_here (with_uses t.section uses))) none))
      go true fits = rw (counted t a n v s shape long k q active) (under (ltb t.ring.inserted largest_count) refl fits)
      go false fits = refuses TrackingFull
