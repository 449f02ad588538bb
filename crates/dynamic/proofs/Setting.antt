-- The blocked maximum and the capacity: what setting them is in the model, and that the rules are kept. Assumes nothing.
use mathlib.Core.Path.{◌≡◌, refl}
use mathlib.Core.Bool.{Bool, true, false, cond}
use mathlib.Core.List.{List}
use mathlib.Core.Option.{Option, some, none}
use Prim.Native.Nat.{ℕ, ◌≤◌, ◌<◌}
use native.Mathlib.Omega.{arith}
use lib.Dec.{leb, ltb}
use borrow.Author.Tests.{le-leb, lt-leb, leb-false, ltb-false}
use Rattle.std.specs.Prelude.{Ok, Err}
use Rattle.answers.specs.Answer.{done}
use Rattle.answers.specs.Table.{Done, ok, replied}
use Rattle.answers.specs.declared.Refusal.{Refusal}
use Rattle.answers.specs.declared.Refusal.TheVariants.{MaximumTableSizeTooLarge, AboveLentRoom, MaxBlockedStreamsTooLarge, ShrinkBlocked, SectionOpen}
use Rattle.arena.specs.Ring.{ring}
use Rattle.entries.specs.Drop.{fewest}
use Rattle.entries.proofs.Drop.{found_is_fewest}
use Rattle.model.specs.Bounds.{blocked_sections, largest_capacity, lent_room}
use Rattle.model.specs.Drop as drops
use Rattle.model.specs.Table as model
use Rattle.ring.specs.Ring.{live, free_below, cutting, Cut}
use Rattle.ring.proofs.Cutting.{cut_made, cut_stays, cut_shrunk}
use Rattle.ring.proofs.Keeping.{Arrays}
use Rattle.dynamic.specs.Calls.{with_most, with_ring, answer, no, admitting, cut_to, cut_unless, capacity_answer, set_capacity, set_most}
use Rattle.dynamic.specs.Promise.{outcome, Keeps}
use Rattle.dynamic.specs.Record.{view, uses_here, sound, lowest_used}
use Rattle.dynamic.specs.declared.Replied.{Replied}
use Rattle.dynamic.specs.declared.Table.{Table}
use Rattle.dynamic.proofs.Free.{same_room, still_above}
use Rattle.dynamic.proofs.Sound.{Sound, facts, is_sound}
use Rattle.dynamic.proofs.Staying.{closed_stays}
use Rattle.dynamic.proofs.Steps.{closed_refused}

-- what an answer comes to in the model
abbrev pub step_of : Replied → List ℕ → model.Step Done
step_of r a = outcome r.table a (replied r.reply)

-- an open section, by whether there is one
abbrev open_by : Table → Bool → Option model.Open
open_by t on = cond on (some (record { stream = t.section.stream; base = t.base; uses = uses_here t.section })) none

-- ---- the blocked maximum

module _ (t : Table) (m : ℕ) where
  abbrev most_by : Bool → Bool → Replied
  most_by on over = cond on (no t SectionOpen) (cond over (no t MaxBlockedStreamsTooLarge) (answer (with_most m t) (Ok tt)))

  most_model : sound t ≡ true → (a : List ℕ) → step_of (set_most t m) a ≡ drops.set_blocked_max (view t a) m
  unfolding set_most drops.set_blocked_max view
  most_model h a = rw h (go t.active (leb blocked_sections m))
    where
      go : (on over : Bool)
          → step_of (most_by on over) a
          ≡ drops.closed (view t a) (open_by t on)
          (cond over
          (model.refuse (view t a) MaxBlockedStreamsTooLarge)
          (record { next = drops.with_blocked_max m (view t a); answer = done ok }))
      go true over = refl
      go false true = refl
      go false false = refl

  most_kept : sound t ≡ true → sound (set_most t m).table ≡ true
  unfolding set_most
  most_kept h = rw h (go t.active (leb blocked_sections m) refl)
    where
      go : (on over : Bool) → leb blocked_sections m ≡ over → sound (most_by on over).table ≡ true
      go true over e = h
      go false true e = h
      go false false e =
          let s = facts t h in
          is_sound (with_most m t)
          (record {
            ring = s.ring;
            known = s.known;
            most = leb-false _ _ e;
            waiting = s.waiting;
            queued = s.queued;
            live = s.live;
            section = s.section;
          })

  pub sets_most : {r : Replied} → r ≡ set_most t m → Keeps t (set_most t m) r (λ u. drops.set_blocked_max u m)
  sets_most e = record { next = e; model = λ h a. rw e (most_model h a); kept = λ h. rw e (most_kept h) }

  pub most_refused : (why : Refusal) → admitting t false ≡ Err why → no t why ≡ set_most t m
  unfolding set_most
  most_refused why e = closed_refused t (no t) _ why e

  module _ (h : sound t ≡ true) (closed : t.active ≡ false) where
    pub most_over : blocked_sections ≤ m → no t MaxBlockedStreamsTooLarge ≡ set_most t m
    unfolding set_most
    most_over g = rw (h, closed, le-leb _ _ g)

    pub most_set : m < blocked_sections → answer (with_most m t) (Ok tt) ≡ set_most t m
    unfolding set_most
    most_set g = rw (h, closed, lt-leb _ _ g)

-- ---- the capacity

pub size_refused : (t : Table) (c : ℕ) (why : Refusal) → admitting t false ≡ Err why → no t why ≡ set_capacity t c
unfolding set_capacity
size_refused t c why e = closed_refused t (no t) _ why e

module _ (t : Table) (c : ℕ) (h : sound t ≡ true) (closed : t.active ≡ false) where
  pub capacity_refused : (w : Refusal) → some w ≡ capacity_answer c → no t w ≡ set_capacity t c
  unfolding set_capacity
  capacity_refused w g = rw (h, closed, ← g)

  module _ (k : Cut) (e : k ≡ cutting t.ring (lowest_used t) c) (g : none ≡ capacity_answer c) where
    pub capacity_blocked : k.made ≡ false → no t ShrinkBlocked ≡ set_capacity t c
    unfolding set_capacity
    capacity_blocked f = rw (h, ← g, ← e, f, closed)

    pub capacity_cut : k.made ≡ true → answer (with_ring k.ring t) (Ok tt) ≡ set_capacity t c
    unfolding set_capacity
    capacity_cut f = rw (h, ← g, ← e, f, closed)

module _ (t : Table) (arrays : Arrays t.ring) (c : ℕ) where
  abbrev cut : Replied
  cut = cut_to t (cutting t.ring (lowest_used t) c)

  abbrev found : Option ℕ
  found = fewest (free_below t.ring (lowest_used t)) (live t.ring) c

  module _ (s : Sound t) (most : c ≤ ring) where
    cut_model : (a : List ℕ) → step_of cut a ≡ drops.cut_to (view t a) c (drops.fewest (view t a) c)
    unfolding view
    cut_model a = rw (same_room t s a c) (go found refl)
      where
        go : (o : Option ℕ) → found ≡ o → step_of cut a ≡ drops.cut_to (view t a) c o
        go none q = rw (cut_stays t.ring (lowest_used t) c s.ring q)
        go (some k) q =
            let w = cut_shrunk t.ring (lowest_used t) c s.ring k q most arrays in
            rw (cut_made t.ring (lowest_used t) c s.ring k q, w.fields a, w.dropped, w.capacity)

    cut_kept : t.active ≡ false → sound t ≡ true → sound cut.table ≡ true
    cut_kept e h = go found refl
      where
        go : (o : Option ℕ) → found ≡ o → sound cut.table ≡ true
        go none q = rw (cut_stays t.ring (lowest_used t) c s.ring q) h
        go (some k) q =
            let w = cut_shrunk t.ring (lowest_used t) c s.ring k q most arrays in
            let free : k ≤ free_below t.ring (lowest_used t) = (found_is_fewest (free_below t.ring (lowest_used t)) (live t.ring) c k q).allowed in
            rw (cut_made t.ring (lowest_used t) c s.ring k q)
            (is_sound _
            (closed_stays t s (cutting t.ring (lowest_used t) c).ring (omega (arith, w.inserted)) (λ x z. omega (arith, w.dropped, still_above t s k x free z)) w.rules e))

  abbrev capacity_by : Bool → Bool → Bool → Replied
  capacity_by on over above =
      cond on (no t SectionOpen) (cut_unless t c (cond over (some MaximumTableSizeTooLarge) (cond above (some AboveLentRoom) none)))

  capacity_model : sound t ≡ true → (a : List ℕ) → step_of (set_capacity t c) a ≡ drops.set_capacity (view t a) c
  unfolding set_capacity capacity_answer drops.set_capacity view
  capacity_model h a = rw h (go t.active (ltb largest_capacity c) (ltb lent_room c) refl)
    where
      go : (on over above : Bool) → ltb lent_room c ≡ above
          → step_of (capacity_by on over above) a
          ≡ drops.closed (view t a) (open_by t on)
          (cond over
          (model.refuse (view t a) MaximumTableSizeTooLarge)
          (cond above (model.refuse (view t a) AboveLentRoom) (drops.cut_to (view t a) c (drops.fewest (view t a) c))))
      go true over above e = refl
      go false true above e = refl
      go false false true e = refl
      go false false false e = cut_model (facts t h) (ltb-false lent_room c e) a

  capacity_kept : sound t ≡ true → sound (set_capacity t c).table ≡ true
  unfolding set_capacity capacity_answer
  capacity_kept h = rw h (go t.active refl (ltb largest_capacity c) (ltb lent_room c) refl)
    where
      go : (on : Bool) → t.active ≡ on → (over above : Bool) → ltb lent_room c ≡ above → sound (capacity_by on over above).table ≡ true
      go true q over above e = h
      go false q true above e = h
      go false q false true e = h
      go false q false false e = cut_kept (facts t h) (ltb-false lent_room c e) q h

  pub sets_capacity : {r : Replied} → r ≡ set_capacity t c → Keeps t (set_capacity t c) r (λ u. drops.set_capacity u c)
  sets_capacity e = record { next = e; model = λ h a. rw e (capacity_model h a); kept = λ h. rw e (capacity_kept h) }
