-- Begin, abandon and commit: their promise from what they do to the record. Assumes nothing.
use mathlib.Core.Path.{◌≡◌, refl, sym, ap, ◌∙◌}
use mathlib.Core.Bool.{Bool, true, false, cond}
use mathlib.Core.List.{List, []}
use mathlib.Core.Option.{some, none}
use Prim.Native.Nat.{ℕ, ◌+◌, ◌-◌, ◌≤◌, ◌<◌}
use native.Mathlib.Omega.{arith}
use lib.Dec.{leb, ltb}
use lib.ListN.{length}
use borrow.Author.Tests.{le-leb, lt-leb, le-ltb, lt-ltb, ltb-true, ltb-false}
use Rattle.std.specs.Prelude.{Ok, Err}
use Rattle.answers.specs.Answer.{done}
use Rattle.answers.specs.Table.{replied, ok}
use Rattle.answers.specs.declared.Refusal.{Refusal}
use Rattle.answers.specs.declared.Refusal.TheVariants.{TrackingFull, BadLargest}
use Rattle.model.specs.Bounds.{queue_places, blocked_values, blocked_sections}
use Rattle.model.specs.Section as section
use Rattle.model.specs.Table as model
use Rattle.ring.proofs.Keeping.{kept, count_fields}
use Rattle.tracking.specs.Queue.{sections_of, pushing, Queued}
use Rattle.blocked.specs.Waiting.{waiting_of, blocking, keeps_count, Counted}
use Rattle.tracking.specs.declared.Queue.{Queue}
use Rattle.blocked.proofs.Blocked.{blocking_is, blocking_keeps}
use Rattle.tracking.proofs.Sections.{length_sections, pushed_made, pushed_sections, pushed_queued, pushed_live}
use Rattle.dynamic.specs.Calls.{answer, no, admitting, with_section, committed, new_section, begin, abandon, commit, commit_place, queued_with, counted_with}
use Rattle.dynamic.specs.Promise.{outcome, Keeps}
use Rattle.dynamic.specs.Record.{uses_here, view, sound}
use Rattle.dynamic.specs.declared.Replied.{Replied}
use Rattle.dynamic.specs.declared.Table.{Table}
use Rattle.dynamic.proofs.Sound.{Sound, facts, is_sound, open_facts, open_keeps_lem, closed_keeps}
use Rattle.dynamic.proofs.Steps.{closed_refused, closed_step, open_refused, open_step, keeps_closed, keeps_open}

-- ---- begin

abbrev pub begun : Table → ℕ → Table
begun t stream = with_section true (t.ring.inserted - t.ring.dropped) (new_section t stream) t

begun_sound : (t : Table) (stream : ℕ) → Sound t → sound (begun t stream) ≡ true
begun_sound t stream s =
    let r = (kept t.ring s.ring).rules in
    is_sound (begun t stream)
    (record {
      ring = s.ring;
      known = s.known;
      most = s.most;
      waiting = s.waiting;
      queued = s.queued;
      live = s.live;
      section = open_keeps_lem (begun t stream) refl
          (record {
            live = refl;
            base_within = omega arith;
            from_low = omega arith;
            every = omega (arith, r.order, r.few);
          });
    })

pub begin_keeps : (t : Table) (stream : ℕ) (r : Replied) → r ≡ begin t stream → Keeps t (begin t stream) r (λ m. section.begin m stream)
unfolding begin section.begin view
begin_keeps t stream r e =
    keeps_closed t (answer (begun t stream) (Ok tt))
    (λ m. record {
      next = section.with_open (some (record { stream = stream; base = length m.fields; uses = [] })) m;
      answer = done ok;
    })
    (λ k off a. rw (count_fields t.ring a))
    (λ k off. begun_sound t stream (facts t k)) r e

-- ---- abandon

pub abandon_keeps : (t : Table) (r : Replied) → r ≡ abandon t → Keeps t (abandon t) r section.abandon
unfolding abandon section.abandon view
abandon_keeps t r e =
    keeps_open t (answer (with_section false t.base t.section t) (Ok tt))
    (λ m o. record { next = section.with_open none m; answer = done ok })
    (λ k on a. refl)
    (λ k on. let s = facts t k in
    is_sound (with_section false t.base t.section t)
    (record {
      ring = s.ring;
      known = s.known;
      most = s.most;
      waiting = s.waiting;
      queued = s.queued;
      live = s.live;
      section = closed_keeps (with_section false t.base t.section t) refl;
    })) r e

-- ---- commit

-- the blocked sections with the committed one, in the model
counted_is : (t : Table) (largest : ℕ) (a : List ℕ) → Sound t → length t.waiting.values ≡ blocked_values
    → section.block (view t a) largest
    ≡ cond (counted_with t.waiting t.known largest).fits (some (waiting_of (counted_with t.waiting t.known largest).waiting)) none
unfolding section.block view
counted_is t largest a s long = go (leb largest t.known)
  where
    go : (b : Bool)
        → cond b (some (waiting_of t.waiting))
        (cond (ltb (model.blocked_count (waiting_of t.waiting)) blocked_sections) (section.block_in largest blocked_values (waiting_of t.waiting)) none)
        ≡ cond (cond b (record { fits = true; waiting = t.waiting }) (blocking t.waiting largest)).fits
        (some (waiting_of (cond b (record { fits = true; waiting = t.waiting }) (blocking t.waiting largest)).waiting)) none
    go true = refl
    go false = blocking_is t.waiting largest s.waiting long

counted_keeps : (t : Table) (largest : ℕ) → Sound t → length t.waiting.values ≡ blocked_values
    → keeps_count (counted_with t.waiting t.known largest).waiting ≡ true
counted_keeps t largest s long = go (leb largest t.known)
  where
    go : (b : Bool) → keeps_count (cond b (record { fits = true; waiting = t.waiting }) (blocking t.waiting largest)).waiting ≡ true
    go true = s.waiting
    go false = blocking_keeps t.waiting largest s.waiting long

-- the place in the queue
place_model : (t : Table) (largest : ℕ) (a : List ℕ) → Sound t → length t.waiting.values ≡ blocked_values
    → length t.queue.places ≡ queue_places
    → outcome (commit_place t largest (pushing t.queue t.section)).table a
    (replied (commit_place t largest (pushing t.queue t.section)).reply)
    ≡ cond (leb queue_places (length (sections_of t.queue))) (model.refuse (view t a) TrackingFull)
    (section.queued (view t a) (record { stream = t.section.stream; base = t.base; uses = uses_here t.section }) (section.block (view t a) largest))
unfolding view
place_model t largest a s long whole =
    go (ltb t.queue.queued queue_places) refl (pushed_made t.queue t.section) (counted_with t.waiting t.known largest).fits refl
  where
    count : length (sections_of t.queue) ≡ t.queue.queued
    count = length_sections t.queue s.queued whole

    go : (b : Bool) → ltb t.queue.queued queue_places ≡ b → (pushing t.queue t.section).made ≡ ltb t.queue.queued queue_places
        → (f : Bool) → (counted_with t.waiting t.known largest).fits ≡ f
        → outcome (commit_place t largest (pushing t.queue t.section)).table a
        (replied (commit_place t largest (pushing t.queue t.section)).reply)
        ≡ cond (leb queue_places (length (sections_of t.queue))) (model.refuse (view t a) TrackingFull)
        (section.queued (view t a) (record { stream = t.section.stream; base = t.base; uses = uses_here t.section }) (section.block (view t a) largest))
    go true e m true f =
        let made : (pushing t.queue t.section).made ≡ true = m ∙ e in
        let room : leb queue_places t.queue.queued ≡ false = lt-leb queue_places t.queue.queued (ltb-true t.queue.queued queue_places e) in
        let q = pushed_sections t.queue t.section whole made in
        rw (made, f, count, room, counted_is t largest a s long, f, q)
    go true e m false f =
        let made : (pushing t.queue t.section).made ≡ true = m ∙ e in
        let room : leb queue_places t.queue.queued ≡ false = lt-leb queue_places t.queue.queued (ltb-true t.queue.queued queue_places e) in
        rw (made, f, count, room, counted_is t largest a s long, f)
    go false e m f g =
        let made : (pushing t.queue t.section).made ≡ false = m ∙ e in
        let full : leb queue_places t.queue.queued ≡ true = le-leb queue_places t.queue.queued (ltb-false t.queue.queued queue_places e) in
        rw (made, count, full)

place_sound : (t : Table) (largest : ℕ) → Sound t → t.active ≡ true → length t.waiting.values ≡ blocked_values
    → length t.queue.places ≡ queue_places → sound (commit_place t largest (pushing t.queue t.section)).table ≡ true
place_sound t largest s on long whole = go (pushing t.queue t.section).made (counted_with t.waiting t.known largest).fits
  where
    q : Queue
    q = (pushing t.queue t.section).queue

    w : Counted
    w = counted_with t.waiting t.known largest

    next : Table
    next = committed q w.waiting t

    closes : Sound next
    closes =
        record {
          ring = s.ring;
          known = s.known;
          most = s.most;
          waiting = counted_keeps t largest s long;
          queued = pushed_queued t.queue t.section s.queued;
          live = pushed_live t.queue t.section whole t.ring.dropped t.ring.inserted s.live (open_facts t s on).live;
          section = closed_keeps next refl;
        }

    go : (b f : Bool)
        → sound (cond b (cond f (answer next (Ok tt)) (no t TrackingFull)) (no t TrackingFull)).table ≡ true
    go true true = is_sound next closes
    go true false = is_sound t s
    go false f = is_sound t s

abbrev after_commit : Table → ℕ → Replied
after_commit t largest =
    cond (ltb t.ring.inserted largest) (no t BadLargest) (commit_place t largest (pushing t.queue t.section))

module _ (t : Table) (largest : ℕ) (long : length t.waiting.values ≡ blocked_values) (whole : length t.queue.places ≡ queue_places) where
  opened_as : model.Open
  opened_as = record { stream = t.section.stream; base = t.base; uses = uses_here t.section }

  commit_model : sound t ≡ true → (a : List ℕ) → outcome (after_commit t largest).table a (replied (after_commit t largest).reply)
      ≡ cond (ltb (model.inserted_of (view t a)) largest) (model.refuse (view t a) BadLargest)
      (cond (leb queue_places (length (view t a).queue)) (model.refuse (view t a) TrackingFull)
      (section.queued (view t a) opened_as (section.block (view t a) largest)))
  unfolding view opened_as
  commit_model k a =
      let s = facts t k in
      let r = (kept t.ring s.ring).rules in
      let all : t.ring.dropped + length (view t a).fields ≡ t.ring.inserted = omega (arith, r.order, count_fields t.ring a) in
      rw all (go (ltb t.ring.inserted largest) (place_model t largest a s long whole))
    where
      go : (b : Bool)
          → outcome (commit_place t largest (pushing t.queue t.section)).table a
          (replied (commit_place t largest (pushing t.queue t.section)).reply)
          ≡ cond (leb queue_places (length (sections_of t.queue))) (model.refuse (view t a) TrackingFull)
          (section.queued (view t a) opened_as (section.block (view t a) largest))
          → outcome (cond b (no t BadLargest) (commit_place t largest (pushing t.queue t.section))).table a
          (replied (cond b (no t BadLargest) (commit_place t largest (pushing t.queue t.section))).reply)
          ≡ cond b (model.refuse (view t a) BadLargest)
          (cond (leb queue_places (length (sections_of t.queue))) (model.refuse (view t a) TrackingFull)
          (section.queued (view t a) opened_as (section.block (view t a) largest)))
      go true h = refl
      go false h = h

  commit_sound : sound t ≡ true → t.active ≡ true → sound (after_commit t largest).table ≡ true
  commit_sound k on = go (ltb t.ring.inserted largest) (place_sound t largest (facts t k) on long whole)
    where
      go : (b : Bool) → sound (commit_place t largest (pushing t.queue t.section)).table ≡ true
          → sound (cond b (no t BadLargest) (commit_place t largest (pushing t.queue t.section))).table ≡ true
      go true h = k
      go false h = h

  pub commit_keeps : (r : Replied) → r ≡ commit t largest → Keeps t (commit t largest) r (λ m. section.commit m largest)
  unfolding commit section.commit opened_as
  commit_keeps r e =
      keeps_open t (after_commit t largest)
      (λ m o. cond (ltb (model.inserted_of m) largest) (model.refuse m BadLargest)
      (cond (leb queue_places (length m.queue)) (model.refuse m TrackingFull) (section.queued m o (section.block m largest))))
      (λ k on a. commit_model k a) (λ k on. commit_sound k on) r e

-- ---- which outcome it is, by the tests of the code

module _ (t : Table) (stream : ℕ) where
  pub begin_refused : (why : Refusal) → admitting t false ≡ Err why → no t why ≡ begin t stream
  unfolding begin
  begin_refused why e = closed_refused t (no t) _ why e

  pub begin_done : sound t ≡ true → t.active ≡ false → answer (begun t stream) (Ok tt) ≡ begin t stream
  unfolding begin
  begin_done k off = closed_step t _ k off

module _ (t : Table) where
  pub abandon_refused : (why : Refusal) → admitting t true ≡ Err why → no t why ≡ abandon t
  unfolding abandon
  abandon_refused why e = open_refused t (no t) _ why e

  pub abandon_done : sound t ≡ true → t.active ≡ true → answer (with_section false t.base t.section t) (Ok tt) ≡ abandon t
  unfolding abandon
  abandon_done k on = open_step t _ k on

module _ (t : Table) (largest : ℕ) where
  pub commit_refused : (why : Refusal) → admitting t true ≡ Err why → no t why ≡ commit t largest
  unfolding commit
  commit_refused why e = open_refused t (no t) _ why e

  module _ (k : sound t ≡ true) where
    module _ (on : t.active ≡ true) where
      whole_commit : after_commit t largest ≡ commit t largest
      unfolding commit
      whole_commit = open_step t _ k on

      pub commit_large : t.ring.inserted < largest → no t BadLargest ≡ commit t largest
      commit_large h = sym (ap (λ (b : Bool). tested b) (lt-ltb _ _ h)) ∙ whole_commit
        where
          tested : Bool → Replied
          tested b = cond b (no t BadLargest) (commit_place t largest (pushing t.queue t.section))

      module _ (small : largest ≤ t.ring.inserted) (q : Queued) (eq : q ≡ pushing t.queue t.section) where
        placed : commit_place t largest q ≡ commit t largest
        placed = ap (commit_place t largest) eq ∙ sym (ap (λ (b : Bool). tested b) (le-ltb _ _ small)) ∙ whole_commit
          where
            tested : Bool → Replied
            tested b = cond b (no t BadLargest) (commit_place t largest (pushing t.queue t.section))

        pub commit_no_place : q.made ≡ false → no t TrackingFull ≡ commit t largest
        commit_no_place m = sym (ap (λ (b : Bool). made b) m) ∙ placed
          where
            made : Bool → Replied
            made b = cond b (queued_with t (counted_with t.waiting t.known largest) q.queue) (no t TrackingFull)

        module _ (m : q.made ≡ true) (w : Counted) (ew : w ≡ counted_with t.waiting t.known largest) where
          with_place : queued_with t w q.queue ≡ commit t largest
          with_place = ap (λ (x : Counted). queued_with t x q.queue) ew ∙ sym (ap (λ (b : Bool). made b) m) ∙ placed
            where
              made : Bool → Replied
              made b = cond b (queued_with t (counted_with t.waiting t.known largest) q.queue) (no t TrackingFull)

          fitting : Bool → Replied
          fitting b = cond b (answer (committed q.queue w.waiting t) (Ok tt)) (no t TrackingFull)

          pub commit_no_value : w.fits ≡ false → no t TrackingFull ≡ commit t largest
          unfolding fitting
          commit_no_value f = sym (ap (λ (b : Bool). fitting b) f) ∙ with_place

          pub commit_done : w.fits ≡ true → answer (committed q.queue w.waiting t) (Ok tt) ≡ commit t largest
          unfolding fitting
          commit_done f = sym (ap (λ (b : Bool). fitting b) f) ∙ with_place
