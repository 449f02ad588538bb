-- Acknowledgement, cancellation and increment: their promise from what they do to the record. Assumes nothing.
use mathlib.Core.Path.{◌≡◌, refl, sym, ap, ◌∙◌}
use mathlib.Core.Bool.{Bool, true, false, cond}
use mathlib.Core.List.{List}
use mathlib.Core.Option.{some, none}
use Prim.Native.Nat.{ℕ, ◌+◌, ◌≤◌, ◌<◌}
use lib.Dec.{ltb}
use lib.ListN.{length, take}
use borrow.Author.Tests.{ltb-false, lt-ltb, le-ltb}
use Rattle.std.specs.Prelude.{Ok, Err}
use Rattle.answers.specs.Table.{replied}
use Rattle.answers.specs.declared.Refusal.{Refusal}
use Rattle.answers.specs.declared.Refusal.TheVariants.{UnknownStreamId, CountTooLarge}
use Rattle.model.specs.Bounds.{queue_places, blocked_values}
use Rattle.model.specs.Report as report
use Rattle.ring.specs.Ring.{largest_count}
use Rattle.tracking.specs.Queue.{sections_of, all_sections_live, releasing, Queued}
use Rattle.tracking.proofs.Sections.{released_is, released_queued, released_live}
use Rattle.blocked.proofs.Blocked.{let_go_is, let_go_keeps}
use Rattle.dynamic.specs.Calls.{answer, no, admitting, with_queue, raised, release, increment}
use Rattle.dynamic.specs.Promise.{outcome, Keeps}
use Rattle.dynamic.specs.Record.{view, sound}
use Rattle.dynamic.specs.declared.Replied.{Replied}
use Rattle.dynamic.specs.declared.Table.{Table}
use Rattle.dynamic.proofs.Sound.{Sound, facts, is_sound, closed_keeps}
use Rattle.dynamic.proofs.Steps.{closed_refused, closed_step, keeps_closed}

-- the outcome of a release, from what the queue did
abbrev after_release : Table → Queued → Replied
after_release t q = cond q.made (answer (with_queue q.queue t) (Ok tt)) (no t UnknownStreamId)

release_model : (t : Table) (q : Queued) (a : List ℕ)
    → outcome (after_release t q).table a (replied (after_release t q).reply)
    ≡ report.releasing (view t a) (cond q.made (some (sections_of q.queue)) none)
unfolding view
release_model t q a = go q.made
  where
    go : (b : Bool)
        → outcome (cond b (answer (with_queue q.queue t) (Ok tt)) (no t UnknownStreamId)).table a
        (replied (cond b (answer (with_queue q.queue t) (Ok tt)) (no t UnknownStreamId)).reply)
        ≡ report.releasing (view t a) (cond b (some (sections_of q.queue)) none)
    go true = refl
    go false = refl

release_sound : (t : Table) (q : Queued) → Sound t → t.active ≡ false → q.queue.queued ≤ queue_places
    → all_sections_live t.ring.dropped t.ring.inserted (take q.queue.queued q.queue.places) ≡ true
    → sound (after_release t q).table ≡ true
release_sound t q s off few live = go q.made
  where
    go : (b : Bool) → sound (cond b (answer (with_queue q.queue t) (Ok tt)) (no t UnknownStreamId)).table ≡ true
    go true =
        is_sound (with_queue q.queue t)
        (record {
          ring = s.ring;
          known = s.known;
          most = s.most;
          waiting = s.waiting;
          queued = few;
          live = live;
          section = closed_keeps (with_queue q.queue t) off;
        })
    go false = is_sound t s

pub release_keeps : (t : Table) (stream : ℕ) (r : Replied) → length t.queue.places ≡ queue_places → r ≡ release t stream
    → Keeps t (release t stream) r (λ m. report.release m stream)
unfolding release report.release view
release_keeps t stream r whole e =
    keeps_closed t (after_release t (releasing t.queue stream)) (λ m. report.releasing m (report.without_oldest stream m.queue))
    (λ k off a. release_model t (releasing t.queue stream) a ∙ ap (report.releasing (view t a)) (sym (in_model k a)))
    (λ k off. let s = facts t k in
    release_sound t (releasing t.queue stream) s off (released_queued t.queue s.queued whole stream)
    (released_live t.queue s.queued whole stream t.ring.dropped t.ring.inserted s.live))
    r e
  where
    in_model : sound t ≡ true → (a : List ℕ)
        → report.without_oldest stream (view t a).queue
        ≡ cond (releasing t.queue stream).made (some (sections_of (releasing t.queue stream).queue)) none
    in_model k a = released_is t.queue (facts t k).queued whole stream

-- ---- an increment

abbrev after_increment : Table → ℕ → Replied
after_increment t n = cond (ltb largest_count (t.known + n)) (no t CountTooLarge) (answer (raised (t.known + n) t) (Ok tt))

increment_model : (t : Table) (n : ℕ) (a : List ℕ) → Sound t → length t.waiting.values ≡ blocked_values
    → outcome (after_increment t n).table a (replied (after_increment t n).reply) ≡ report.counting (view t a) n
unfolding view
increment_model t n a s long = go (ltb largest_count (t.known + n))
  where
    go : (b : Bool)
        → outcome (cond b (no t CountTooLarge) (answer (raised (t.known + n) t) (Ok tt))).table a
        (replied (cond b (no t CountTooLarge) (answer (raised (t.known + n) t) (Ok tt))).reply)
        ≡ report.counted b (view t a) n
    go true = refl
    go false = rw (let_go_is t.waiting s.waiting long (t.known + n))

increment_sound : (t : Table) (n : ℕ) → Sound t → t.active ≡ false → length t.waiting.values ≡ blocked_values
    → sound (after_increment t n).table ≡ true
increment_sound t n s off long = go (ltb largest_count (t.known + n)) refl
  where
    go : (b : Bool) → ltb largest_count (t.known + n) ≡ b
        → sound (cond b (no t CountTooLarge) (answer (raised (t.known + n) t) (Ok tt))).table ≡ true
    go true e = is_sound t s
    go false e =
        is_sound (raised (t.known + n) t)
        (record {
          ring = s.ring;
          known = ltb-false _ _ e;
          most = s.most;
          waiting = let_go_keeps t.waiting s.waiting long (t.known + n);
          queued = s.queued;
          live = s.live;
          section = closed_keeps (raised (t.known + n) t) off;
        })

pub increment_keeps : (t : Table) (n : ℕ) (r : Replied) → length t.waiting.values ≡ blocked_values → r ≡ increment t n
    → Keeps t (increment t n) r (λ m. report.increment m n)
unfolding increment report.increment
increment_keeps t n r long e =
    keeps_closed t (after_increment t n) (λ m. report.counting m n)
    (λ k off a. increment_model t n a (facts t k) long) (λ k off. increment_sound t n (facts t k) off long) r e

-- ---- which outcome it is, by the tests of the code

module _ (t : Table) (stream : ℕ) where
  pub release_refused : (why : Refusal) → admitting t false ≡ Err why → no t why ≡ release t stream
  unfolding release
  release_refused why e = closed_refused t (no t) _ why e

  module _ (k : sound t ≡ true) where
    module _ (off : t.active ≡ false) (q : Queued) (e : q ≡ releasing t.queue stream) where
      pub release_none : q.made ≡ false → no t UnknownStreamId ≡ release t stream
      unfolding release
      release_none m = sym (ap (λ (b : Bool). released b) m) ∙ ap (after_release t) e ∙ closed_step t _ k off
        where
          released : Bool → Replied
          released b = cond b (answer (with_queue q.queue t) (Ok tt)) (no t UnknownStreamId)

      pub release_done : q.made ≡ true → answer (with_queue q.queue t) (Ok tt) ≡ release t stream
      unfolding release
      release_done m = sym (ap (λ (b : Bool). released b) m) ∙ ap (after_release t) e ∙ closed_step t _ k off
        where
          released : Bool → Replied
          released b = cond b (answer (with_queue q.queue t) (Ok tt)) (no t UnknownStreamId)

module _ (t : Table) (n : ℕ) where
  pub increment_refused : (why : Refusal) → admitting t false ≡ Err why → no t why ≡ increment t n
  unfolding increment
  increment_refused why e = closed_refused t (no t) _ why e

  module _ (k : sound t ≡ true) where
    module _ (off : t.active ≡ false) where
      pub increment_past : largest_count < t.known + n → no t CountTooLarge ≡ increment t n
      unfolding increment
      increment_past h = sym (ap (λ (b : Bool). counts b) (lt-ltb _ _ h)) ∙ closed_step t _ k off
        where
          counts : Bool → Replied
          counts b = cond b (no t CountTooLarge) (answer (raised (t.known + n) t) (Ok tt))

      pub increment_done : t.known + n ≤ largest_count → answer (raised (t.known + n) t) (Ok tt) ≡ increment t n
      unfolding increment
      increment_done h = sym (ap (λ (b : Bool). counts b) (le-ltb _ _ h)) ∙ closed_step t _ k off
        where
          counts : Bool → Replied
          counts b = cond b (no t CountTooLarge) (answer (raised (t.known + n) t) (Ok tt))
