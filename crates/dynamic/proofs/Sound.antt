-- The rules of a record as facts, and back. Assumes nothing.
use mathlib.Core.Path.{◌≡◌}
use mathlib.Core.Bool.{true, false}
use Prim.Native.Nat.{◌≤◌, ◌<◌}
use lib.Dec.{leb}
use lib.ListN.{take}
use borrow.Author.Tests.{leb-true, ltb-true, le-leb, lt-ltb}
use Rattle.entries.proofs.Chain.{and_left, and_right}
use Rattle.model.specs.Bounds.{blocked_sections, queue_places}
use Rattle.ring.specs.Ring.{largest_count, keeps}
use Rattle.tracking.specs.Queue.{all_sections_live}
use Rattle.blocked.specs.Waiting.{keeps_count}
use Rattle.call_parts.proofs.Opening.{Opened, opened, is_opened}
use Rattle.dynamic.specs.Record.{open_keeps, queue_keeps, counts_within, sound}
use Rattle.dynamic.specs.declared.Table.{Table}

pub record Sound (t : Table) : Type 0 where
  pub ring : keeps t.ring ≡ true
  pub known : t.known ≤ largest_count
  pub most : t.most < blocked_sections
  pub waiting : keeps_count t.waiting ≡ true
  pub queued : t.queue.queued ≤ queue_places
  pub live : all_sections_live t.ring.dropped t.ring.inserted (take t.queue.queued t.queue.places) ≡ true
  pub section : open_keeps t ≡ true

pub facts : (t : Table) → sound t ≡ true → Sound t
unfolding sound
facts t h =
    let h1 = and_right (keeps t.ring) _ h in
    let c = and_left (counts_within t) _ h1 in
    let h2 = and_right (counts_within t) _ h1 in
    let h3 = and_right (keeps_count t.waiting) _ h2 in
    let q = and_left (queue_keeps t) _ h3 in
    record {
      ring = and_left (keeps t.ring) _ h;
      known = leb-true _ _ (and_left (leb t.known largest_count) _ c);
      most = ltb-true _ _ (and_right (leb t.known largest_count) _ c);
      waiting = and_left (keeps_count t.waiting) _ h2;
      queued = leb-true _ _ (and_left (leb t.queue.queued queue_places) _ q);
      live = and_right (leb t.queue.queued queue_places) _ q;
      section = and_right (queue_keeps t) _ h3;
    }

pub is_sound : (t : Table) → Sound t → sound t ≡ true
unfolding sound
is_sound t s =
    rw (s.ring, le-leb _ _ s.known, lt-ltb _ _ s.most, s.waiting, le-leb _ _ s.queued, s.live) s.section

module _ (t : Table) where
  pub open_facts : Sound t → t.active ≡ true → Opened t.base t.section t.ring.dropped t.ring.inserted
  open_facts s a = opened _ _ _ _ (rw a at s.section)

  pub open_keeps_lem : t.active ≡ true → Opened t.base t.section t.ring.dropped t.ring.inserted → open_keeps t ≡ true
  open_keeps_lem a o = rw a (is_opened _ _ _ _ o)

  pub closed_keeps : t.active ≡ false → open_keeps t ≡ true
  closed_keeps a = rw a
