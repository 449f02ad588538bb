-- What the floors of the queue and of the open section say of a record's rules, and what its check then finds. Assumes nothing.
use mathlib.Core.Path.{◌≡◌, refl, sym, ap, ◌∙◌}
use mathlib.Core.Bool.{Bool, true, false, cond}
use Prim.Native.Nat.{ℕ, ◌≤◌, ◌<◌}
use borrow.Author.Tests.{le-leb, lt-ltb}
use Rattle.model.specs.Bounds.{blocked_sections}
use Rattle.ring.specs.Ring.{largest_count, keeps}
use Rattle.std.specs.Prelude.{Some, None, Option as Maybe}
use Rattle.tracking.specs.Queue.{Floor, floored, queue_floor, lowest}
use Rattle.blocked.specs.Waiting.{keeps_count}
use Rattle.dynamic.specs.Record.{checked, uses_here, open_rules, open_keeps, queue_keeps, sound, nothing_used, lowest_queued, lowest_used, open_floor, checking, Checked}
use Rattle.call_parts.proofs.Opening.{floor_by, live_by}
use Rattle.dynamic.specs.declared.Table.{Table}

-- a table's queue, and its open section
module _ (t : Table) where
  pub queue_lives : (queue_floor t.queue t.ring.dropped t.ring.inserted nothing_used).live ≡ queue_keeps t
  unfolding queue_floor
  queue_lives = live_by (queue_keeps t) nothing_used (lowest_queued t) _ refl

  pub queue_low : queue_keeps t ≡ true → (queue_floor t.queue t.ring.dropped t.ring.inserted nothing_used).low ≡ lowest_queued t
  unfolding queue_floor
  queue_low h = rw h

  pub open_lives : (low : ℕ) → (open_floor t.active t.base t.section t.ring.dropped t.ring.inserted low).live ≡ open_keeps t
  unfolding open_floor
  open_lives low = go t.active (open_rules t.base t.section t.ring.dropped t.ring.inserted)
    where
      go : (on b : Bool) → (cond on (floor_by b low (lowest low (uses_here t.section))) (record { live = true; low = low })).live ≡ cond on b true
      go true b = live_by b low (lowest low (uses_here t.section)) b refl
      go false b = refl

  pub open_low : (low : ℕ) → low ≡ lowest_queued t → open_keeps t ≡ true
      → (open_floor t.active t.base t.section t.ring.dropped t.ring.inserted low).low ≡ lowest_used t
  unfolding open_floor lowest_used
  open_low low e h = rw e (go t.active (open_rules t.base t.section t.ring.dropped t.ring.inserted) h)
    where
      go : (on b : Bool) → cond on b true ≡ true
          → (cond on (floor_by b (lowest_queued t) (lowest (lowest_queued t) (uses_here t.section))) (record { live = true; low = lowest_queued t })).low
          ≡ cond on (lowest (lowest_queued t) (uses_here t.section)) (lowest_queued t)
      go true b h = rw h
      go false b h = refl

  -- where all but the open section's are kept
  pub rules_left : keeps t.ring ≡ true → t.known ≤ largest_count → t.most < blocked_sections → keeps_count t.waiting ≡ true
      → queue_keeps t ≡ true → sound t ≡ open_keeps t
  unfolding sound
  rules_left r k m w q = rw (r, le-leb _ _ k, lt-ltb _ _ m, w, q)

  pub breaks : sound t ≡ false → ◌≡◌ {A = Checked} (record { sound = false; low = 0 }) (checking t)
  unfolding checking
  breaks h = rw h

  finds : (low : ℕ) → low ≡ lowest_used t → sound t ≡ true → ◌≡◌ {A = Checked} (record { sound = true; low = low }) (checking t)
  unfolding checking
  finds low e h = rw (h, e)

  -- where all but the open section's rules are kept, the open section's floor tells
  pub all_checked : (low : ℕ) (r : Maybe ℕ) → low ≡ lowest_queued t → sound t ≡ open_keeps t
      → floored low r ≡ open_floor t.active t.base t.section t.ring.dropped t.ring.inserted low → checked r ≡ checking t
  all_checked low (Some x) e s f =
      let live : open_keeps t ≡ true = sym (open_lives low) ∙ ap (λ (f : Floor). f.live) (sym f) in
      finds x (ap (λ (f : Floor). f.low) f ∙ open_low low e live) (s ∙ live)
  all_checked low None e s f = breaks (s ∙ sym (open_lives low) ∙ ap (λ (f : Floor). f.live) (sym f))
