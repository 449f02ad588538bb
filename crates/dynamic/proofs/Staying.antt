-- What stays when a table gets another ring: its uses are still of live entries, and it keeps its rules. Assumes nothing.
use mathlib.Core.Path.{◌≡◌}
use mathlib.Core.Bool.{true, false}
use Prim.Native.Nat.{ℕ, ◌≤◌, ◌<◌}
use native.Mathlib.Omega.{arith}
use lib.ListN.{take}
use Rattle.ring.specs.Ring.{keeps}
use Rattle.ring.specs.declared.Ring.{Ring}
use Rattle.tracking.specs.Queue.{section_live, all_sections_live}
use Rattle.tracking.proofs.Floors.{still_live, still_queued, few_uses, uses_live, section_live_lem}
use Rattle.dynamic.specs.Calls.{with_ring}
use Rattle.dynamic.specs.Record.{uses_here}
use Rattle.dynamic.specs.declared.Table.{Table}
use Rattle.dynamic.proofs.Free.{uses_at}
use Rattle.dynamic.proofs.Sound.{Sound, open_facts, closed_keeps}

-- more were inserted, and none that is used went
module _ (t : Table) (s : Sound t) (r : Ring) (more : t.ring.inserted ≤ r.inserted)
    (above : (x : ℕ) → 0 < uses_at t x → r.dropped < x) where
  pub queue_stays : all_sections_live r.dropped r.inserted (take t.queue.queued t.queue.places) ≡ true
  queue_stays = still_queued _ _ _ _ more (take t.queue.queued t.queue.places) s.live (λ x z. above x (omega arith))

  pub section_stays : t.active ≡ true → section_live r.dropped r.inserted t.section ≡ true
  section_stays e =
      let live = (open_facts t s e).live in
      section_live_lem _ _ t.section (few_uses _ _ t.section live)
      (still_live _ _ _ _ more (uses_here t.section) (uses_live _ _ t.section live) (λ x z. above x (rw e (omega arith))))

  pub closed_stays : keeps r ≡ true → t.active ≡ false → Sound (with_ring r t)
  closed_stays rules e =
      record {
        ring = rules;
        known = s.known;
        most = s.most;
        waiting = s.waiting;
        queued = s.queued;
        live = queue_stays;
        section = closed_keeps (with_ring r t) e;
      }
