-- The calls that touch no string leave equal live strings equal. Assumes nothing.
use mathlib.Core.Path.{◌≡◌, refl}
use mathlib.Core.Bool.{true}
use mathlib.Core.List.{List}
use mathlib.Core.Option.{Option, some, none}
use Prim.Native.Nat.{ℕ, ◌+◌}
use lib.Dec.{leb, ltb}
use lib.ListN.{length}
use Rattle.answers.specs.declared.Refusal.{Refusal}
use Rattle.decoder_stream.specs.Reports as reports
use Rattle.dynamic.specs.Calls as calls
use Rattle.dynamic.specs.Record.{sound, usable, lowest_used}
use Rattle.dynamic.specs.declared.Looked.{Looked}
use Rattle.dynamic.specs.declared.Replied.{Replied}
use Rattle.dynamic.specs.declared.Table.{Table}
use Rattle.model.specs.Bounds.{blocked_sections}
use Rattle.ring.specs.Ring.{largest_count, fields_of, cutting}
use Rattle.running.specs.Run.{Ended}
use Rattle.running.proofs.Run.{run_good}
use Rattle.tracking.specs.Queue.{pushing as queueing, releasing}
use Rattle.demands.proofs.Arenas.{same_cut}
use Rattle.demands.proofs.Tests.{either, when_closed_lem, when_open_lem}

module _ (a b : List ℕ) where
  -- the live strings of a table are the same in both arenas
  abbrev pub Same : Table → Type 0
  Same t = fields_of t.ring a ≡ fields_of t.ring b

  abbrev SameAfter : Replied → Type 0
  SameAfter r = Same r.table

  module _ (t : Table) (w : Same t) where
    pub capacity_same : (c : ℕ) → Same (calls.set_capacity t c).table
    unfolding calls.set_capacity
    capacity_same c = when_closed_lem Same t w _ (λ h. go (calls.capacity_answer c))
      where
        go : (o : Option Refusal) → Same (calls.cut_unless t c o).table
        go (some r) = w
        go none =
            either SameAfter (cutting t.ring (lowest_used t) c).made _ _ (same_cut t.ring a b w (lowest_used t) c) w

    pub most_same : (m : ℕ) → Same (calls.set_most t m).table
    unfolding calls.set_most
    most_same m = when_closed_lem Same t w _ (λ h. either SameAfter (leb blocked_sections m) _ _ w w)

    pub begin_same : (x : ℕ) → Same (calls.begin t x).table
    unfolding calls.begin
    begin_same x = when_closed_lem Same t w _ (λ h. w)

    pub abandon_same : Same (calls.abandon t).table
    unfolding calls.abandon
    abandon_same = when_open_lem Same t w _ (λ h. w)

    pub commit_same : (x : ℕ) → Same (calls.commit t x).table
    unfolding calls.commit
    commit_same x =
        when_open_lem Same t w _
        (λ h. either SameAfter (ltb t.ring.inserted x) _ _ w
        (either SameAfter (queueing t.queue t.section).made _ _
        (either SameAfter (calls.counted_with t.waiting t.known x).fits _ _ w w) w))

    pub release_same : (x : ℕ) → Same (calls.release t x).table
    unfolding calls.release
    release_same x = when_closed_lem Same t w _ (λ h. either SameAfter (releasing t.queue x).made _ _ w w)

    pub increment_same : (n : ℕ) → Same (calls.increment t n).table
    unfolding calls.increment
    increment_same n = when_closed_lem Same t w _ (λ h. either SameAfter (ltb largest_count (t.known + n)) _ _ w w)

    pub find_same : (n v : List ℕ) → Same (calls.find t a n v).table
    unfolding calls.find
    find_same n v = either After (usable t a) _ _ (either After t.active _ _ (go (calls.latest_of t a n v true)) w) w
      where
        After : Looked → Type 0
        After r = Same r.table

        go : (o : Option ℕ) → Same (calls.found_at t o).table
        go none = w
        go (some k) = either After (calls.noted_in t.section (t.ring.dropped + k + 1)).fits _ _ w w

  report_same : (t : Table) → Same t → (w : reports.Report) → Same (reports.called t w).table
  report_same t w (reports.acknowledgement x) = release_same t w x
  report_same t w (reports.cancellation x) = release_same t w x
  report_same t w (reports.increment n) = increment_same t w n

  pub reports_same : (t : Table) → Same t → (s : List ℕ) → Same (reports.receiving t s).state
  unfolding reports.receiving
  reports_same t w s =
      either After (sound t) _ _
      (either After t.active _ _ w
      (run_good (λ (u : Table). u) Same reports.takes reports.takes
      (record { state = λ x g i. refl; answer = λ x g i. refl; good = report_same }) reports.report_at s (length s) 0 t w))
      w
    where
      After : Ended Table → Type 0
      After e = Same e.state
