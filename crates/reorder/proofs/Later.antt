-- What follows for later calls, and for reports that come as bytes. Assumes nothing.
use mathlib.Core.Path.{◌≡◌, ap}
use mathlib.Core.List.{List}
use Prim.Native.Nat.{◌+◌, ◌≤◌}
use Rattle.decoder_stream.specs.Reports.{Report, Ready}
use Rattle.dynamic.specs.declared.Table.{Table}
use Rattle.ring.specs.Ring.{largest_count}
use Rattle.reorder.specs.Reports.{total, Reordered}
use Rattle.reorder.specs.Batch.{handed}
use Rattle.reorder.specs.Slices.{Slice, reports_in, SameCalls}
use Rattle.reorder.proofs.Calls.{bytes_are_reports, all_or_nothing}
use Rattle.reorder.proofs.Theorem.{same_outcome}

-- no later calls on the two tables can differ in an answer or a byte: `later` is whatever they make of a table
pub same_later : {X : Type 0} (later : Table → X) (t : Table) → Ready t → (xs ys : List Report) → Reordered xs ys
    → t.known + total xs ≤ largest_count → later (handed t xs).state ≡ later (handed t ys).state
same_later later t g xs ys r h = ap later (same_outcome t g xs ys r h).runs.states

-- the same where each report comes as bytes, in a call on the decoder stream of its own
pub same_calls : (t : Table) → Ready t → (bs cs : List Slice) → Reordered (reports_in bs) (reports_in cs)
    → t.known + total (reports_in bs) ≤ largest_count → SameCalls t bs cs
same_calls t g bs cs r h =
    record {
      outcome = rw (bytes_are_reports bs t g, bytes_are_reports cs t g) (same_outcome t g (reports_in bs) (reports_in cs) r h);
      consumed_first = all_or_nothing bs t g;
      consumed_second = all_or_nothing cs t g;
    }
