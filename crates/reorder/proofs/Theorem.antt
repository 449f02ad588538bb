-- Two orders of one batch of reports that keep each stream's own: the same answers, the same references, equal tables. Assumes nothing.
use mathlib.Core.Path.{ap, ◌∙◌}
use mathlib.Core.List.{List}
use Prim.Native.Nat.{ℕ, ◌+◌, ◌≤◌}
use Rattle.decoder_stream.specs.Reports.{Report, takes, Ready}
use Rattle.dynamic.specs.declared.Table.{Table}
use Rattle.model.specs.Table as model
use Rattle.ring.specs.Ring.{largest_count}
use Rattle.tracking.specs.Queue.{sections_of}
use Rattle.reorder.specs.Reports.{only, how_many, of, total, Reordered}
use Rattle.reorder.specs.Batch.{after, handed, from, SameOutcome}
use Rattle.reorder.proofs.Runs.{reordered_runs}
use Rattle.reorder.proofs.Queue.{unreported_each}
use Rattle.reorder.proofs.Commuted.{commutes}
use Rattle.reorder.proofs.Commuting.{Fine, next, said}
use Rattle.reorder.proofs.Leaving.{after_ready, after_known, after_queue, closed_references}

-- reports handed in singly, in any order that keeps each stream's own
pub same_outcome : (t : Table) → Ready t → (xs ys : List Report) → Reordered xs ys → t.known + total xs ≤ largest_count
    → SameOutcome t xs (handed t xs) (handed t ys)
same_outcome t g xs ys r h =
    let f : Fine (total xs) t = record { ready = g; room = h } in
    record {
      runs = reordered_runs takes Fine next said commutes r t f;
      queue = after_queue xs t f;
      each = λ s.
          ap (only (from s)) (after_queue xs t f) ∙ unreported_each s (sections_of t.queue) (λ (u : ℕ). how_many (of u) xs);
      references = λ a x.
          closed_references (after takes t xs) (after_ready xs t f) a x ∙ ap (model.uses_queued x) (after_queue xs t f);
      known = after_known xs t f;
    }
