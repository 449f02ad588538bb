-- What a batch of reports leaves of a table: its count, its queue, its references. Assumes nothing.
use mathlib.Core.Path.{◌≡◌, refl, sym, ap, ◌∙◌}
use mathlib.Core.List.{List, [], ◌∷◌}
use Prim.Native.Nat.{ℕ, ◌+◌}
use native.Mathlib.Omega.{arith}
use Rattle.decoder_stream.specs.Reports.{Report, acknowledgement, cancellation, increment, takes, Ready}
use Rattle.dynamic.specs.Record.{view}
use Rattle.dynamic.specs.declared.Table.{Table}
use Rattle.dynamic.proofs.Sound.{facts}
use Rattle.model.specs.Table as model
use Rattle.running.specs.Run.{Took}
use Rattle.tracking.specs.Queue.{sections_of}
use Rattle.reorder.specs.Reports.{how_many, of, amount, total}
use Rattle.reorder.specs.Batch.{after, unreported, left}
use Rattle.reorder.proofs.Runs.{fine_next}
use Rattle.reorder.proofs.Queue.{released_without, unreported_none, unreported_more}
use Rattle.reorder.proofs.Commuted.{commutes}
use Rattle.reorder.proofs.Commuting.{Fine, next, said}

module _ (x : Report) (xs : List Report) (t : Table) (f : Fine (total (x ∷ xs)) t) where
  one_step : (takes t x).state ≡ next t x
  one_step = ap (λ (o : Took Table). o.state) (commutes.plain x (total xs) t f)

  one_fine : Fine (total xs) (takes t x).state
  one_fine = fine_next takes Fine _ next said commutes x (total xs) t f

  one_known : (takes t x).state.known + total xs ≡ t.known + (amount x + total xs)
  one_known = ap (λ (u : Table). u.known + total xs) one_step ∙ go x
    where
      go : (x : Report) → (next t x).known + total xs ≡ t.known + (amount x + total xs)
      go (acknowledgement s) = omega arith
      go (cancellation s) = omega arith
      go (increment n) = omega arith

  one_left : left (takes t x).state xs ≡ left t (x ∷ xs)
  one_left = ap (λ (u : Table). left u xs) one_step ∙ go x
    where
      release : (s : ℕ) → left (next t (acknowledgement s)) xs ≡ left t (acknowledgement s ∷ xs)
      release s =
          let counted : ℕ → ℕ = λ u. how_many (of u) xs in
          ap (unreported counted) (released_without s t.queue (facts t f.ready.rules).queued f.ready.places)
          ∙ sym (unreported_more s (sections_of t.queue) counted)

      go : (x : Report) → left (next t x) xs ≡ left t (x ∷ xs)
      go (acknowledgement s) = release s
      go (cancellation s) = release s
      go (increment n) = refl

pub after_ready : (xs : List Report) (t : Table) → Fine (total xs) t → Ready (after takes t xs)
after_ready [] t f = f.ready
after_ready (x ∷ xs) t f = after_ready xs (takes t x).state (one_fine x xs t f)

pub after_known : (xs : List Report) (t : Table) → Fine (total xs) t → (after takes t xs).known ≡ t.known + total xs
after_known [] t f = omega arith
after_known (x ∷ xs) t f = after_known xs (takes t x).state (one_fine x xs t f) ∙ one_known x xs t f

pub after_queue : (xs : List Report) (t : Table) → Fine (total xs) t → sections_of (after takes t xs).queue ≡ left t xs
after_queue [] t f = sym (unreported_none (sections_of t.queue))
after_queue (x ∷ xs) t f = after_queue xs (takes t x).state (one_fine x xs t f) ∙ one_left x xs t f

-- with no section open, references are the uses of the queued sections
pub closed_references : (t : Table) → Ready t → (a : List ℕ) (x : ℕ) → model.references (view t a) x ≡ model.uses_queued x (sections_of t.queue)
unfolding view
closed_references t g a x = rw g.closed (omega arith)
