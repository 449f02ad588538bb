-- A call on a slice that is one whole report is that report, consumed whole or not at all. Assumes nothing.
use mathlib.Core.Path.{◌≡◌, refl, sym, ap, ◌∙◌, subst}
use mathlib.Core.Bool.{Bool, true, false}
use mathlib.Core.List.{List, [], ◌∷◌}
use Prim.Native.Nat.{ℕ, ◌+◌, ◌-◌, ◌<◌}
use native.Mathlib.Omega.{arith}
use lib.Dec.{ltb}
use lib.ListN.{length}
use borrow.Author.Tests.{ltb-true, ltb-false}
use Rattle.answers.specs.Answer.{Answer, done, refused}
use Rattle.answers.specs.Table.{Done, ok, replied}
use Rattle.answers.specs.declared.Refusal.{Refusal}
use Rattle.decoder_stream.specs.Reports.{Report, acknowledgement, cancellation, increment, report_at, Ready, takes, receiving}
use Rattle.decoder_stream.proofs.Reading.{report_bounded}
use Rattle.decoder_stream.proofs.Receiving.{called_ready, receiving_reports}
use Rattle.dynamic.specs.Calls as calls
use Rattle.dynamic.specs.declared.Replied.{Replied}
use Rattle.dynamic.specs.declared.Table.{Table}
use Rattle.dynamic.proofs.Reports.{release_done, release_none, increment_done, increment_past}
use Rattle.ring.specs.Ring.{largest_count}
use Rattle.running.specs.Run.{Took, Ended, ends, run_all}
use Rattle.running.proofs.Run.{run_over, run_refused, run_on}
use Rattle.tracking.specs.Queue.{releasing}
use Rattle.reorder.specs.Batch.{Answered, after, answers_to, itself, handed}
use Rattle.reorder.specs.Slices.{Slice, report_in, reports_in, receives, handed_bytes, taken, AllOrNothing}

-- ---- a refused report leaves the table as it was

module _ (t : Table) (g : Ready t) where
  abbrev says : Replied → Answer Done
  says r = replied r.reply

  release_stays : (s : ℕ) (r : Refusal) → says (calls.release t s) ≡ refused r → (calls.release t s).table ≡ t
  release_stays s r h = go (releasing t.queue s).made refl
    where
      go : (b : Bool) → (releasing t.queue s).made ≡ b → (calls.release t s).table ≡ t
      go true m =
          let e = ap says (release_done t s g.rules g.closed (releasing t.queue s) refl m) ∙ h in
          let z : ◌≡◌ {A = ℕ} 0 1 = cc in absurd (omega arith)
      go false m = sym (ap (λ (x : Replied). x.table) (release_none t s g.rules g.closed (releasing t.queue s) refl m))

  increment_stays : (n : ℕ) (r : Refusal) → says (calls.increment t n) ≡ refused r → (calls.increment t n).table ≡ t
  increment_stays n r h = go (ltb largest_count (t.known + n)) refl
    where
      go : (b : Bool) → ltb largest_count (t.known + n) ≡ b → (calls.increment t n).table ≡ t
      go true m = sym (ap (λ (x : Replied). x.table) (increment_past t n g.rules g.closed (ltb-true _ _ m)))
      go false m =
          let e = ap says (increment_done t n g.rules g.closed (ltb-false _ _ m)) ∙ h in
          let z : ◌≡◌ {A = ℕ} 0 1 = cc in absurd (omega arith)

  refused_stays : (w : Report) (r : Refusal) → (takes t w).answer ≡ refused r → (takes t w).state ≡ t
  refused_stays (acknowledgement s) r h = release_stays s r h
  refused_stays (cancellation s) r h = release_stays s r h
  refused_stays (increment n) r h = increment_stays n r h

  -- ---- one call

  module _ (b : Slice) where
    some_byte : 0 < length b.bytes
    some_byte = omega (arith, (report_bounded b.bytes 0 b.whole b.reads).past, b.alone)

    pub one_call : receiving t b.bytes
        ≡ ends (takes t (report_in b)).state (taken (takes t (report_in b)).answer (length b.bytes)) (takes t (report_in b)).answer
    one_call = sym (receiving_reports t b.bytes g) ∙ go (takes t (report_in b)).answer refl
      where
        n : ℕ
        n = length b.bytes

        u : Table
        u = (takes t (report_in b)).state

        go : (w : Answer Done) → (takes t (report_in b)).answer ≡ w → run_all report_at takes b.bytes t ≡ ends u (taken w n) w
        go (done ok) e =
            run_on report_at takes b.bytes 0 t n some_byte some_byte b.whole b.reads ok e
            ∙ run_over report_at takes b.bytes b.whole.next u (n - 1) (omega (arith, b.alone))
            ∙ ap (λ (k : ℕ). ends u k (done ok)) b.alone
        go (refused r) e =
            run_refused report_at takes b.bytes 0 t n some_byte some_byte b.whole b.reads r e
            ∙ ap (λ (v : Table). ends v 0 (refused r)) (sym (refused_stays (report_in b) r e))

    same_took : receives t b ≡ takes t (report_in b)
    same_took = ap (λ (e : Ended Table). record { state = e.state; answer = e.answer }) one_call

    consumed_whole : (receiving t b.bytes).consumed ≡ taken (receiving t b.bytes).answer (length b.bytes)
    consumed_whole = rw one_call

-- ---- a batch of calls

pub same_after : (bs : List Slice) (t : Table) → Ready t → after receives t bs ≡ after takes t (reports_in bs)
same_after [] t g = refl
same_after (b ∷ bs) t g =
    ap (λ (o : Took Table). after receives o.state bs) (same_took t g b) ∙ same_after bs (takes t (report_in b)).state (called_ready t g (report_in b))

pub same_answered : (bs : List Slice) (t : Table) → Ready t
    → answers_to report_in receives t bs ≡ answers_to itself takes t (reports_in bs)
same_answered [] t g = refl
same_answered (b ∷ bs) t g =
    ap (λ (o : Took Table). record { report = report_in b; answer = o.answer } ∷ answers_to report_in receives o.state bs) (same_took t g b)
    ∙ ap (λ (l : List Answered). record { report = report_in b; answer = (takes t (report_in b)).answer } ∷ l)
    (same_answered bs (takes t (report_in b)).state (called_ready t g (report_in b)))

pub bytes_are_reports : (bs : List Slice) (t : Table) → Ready t → handed_bytes t bs ≡ handed t (reports_in bs)
bytes_are_reports bs t g = λ i. record { state = same_after bs t g i; answers = same_answered bs t g i }

pub all_or_nothing : (bs : List Slice) (t : Table) → Ready t → AllOrNothing t bs
all_or_nothing [] t g = tt
all_or_nothing (b ∷ bs) t g = (
  consumed_whole t g b,
  subst (λ (o : Took Table). AllOrNothing o.state bs) (sym (same_took t g b))
      (all_or_nothing bs (takes t (report_in b)).state (called_ready t g (report_in b))),
)
