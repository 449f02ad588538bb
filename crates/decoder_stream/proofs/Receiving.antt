-- The table that reports are applied to, one turn of that, and the promise of a call. Assumes nothing.
use mathlib.Core.Path.{◌≡◌, refl, sym, ap, ◌∙◌, subst}
use mathlib.Core.Bool.{Bool, true, false}
use mathlib.Core.List.{List, []}
use mathlib.Core.Option.{Option, some, none}
use Prim.Native.Nat.{ℕ, ◌+◌, ◌-◌, ◌≤◌, ◌<◌}
use native.Mathlib.Omega.{arith}
use lib.Dec.{ltb}
use lib.ListN.{length}
use borrow.Author.Tests.{ltb-true, ltb-false}
use Rattle.std.specs.Prelude.{Ok, Err}
use Rattle.answers.specs.Answer.{done, refused}
use Rattle.answers.specs.Table.{Done, ok, replied}
use Rattle.answers.specs.declared.Refusal.{Refusal}
use Rattle.answers.specs.declared.Refusal.TheVariants.{SectionOpen, BadCall}
use Rattle.dynamic.specs.Calls.{answer, no, release, increment}
use Rattle.dynamic.specs.Promise.{Keeps}
use Rattle.dynamic.specs.Record.{sound, view}
use Rattle.dynamic.specs.declared.Replied.{Replied}
use Rattle.dynamic.specs.declared.Table.{Table}
use Rattle.dynamic.proofs.Reports.{release_keeps, release_done, release_none, increment_keeps, increment_done, increment_past}
use Rattle.dynamic.proofs.Sound.{facts}
use Rattle.dynamic.proofs.Steps.{open_section, no_section_lem}
use Rattle.model.specs.Table as model
use Rattle.ring.specs.Ring.{largest_count}
use Rattle.running.specs.Run.{Whole, Ended, ends, run, run_all, unless_open}
use Rattle.running.proofs.Run.{run_over, run_cut, run_bad, run_refused, run_on, seen, Shows, run_shown, run_good}
use Rattle.tracking.specs.Queue.{releasing}
use Rattle.blocked.specs.Waiting.{let_go}
use Rattle.blocked.specs.declared.Waiting.{Waiting}
use Rattle.blocked.proofs.Blocked.{let_go_length}
use Rattle.tracking.proofs.Sections.{released_places}
use Rattle.decoder_stream.specs.Reports.{
  Report,
  acknowledgement,
  cancellation,
  increment as counting,
  report_at,
  called,
  Ready,
  takes,
  receiving,
  reported,
  called_in,
  takes_in,
  receiving_in,
  Receives,
}
use Rattle.decoder_stream.specs.declared.Reported.{Reported}
use Rattle.decoder_stream.proofs.Reading.{report_bounded}

-- ---- a table that reports are applied to

module _ (t : Table) (g : Ready t) where
  called_keeps : (w : Report) → Keeps t (called t w) (called t w) (λ m. called_in m w)
  called_keeps (acknowledgement stream) = release_keeps t stream (release t stream) g.places refl
  called_keeps (cancellation stream) = release_keeps t stream (release t stream) g.places refl
  called_keeps (counting n) = increment_keeps t n (increment t n) g.values refl

  -- a known outcome of a call has a table that keeps its rules
  outcome_kept : (w : Report) (r : Replied) → r ≡ called t w → sound r.table ≡ true
  outcome_kept w r e = ap (λ (x : Replied). sound x.table) e ∙ (called_keeps w).kept g.rules

  release_ready : (stream : ℕ) → Ready (release t stream).table
  release_ready stream = go (releasing t.queue stream).made refl
    where
      go : (b : Bool) → (releasing t.queue stream).made ≡ b → Ready (release t stream).table
      go true m =
          let e = release_done t stream g.rules g.closed (releasing t.queue stream) refl m in
          subst (λ (r : Replied). Ready r.table) e (
          record {
            rules = outcome_kept (acknowledgement stream) _ e;
            closed = g.closed;
            places = released_places t.queue (facts t g.rules).queued g.places stream;
            values = g.values;
          })
      go false m = subst (λ (r : Replied). Ready r.table) (release_none t stream g.rules g.closed (releasing t.queue stream) refl m) g

  increment_ready : (n : ℕ) → Ready (increment t n).table
  increment_ready n = go (ltb largest_count (t.known + n)) refl
    where
      go : (b : Bool) → ltb largest_count (t.known + n) ≡ b → Ready (increment t n).table
      go true h = subst (λ (r : Replied). Ready r.table) (increment_past t n g.rules g.closed (ltb-true _ _ h)) g
      go false h =
          let e = increment_done t n g.rules g.closed (ltb-false _ _ h) in
          subst (λ (r : Replied). Ready r.table) e (
          record {
            rules = outcome_kept (counting n) _ e;
            closed = g.closed;
            places = g.places;
            values = let_go_length t.waiting (facts t g.rules).waiting g.values (t.known + n);
          })

  pub called_ready : (w : Report) → Ready (called t w).table
  called_ready (acknowledgement stream) = release_ready stream
  called_ready (cancellation stream) = release_ready stream
  called_ready (counting n) = increment_ready n

  release_stays : (stream : ℕ) (u : Table) (r : Refusal) → answer u (Err r) ≡ release t stream → u ≡ t
  release_stays stream u r h = go (releasing t.queue stream).made refl
    where
      go : (b : Bool) → (releasing t.queue stream).made ≡ b → u ≡ t
      go true m =
          let e =
          ap (λ (x : Replied). x.reply) (h ∙ sym (release_done t stream g.rules g.closed (releasing t.queue stream) refl m)) in
          let z : ◌≡◌ {A = ℕ} 0 1 = cc in
          absurd (omega arith)
      go false m =
          ap (λ (x : Replied). x.table) (h ∙ sym (release_none t stream g.rules g.closed (releasing t.queue stream) refl m))

  -- a refused report leaves the table as it was
  pub refusal_stays : (w : Report) (u : Table) (r : Refusal) → answer u (Err r) ≡ called t w → u ≡ t
  refusal_stays (acknowledgement stream) u r h = release_stays stream u r h
  refusal_stays (cancellation stream) u r h = release_stays stream u r h
  refusal_stays (counting n) u r h = go (ltb largest_count (t.known + n)) refl
    where
      go : (b : Bool) → ltb largest_count (t.known + n) ≡ b → u ≡ t
      go true m = ap (λ (x : Replied). x.table) (h ∙ sym (increment_past t n g.rules g.closed (ltb-true _ _ m)))
      go false m =
          let e = ap (λ (x : Replied). x.reply) (h ∙ sym (increment_done t n g.rules g.closed (ltb-false _ _ m))) in
          let z : ◌≡◌ {A = ℕ} 0 1 = cc in
          absurd (omega arith)

-- an increment, by the blocked sections that are left
abbrev pub with_count : ℕ → Waiting → Table → Table
with_count k w t =
    record {
      ring = t.ring;
      known = k;
      most = t.most;
      waiting = w;
      queue = t.queue;
      active = t.active;
      base = t.base;
      section = t.section;
    }

pub increment_left : (t : Table) → Ready t → (n : ℕ) → t.known + n ≤ largest_count → (w : Waiting) → w ≡ let_go t.waiting (t.known + n)
    → answer (with_count (t.known + n) w t) (Ok tt) ≡ increment t n
increment_left t g n h w e =
    ap (λ (x : Waiting). answer (with_count (t.known + n) x t) (Ok tt)) e ∙ increment_done t n g.rules g.closed h

-- ---- one turn

-- what is left gives what the whole slice gives
pub record Going (s : List ℕ) (t₀ t : Table) (at : ℕ) : Type 0 where
  pub ready : Ready t
  pub fuel : ℕ
  pub enough : length s ≤ fuel + at
  pub rest : run report_at takes fuel s at t ≡ run_all report_at takes s t₀

pub going : (s : List ℕ) (t : Table) → Ready t → Going s t t 0
going s t g = record { ready = g; fuel = length s; enough = omega arith; rest = refl }

module _ {s : List ℕ} {t₀ t : Table} {at : ℕ} (g : Going s t₀ t at) where
  pub ends_over : length s ≤ at → ends t at (done ok) ≡ run_all report_at takes s t₀
  ends_over h = sym (run_over report_at takes s at t g.fuel h) ∙ g.rest

  module _ (h : at < length s) where
    some_fuel : 0 < g.fuel
    some_fuel = omega (arith, g.enough)

    pub ends_cut : report_at s at ≡ done none → ends t at (done ok) ≡ run_all report_at takes s t₀
    ends_cut e = sym (run_cut report_at takes s at t g.fuel h some_fuel e) ∙ g.rest

    pub ends_bad : (r : Refusal) → report_at s at ≡ refused r → ends t at (refused r) ≡ run_all report_at takes s t₀
    ends_bad r e = sym (run_bad report_at takes s at t g.fuel h some_fuel r e) ∙ g.rest

    module _ (i : Whole Report) (e : report_at s at ≡ done (some i)) where
      pub ends_refused : (r : Refusal) → no t r ≡ called t i.instruction → ends t at (refused r) ≡ run_all report_at takes s t₀
      ends_refused r w =
          sym (run_refused report_at takes s at t g.fuel h some_fuel i e r (ap (λ (x : Replied). replied x.reply) (sym w))) ∙ g.rest

      pub goes_on : (u : Table) → answer u (Ok tt) ≡ called t i.instruction → Going s t₀ u i.next
      goes_on u w =
          let b = report_bounded s at i e in
          let same : u ≡ (called t i.instruction).table = ap (λ (x : Replied). x.table) w in
          record {
            ready = subst Ready (sym same) (called_ready t g.ready i.instruction);
            fuel = g.fuel - 1;
            enough = omega (arith, g.enough, b.past);
            rest =
                ap (run report_at takes (g.fuel - 1) s i.next) same
                ∙ sym (run_on report_at takes s at t g.fuel h some_fuel i e ok (ap (λ (x : Replied). replied x.reply) (sym w)))
                ∙ g.rest;
          }

-- ---- the promise

-- the model's table shows each report
shows : (a : List ℕ) → Shows (λ (t : Table). view t a) Ready takes takes_in
shows a =
    record {
      state = λ t g w. ap (λ (x : model.Step Done). x.next) ((called_keeps t g w).model g.rules a);
      answer = λ t g w. ap (λ (x : model.Step Done). x.answer) ((called_keeps t g w).model g.rules a);
      good = called_ready;
    }

-- on a table that is ready a call is its reports
pub receiving_reports : (t : Table) (s : List ℕ) → Ready t → run_all report_at takes s t ≡ receiving t s
unfolding receiving
receiving_reports t s g = rw (g.rules, g.closed)

module _ (t : Table) (s : List ℕ) (r : Reported) where
  pub receives_broken : sound t ≡ false → r ≡ record { table = t; consumed = 0; reply = Err BadCall } → Receives t s r
  unfolding receiving
  receives_broken h e =
      record {
        next = ap reported e ∙ rw h;
        model = λ k a. let z : ◌≡◌ {A = ℕ} 0 1 = cc in absurd (omega arith);
        kept = λ k. let z : ◌≡◌ {A = ℕ} 0 1 = cc in absurd (omega arith);
      }

  pub receives_open : sound t ≡ true → t.active ≡ true → r ≡ record { table = t; consumed = 0; reply = Err SectionOpen } → Receives t s r
  unfolding receiving
  receives_open h on e =
      record {
        next = ap reported e ∙ rw (h, on);
        model = λ k a.
            ap (λ (x : Reported). ends (view x.table a) x.consumed (replied x.reply)) e
            ∙ sym (ap (λ (o : Option model.Open). unless_open (view t a) o (receiving_in (view t a) s)) (open_section t a on));
        kept = λ k. ap (λ (x : Reported). sound x.table) e ∙ k;
      }

  pub receives_run : Ready t → reported r ≡ run_all report_at takes s t → Receives t s r
  receives_run g e =
      record {
        next = e ∙ receiving_reports t s g;
        model = λ k a.
            ap (seen (λ (x : Table). view x a)) e
            ∙ run_shown (λ (x : Table). view x a) Ready takes takes_in (shows a) report_at s (length s) 0 t g
            ∙ sym (ap (λ (o : Option model.Open). unless_open (view t a) o (receiving_in (view t a) s)) (no_section_lem t a g.closed));
        kept = λ k.
            ap (λ (x : Ended Table). sound x.state) e
            ∙ (run_good (λ (x : Table). view x []) Ready takes takes_in (shows []) report_at s (length s) 0 t g).rules;
      }
