-- One call on a record that keeps its rules: it leaves one that keeps them, and does not answer 22. Assumes nothing.
use mathlib.Core.Path.{◌≡◌, refl, sym, ap, subst, ◌∙◌}
use mathlib.Core.Bool.{Bool, true, false, cond}
use mathlib.Core.List.{List, []}
use Prim.Native.Nat.{ℕ, ◌≤◌}
use native.Mathlib.Omega.{arith}
use lib.Dec.{leb, eqb}
use lib.ListN.{length}
use borrow.Author.Tests.{le-leb}
use Rattle.std.specs.Prelude.{Err}
use Rattle.answers.specs.Answer.{Answer, done, refused, answer_number}
use Rattle.answers.specs.Table.{Done, ok, replied}
use Rattle.answers.specs.declared.Insertion.{Insertion}
use Rattle.answers.specs.declared.Lookup.{Lookup}
use Rattle.answers.specs.declared.Refusal.TheVariants.{SectionOpen, BufSize}
use Rattle.arena.specs.Ring.{long_enough}
use Rattle.decoder.specs.Section as section
use Rattle.decoder_stream.specs.Reports as reports
use Rattle.decoder_stream.proofs.Receiving.{called_ready, receiving_reports}
use Rattle.dynamic.specs.Calls as calls
use Rattle.dynamic.specs.Promise.{Keeps, Puts}
use Rattle.dynamic.specs.Record.{view, sound, usable, lowest_used}
use Rattle.dynamic.specs.declared.Replied.{Replied}
use Rattle.dynamic.specs.declared.Table.{Table}
use Rattle.dynamic.proofs.Finding.{finds}
use Rattle.dynamic.proofs.Insertions.{inserts}
use Rattle.dynamic.proofs.Putting.{puts_refused, puts_pushed}
use Rattle.dynamic.proofs.Reports.{release_keeps, increment_keeps}
use Rattle.dynamic.proofs.Sections.{begin_keeps, abandon_keeps, commit_keeps}
use Rattle.dynamic.proofs.Setting.{sets_most, sets_capacity}
use Rattle.encoder_stream.specs.Entries.{Held, applied, applied_in}
use Rattle.encoder_stream.specs.Stream as stream
use Rattle.encoder_stream.proofs.Modelled.{viewed, Good, shows}
use Rattle.entries.proofs.Chain.{and_left, and_right}
use Rattle.instructions.specs.Instruction.{instruction_at}
use Rattle.model.specs.Table as model
use Rattle.ring.specs.Ring.{pushing, bytes_after, placed_bytes}
use Rattle.ring.specs.declared.Source.TheVariants.{Given}
use Rattle.running.specs.Run.{Ended, ends, run_all}
use Rattle.running.proofs.Run.{run_shown, run_good}
use Rattle.demands.specs.Calls.{State, holds, Call, set_capacity, set_blocked_maximum, put, find, insert, begin, commit, abandon, acknowledge, cancel, increment, encoder_stream, decoder_stream, decode_header, read_on, next_on, lend, number_said, Outcome, replying, putting, looking, inserting, reporting, receiving, calling, LongEnough}
use Rattle.demands.proofs.Full.{Full, shape_of}
use Rattle.demands.proofs.FullCalls.{instructions_good, call_full}
use Rattle.demands.proofs.ModelRows.{capacity_row, most_row, put_row, begin_row, abandon_row, commit_row, release_row, increment_row, find_row, insert_row, applied_row, run_row}
use Rattle.demands.proofs.Rows.{Row, instruction_row, report_row}
use Rattle.demands.proofs.Sections.{line_tells, section_tells}

-- a record that keeps its rules, with an arena that is long enough
pub record Kept (x : State) : Type 0 where
  pub usable : usable x.table x.arena ≡ true
  pub full : Full x.table

pub record Fine (o : Outcome) : Type 0 where
  pub kept : Kept o.state
  pub not_22 : number_said o.answer ≡ 22 → ⊥

-- beside the lengths of its arrays
record Usable (o : Outcome) : Type 0 where
  usable : usable o.state.table o.state.arena ≡ true
  not_22 : number_said o.answer ≡ 22 → ⊥

-- a table with an open section takes no reports
open_reports : (t : Table) (s : List ℕ) → sound t ≡ true → t.active ≡ true → ends t 0 (refused SectionOpen) ≡ reports.receiving t s
unfolding reports.receiving
open_reports t s h e = rw (h, e)

-- the increment adds 16 alone
told_row : (w : Answer Done) (n : ℕ) → Row w → Row (stream.told w n).answer
unfolding stream.told
told_row (done d) n p = go (eqb n 0) (leb n stream.most_inserts)
  where
    go : (b c : Bool)
        → Row (cond {A = stream.Told} b (record { answer = done ok; bytes = [] }) (cond c (record { answer = done ok; bytes = stream.increment_bytes n }) (record { answer = refused BufSize; bytes = [] }))).answer
    go true c = record { not_22 = λ e. omega arith }
    go false true = record { not_22 = λ e. omega arith }
    go false false = record { not_22 = λ e. omega arith }
told_row (refused r) n p = record { not_22 = p.not_22 }

-- a put keeps its promise
pub puts : (t : Table) → Full t → (a n v : List ℕ) → usable t a ≡ true
    → Puts t a (calls.bytes_after t (calls.put t a n v).table a n v) (calls.put t a n v) (calls.put t a n v) n v
puts t f a n v h = go t.active refl
  where
    exact : Replied
    exact = calls.put t a n v

    settled : (b : List ℕ) (r : Replied) → Puts t a b exact r n v → Puts t a (calls.bytes_after t exact.table a n v) exact exact n v
    settled b r w =
        subst (λ (z : Replied). Puts t a (calls.bytes_after t z.table a n v) exact z n v) w.next
        (subst (λ (c : List ℕ). Puts t a c exact r n v) w.bytes w)

    go : (on : Bool) → t.active ≡ on → Puts t a (calls.bytes_after t exact.table a n v) exact exact n v
    go true e =
        let rules = and_left (sound t) _ h in
        let long : long_enough a ≡ true = and_right (sound t) _ h in
        let why : calls.admitting_with t a false ≡ Err SectionOpen = rw (long, rules, e) in
        settled a _ (puts_refused t a n v SectionOpen why)
    go false e =
        let p = pushing t.ring a (lowest_used t) Given n v in
        let b = bytes_after p.push a (placed_bytes t.ring a Given n v) in
        settled b (calls.put_by t p) (puts_pushed t a n v h e f.ring b p (record { next = refl; bytes = refl }) {r = calls.put_by t p} refl)

module _ (t : Table) (a : List ℕ) (k : Kept (holds t a)) where
  rules : sound t ≡ true
  rules = and_left (sound t) _ k.usable

  long : long_enough a ≡ true
  long = and_right (sound t) _ k.usable

  -- a call that takes no arena, by its promise
  keeps_fine : (r : Replied) (step : model.Table → model.Step Done) → Keeps t r r step → Row (step (view t a)).answer → Usable (replying a r)
  keeps_fine r step w row =
      record {
        usable = rw (w.kept rules, long);
        not_22 = λ e. row.not_22 (sym (ap (λ (s : model.Step Done). answer_number s.answer) (w.model rules a)) ∙ e);
      }

  -- ---- the calls with an arena

  module _ (n v : List ℕ) where
    put_fine : Usable (putting t a n v (calls.put t a n v))
    put_fine =
        let w = puts t k.full a n v k.usable in
        record {
          usable = w.kept k.usable;
          not_22 = λ e. (put_row (view t a) (record { name = n; value = v })).not_22
              (sym (ap (λ (s : model.Step Done). answer_number s.answer) (w.model k.usable)) ∙ e);
        }

    find_fine : Usable (looking a (calls.find t a n v))
    find_fine =
        let w = finds t a n v (calls.find t a n v) k.full.uses refl in
        record {
          usable = w.kept k.usable;
          not_22 = λ e. (find_row (view t a) (record { name = n; value = v })).not_22
              (sym (ap (λ (s : model.Step Lookup). answer_number s.answer) (w.model k.usable)) ∙ e);
        }

    insert_fine : Usable (inserting t a n v (calls.insert t a n v))
    insert_fine =
        let r = calls.insert t a n v in
        let w = inserts t a (calls.bytes_after t r.table a n v) n v r (shape_of k.full) refl refl in
        record {
          usable = w.kept k.usable;
          not_22 = λ e. (insert_row (view t a) (record { name = n; value = v })).not_22
              (sym (ap (λ (s : model.Step Insertion). answer_number s.answer) (w.model k.usable)) ∙ e);
        }

  -- ---- the streams

  -- a call's answer is the model's
  same_row : (r : Replied) (step : model.Table → model.Step Done) (u : Table) → Keeps u r r step → sound u ≡ true
      → Row (step (view u a)).answer → Row (replied r.reply)
  same_row r step u w h row =
      record { not_22 = λ e. row.not_22 (sym (ap (λ (s : model.Step Done). answer_number s.answer) (w.model h a)) ∙ e) }

  report_answer : (u : Table) → reports.Ready u → (w : reports.Report) → Row (reports.takes u w).answer
  report_answer u g (reports.acknowledgement x) =
      same_row _ _ u (release_keeps u x (calls.release u x) g.places refl) g.rules (release_row (view u a) x)
  report_answer u g (reports.cancellation x) =
      same_row _ _ u (release_keeps u x (calls.release u x) g.places refl) g.rules (release_row (view u a) x)
  report_answer u g (reports.increment x) =
      same_row _ _ u (increment_keeps u x (calls.increment u x) g.values refl) g.rules (increment_row (view u a) x)

  module _ (s : List ℕ) where
    record Reported : Type 0 where
      rules : sound (reports.receiving t s).state ≡ true
      answer : Row (reports.receiving t s).answer

    reports_are : Reported
    reports_are = go t.active refl
      where
        go : (on : Bool) → t.active ≡ on → Reported
        go true e =
            let same = open_reports t s rules e in
            record {
              rules = ap (λ (z : Ended Table). sound z.state) (sym same) ∙ rules;
              answer = subst (λ (z : Ended Table). Row z.answer) same (record { not_22 = λ x. omega arith });
            }
        go false e =
            let g : reports.Ready t = record { rules = rules; closed = e; places = k.full.queue; values = k.full.waiting } in
            let same = receiving_reports t s g in
            let last = run_good (λ (u : Table). u) reports.Ready reports.takes reports.takes
            (record { state = λ x g i. refl; answer = λ x g i. refl; good = called_ready }) reports.report_at s (length s) 0 t g in
            record {
              rules = ap (λ (z : Ended Table). sound z.state) (sym same) ∙ last.rules;
              answer = subst (λ (z : Ended Table). Row z.answer) same
                  (run_row reports.report_at reports.takes reports.Ready report_row report_answer called_ready s (length s) 0 t g);
            }

    reports_fine : Usable (reporting a (reports.receiving t s))
    reports_fine =
        let w = reports_are in
        record {
          usable = rw (w.rules, long);
          not_22 = w.answer.not_22;
        }

    module _ (o : List ℕ) (room : stream.increment_room ≤ length o) where
      instructions_answer : Row (stream.receiving t a s (length o)).answer
      unfolding stream.receiving
      instructions_answer = rw (k.usable, le-leb _ _ room) (go t.active refl)
        where
          start : Held
          start = stream.held_by t a

          go : (on : Bool) → t.active ≡ on
              → Row (cond on (ends start 0 (refused SectionOpen)) (run_all instruction_at (applied (lowest_used t)) s start)).answer
          go true e = record { not_22 = λ x. omega arith }
          go false e =
              let first : Good t start = record { usable = k.usable; arrays = k.full.ring } in
              let shown = run_shown (viewed t) (Good t) (applied (lowest_used t)) applied_in (shows t e (lowest_used t) refl) instruction_at s (length s) 0 start first in
              let row = run_row instruction_at applied_in (λ _. Unit {0}) instruction_row (λ u _ i. applied_row u i) (λ _ _ _. tt) s (length s) 0 (view t a) tt in
              record { not_22 = λ x. row.not_22 (sym (ap (λ (z : Ended model.Table). answer_number z.answer) shown) ∙ x) }

      instructions_fine : Usable (receiving t o (stream.received t a s (length o)))
      instructions_fine =
          let g = instructions_good t k.full a s (length o) k.usable in
          record {
            usable = g.usable;
            not_22 = (told_row _ _ instructions_answer).not_22;
          }

  -- ---- every call

  usable_call : (c : Call) → LongEnough c → Usable (calling t a c)
  usable_call (set_capacity c) l =
      keeps_fine _ _ (sets_capacity t k.full.ring c refl) (capacity_row (view t a) c)
  usable_call (set_blocked_maximum m) l = keeps_fine _ _ (sets_most t m refl) (most_row (view t a) m)
  usable_call (put n v) l = put_fine n v
  usable_call (find n v) l = find_fine n v
  usable_call (insert n v) l = insert_fine n v
  usable_call (begin x) l =
      keeps_fine _ _ (begin_keeps t x (calls.begin t x) refl) (begin_row (view t a) x)
  usable_call (commit x) l =
      keeps_fine _ _ (commit_keeps t x k.full.waiting k.full.queue (calls.commit t x) refl) (commit_row (view t a) x)
  usable_call abandon l =
      keeps_fine _ _ (abandon_keeps t (calls.abandon t) refl) (abandon_row (view t a))
  usable_call (acknowledge x) l =
      keeps_fine _ _ (release_keeps t x (calls.release t x) k.full.queue refl) (release_row (view t a) x)
  usable_call (cancel x) l =
      keeps_fine _ _ (release_keeps t x (calls.release t x) k.full.queue refl) (release_row (view t a) x)
  usable_call (increment n) l =
      keeps_fine _ _ (increment_keeps t n (calls.increment t n) k.full.waiting refl) (increment_row (view t a) n)
  usable_call (encoder_stream s o) l = instructions_fine s o l
  usable_call (decoder_stream s) l = reports_fine s
  usable_call (decode_header s fs o) l = record { usable = k.usable; not_22 = (section_tells t a k.usable s (λ f. f) fs o).not_22 }
  usable_call (read_on s fs o) l = record { usable = k.usable; not_22 = (section_tells t a k.usable s section.numbers fs o).not_22 }
  usable_call (next_on s room o c) l = record { usable = k.usable; not_22 = (line_tells t a k.usable s room (length o) c).not_22 }
  usable_call (lend b) l =
      record { usable = rw (rules, l); not_22 = λ e. omega arith }

  pub call_fine : (c : Call) → LongEnough c → Fine (calling t a c)
  call_fine c l =
      let w = usable_call c l in
      record { kept = record { usable = w.usable; full = call_full t k.full a c }; not_22 = w.not_22 }
