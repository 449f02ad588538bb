-- What a call of the program gives, by its promise, is the outcome that a sequence of calls is made of. Assumes nothing.
use mathlib.Core.Path.{◌≡◌, ap, ◌∙◌}
use mathlib.Core.List.{List, ◌++◌}
use Prim.Native.Nat.{ℕ}
use lib.ListN.{length, drop}
use Rattle.answers.specs.Answer.{answered}
use Rattle.answers.specs.Table.{replied}
use Rattle.decoder.specs.Section as section
use Rattle.section_steps.specs.declared.Cursor.{Cursor}
use Rattle.section_steps.specs.declared.Decoded.{Decoded}
use Rattle.section_steps.specs.declared.Field.{Field}
use Rattle.section_steps.specs.Section.{Line, line_told}
use Rattle.section_steps.specs.declared.Line.{Line as CodeLine}
use Rattle.decoder_stream.specs.Reports as reports
use Rattle.decoder_stream.specs.declared.Reported.{Reported}
use Rattle.dynamic.specs.Calls as calls
use Rattle.dynamic.specs.Promise.{Keeps, Puts, Finds, Inserts}
use Rattle.dynamic.specs.declared.Inserting.{Inserting}
use Rattle.dynamic.specs.declared.Looked.{Looked}
use Rattle.dynamic.specs.declared.Replied.{Replied}
use Rattle.dynamic.specs.declared.Table.{Table}
use Rattle.encoder_stream.specs.Stream as stream
use Rattle.encoder_stream.specs.declared.Received.{Received}
use Rattle.model.specs.Drop as model-table
use Rattle.model.specs.Report as model-report
use Rattle.model.specs.Section as model-section
use Rattle.demands.specs.Calls.{set_capacity, set_blocked_maximum, begin, commit, abandon, acknowledge, cancel, increment, holds, put, find, insert, encoder_stream, decoder_stream, decode_header, read_on, next_on, Outcome, plain, insertion, reported, received, decoded, decoded_numbers, stepped, replying, putting, looking, inserting, reporting, reading, calling}

-- t, a: the record and the arena before; b: the arena after
module _ (t : Table) (a : List ℕ) where
  pub meets_capacity : (c : ℕ) (r : Replied) → Keeps t (calls.set_capacity t c) r (λ m. model-table.set_capacity m c) → replying a r ≡ calling t a (set_capacity c)
  meets_capacity c r w = ap (replying a) w.next

  pub meets_blocked_maximum : (x : ℕ) (r : Replied) → Keeps t (calls.set_most t x) r (λ m. model-table.set_blocked_max m x) → replying a r ≡ calling t a (set_blocked_maximum x)
  meets_blocked_maximum x r w = ap (replying a) w.next

  pub meets_begin : (x : ℕ) (r : Replied) → Keeps t (calls.begin t x) r (λ m. model-section.begin m x) → replying a r ≡ calling t a (begin x)
  meets_begin x r w = ap (replying a) w.next

  pub meets_commit : (x : ℕ) (r : Replied) → Keeps t (calls.commit t x) r (λ m. model-section.commit m x) → replying a r ≡ calling t a (commit x)
  meets_commit x r w = ap (replying a) w.next

  pub meets_abandon : (r : Replied) → Keeps t (calls.abandon t) r model-section.abandon → replying a r ≡ calling t a abandon
  meets_abandon r w = ap (replying a) w.next

  pub meets_acknowledge : (x : ℕ) (r : Replied) → Keeps t (calls.release t x) r (λ m. model-report.release m x) → replying a r ≡ calling t a (acknowledge x)
  meets_acknowledge x r w = ap (replying a) w.next

  pub meets_cancel : (x : ℕ) (r : Replied) → Keeps t (calls.release t x) r (λ m. model-report.release m x) → replying a r ≡ calling t a (cancel x)
  meets_cancel x r w = ap (replying a) w.next

  pub meets_increment : (x : ℕ) (r : Replied) → Keeps t (calls.increment t x) r (λ m. model-report.increment m x) → replying a r ≡ calling t a (increment x)
  meets_increment x r w = ap (replying a) w.next

  module _ (n v : List ℕ) where
    pub meets_put : (b : List ℕ) (r : Replied) → Puts t a b (calls.put t a n v) r n v
        → ◌≡◌ {A = Outcome} (record { state = holds r.table b; answer = plain (replied r.reply) }) (calling t a (put n v))
    meets_put b r w =
        ap (λ (x : List ℕ). record { state = holds r.table x; answer = plain (replied r.reply) }) w.bytes
        ∙ ap (putting t a n v) w.next

    pub meets_find : (r : Looked) → Finds t a n v r → looking a r ≡ calling t a (find n v)
    meets_find r w = ap (looking a) w.next

    pub meets_insert : (b : List ℕ) (r : Inserting) → Inserts t a b n v r
        → ◌≡◌ {A = Outcome} (record { state = holds r.table b; answer = insertion (answered r.inserted) }) (calling t a (insert n v))
    meets_insert b r w =
        ap (λ (x : List ℕ). record { state = holds r.table x; answer = insertion (answered r.inserted) }) w.bytes
        ∙ ap (inserting t a n v) w.next

  -- o, p: the buffer for the increment before and after
  pub meets_encoder_stream : (s o b p : List ℕ) (r : Received) → stream.Receives t a b s o p r
      → ◌≡◌ {A = Outcome}
      (record { state = holds r.table b; answer = received r.consumed r.inserted (replied r.reply) r.written p })
      (calling t a (encoder_stream s o))
  meets_encoder_stream s o b p r w =
      let out = w.out ∙ ap (λ (k : ℕ). (stream.received t a s (length o)).told.bytes ++ drop k o) w.written in
      λ i. record {
        state = holds (w.table i) (w.arena i);
        answer = received (w.consumed i) (w.inserted i) (w.answer i) (w.written i) (out i);
      }

  pub meets_decoder_stream : (s : List ℕ) (r : Reported) → reports.Receives t s r
      → ◌≡◌ {A = Outcome} (record { state = holds r.table a; answer = reported r.consumed (replied r.reply) }) (calling t a (decoder_stream s))
  meets_decoder_stream s r w = ap (reporting a) w.next

  -- fs, m: the records and the bytes after
  pub meets_decode_header : (s : List ℕ) (fs₀ fs : List Field) (o m : List ℕ) (r : Decoded)
      → section.section_of r fs m ≡ section.read_all (λ f. f) (section.on_table t a) s fs₀ o
      → reading t a (decoded (section.section_of r fs m)) ≡ calling t a (decode_header s fs₀ o)
  meets_decode_header s fs₀ fs o m r w = ap (λ (x : section.Section Field). reading t a (decoded x)) w

  pub meets_read_on : (s : List ℕ) (fs₀ fs : List (List ℕ)) (o m : List ℕ) (r : Decoded)
      → section.section_of r fs m ≡ section.read_all section.numbers (section.on_table t a) s fs₀ o
      → reading t a (decoded_numbers (section.section_of r fs m)) ≡ calling t a (read_on s fs₀ o)
  meets_read_on s fs₀ fs o m r w = ap (λ (x : section.Section (List ℕ)). reading t a (decoded_numbers x)) w

  pub meets_next_on : (s : List ℕ) (room : ℕ) (o m : List ℕ) (c : Cursor) (r : Line)
      → (r ≡ section.line_of (section.on_table t a) s room (length o) c) × (m ≡ section.out_of (section.on_table t a) s c o r)
      → reading t a (stepped r m) ≡ calling t a (next_on s room o c)
  meets_next_on s room o m c r w =
      ap (λ (x : List ℕ). reading t a (stepped r x)) w.1
      ∙ ap (λ (l : Line). reading t a (stepped l (section.out_of (section.on_table t a) s c o l))) w.0

  -- the same of a line as the code has it
  pub meets_next_on_told : (s : List ℕ) (room : ℕ) (o m : List ℕ) (c : Cursor) (r : CodeLine)
      → (line_told r ≡ section.line_of (section.on_table t a) s room (length o) c) × (m ≡ section.out_of (section.on_table t a) s c o (line_told r))
      → reading t a (stepped (line_told r) m) ≡ calling t a (next_on s room o c)
  meets_next_on_told s room o m c r w = meets_next_on s room o m c (line_told r) w
