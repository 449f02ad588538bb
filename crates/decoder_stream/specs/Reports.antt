-- A call on the decoder stream, RFC 9204 4.4: "a call on the decoder stream applies its reports in order and writes nothing".
use Rattle.std.specs.Prelude.{Result, Ok, Err, Option as Maybe, Some, None, ◌≡◌, true, false, cond, List, ℕ, length, get_or}
use Rattle.std.proofs.Math.Option.{Option, some, none}
use Rattle.answers.specs.Answer.{Answer, done, refused}
use Rattle.answers.specs.Table.{Done, replied}
use Rattle.answers.specs.declared.Refusal.TheVariants.{SectionOpen, BadCall}
use Rattle.dynamic.specs.Calls as calls
use Rattle.dynamic.specs.Record.{sound, view}
use Rattle.dynamic.specs.declared.Replied.{Replied}
use Rattle.dynamic.specs.declared.Table.{Table}
use Rattle.forms.specs.Forms.{decoder_kind}
use Rattle.forms.specs.declared.DecoderInstruction.{DecoderInstruction}
use Rattle.forms.specs.declared.DecoderInstruction.TheVariants.{InsertCountIncrement, StreamCancel, HeaderAck}
use Rattle.forms.specs.declared.Kind.TheVariants.{Decoder}
use Rattle.model.specs.Bounds.{queue_places, blocked_values}
use Rattle.model.specs.Report as report
use Rattle.model.specs.Table as model
use Rattle.running.specs.declared.Whole.{Whole as CodeWhole}
use Rattle.answers.specs.declared.Refusal.{Refusal}
use Rattle.running.specs.Run.{Whole, Took, Ended, ends, run_all, unless_open, found}
use Rattle.stream.specs.Instructions.{integer_at}
use Rattle.stream.specs.declared.OneInteger.{OneInteger}
use Rattle.decoder_stream.specs.declared.Reported.{Reported}
use Rattle.decoder_stream.specs.declared.Report.{Report as CodeReport}

-- a report of the peer
pub data Report : Type 0 where
  acknowledgement : ℕ → Report
  cancellation : ℕ → Report
  increment : ℕ → Report
  deriving Discrete as Report-discrete

abbrev pub report_of : DecoderInstruction → ℕ → Report
report_of InsertCountIncrement v = increment v
report_of StreamCancel v = cancellation v
report_of HeaderAck v = acknowledgement v

-- 4.4.1 to 4.4.3: the report that the first byte begins
unfoldable pub report_at : List ℕ → ℕ → Answer (Option (Whole Report))
report_at s at =
    found (λ (i : OneInteger). record { instruction = report_of (decoder_kind (get_or s at 0)) i.value; next = i.next })
    (integer_at s at (Decoder (decoder_kind (get_or s at 0))))

-- a report as the code has it
abbrev pub report_in : CodeReport → Report
report_in (CodeReport.Acknowledgement stream) = acknowledgement stream
report_in (CodeReport.Cancellation stream) = cancellation stream
report_in (CodeReport.Increment n) = increment n

abbrev pub report_read : Result (Maybe (CodeWhole CodeReport)) Refusal → Answer (Option (Whole Report))
report_read (Ok (Some w)) = done (some (record { instruction = report_in w.instruction; next = w.next }))
report_read (Ok None) = done none
report_read (Err r) = refused r

-- ---- on the record: each report is the call of that name

abbrev pub called : Table → Report → Replied
called t (acknowledgement stream) = calls.release t stream
called t (cancellation stream) = calls.release t stream
called t (increment n) = calls.increment t n

-- a table that reports are applied to: it keeps its rules, no section is open, and two arrays are as long as they are in every record of the program
pub record Ready (t : Table) : Type 0 where
  pub rules : sound t ≡ true
  pub closed : t.active ≡ false
  pub places : length t.queue.places ≡ queue_places
  pub values : length t.waiting.values ≡ blocked_values

abbrev pub takes : Table → Report → Took Table
takes t w = record { state = (called t w).table; answer = replied (called t w).reply }

-- 22, then 18, then the reports
unfoldable pub receiving : Table → List ℕ → Ended Table
receiving t s =
    cond (sound t)
    (cond t.active (ends t 0 (refused SectionOpen)) (run_all report_at takes s t))
    (ends t 0 (refused BadCall))

abbrev pub reported : Reported → Ended Table
reported r = ends r.table r.consumed (replied r.reply)

-- ---- in the model

abbrev pub called_in : model.Table → Report → model.Step Done
called_in t (acknowledgement stream) = report.release t stream
called_in t (cancellation stream) = report.release t stream
called_in t (increment n) = report.increment t n

abbrev pub takes_in : model.Table → Report → Took model.Table
takes_in t w = record { state = (called_in t w).next; answer = (called_in t w).answer }

abbrev pub receiving_in : model.Table → List ℕ → Ended model.Table
receiving_in t s = run_all report_at takes_in s t

-- ---- the promise

pub record Receives (t : Table) (s : List ℕ) (r : Reported) : Type 0 where
  -- the answer, how many bytes were consumed, and the next record
  pub next : reported r ≡ receiving t s
  -- what that is in the model, whatever the arena holds
  pub model : sound t ≡ true → (a : List ℕ)
      → ends (view r.table a) r.consumed (replied r.reply)
      ≡ unless_open (view t a) (view t a).section (receiving_in (view t a) s)
  pub kept : sound t ≡ true → sound r.table ≡ true
