-- A promise of the form `meaning r ≡ x`, where x is a definition of the input alone, leaves one answer r. Assumes nothing.
-- One law for each meaning, whatever x is; each is shown by a way back, from the meaning to the answer.
use mathlib.Core.Path.{◌≡◌, refl, sym, ap, ◌∙◌}
use mathlib.Core.Option.{Option, some, none}
use Prim.Native.Nat.{ℕ}
use Rattle.std.specs.Prelude.{Result, Ok, Err, Some, None, Option as Maybe, List, cond}
use Rattle.answers.specs.Answer.{answered, answered_or_cut, Answer, done, refused}
use Rattle.answers.specs.Table as answers
use Rattle.answers.specs.declared.Refusal.{Refusal}
use Rattle.block.specs.Lines as block
use Rattle.block.specs.declared.FieldLine.{FieldLine}
use Rattle.blocked.specs.Waiting.{Counted, counted}
use Rattle.blocked.specs.declared.Waiting.{Waiting}
use Rattle.decoder_stream.specs.Reports as reports
use Rattle.decoder_stream.specs.declared.Report.{Report}
use Rattle.dynamic.specs.Calls.{tested}
use Rattle.dynamic.specs.Record.{Checked, checked}
use Rattle.entries.specs.Latest.{latest}
use Rattle.header_prefix.specs.declared.Prefix.{Prefix}
use Rattle.prefix_int.specs.declared.Integer.{Integer}
use Rattle.prefix_string.specs.declared.Text.{Text}
use Rattle.ring.specs.Ring.{Cut, was_cut}
use Rattle.ring.specs.declared.Ring.{Ring}
use Rattle.running.specs.Run.{Whole}
use Rattle.running.specs.declared.Whole.{Whole as CodeWhole}
use Rattle.section_steps.specs.declared.Cursor.{Cursor}
use Rattle.shapes.specs.declared.IntText.{IntText}
use Rattle.shapes.specs.declared.TwoTexts.{TwoTexts}
use Rattle.static_table.specs.Static as static
use Rattle.static_table.specs.declared.Place.{Place}
use Rattle.stream.specs.declared.OneInteger.{OneInteger}
use Rattle.stream.specs.declared.NameRef.{NameRef}
use Rattle.stream.specs.declared.Literal.{Literal}
use Rattle.tracking.specs.Queue.{Floor, floored, Queued, stepped}
use Rattle.tracking.specs.Uses.{Noted, noted}
use Rattle.tracking.specs.declared.Held.{Held}
use Rattle.tracking.specs.declared.Queue.{Queue}
use Rattle.tracking.specs.declared.Uses.{Uses}

settled : {R M : Type 0} (meaning : R → M) (back : M → R) → ((r : R) → back (meaning r) ≡ r)
    → (r r' : R) {x : M} → meaning r ≡ x → meaning r' ≡ x → r ≡ r'
settled meaning back way r r' e f = sym (way r) ∙ ap back (e ∙ sym f) ∙ way r'

pub one_answer : {A : Type 0} (r r' : Result A Refusal) {x : Answer A} → answered r ≡ x → answered r' ≡ x → r ≡ r'
one_answer {A} = settled answered back way
  where
    back : Answer A → Result A Refusal
    back (done e) = Ok e
    back (refused w) = Err w

    way : (r : Result A Refusal) → back (answered r) ≡ r
    way (Ok e) = refl
    way (Err w) = refl

pub one_or_cut : {A : Type 0} (r r' : Result (Maybe A) Refusal) {x : Answer (Option A)} → answered_or_cut r ≡ x → answered_or_cut r' ≡ x → r ≡ r'
one_or_cut {A} = settled answered_or_cut back way
  where
    back : Answer (Option A) → Result (Maybe A) Refusal
    back (done (some e)) = Ok (Some e)
    back (done none) = Ok None
    back (refused w) = Err w

    way : (r : Result (Maybe A) Refusal) → back (answered_or_cut r) ≡ r
    way (Ok (Some e)) = refl
    way (Ok None) = refl
    way (Err w) = refl

-- ---- answers of the table's calls and of the writers

pub one_reply : (r r' : Result Unit Refusal) {x : Answer answers.Done} → answers.replied r ≡ x → answers.replied r' ≡ x → r ≡ r'
one_reply = settled answers.replied back way
  where
    back : Answer answers.Done → Result Unit Refusal
    back (done d) = (Ok tt)
    back (refused w) = Err w

    way : (r : Result Unit Refusal) → back (answers.replied r) ≡ r
    way (Ok tt) = refl
    way (Err w) = refl

pub one_written : (r r' : Result ℕ Refusal) {x : Answer ℕ} → answered r ≡ x → answered r' ≡ x → r ≡ r'
one_written = one_answer

pub one_capacity_test : (r r' : Result Unit Refusal) {x : Option Refusal} → tested r ≡ x → tested r' ≡ x → r ≡ r'
one_capacity_test = settled tested back way
  where
    back : Option Refusal → Result Unit Refusal
    back none = (Ok tt)
    back (some w) = Err w

    way : (r : Result Unit Refusal) → back (tested r) ≡ r
    way (Ok tt) = refl
    way (Err w) = refl

-- ---- parts of the table's calls, whose answer is the next part, or none

pub one_checked : (r r' : Maybe ℕ) {x : Checked} → checked r ≡ x → checked r' ≡ x → r ≡ r'
one_checked = settled checked back way
  where
    back : Checked → Maybe ℕ
    back c = cond c.sound (Some c.low) None

    way : (r : Maybe ℕ) → back (checked r) ≡ r
    way (Some low) = refl
    way None = refl

pub one_cut : (ring : Ring) (r r' : Maybe Ring) {x : Cut} → was_cut ring r ≡ x → was_cut ring r' ≡ x → r ≡ r'
one_cut ring = settled (was_cut ring) back way
  where
    back : Cut → Maybe Ring
    back c = cond c.made (Some c.ring) None

    way : (r : Maybe Ring) → back (was_cut ring r) ≡ r
    way (Some next) = refl
    way None = refl

pub one_noted : (us : List Held) (n : ℕ) (r r' : Maybe Uses) {x : Noted} → noted us n r ≡ x → noted us n r' ≡ x → r ≡ r'
one_noted us n = settled (noted us n) back way
  where
    back : Noted → Maybe Uses
    back u = cond u.fits (Some (record { used = u.used; uses = u.uses })) None

    way : (r : Maybe Uses) → back (noted us n r) ≡ r
    way (Some u) = refl
    way None = refl

pub one_floor : (low : ℕ) (r r' : Maybe ℕ) {x : Floor} → floored low r ≡ x → floored low r' ≡ x → r ≡ r'
one_floor low = settled (floored low) back way
  where
    back : Floor → Maybe ℕ
    back f = cond f.live (Some f.low) None

    way : (r : Maybe ℕ) → back (floored low r) ≡ r
    way (Some least) = refl
    way None = refl

pub one_queue : (q : Queue) (r r' : Maybe Queue) {x : Queued} → stepped q r ≡ x → stepped q r' ≡ x → r ≡ r'
one_queue q = settled (stepped q) back way
  where
    back : Queued → Maybe Queue
    back x = cond x.made (Some x.queue) None

    way : (r : Maybe Queue) → back (stepped q r) ≡ r
    way (Some next) = refl
    way None = refl

pub one_counted : (w : Waiting) (r r' : Maybe Waiting) {x : Counted} → counted w r ≡ x → counted w r' ≡ x → r ≡ r'
one_counted w = settled (counted w) back way
  where
    back : Counted → Maybe Waiting
    back c = cond c.fits (Some c.waiting) None

    way : (r : Maybe Waiting) → back (counted w r) ≡ r
    way (Some next) = refl
    way None = refl

-- ---- integers and strings

pub one_int : (r r' : Result Integer Refusal) {x : Answer Integer} → answered r ≡ x → answered r' ≡ x → r ≡ r'
one_int = one_answer

pub one_size : (r r' : Result ℕ Refusal) {x : Answer ℕ} → answered r ≡ x → answered r' ≡ x → r ≡ r'
one_size = one_answer

pub one_text : (r r' : Result Text Refusal) {x : Answer Text} → answered r ≡ x → answered r' ≡ x → r ≡ r'
one_text = one_answer

pub one_int_text : (r r' : Result IntText Refusal) {x : Answer IntText} → answered r ≡ x → answered r' ≡ x → r ≡ r'
one_int_text = one_answer

pub one_texts : (r r' : Result TwoTexts Refusal) {x : Answer TwoTexts} → answered r ≡ x → answered r' ≡ x → r ≡ r'
one_texts = one_answer

-- ---- the static table, and indexes

pub one_got : (r r' : Result Place Refusal) {x : Answer Place} → answered r ≡ x → answered r' ≡ x → r ≡ r'
one_got = one_answer

pub one_found : (r r' : Maybe ℕ) {x : Option ℕ} → static.found r ≡ x → static.found r' ≡ x → r ≡ r'
one_found = settled static.found back way
  where
    back : Option ℕ → Maybe ℕ
    back (some i) = Some i
    back none = None

    way : (r : Maybe ℕ) → back (static.found r) ≡ r
    way (Some i) = refl
    way None = refl

pub one_latest : (r r' : Maybe ℕ) {x : Option ℕ} → latest r ≡ x → latest r' ≡ x → r ≡ r'
one_latest = settled latest back way
  where
    back : Option ℕ → Maybe ℕ
    back (some i) = Some i
    back none = None

    way : (r : Maybe ℕ) → back (latest r) ≡ r
    way (Some i) = refl
    way None = refl

pub one_located : (r r' : Result ℕ Refusal) {x : Answer ℕ} → answered r ≡ x → answered r' ≡ x → r ≡ r'
one_located = one_answer

-- ---- single instructions, lines and prefixes

pub one_begun : (r r' : Result Cursor Refusal) {x : Answer Cursor} → answered r ≡ x → answered r' ≡ x → r ≡ r'
one_begun = one_answer

pub one_integer : (r r' : Result (Maybe OneInteger) Refusal) {x : Answer (Option OneInteger)}
    → answered_or_cut r ≡ x → answered_or_cut r' ≡ x → r ≡ r'
one_integer = one_or_cut

pub one_name_ref : (r r' : Result (Maybe NameRef) Refusal) {x : Answer (Option NameRef)}
    → answered_or_cut r ≡ x → answered_or_cut r' ≡ x → r ≡ r'
one_name_ref = one_or_cut

pub one_literal : (r r' : Result (Maybe Literal) Refusal) {x : Answer (Option Literal)}
    → answered_or_cut r ≡ x → answered_or_cut r' ≡ x → r ≡ r'
one_literal = one_or_cut

pub one_line : (r r' : Result FieldLine Refusal) {x : Answer block.FieldLine} → block.line_read r ≡ x → block.line_read r' ≡ x → r ≡ r'
one_line = settled block.line_read back way
  where
    back : Answer block.FieldLine → Result FieldLine Refusal
    back (done (block.indexed r e)) = Ok (FieldLine.Indexed r e)
    back (done (block.named r v n e)) = Ok (FieldLine.Named r v n e)
    back (done (block.literal a m b n e)) = Ok (FieldLine.Literal a m b n e)
    back (refused w) = Err w

    way : (r : Result FieldLine Refusal) → back (block.line_read r) ≡ r
    way (Ok (FieldLine.Indexed r e)) = refl
    way (Ok (FieldLine.Named r v n e)) = refl
    way (Ok (FieldLine.Literal a m b n e)) = refl
    way (Err w) = refl

pub one_prefix : (r r' : Result Prefix Refusal) {x : Answer Prefix} → answered r ≡ x → answered r' ≡ x → r ≡ r'
one_prefix = one_answer

pub one_report : (r r' : Result (Maybe (CodeWhole Report)) Refusal) {x : Answer (Option (Whole reports.Report))}
    → reports.report_read r ≡ x → reports.report_read r' ≡ x → r ≡ r'
one_report = settled reports.report_read back way
  where
    whole : reports.Report → Report
    whole (reports.acknowledgement s) = Report.Acknowledgement s
    whole (reports.cancellation s) = Report.Cancellation s
    whole (reports.increment n) = Report.Increment n

    back : Answer (Option (Whole reports.Report)) → Result (Maybe (CodeWhole Report)) Refusal
    back (done (some i)) = Ok (Some (record { instruction = whole i.instruction; next = i.next }))
    back (done none) = Ok None
    back (refused w) = Err w

    same : (r : Report) → whole (reports.report_in r) ≡ r
    same (Report.Acknowledgement s) = refl
    same (Report.Cancellation s) = refl
    same (Report.Increment n) = refl

    way : (r : Result (Maybe (CodeWhole Report)) Refusal) → back (reports.report_read r) ≡ r
    way (Ok (Some w)) = ap (λ (i : Report). Ok (Some (record { instruction = i; next = w.next }))) (same w.instruction)
    way (Ok None) = refl
    way (Err w) = refl
