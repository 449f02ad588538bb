-- `decoder_stream::read_report`: nothing left, a cut report, a refused one, or one of the three. Assumes nothing.
use mathlib.Core.Path.{◌≡◌, sym, ap, ◌∙◌}
use mathlib.Core.Option.{some}
use borrow.Author.Rules.{rules}
use Rattle.std.specs.Prelude.{Ok, Err}
use Rattle.answers.specs.Answer.{answered_or_cut, done}
use Rattle.forms.specs.declared.DecoderInstruction.{DecoderInstruction}
use Rattle.forms.specs.declared.DecoderInstruction.TheVariants.{InsertCountIncrement, StreamCancel, HeaderAck}
use Rattle.decoder_stream.specs.Reports.{report_of, report_at}
use Rattle.decoder_stream.proofs.Reading.{report_cut, report_refused, report_whole, report_past}
use Rattle.decoder_stream.proofs.read_report.Goals.{In-Some}
use Rattle.decoder_stream.proofs.read_report.Goals as goal

pub returns-then-s-at : goal.returns-then-s-at
returns-then-s-at c = let a = c.args in report_past a.s.now a.at c.if-s-at.true

pub returns-in_err-integer : goal.returns-in_err-integer
returns-in_err-integer c =
    let a = c.args in
    let e : c.from_residual.result ≡ Err c.in_err-integer.field-0.0 = search rules in
    rw e (report_refused a.s.now a.at c.decoder_kind-kind.result c.decoder_kind-kind.ensures _
    (sym c.read_integer.ensures ∙ ap answered_or_cut c.in_err-integer.was))

pub returns-in_default : goal.returns-in_default
returns-in_default c =
    let a = c.args in
    report_cut a.s.now a.at c.decoder_kind-kind.result c.decoder_kind-kind.ensures
    (sym c.read_integer.ensures ∙ ap answered_or_cut (c.in_ok-integer.was ∙ ap Ok c.in_default.is))

-- a whole report of a kind
whole : (c : In-Some) (d : DecoderInstruction) → c.decoder_kind-kind.result ≡ d
    → done (some (record { instruction = report_of d c.in-Some.integer.value; next = c.in-Some.integer.next })) ≡ report_at c.args.s.now c.args.at
whole c d same =
    let a = c.args in
    report_whole a.s.now a.at c.decoder_kind-kind.result c.decoder_kind-kind.ensures d _ same
    (sym c.read_integer.ensures ∙ ap answered_or_cut (c.in_ok-integer.was ∙ ap Ok c.in-Some.is))

pub returns-in-InsertCountIncrement : goal.returns-in-InsertCountIncrement
returns-in-InsertCountIncrement c = whole (goal.at.returns-in-InsertCountIncrement c).In-Some InsertCountIncrement c.in-InsertCountIncrement.is

pub returns-in-StreamCancel : goal.returns-in-StreamCancel
returns-in-StreamCancel c = whole (goal.at.returns-in-StreamCancel c).In-Some StreamCancel c.in-StreamCancel.is

pub returns-in-HeaderAck : goal.returns-in-HeaderAck
returns-in-HeaderAck c = whole (goal.at.returns-in-HeaderAck c).In-Some HeaderAck c.in-HeaderAck.is
