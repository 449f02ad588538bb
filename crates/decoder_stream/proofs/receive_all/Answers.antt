-- `decoder_stream::receive_all`: each turn applies a report, or ends the call at it. Assumes nothing.
use mathlib.Core.Path.{◌≡◌, sym, ap, ◌∙◌}
use mathlib.Core.Option.{some}
use native.Mathlib.Omega.{arith}
use Rattle.std.specs.Prelude.{Ok, Err}
use Rattle.answers.specs.Answer.{done}
use Rattle.dynamic.specs.Calls.{answer}
use Rattle.dynamic.specs.declared.Table.{Table}
use Rattle.running.specs.Run.{Whole}
use Rattle.decoder_stream.specs.Reports.{Report, report_at, report_in, report_read, Ready, reported}
use Rattle.decoder_stream.proofs.Reading.{report_bounded}
use Rattle.decoder_stream.proofs.Receiving.{going, ends_over, ends_cut, ends_bad, ends_refused, goes_on, refusal_stays}
use Rattle.decoder_stream.proofs.receive_all.Goals.{In-Ok-Some, Start}
use Rattle.decoder_stream.proofs.receive_all.Goals as goal

ready : (z : Start) → Ready z.args.table
ready z =
    record {
      rules = z.requires.0;
      closed = z.requires.1;
      places = z.well_formed.0.1.1.1.1.1.1.0.1.1.1.0.1.0.1;
      values = z.well_formed.0.1.1.1.1.1.0.1.1.1.1.0.1.0.1;
    }

pub loop-at-init : goal.loop-at-init
loop-at-init c = going c.args.s.now c.args.table (ready (goal.at.loop-at-init c).Start)

-- a report was read
abbrev was_read : In-Ok-Some → Whole Report
was_read c = record { instruction = report_in c.in-Ok-Some.report.instruction; next = c.in-Ok-Some.report.next }

read_is : (c : In-Ok-Some) → report_at c.args.s.now c.loop-at.at ≡ done (some (was_read c))
read_is c = sym c.read_report.ensures ∙ ap report_read (c.in-Ok-Some.is ∙ ap Ok c.in-Ok-Some.field-0-is)

pub apply-requires : goal.apply-requires
apply-requires c = let r = c.loop-at.invariant.ready in (r.rules, r.closed)

pub returns-in-Err-apply : goal.returns-in-Err-apply
returns-in-Err-apply c =
    let w = (goal.at.returns-in-Err-apply c).In-Ok-Some in
    let g = c.loop-at.invariant in
    let r = c.in-Err-apply.refusal in
    let a = sym (ap (answer c.apply.new.table) c.in-Err-apply.is) ∙ c.apply.ensures in
    let same = refusal_stays c.loop-at.table g.ready (was_read w).instruction c.apply.new.table r a in
    ap reported (c.ended.ensures ∙ ap (λ (t : Table). record { table = t; consumed = c.loop-at.at; reply = Err r }) same)
    ∙ ends_refused g c.loop-at-test.true (was_read w) (read_is w) r (sym (ap (λ (t : Table). answer t (Err r)) same) ∙ a)

pub loop-at-smaller : goal.loop-at-smaller
loop-at-smaller c =
    let w = (goal.at.loop-at-smaller c).In-Ok-Some in
    let b = report_bounded c.args.s.now c.loop-at.at (was_read w) (read_is w) in
    omega (arith, b.past, c.loop-at-test.true)

pub loop-at-preserved : goal.loop-at-preserved
loop-at-preserved c =
    let w = (goal.at.loop-at-preserved c).In-Ok-Some in
    goes_on c.loop-at.invariant c.loop-at-test.true (was_read w) (read_is w) _
    (sym (ap (answer c.apply.new.table) c.in_default.is) ∙ c.apply.ensures)

pub returns-in-Ok-None : goal.returns-in-Ok-None
returns-in-Ok-None c =
    ap reported c.ended-in-Ok-None.ensures
    ∙ ends_cut c.loop-at.invariant c.loop-at-test.true
    (sym c.read_report.ensures ∙ ap report_read (c.in-Ok-None.is ∙ ap Ok c.in-Ok-None.field-0-is))

pub returns-in-Err : goal.returns-in-Err
returns-in-Err c =
    ap reported c.ended-in-Err.ensures
    ∙ ends_bad c.loop-at.invariant c.loop-at-test.true _ (sym c.read_report.ensures ∙ ap report_read c.in-Err.is)

pub returns : goal.returns
returns c = ap reported c.ended-2.ensures ∙ ends_over c.loop-at.invariant c.loop-at-test.false
