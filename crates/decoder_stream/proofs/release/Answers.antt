-- `decoder_stream::release`: nothing queued of the stream, or a release. Assumes nothing.
use mathlib.Core.Path.{◌≡◌, refl, sym, ap, ◌∙◌}
use borrow.Author.Rules.{rules}
use Rattle.std.specs.Prelude.{Err, Some, None}
use Rattle.dynamic.proofs.Reports.{release_none, release_done}
use Rattle.dynamic.proofs.Steps.{or_ok, or_err}
use Rattle.tracking.specs.Queue.{stepped}
use Rattle.decoder_stream.proofs.release.Goals as goal

pub returns-in_err-queue : goal.returns-in_err-queue
returns-in_err-queue c =
    let t = c.args.table.now in
    let e : c.from_residual.result ≡ Err c.in_err-queue.field-0.0 = search rules in
    let gone = or_err _ _ _ c.ok_or.ensures.value _ c.in_err-queue.was in
    rw (e, gone.1) (release_none t c.args.stream c.requires.0 c.requires.1 (stepped t.queue None)
    (ap (stepped t.queue) (sym gone.0) ∙ c.release.ensures) refl)

pub returns : goal.returns
returns c =
    let t = c.args.table.now in
    release_done t c.args.stream c.requires.0 c.requires.1 (stepped t.queue (Some c.in_ok-queue.queue))
    (ap (stepped t.queue) (sym (or_ok _ _ _ c.ok_or.ensures.value _ c.in_ok-queue.was)) ∙ c.release.ensures) refl
