-- `encoder_stream::duplicate`: the live entry that the index names, or why there is none. Assumes nothing.
use mathlib.Core.Path.{◌≡◌, sym, ap, ◌∙◌}
use borrow.Author.Rules.{rules}
use Rattle.std.specs.Prelude.{Err}
use Rattle.answers.specs.Answer.{answered}
use Rattle.encoder_stream.proofs.Applying.{duplicate_unnamed, duplicate_pushed}
use Rattle.encoder_stream.proofs.duplicate.Goals as goal

pub returns-in_err-position : goal.returns-in_err-position
returns-in_err-position c =
    let a = c.args in
    let e : c.from_residual.result ≡ Err c.in_err-position.field-0.0 = search rules in
    rw e (duplicate_unnamed a.low a.ring.now a.arena.now a.index _ (sym c.locate.ensures ∙ ap answered c.in_err-position.was))

pub returns : goal.returns
returns c =
    let a = c.args in
    c.push.ensures ∙ duplicate_pushed a.low a.ring.now a.arena.now a.index _ (sym c.locate.ensures ∙ ap answered c.in_ok-position.was)
