-- `encoder_stream::finish`: an increment where all was applied, nothing after a refusal. Assumes nothing.
use mathlib.Core.Path.{◌≡◌}
use borrow.Author.Rules.{rules}
use Rattle.std.specs.Prelude.{Err}
use Rattle.encoder_stream.proofs.Increments.{told_done, told_refused}
use Rattle.encoder_stream.proofs.finish.Goals as goal

pub returns-in_err-reply : goal.returns-in_err-reply
returns-in_err-reply c =
    let e : c.from_residual.result ≡ Err c.in_err-reply.field-0.0 = search rules in
    rw e (told_refused _ _ _ _ c.in_err-reply.was)

pub returns : goal.returns
returns c = told_done _ _ _ _ _ c.in_ok-reply.was c.write_increment.ensures
