-- `dynamic::put_in`: a refusal changes nothing, and else the put is what its push did. Assumes nothing.
use mathlib.Core.Path.{◌≡◌, sym, ap, ◌∙◌}
use mathlib.Core.Bool.{true, false}
use borrow.Author.Rules.{rules}
use Rattle.std.specs.Prelude.{Err}
use Rattle.ring.specs.Ring.{Pushes}
use Rattle.ring.specs.declared.Source.TheVariants.{Given}
use Rattle.dynamic.specs.Calls.{answer, with_ring}
use Rattle.dynamic.specs.Record.{usable, lowest_used}
use Rattle.dynamic.proofs.Made.{arrays_of}
use Rattle.dynamic.proofs.Putting.{puts_refused, puts_pushed}
use Rattle.dynamic.proofs.Steps.{admitted_with_ok}
use Rattle.dynamic.proofs.put_in.Goals as goal

pub returns-in_err-low : goal.returns-in_err-low
returns-in_err-low c t first shape =
    let e : c.from_residual.result ≡ Err c.in_err-low.field-0.0 = search rules in
    rw e (puts_refused (with_ring c.args.ring.now t) c.args.arena.now c.args.name.now c.args.value.now _ (sym first ∙ c.in_err-low.was))

pub returns : goal.returns
returns c other first shape =
    let t = with_ring c.args.ring.now other in
    let a = c.args.arena.now in
    let p = admitted_with_ok t a false _ (sym first ∙ c.in_ok-low.was) in
    let u : usable t a ≡ true = rw (p.1.rules, p.0) in
    let did : Pushes t.ring a _ (lowest_used t) Given c.args.name.now c.args.value.now c.push-pushed.result =
    rw p.1.lowest at c.push-pushed.ensures in
    puts_pushed t a c.args.name.now c.args.value.now u p.1.active (arrays_of shape) _ c.push-pushed.result did
    (ap (answer (with_ring c.push-pushed.result.ring t)) c.push_reply.ensures)
