-- `encoder_stream::insert_static`: the name of the static table that the index names, or why there is none. Assumes nothing.
use mathlib.Core.Path.{◌≡◌, refl, sym, ap, ◌∙◌}
use borrow.Author.Rules.{rules}
use Rattle.std.specs.Prelude.{Ok, Err}
use Rattle.answers.specs.Answer.{answered, done}
use Rattle.static_table.specs.Static.{entry_at}
use Rattle.encoder_stream.proofs.Applying.{static_unnamed, static_pushed}
use Rattle.encoder_stream.proofs.StaticNames.{static_refused, copied_is, copied_name}
use Rattle.encoder_stream.proofs.insert_static.Goals.{In_ok-place, After-copy, After-unwrap-end}
use Rattle.encoder_stream.proofs.insert_static.Goals as goal

-- the entry that the index names
named : (c : In_ok-place) → entry_at c.args.index ≡ done c.in_ok-place.place
named c = sym c.get.ensures ∙ ap answered c.in_ok-place.was

pub returns-in_err-place : goal.returns-in_err-place
returns-in_err-place c =
    let a = c.args in
    let e : c.from_residual.result ≡ Err c.in_err-place.field-0.0 = search rules in
    let h = sym c.get.ensures ∙ ap answered c.in_err-place.was in
    rw e (static_unnamed a.low a.ring.now a.arena.now a.index a.value.now _ (static_refused a.index _ h))

copied : (c : After-copy) → c.copy.result ≡ Ok c.in_ok-place.place.name
copied c = copied_is _ c.in_ok-place.place (named (goal.at.After-copy c).In_ok-place) _ _ _ refl c.copy.ensures

pub unwrap-end-requires : goal.unwrap-end-requires
unwrap-end-requires c = rw (copied (goal.at.unwrap-end-requires c).After-copy)

pub returns : goal.returns
returns c =
    let a = c.args in
    let z = (goal.at.returns c).After-copy in
    let end : c.unwrap-end.result ≡ c.in_ok-place.place.name = let p = c.unwrap-end.ensures in let q = copied z in cc in
    c.push.ensures
    ∙ rw end (static_pushed a.low a.ring.now a.arena.now a.index _ a.value.now
    (copied_name _ c.in_ok-place.place (named (goal.at.After-copy z).In_ok-place) _ _ _ refl c.copy.ensures))
