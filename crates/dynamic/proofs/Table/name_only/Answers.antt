-- `dynamic::Table::name_only`: the static name, else what a search for the name gives. Assumes nothing.
use mathlib.Core.Path.{◌≡◌, sym, ap, ◌∙◌}
use mathlib.Core.Option.{none}
use borrow.Author.Rules.{rules}
use Rattle.std.specs.Prelude.{Err}
use Rattle.static_table.specs.Static.{found, lowest_name}
use Rattle.dynamic.specs.Calls.{looked, inserting}
use Rattle.dynamic.proofs.Unmade.{insert_of, only_static, only_found}
use Rattle.dynamic.proofs.Table.name_only.Goals.{After-seek}
use Rattle.dynamic.proofs.Table.name_only.Goals as goal

unlisted : (c : After-seek) → lowest_name c.args.name.now ≡ none
unlisted c = sym c.find_name.ensures ∙ ap found c.in_default.is

pub returns-in-Some-clause-inserted_value : goal.returns-in-Some-clause-inserted_value
returns-in-Some-clause-inserted_value c v = only_static c.args.self.now _ _ _ _ (sym c.find_name.ensures ∙ ap found c.in-Some.is)

pub returns-in_err-lookup-clause-inserted_value : goal.returns-in_err-lookup-clause-inserted_value
returns-in_err-lookup-clause-inserted_value c v =
    let e : c.from_residual.result ≡ Err c.in_err-lookup.field-0.0 = search rules in
    let t = c.seek.new.self in
    rw e (ap (λ x. inserting t (insert_of x)) (sym c.in_err-lookup.was)
    ∙ only_found c.args.self.now c.args.arena.now c.args.name.now v (unlisted (goal.at.returns-in_err-lookup-clause-inserted_value c).After-seek) (looked t c.seek.result) c.seek.ensures)

pub returns-clause-inserted_value : goal.returns-clause-inserted_value
returns-clause-inserted_value c v =
    let t = c.seek.new.self in
    ap (λ x. inserting t (insert_of x)) (sym c.in_ok-lookup.was)
    ∙ only_found c.args.self.now c.args.arena.now c.args.name.now v (unlisted (goal.at.returns-clause-inserted_value c).After-seek) (looked t c.seek.result) c.seek.ensures
