-- `line_entries::static_entry`: where the entry's strings stand in the static table's bytes. Assumes nothing.
use mathlib.Core.Path.{◌≡◌, sym, ap, ◌∙◌}
use native.Mathlib.Omega.{arith}
use Rattle.std.specs.Prelude.{Err}
use Rattle.std.proofs.Common.{rules}
use Rattle.answers.specs.Answer.{answered, done}
use Rattle.static_table.specs.Static.{entry_at}
use Rattle.static_table.proofs.Table.{entry_placed, size}
use Rattle.line_entries.proofs.Laws.{static_done, static_refused}
use Rattle.line_entries.proofs.static_entry.Goals as goal

pub returns-in_err-place-clause-by_index : goal.returns-in_err-place-clause-by_index
returns-in_err-place-clause-by_index c =
    let e : c.from_residual.result ≡ Err c.in_err-place.field-0.0 = search rules in
    λ a. rw e (static_refused c.args.index _ (sym c.get.ensures ∙ ap answered c.in_err-place.was))

pub overflow_add-result : goal.overflow_add-result
overflow_add-result c =
    let got : entry_at c.args.index ≡ done c.in_ok-place.place = sym c.get.ensures ∙ ap answered c.in_ok-place.was in
    omega (arith, (entry_placed c.args.index _ got).inside, size)

pub returns-clause-by_index : goal.returns-clause-by_index
returns-clause-by_index c = λ a. static_done c.args.index _ (sym c.get.ensures ∙ ap answered c.in_ok-place.was)

pub returns-clause-entry_inside : goal.returns-clause-entry_inside
returns-clause-entry_inside c =
    let got : entry_at c.args.index ≡ done c.in_ok-place.place = sym c.get.ensures ∙ ap answered c.in_ok-place.was in
    let f = entry_placed c.args.index _ got in
    (omega (arith, f.inside), omega (arith, f.inside))
