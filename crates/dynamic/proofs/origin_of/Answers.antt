-- `dynamic::origin_of`: an equal entry, else a name of the static table, else an entry of that name. Assumes nothing.
use mathlib.Core.Path.{◌≡◌, sym, ap, ◌∙◌}
use mathlib.Core.Bool.{true, false}
use mathlib.Core.Option.{some, none}
use Prim.Native.Nat.{◌-◌, ◌<◌}
use native.Mathlib.Omega.{arith}
use Rattle.static_table.specs.Static.{found, lowest_name}
use Rattle.dynamic.specs.Calls.{latest_after}
use Rattle.dynamic.proofs.Naming.{names_equal, names_static, names_named, names_plain}
use Rattle.dynamic.proofs.Searched.{found_within, found_at, found_none}
use Rattle.dynamic.proofs.origin_of.Goals.{In-Some, In-Some-newest, In_default, In_default-find_name}
use Rattle.dynamic.proofs.origin_of.Goals as goal

equal : (c : In-Some) → latest_after c.args.ring.now c.args.gone c.args.arena.now c.args.name.now c.args.value.now true ≡ some c.in-Some.k
equal c =
    found_at c.args.ring.now c.args.arena.now c.args.gone c.args.name.now c.args.value.now true _ c.requires.2 c.newest.ensures _ c.in-Some.is

equal_low : (c : In-Some) → c.in-Some.k < c.args.ring.now.inserted - c.args.gone
equal_low c = found_within c.args.ring.now c.args.arena.now c.args.gone c.args.name.now c.args.value.now true _ (equal c)

none_equal : (c : In_default) → latest_after c.args.ring.now c.args.gone c.args.arena.now c.args.name.now c.args.value.now true ≡ none
none_equal c =
    found_none c.args.ring.now c.args.arena.now c.args.gone c.args.name.now c.args.value.now true _ c.requires.2 c.newest.ensures c.in_default.is

unlisted : (c : In_default-find_name) → lowest_name c.args.name.now ≡ none
unlisted c = sym c.find_name.ensures ∙ ap found c.in_default-find_name.is

named : (c : In-Some-newest)
    → latest_after c.args.ring.now c.args.gone c.args.arena.now c.args.name.now c.args.value.now false ≡ some c.in-Some-newest.k
named c =
    found_at c.args.ring.now c.args.arena.now c.args.gone c.args.name.now c.args.value.now false _ c.requires.2 c.newest-2.ensures _
    c.in-Some-newest.is

named_low : (c : In-Some-newest) → c.in-Some-newest.k < c.args.ring.now.inserted - c.args.gone
named_low c = found_within c.args.ring.now c.args.arena.now c.args.gone c.args.name.now c.args.value.now false _ (named c)

pub overflow_add-result : goal.overflow_add-result
overflow_add-result c = omega (arith, equal_low (goal.at.overflow_add-result c).In-Some)

pub overflow_add-result-in-Some : goal.overflow_add-result-in-Some
overflow_add-result-in-Some c = omega (arith, equal_low (goal.at.overflow_add-result-in-Some c).In-Some)

pub returns-in-Some-clause-result_value : goal.returns-in-Some-clause-result_value
returns-in-Some-clause-result_value c = names_equal _ _ _ _ _ _ (equal (goal.at.returns-in-Some-clause-result_value c).In-Some)

pub returns-in-Some-clause-older_than : goal.returns-in-Some-clause-older_than
returns-in-Some-clause-older_than c = (omega (arith, equal_low (goal.at.returns-in-Some-clause-older_than c).In-Some), omega arith)

pub returns-in-Some-find_name-clause-result_value : goal.returns-in-Some-find_name-clause-result_value
returns-in-Some-find_name-clause-result_value c =
    names_static _ _ _ _ _ (none_equal (goal.at.returns-in-Some-find_name-clause-result_value c).In_default) _
    (sym c.find_name.ensures ∙ ap found c.in-Some-find_name.is)

pub overflow_add-result-in-Some-newest : goal.overflow_add-result-in-Some-newest
overflow_add-result-in-Some-newest c = omega (arith, named_low (goal.at.overflow_add-result-in-Some-newest c).In-Some-newest)

pub overflow_add-result-in-Some-newest-2 : goal.overflow_add-result-in-Some-newest-2
overflow_add-result-in-Some-newest-2 c = omega (arith, named_low (goal.at.overflow_add-result-in-Some-newest-2 c).In-Some-newest)

pub returns-in-Some-newest-clause-result_value : goal.returns-in-Some-newest-clause-result_value
returns-in-Some-newest-clause-result_value c =
    names_named _ _ _ _ _ (none_equal (goal.at.returns-in-Some-newest-clause-result_value c).In_default)
    (unlisted (goal.at.returns-in-Some-newest-clause-result_value c).In_default-find_name) _
    (named (goal.at.returns-in-Some-newest-clause-result_value c).In-Some-newest)

pub returns-in-Some-newest-clause-older_than : goal.returns-in-Some-newest-clause-older_than
returns-in-Some-newest-clause-older_than c =
    (omega (arith, named_low (goal.at.returns-in-Some-newest-clause-older_than c).In-Some-newest), omega arith)

pub returns-clause-result_value : goal.returns-clause-result_value
returns-clause-result_value c =
    names_plain _ _ _ _ _ (none_equal (goal.at.returns-clause-result_value c).In_default)
    (unlisted (goal.at.returns-clause-result_value c).In_default-find_name)
    (found_none c.args.ring.now c.args.arena.now c.args.gone c.args.name.now c.args.value.now false _ c.requires.2 c.newest-2.ensures c.in_default-newest.is)
