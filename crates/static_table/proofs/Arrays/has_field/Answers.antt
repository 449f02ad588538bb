-- `static_table::Arrays::has_field`: the name's test, and then the bytes at the value's place. Assumes nothing.
use mathlib.Core.Path.{◌≡◌, sym, ap, ◌∙◌}
use mathlib.Core.Bool.{true}
use Prim.Native.Nat.{◌+◌}
use native.Mathlib.Omega.{arith}
use lib.ListN.{length, get_or}
use Rattle.field.specs.Field.{same}
use Rattle.static_table.specs.AppendixA.{appendix_a}
use Rattle.static_table.specs.Static.{no_field}
use Rattle.static_table.proofs.Table.{size, same_between, value_inside, value_cut}
use Rattle.static_table.proofs.Arrays.has_field.Goals as goal

pub slice_bounds-text-end : goal.slice_bounds-text-end
slice_bounds-text-end c =
    let a = c.args.self.now in
    let inside = value_inside a c.args.i _ _ c.requires c.from.ensures c.from-2.ensures _ c.from-len.ensures in
    omega (arith, inside, size, ap length a.bytes_laid)

pub returns : goal.returns
returns c =
    let a = c.args.self.now in
    let named : same c.args.name.now (get_or appendix_a c.args.i no_field).name ≡ true = sym c.has_name.ensures ∙ c.if-not-has_name.false in
    let cut = value_cut a c.args.i _ _ c.requires c.from.ensures c.from-2.ensures _ c.from-len.ensures in
    let here = c.eq.ensures ∙ same_between c.args.value.now a.bytes (c.from.result + c.from-2.result) c.from-len.result ∙ ap (same c.args.value.now) cut in
    rw named here
