-- `static_table::Arrays::has_name`: the bytes at the place that the arrays give are the entry's name. Assumes nothing.
use mathlib.Core.Path.{ap, ◌∙◌}
use native.Mathlib.Omega.{arith}
use lib.ListN.{length}
use Rattle.field.specs.Field.{same}
use Rattle.static_table.proofs.Table.{size, same_between, name_inside, name_cut}
use Rattle.static_table.proofs.Arrays.has_name.Goals as goal

pub slice_bounds-text-end : goal.slice_bounds-text-end
slice_bounds-text-end c =
    let a = c.args.self.now in
    let inside = name_inside a c.args.i _ _ c.requires c.from-start.ensures c.from-len.ensures in
    omega (arith, inside, size, ap length a.bytes_laid)

pub returns : goal.returns
returns c =
    let a = c.args.self.now in
    let cut = name_cut a c.args.i _ _ c.requires c.from-start.ensures c.from-len.ensures in
    c.eq.ensures ∙ same_between c.args.name.now a.bytes c.from-start.result c.from-len.result ∙ ap (same c.args.name.now) cut
