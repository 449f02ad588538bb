-- `qpack_table::put_entries`: each turn puts the next entry's line. Assumes nothing.
use mathlib.Core.Path.{ap₂, ◌∙◌}
use mathlib.Core.List.{◌++◌}
use Prim.Native.Nat.{ℕ, ◌+◌}
use native.Mathlib.Omega.{arith}
use Rattle.qpack_table.specs.Text.{entry_line}
use Rattle.qpack_table.proofs.Listing.{listed_start, listed_more, listed_end}
use Rattle.qpack_table.proofs.put_entries.Goals as goal

pub loop-gone-init : goal.loop-gone-init
loop-gone-init c = listed_start _ _ c.requires.0

pub loop-gone-preserved : goal.loop-gone-preserved
loop-gone-preserved c =
    let L = c.loop-gone in
    listed_more L.invariant c.loop-gone-test.true _
    (c.put_entry.ensures.text
    ∙ ap₂ (λ (n v : ℕ). L.out.bytes ++ entry_line (L.gone + 1) n v) c.from.ensures c.from-in-loop-gone.ensures)
    c.put_entry.ensures.long

pub returns-clause-text : goal.returns-clause-text
returns-clause-text c = listed_end c.loop-gone.invariant c.loop-gone-test.false

pub returns-clause-long : goal.returns-clause-long
returns-clause-long c =
    let L = c.loop-gone.invariant in
    omega (arith, L.room, L.high, L.few, L.low)
