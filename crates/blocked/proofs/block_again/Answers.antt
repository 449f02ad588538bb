-- `blocked::block_again`: one case of `blocking`. Assumes nothing.
use mathlib.Core.Path.{sym}
use native.Mathlib.Omega.{arith}
use Rattle.blocked.proofs.Counting.{few_values}
use Rattle.blocked.proofs.Blocking.{bounded, one_more}
use Rattle.blocked.proofs.block_again.Goals as goal

pub offset_bounds-waiting-i : goal.offset_bounds-waiting-i
offset_bounds-waiting-i c = omega (arith, few_values _ c.requires.0)

pub bounds-waiting-i : goal.bounds-waiting-i
bounds-waiting-i c = omega (arith, few_values _ c.requires.0)

pub overflow_add-next : goal.overflow_add-next
overflow_add-next c = omega (arith, bounded _ c.requires.0 _ c.requires.3)

pub offset_bounds-next-i : goal.offset_bounds-next-i
offset_bounds-next-i c = omega (arith, few_values _ c.requires.0)

pub bounds-next-i : goal.bounds-next-i
bounds-next-i c = omega (arith, few_values _ c.requires.0)

pub returns : goal.returns
returns c = let p = c.requires in sym (one_more _ _ p.0 p.1 _ p.2 p.3)
