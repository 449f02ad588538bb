-- `blocked::block_first`: each way through the code is one case of `blocking`. Assumes nothing.
use mathlib.Core.Path.{refl, sym}
use Rattle.blocked.proofs.Blocking.{no_place, new_value}
use Rattle.blocked.proofs.block_first.Goals as goal

pub returns-then-distinct-ge-BLOCKED_VALUES : goal.returns-then-distinct-ge-BLOCKED_VALUES
returns-then-distinct-ge-BLOCKED_VALUES c = let p = c.requires in sym (no_place _ _ p.0 p.1 _ refl p.2 c.if-distinct-ge-BLOCKED_VALUES.true)

pub returns : goal.returns
returns c = let p = c.requires in sym (new_value _ _ p.0 p.1 _ refl p.2 c.if-distinct-ge-BLOCKED_VALUES.false)
