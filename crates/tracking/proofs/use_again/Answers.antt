-- `tracking::use_again`: each way through the code is one case of `noting`. Assumes nothing.
use mathlib.Core.Path.{sym}
use native.Mathlib.Omega.{arith}
use Rattle.tracking.proofs.Noting.{used_up, used_again}
use Rattle.tracking.proofs.use_again.Goals as goal

pub returns-then-from-ge-ENTRY_USES : goal.returns-then-from-ge-ENTRY_USES
returns-then-from-ge-ENTRY_USES c = let p = c.requires in sym (used_up _ _ _ p.0 _ p.1 p.2 (omega arith))

pub returns : goal.returns
returns c = let p = c.requires in sym (used_again _ _ _ p.0 _ p.1 p.2 (omega arith))
