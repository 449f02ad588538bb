-- `tracking::use_first`: each way through the code is one case of `noting`. Assumes nothing.
use mathlib.Core.Path.{refl, sym}
use Rattle.tracking.proofs.Noting.{no_place, used_first}
use Rattle.tracking.proofs.use_first.Goals as goal

pub returns-then-used-ge-SECTION_ENTRIES : goal.returns-then-used-ge-SECTION_ENTRIES
returns-then-used-ge-SECTION_ENTRIES c = let p = c.requires in sym (no_place _ _ _ p.0 _ refl p.1 c.if-used-ge-SECTION_ENTRIES.true)

pub returns : goal.returns
returns c = let p = c.requires in sym (used_first _ _ _ p.0 _ refl p.1 c.if-used-ge-SECTION_ENTRIES.false)
