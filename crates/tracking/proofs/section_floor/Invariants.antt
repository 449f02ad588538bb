-- `tracking::section_floor`: the loop keeps `Walking`. Assumes nothing.
use mathlib.Core.List.{List, map}
use Prim.Native.Nat.{ℕ}
use lib.ListN.{take}
use Rattle.tracking.specs.declared.Held.{Held}
use Rattle.tracking.specs.Uses.{use_of}
use Rattle.tracking.specs.Queue.{all_live, lowest}
use Rattle.tracking.proofs.Flooring.{Walking}
use Rattle.tracking.proofs.section_floor.Given as goal

abbrev pub invariant-loop-held : goal.invariant-loop-held
invariant-loop-held s =
    Walking (λ (l : List Held). all_live s.dropped s.inserted (map (use_of s.section.from) l)) (λ (x : ℕ) (l : List Held). lowest x (map (use_of s.section.from) l)) s.low (take s.section.used s.section.uses) s.least s.held-index
