-- `encoder_stream::apply_all`: each turn applies an instruction, or ends the call at it. Assumes nothing.
use mathlib.Core.Path.{◌≡◌}
use Prim.Native.Nat.{◌-◌}
use lib.ListN.{length}
use Rattle.encoder_stream.specs.Entries.{holding}
use Rattle.encoder_stream.proofs.Turns.{Going}
use Rattle.encoder_stream.proofs.apply_all.Given as goal

abbrev pub invariant-loop-at : goal.invariant-loop-at
invariant-loop-at l =
    Going l.low l.s (holding l.initial.ring l.initial.arena) (holding l.ring l.arena) l.at × (length l.arena ≡ length l.initial.arena)

abbrev pub decreases-loop-at : goal.decreases-loop-at
decreases-loop-at l = length l.s - l.at
