-- `decoder_stream::receive_all`: each turn applies a report, or ends the call at it. Assumes nothing.
use Prim.Native.Nat.{◌-◌}
use lib.ListN.{length}
use Rattle.decoder_stream.proofs.Receiving.{Going}
use Rattle.decoder_stream.proofs.receive_all.Given as goal

abbrev pub invariant-loop-at : goal.invariant-loop-at
invariant-loop-at l = Going l.s l.initial.table l.table l.at

abbrev pub decreases-loop-at : goal.decreases-loop-at
decreases-loop-at l = length l.s - l.at
