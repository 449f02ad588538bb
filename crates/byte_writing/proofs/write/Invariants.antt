-- `byte_writing::write`. The loop's invariant: the bytes so far stand from the position on, and the rest is as it was. Assumes nothing.
use mathlib.Core.Path.{◌≡◌}
use lib.Seq.{paste}
use Rattle.byte_writing.proofs.write.Given as goal

abbrev pub invariant-loop-k : goal.invariant-loop-k
invariant-loop-k l = l.buf ≡ paste l.initial.buf l.at l.byte-items l.k
