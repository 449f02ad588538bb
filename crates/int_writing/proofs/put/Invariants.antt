-- `int_writing::put`. The invariant: storing what is left to spell gives the list that storing all gives. Assumes nothing.
use mathlib.Core.Path.{◌≡◌}
use Prim.Native.Nat.{ℕ, ◌+◌, ◌*◌, ◌^◌, ◌≤◌, ◌<◌}
use lib.ListN.{length}
use lib.Seq.{sets}
use Rattle.int_writing.specs.Octets.{spell}
use Rattle.int_writing.proofs.put.Given as goal

abbrev pub invariant-loop-i : goal.invariant-loop-i
invariant-loop-i l =
    (k : ℕ) × (l.i < 128 ^ k * 128) × (l.at + length (spell k l.i) ≤ length l.buf) × (length l.buf ≡ length l.initial.buf)
    × (sets l.buf l.at (spell k l.i) ≡ sets l.initial.buf l.from (spell 8 l.rest))

abbrev pub decreases-loop-i : goal.decreases-loop-i
decreases-loop-i l = l.i
