-- `decoder::section_without`: each turn stores a field, or ends the section. Assumes nothing.
use mathlib.Core.Path.{◌≡◌}
use Prim.Native.Nat.{◌-◌}
use lib.ListN.{length}
use Rattle.decoder.specs.Section.{stateless}
use Rattle.decoder.proofs.Turns.{Stands}
use Rattle.decoder.proofs.section_without.Given as goal

abbrev pub invariant-loop-reply : goal.invariant-loop-reply
invariant-loop-reply g l =
    Stands g.R.Record.make (stateless l.max.bytes) l.s l.initial.fields l.initial.out l.room l.c l.fields l.out
    × (length l.fields ≡ length l.initial.fields)
    × (length l.out ≡ length l.initial.out)

abbrev pub decreases-loop-reply : goal.decreases-loop-reply
decreases-loop-reply g l = length l.s - l.c.at
