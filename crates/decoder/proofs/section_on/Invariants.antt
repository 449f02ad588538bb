-- `decoder::section_on`: past the prefix, each turn stores a field, or ends the section. Assumes nothing.
use mathlib.Core.Path.{◌≡◌}
use Prim.Native.Nat.{◌-◌}
use lib.ListN.{length}
use Rattle.answers.specs.Answer.{done}
use Rattle.decoder.specs.Section.{on_table, cursor_at}
use Rattle.decoder.proofs.Turns.{Stands}
use Rattle.decoder.proofs.section_on.Given as goal

abbrev pub invariant-loop-reply : goal.invariant-loop-reply
invariant-loop-reply g l =
    Stands g.R.Record.make (on_table l.table l.arena) l.s l.initial.fields l.initial.out l.room l.c l.fields l.out
    × (length l.fields ≡ length l.initial.fields)
    × (length l.out ≡ length l.initial.out)
    × (cursor_at (on_table l.table l.arena) l.s l.c ≡ done l.c)

abbrev pub decreases-loop-reply : goal.decreases-loop-reply
decreases-loop-reply g l = length l.s - l.c.at
