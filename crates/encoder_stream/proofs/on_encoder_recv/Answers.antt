-- `encoder_stream::on_encoder_recv`: 22, 18, or the instructions and their increment. Assumes nothing.
use mathlib.Core.Path.{◌≡◌, refl, ap, ◌∙◌}
use mathlib.Core.Bool.{true}
use Prim.Native.Nat.{ℕ}
use borrow.Author.Tests.{le-leb, lt-leb}
use borrow.Author.Rules.{rules}
use Rattle.dynamic.specs.Record.{sound, usable, lowest_used}
use Rattle.dynamic.proofs.Steps.{unsound, kept_rules, kept_lowest}
use Rattle.instructions.specs.Instruction.{instruction_at}
use Rattle.ring.proofs.Keeping.{Arrays}
use Rattle.running.specs.Run.{run_all}
use Rattle.encoder_stream.specs.Entries.{holding, applied}
use Rattle.encoder_stream.proofs.Receiving.{receives_unusable, receives_short, receives_open, receives_ran}
use Rattle.encoder_stream.proofs.on_encoder_recv.Goals.{Else-arena-lt-RING, In-Some, Start}
use Rattle.encoder_stream.proofs.on_encoder_recv.Goals as goal

keeps_rules_lem : (c : In-Some) → sound c.args.table ≡ true
keeps_rules_lem c = kept_rules _ _ c.checked.ensures _ c.in-Some.is

may_be_used : (c : Else-arena-lt-RING) → usable c.args.table c.args.arena.now ≡ true
may_be_used c = rw (keeps_rules_lem (goal.at.Else-arena-lt-RING c).In-Some, le-leb _ _ c.if-arena-lt-RING.false)

arrays : (z : Start) → Arrays z.args.table.ring
arrays z = record { starts = search rules; names = search rules; values = search rules }

pub returns-in_default : goal.returns-in_default
returns-in_default c = receives_unusable _ _ _ _ (rw (unsound _ _ c.checked.ensures c.in_default.is)) c.stays.ensures

pub returns-then-arena-lt-RING : goal.returns-then-arena-lt-RING
returns-then-arena-lt-RING c =
    receives_unusable _ _ _ _ (rw (keeps_rules_lem (goal.at.returns-then-arena-lt-RING c).In-Some, lt-leb _ _ c.if-arena-lt-RING.true)) c.stays-then-arena-lt-RING.ensures

pub returns-then-out-lt-INCREMENT_ROOM : goal.returns-then-out-lt-INCREMENT_ROOM
returns-then-out-lt-INCREMENT_ROOM c = receives_short _ _ _ _ (may_be_used (goal.at.returns-then-out-lt-INCREMENT_ROOM c).Else-arena-lt-RING) c.if-out-lt-INCREMENT_ROOM.true c.stays-then-out-lt-INCREMENT_ROOM.ensures

pub returns-then-table : goal.returns-then-table
returns-then-table c =
    receives_open _ _ _ _ (may_be_used (goal.at.returns-then-table c).Else-arena-lt-RING) c.if-out-lt-INCREMENT_ROOM.false c.if-table.true c.stays-then-table.ensures

pub returns : goal.returns
returns c =
    let a = c.args in
    let low : c.in-Some.low ≡ lowest_used a.table = kept_lowest _ _ c.checked.ensures _ c.in-Some.is in
    let all = c.apply_all-ran.ensures ∙ ap (λ (k : ℕ). run_all instruction_at (applied k) a.s.now (holding a.table.ring a.arena.now)) low in
    let w = c.well_formed in rw (c.unwrap_or.ensures, c.and.ensures) (
    receives_ran a.table a.arena.now a.s.now a.out.now (may_be_used (goal.at.returns c).Else-arena-lt-RING) c.if-out-lt-INCREMENT_ROOM.false c.if-table.false (arrays (goal.at.returns c).Start)
    _ _ _ c.apply_all-ran.result all c.finish-told.result c.finish-told.ensures refl)
