-- The same at the level of bytes: a batch of slices that hold one report each, each handed to a call on the decoder stream.
use Rattle.std.specs.Prelude.{◌≡◌, List, [], ◌∷◌, map, ℕ, length}
use Rattle.std.proofs.Math.Option.{some}
use Rattle.answers.specs.Answer.{Answer, done, refused}
use Rattle.answers.specs.Table.{Done}
use Rattle.decoder_stream.specs.Reports.{Report, report_at, receiving}
use Rattle.dynamic.specs.declared.Table.{Table}
use Rattle.running.specs.Run.{Whole, Took}
use Rattle.reorder.specs.Batch.{Run, ran, SameOutcome}

-- a slice that holds exactly one whole report
pub record Slice : Type 0 where
  pub bytes : List ℕ
  pub whole : Whole Report
  pub reads : report_at bytes 0 ≡ done (some whole)
  pub alone : whole.next ≡ length bytes

abbrev pub report_in : Slice → Report
report_in b = b.whole.instruction

abbrev pub reports_in : List Slice → List Report
reports_in bs = map report_in bs

-- what a call on the decoder stream does with a slice
abbrev pub receives : Table → Slice → Took Table
receives t b = record { state = (receiving t b.bytes).state; answer = (receiving t b.bytes).answer }

abbrev pub handed_bytes : Table → List Slice → Run Table
handed_bytes t bs = ran report_in receives t bs

-- a call that is done consumes all of n bytes, a refused one nothing
abbrev pub taken : Answer Done → ℕ → ℕ
taken (done d) n = n
taken (refused r) n = 0

abbrev pub AllOrNothing : Table → List Slice → Type 0
AllOrNothing t [] = Unit {0}
AllOrNothing t (b ∷ bs) =
    ((receiving t b.bytes).consumed ≡ taken (receiving t b.bytes).answer (length b.bytes))
    × AllOrNothing (receiving t b.bytes).state bs

pub record SameCalls (t : Table) (bs cs : List Slice) : Type 0 where
  pub outcome : SameOutcome t (reports_in bs) (handed_bytes t bs) (handed_bytes t cs)
  -- each call consumes its whole slice, or refuses and consumes nothing
  pub consumed_first : AllOrNothing t bs
  pub consumed_second : AllOrNothing t cs
