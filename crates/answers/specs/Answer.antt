-- The specification, "What the desk answers": the number of each row, and what an answer is.
use Rattle.std.specs.Prelude.{Bool, cond, ℕ, eqb, Result, Ok, Err, Option as Maybe, Some, None}
use Rattle.std.proofs.Math.Option.{Option, some, none}
use Rattle.answers.specs.declared.Refusal.{Refusal}
use Rattle.answers.specs.declared.Refusal.TheVariants.{
  UnexpectedEnd,
  Overflow,
  HuffmanString,
  InvalidStaticIndex,
  BadRelativeIndex,
  BadPostbaseIndex,
  BadIndex,
  MaxTableSizeReached,
  MaximumTableSizeTooLarge,
  AboveLentRoom,
  MaxBlockedStreamsTooLarge,
  UnknownStreamId,
  MissingRefs,
  BadBaseIndex,
  BadInsertCount,
  BufSize,
  ShrinkBlocked,
  SectionOpen,
  NoSection,
  TrackingFull,
  BadLargest,
  BadCall,
  CountTooLarge,
  OutputFull,
  HeaderTooLong,
  InvalidPrefix,
}

-- the rows 1 to 26
abbrev pub number_of : Refusal → ℕ
number_of UnexpectedEnd = 1
number_of Overflow = 2
number_of HuffmanString = 3
number_of InvalidStaticIndex = 4
number_of BadRelativeIndex = 5
number_of BadPostbaseIndex = 6
number_of BadIndex = 7
number_of MaxTableSizeReached = 8
number_of MaximumTableSizeTooLarge = 9
number_of AboveLentRoom = 10
number_of MaxBlockedStreamsTooLarge = 11
number_of UnknownStreamId = 12
number_of MissingRefs = 13
number_of BadBaseIndex = 14
number_of BadInsertCount = 15
number_of BufSize = 16
number_of ShrinkBlocked = 17
number_of SectionOpen = 18
number_of NoSection = 19
number_of TrackingFull = 20
number_of BadLargest = 21
number_of BadCall = 22
number_of CountTooLarge = 23
number_of OutputFull = 24
number_of HeaderTooLong = 25
number_of InvalidPrefix = 26

-- an answer: row 0, "done, or not inserted, with its kind", with its values; or one of the rows 1 to 26
pub data Answer (A : Type 0) : Type 0 where
  done : A → Answer A
  refused : Refusal → Answer A

-- an answer as a call gives it
abbrev pub answered : {A : Type 0} → Result A Refusal → Answer A
answered (Ok a) = done a
answered (Err r) = refused r

-- and where an instruction may be cut: none stands for that
abbrev pub answered_or_cut : {A : Type 0} → Result (Maybe A) Refusal → Answer (Option A)
answered_or_cut (Ok (Some a)) = done (some a)
answered_or_cut (Ok None) = done none
answered_or_cut (Err r) = refused r

-- the number of an answer
abbrev pub answer_number : {A : Type 0} → Answer A → ℕ
answer_number (done a) = 0
answer_number (refused r) = number_of r

-- a step that goes on from what an earlier one found; a refusal ends it
abbrev pub and_then : {A B : Type 0} → Answer A → (A → Answer B) → Answer B
and_then (done a) f = f a
and_then (refused r) f = refused r

-- row 1
abbrev pub ends_early : Refusal → Bool
ends_early r = eqb (number_of r) (number_of UnexpectedEnd)

-- "a cut instruction is left unread and is no refusal; a single-instruction reader answers 0, cut": none stands for cut
abbrev pub cut_short : {A : Type 0} → Answer A → Answer (Option A)
cut_short (done a) = done (some a)
cut_short (refused r) = cond (ends_early r) (done none) (refused r)
