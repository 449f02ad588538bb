-- The specification: "a stream call takes one contiguous slice, applies whole instructions, reports bytes consumed". For both streams.
use Rattle.std.specs.Prelude.{cond, List, ℕ, zero, suc, leb, length}
use Rattle.std.proofs.Math.Option.{Option, some, none}
use Rattle.answers.specs.Answer.{Answer, done, refused}
use Rattle.answers.specs.Table.{Done, ok}
use Rattle.answers.specs.declared.Refusal.TheVariants.{SectionOpen}

-- a whole instruction, and the position past it
pub record Whole (I : Type 0) : Type 0 where
  pub instruction : I
  pub next : ℕ

-- what an instruction makes of a state, and what it answers
pub record Took (S : Type 0) : Type 0 where
  pub state : S
  pub answer : Answer Done

-- where a call ends: the state, how many bytes were consumed, and the answer
pub record Ended (S : Type 0) : Type 0 where
  pub state : S
  pub consumed : ℕ
  pub answer : Answer Done

abbrev pub ends : {S : Type 0} → S → ℕ → Answer Done → Ended S
ends x at w = record { state = x; consumed = at; answer = w }

-- "a refused stream call keeps the instructions before the bad one, counts them consumed"
abbrev pub after_taking : {S : Type 0} → S → ℕ → S → Answer Done → (S → Ended S) → Ended S
after_taking x at y (done w) go = go y
after_taking x at y (refused r) go = ends x at (refused r)

-- "a cut instruction is left unread and is no refusal"
abbrev pub after_reading : {S I : Type 0} → S → ℕ → Answer (Option (Whole I)) → (Whole I → Ended S) → Ended S
after_reading x at (done (some i)) go = go i
after_reading x at (done none) go = ends x at (done ok)
after_reading x at (refused r) go = ends x at (refused r)

-- from a position on, at most k instructions
unfoldable pub run : {S I : Type 0} → (List ℕ → ℕ → Answer (Option (Whole I))) → (S → I → Took S) → ℕ → List ℕ → ℕ → S → Ended S
run read take zero s at x = ends x at (done ok)
run read take (suc k) s at x =
    cond (leb (length s) at)
    (ends x at (done ok))
    (after_reading x at (read s at)
    (λ i. after_taking x at (take x i.instruction).state (take x i.instruction).answer (run read take k s i.next)))

-- a whole slice: an instruction has at least one byte
abbrev pub run_all : {S I : Type 0} → (List ℕ → ℕ → Answer (Option (Whole I))) → (S → I → Took S) → List ℕ → S → Ended S
run_all read take s x = run read take (length s) s 0 x

-- "18 SectionOpen: table call, .. report .. while open"
abbrev pub unless_open : {S O : Type 0} → S → Option O → Ended S → Ended S
unless_open x (some o) e = ends x 0 (refused SectionOpen)
unless_open x none e = e

-- an instruction that a reader of one kind found, as one of any kind
abbrev pub found : {A B : Type 0} → (A → B) → Answer (Option A) → Answer (Option B)
found f (done (some a)) = done (some (f a))
found f (done none) = done none
found f (refused r) = refused r
