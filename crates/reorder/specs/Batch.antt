-- A batch of reports handed in singly, and what two orders of one batch have in common.
use Rattle.std.specs.Prelude.{◌≡◌, Bool, true, cond, List, [], ◌∷◌, ℕ, ◌+◌, ◌-◌, eqb, ltb, drop}
use Rattle.answers.specs.Answer.{Answer, done}
use Rattle.answers.specs.Table.{Done, ok}
use Rattle.decoder_stream.specs.Reports.{Report, takes}
use Rattle.dynamic.specs.Record.{view}
use Rattle.dynamic.specs.declared.Table.{Table}
use Rattle.model.specs.Table as model
use Rattle.running.specs.Run.{Took}
use Rattle.tracking.specs.Queue.{sections_of}
use Rattle.reorder.specs.Reports.{only, how_many, of, is_increment, total}

-- ---- a batch handed in singly: each report is a call of its own

-- a report and the answer that it got
pub record Answered : Type 0 where
  pub report : Report
  pub answer : Answer Done

-- the state after a batch, and its reports with their answers, in the order of the batch
pub record Run (S : Type 0) : Type 0 where
  pub state : S
  pub answers : List Answered

-- `take` is what one call does to a state
module _ {S I : Type 0} (take : S → I → Took S) where
  abbrev pub after : S → List I → S
  after s [] = s
  after s (x ∷ xs) = after (take s x).state xs

-- `report x` is the report that x hands in
module _ {S I : Type 0} (report : I → Report) (take : S → I → Took S) where
  abbrev pub answers_to : S → List I → List Answered
  answers_to s [] = []
  answers_to s (x ∷ xs) = record { report = report x; answer = (take s x).answer } ∷ answers_to (take s x).state xs

  abbrev pub ran : S → List I → Run S
  ran s xs = record { state = after take s xs; answers = answers_to s xs }

abbrev pub itself : Report → Report
itself x = x

-- on the table's record: a report is the call of that name
abbrev pub handed : Table → List Report → Run Table
handed t xs = ran itself takes t xs

-- ---- what two runs have in common

abbrev pub of_stream : ℕ → Answered → Bool
of_stream s a = of s a.report

-- each increment in a list of answers is done
abbrev pub IncrementsDone : List Answered → Type 0
IncrementsDone [] = Unit {0}
IncrementsDone (a ∷ l) = (is_increment a.report ≡ true → a.answer ≡ done ok) × IncrementsDone l

pub record SameRuns {S : Type 0} (u v : Run S) : Type 0 where
  -- the two states are equal: of a table's record to the last field
  pub states : u.state ≡ v.state
  -- each report gets the same answer: the j-th of a stream is the same report in both, with the same answer
  pub streams : (s : ℕ) → only (of_stream s) u.answers ≡ only (of_stream s) v.answers
  -- and every increment is done in both
  pub increments_first : IncrementsDone u.answers
  pub increments_second : IncrementsDone v.answers

-- ---- the committed sections that a batch does not report

-- how many reports each stream has, where one of stream s is taken off
abbrev pub less : ℕ → (ℕ → ℕ) → ℕ → ℕ
less s reports t = cond (eqb s t) (reports t - 1) (reports t)

-- of sections in the order of their commits those that stay: a report takes its stream's oldest, if there is one
abbrev pub unreported : (ℕ → ℕ) → List model.Section → List model.Section
unreported reports [] = []
unreported reports (x ∷ q) =
    cond (ltb 0 (reports x.stream)) (unreported (less x.stream reports) q) (x ∷ unreported reports q)

abbrev pub left : Table → List Report → List model.Section
left t xs = unreported (λ (s : ℕ). how_many (of s) xs) (sections_of t.queue)

-- a section of stream s
abbrev pub from : ℕ → model.Section → Bool
from s x = eqb x.stream s

-- ---- the claim, where u and v are what two orders of the batch xs come to, from the table t

pub record SameOutcome (t : Table) (xs : List Report) (u v : Run Table) : Type 0 where
  -- each report gets the same answer, and the two tables are equal
  pub runs : SameRuns u v
  -- what is queued afterwards is what was not reported
  pub queue : sections_of u.state.queue ≡ left t xs
  -- of each stream the oldest sections are gone, as many as it has reports
  pub each : (s : ℕ)
      → only (from s) (sections_of u.state.queue) ≡ drop (how_many (of s) xs) (only (from s) (sections_of t.queue))
  -- every entry has exactly the references of the committed sections not yet reported, whatever the arena holds
  pub references : (a : List ℕ) (x : ℕ) → model.references (view u.state a) x ≡ model.uses_queued x (left t xs)
  -- the known received count has grown by all increments
  pub known : u.state.known ≡ t.known + total xs
