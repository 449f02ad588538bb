-- Two tables with equal records and equal live strings. Any byte of their arenas that is no byte of a live entry may differ.
use Rattle.std.specs.Prelude.{◌≡◌, List, [], ◌∷◌, ℕ}
use Rattle.arena.specs.Ring.{long_enough}
use Rattle.dynamic.specs.declared.Table.{Table}
use Rattle.ring.specs.Ring.{fields_of}
use Rattle.demands.specs.Calls.{State, holds, Call, lend, Outcome, called}

-- "equal live strings"
pub record Alike (x y : State) : Type 0 where
  -- the records, to the last field
  pub table : x.table ≡ y.table
  -- "22: short arena": both are short, or neither
  pub long : long_enough x.arena ≡ long_enough y.arena
  -- the names and the values of the live entries, oldest first
  pub strings : fields_of x.table.ring x.arena ≡ fields_of y.table.ring y.arena

-- "equal inputs": the same call, or two arenas lent that are alike for the table that stands then
pub data AlikeCall (t : Table) : Call → Call → Type 0 where
  same : (c : Call) → AlikeCall t c c
  lent : (a b : List ℕ) → Alike (holds t a) (holds t b) → AlikeCall t (lend a) (lend b)

-- two sequences, call for call; the first begins at x
abbrev pub AlikeCalls : State → List Call → List Call → Type 0
AlikeCalls x [] [] = Unit {0}
AlikeCalls x [] (d ∷ ds) = ⊥
AlikeCalls x (c ∷ cs) [] = ⊥
AlikeCalls x (c ∷ cs) (d ∷ ds) = AlikeCall x.table c d × AlikeCalls (called x c).state cs ds

-- the same answer, with every byte that is given back, and tables that are alike
pub record AlikeOutcome (o p : Outcome) : Type 0 where
  pub answer : o.answer ≡ p.answer
  pub state : Alike o.state p.state

abbrev pub AlikeOutcomes : List Outcome → List Outcome → Type 0
AlikeOutcomes [] [] = Unit {0}
AlikeOutcomes [] (p ∷ ps) = ⊥
AlikeOutcomes (o ∷ os) [] = ⊥
AlikeOutcomes (o ∷ os) (p ∷ ps) = AlikeOutcome o p × AlikeOutcomes os ps
