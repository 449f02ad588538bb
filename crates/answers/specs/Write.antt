-- What a writer answers and leaves, for every writer: its bytes stand from the given position on, or nothing changed.
use Rattle.std.specs.Prelude.{Result, ◌≡◌, cond, List, ◌++◌, ℕ, ◌+◌, leb, length, take, drop}
use Rattle.answers.specs.Answer.{Answer, done, refused, and_then, answered}
use Rattle.answers.specs.declared.Refusal.TheVariants.{OutputFull}
use Rattle.answers.specs.declared.Refusal.{Refusal}

-- "24 OutputFull (added): next field or bytes don't fit"
abbrev pub fitted : List ℕ → ℕ → List ℕ → Answer ℕ
fitted l at bytes = cond (leb (at + length bytes) (length l)) (done (at + length bytes)) (refused OutputFull)

-- the bytes in their place, where they fit; "a refusal changes nothing"
abbrev pub placed : List ℕ → ℕ → List ℕ → List ℕ
placed l at bytes = cond (leb (at + length bytes) (length l)) (take at l ++ bytes ++ drop (at + length bytes) l) l

abbrev pub left : Answer (List ℕ) → List ℕ → ℕ → List ℕ
left (done bytes) l at = placed l at bytes
left (refused r) l at = l

-- w: the bytes to write, or why there are none; l: the buffer before; m: the buffer after
pub record Writes (w : Answer (List ℕ)) (l : List ℕ) (at : ℕ) (r : Result ℕ Refusal) (m : List ℕ) : Type 0 where
  pub answer : answered r ≡ and_then w (fitted l at)
  pub bytes : m ≡ left w l at
