-- A stretch of some bytes: the n from a position on.
use Rattle.std.specs.Prelude.{cond, List, ℕ, ◌+◌, leb, length, take, drop}
use Rattle.answers.specs.Answer.{Answer, done, refused}
use Rattle.answers.specs.declared.Refusal.TheVariants.{BadCall}

-- the bytes, if all lie inside, else "22 BadCall (added)". The specification names no such call: docs/DECISIONS.md, "A stretch of bytes"
abbrev pub stretch_of : List ℕ → ℕ → ℕ → Answer (List ℕ)
stretch_of bytes start n = cond (leb (start + n) (length bytes)) (done (take n (drop start bytes))) (refused BadCall)
