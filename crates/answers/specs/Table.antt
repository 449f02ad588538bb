-- The answers of the table's calls that have no value to give: row 0 alone, or one of the rows 1 to 26.
use Rattle.std.specs.Prelude.{Result, Ok, Err}
use Rattle.answers.specs.Answer.{Answer, done, refused}
use Rattle.answers.specs.declared.Refusal.{Refusal}

-- row 0, with no value
pub data Done : Type 0 where
  ok : Done

abbrev pub replied : Result Unit Refusal → Answer Done
replied (Ok u) = done ok
replied (Err r) = refused r
