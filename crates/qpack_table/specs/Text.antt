-- The program's report, as the specification shows it, byte for byte.
use Rattle.std.specs.Prelude.{Result, Ok, Err, List, [], ◌∷◌, ◌++◌, ℕ, zero, suc, ◌+◌, ◌/◌, ◌%◌, ltb, cond}
use Rattle.answers.specs.declared.Refusal.{Refusal}
use Rattle.answers.specs.Answer.{number_of}
use Rattle.entries.specs.Entry.{Entry}
use Rattle.field.specs.Field.{overhead}
use Rattle.ring.specs.Ring.{live}
use Rattle.ring.specs.declared.Ring.{Ring}

-- "qpack table", and the words of the other lines
abbrev pub heading : List ℕ
heading = 113 ∷ 112 ∷ 97 ∷ 99 ∷ 107 ∷ 32 ∷ 116 ∷ 97 ∷ 98 ∷ 108 ∷ 101 ∷ []

abbrev pub capacity_word : List ℕ
capacity_word = 99 ∷ 97 ∷ 112 ∷ 97 ∷ 99 ∷ 105 ∷ 116 ∷ 121 ∷ []

abbrev pub size_word : List ℕ
size_word = 115 ∷ 105 ∷ 122 ∷ 101 ∷ []

abbrev pub inserted_word : List ℕ
inserted_word = 105 ∷ 110 ∷ 115 ∷ 101 ∷ 114 ∷ 116 ∷ 101 ∷ 100 ∷ []

abbrev pub dropped_word : List ℕ
dropped_word = 100 ∷ 114 ∷ 111 ∷ 112 ∷ 112 ∷ 101 ∷ 100 ∷ []

abbrev pub consumed_word : List ℕ
consumed_word = 99 ∷ 111 ∷ 110 ∷ 115 ∷ 117 ∷ 109 ∷ 101 ∷ 100 ∷ []

abbrev pub answer_word : List ℕ
answer_word = 97 ∷ 110 ∷ 115 ∷ 119 ∷ 101 ∷ 114 ∷ []

abbrev pub space : List ℕ
space = 32 ∷ []

-- "each line ended by a newline"
abbrev pub newline : List ℕ
newline = 10 ∷ []

-- a number's decimal digits, at most k of them before the last
unfoldable pub digits : ℕ → ℕ → List ℕ
digits zero n = (48 + n % 10) ∷ []
digits (suc k) n = cond (ltb n 10) ((48 + n) ∷ []) (digits k (n / 10) ++ ((48 + n % 10) ∷ []))

-- a number below 2^64 has at most 20
abbrev pub decimal : ℕ → List ℕ
decimal n = digits 19 n

-- a word and its number
abbrev pub told : List ℕ → ℕ → List ℕ
told word n = word ++ space ++ decimal n

-- "capacity 220 size 106 inserted 2 dropped 0"
abbrev pub counts : Ring → List ℕ
counts r =
    told capacity_word r.capacity ++ space ++ told size_word r.size ++ space ++ told inserted_word r.inserted ++ space
    ++ told dropped_word r.dropped
    ++ newline

-- "Lines between are absolute index, size, name length, value length, oldest first."
abbrev pub entry_line : ℕ → ℕ → ℕ → List ℕ
entry_line absolute n v =
    decimal absolute ++ space ++ decimal (n + v + overhead) ++ space ++ decimal n ++ space ++ decimal v ++ newline

unfoldable pub entry_lines : ℕ → List Entry → List ℕ
entry_lines before [] = []
entry_lines before (e ∷ l) = entry_line (before + 1) e.name e.value ++ entry_lines (before + 1) l

-- "a refusal shows its number on the last line"
abbrev pub number_in : Result Unit Refusal → ℕ
number_in (Ok tt) = 0
number_in (Err r) = number_of r

abbrev pub ending : ℕ → Result Unit Refusal → List ℕ
ending consumed reply = told consumed_word consumed ++ space ++ told answer_word (number_in reply) ++ newline

unfoldable pub report_of : Ring → ℕ → Result Unit Refusal → List ℕ
report_of r consumed reply = heading ++ newline ++ counts r ++ entry_lines r.dropped (live r) ++ ending consumed reply
