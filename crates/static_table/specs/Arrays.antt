-- What the constant arrays hold, each read off a list of fields: the bytes are `laid`, and these are the numbers.
use Rattle.std.specs.Prelude.{List, [], ◌∷◌, map, ℕ, ◌+◌, length}
use Rattle.field.specs.Field.{Field}

-- where each field's bytes start, if the first one's start at s
abbrev pub starts_from : ℕ → List Field → List ℕ
starts_from s [] = []
starts_from s (f ∷ l) = s ∷ starts_from (s + length f.name + length f.value) l

abbrev pub name_lengths : List Field → List ℕ
name_lengths l = map (λ f. length f.name) l

abbrev pub value_lengths : List Field → List ℕ
value_lengths l = map (λ f. length f.value) l
