-- A field: a name and a value, each a list of bytes.
use Rattle.std.specs.Prelude.{Bool, true, false, ◌&&◌, List, [], ◌∷◌, ℕ, ◌+◌, eqb, length}

pub record Field : Type 0 where
  pub name : List ℕ
  pub value : List ℕ

-- RFC 9204 3.2.1: an entry's size is its name's length and its value's and 32 more
abbrev pub overhead : ℕ
overhead = 32

abbrev pub size_of : Field → ℕ
size_of f = length f.name + length f.value + overhead

-- whether two strings of bytes are the same
abbrev pub same : List ℕ → List ℕ → Bool
same [] [] = true
same [] (b ∷ m) = false
same (a ∷ l) [] = false
same (a ∷ l) (b ∷ m) = eqb a b && same l m

-- "equal": name and value are the same
abbrev pub equal : Field → Field → Bool
equal f g = same f.name g.name && same f.value g.value
