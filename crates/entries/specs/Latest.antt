-- The specification: "the latest live equal entry", "the latest live entry of that name".
use Rattle.std.specs.Prelude.{Some, None, Option as Maybe, Bool, true, false, ◌&&◌, ◌||◌, not, cond, List, [], ◌∷◌, ℕ, suc}
use Rattle.std.specs.Borrow.{Bor}
use Rattle.std.proofs.Math.Option.{Option, some, none}
use Rattle.field.specs.Field.{Field, same}

-- a place further on, or else this one
abbrev pub further : Option ℕ → Bool → Option ℕ
further (some k) here = some (suc k)
further none here = cond here (some 0) none

-- the last place at which a test passes
abbrev pub last_of : {A : Type 0} → (A → Bool) → List A → Option ℕ
last_of test [] = none
last_of test (x ∷ l) = further (last_of test l) (test x)

-- a field of that name, and, where the whole field is looked for, of that value
abbrev pub matches : List ℕ → List ℕ → Bool → Field → Bool
matches n v whole f = same n f.name && (not whole || same v f.value)

-- a string that may be handed in: whether it is, and its bytes
abbrev pub is_given : Maybe (Bor (List ℕ)) → Bool
is_given (Some v) = true
is_given None = false

abbrev pub bytes_in : Maybe (Bor (List ℕ)) → List ℕ
bytes_in (Some v) = v.now
bytes_in None = []

abbrev pub latest : Maybe ℕ → Option ℕ
latest (Some k) = some k
latest None = none
