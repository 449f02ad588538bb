-- The first element with a number.
use Rattle.std.specs.Prelude.{cond, List, [], ◌∷◌, ℕ, suc, eqb}

-- its place, or how many elements there are
abbrev pub first_of : {A : Type 0} → (A → ℕ) → ℕ → List A → ℕ
first_of f x [] = 0
first_of f x (a ∷ l) = cond (eqb (f a) x) 0 (suc (first_of f x l))
