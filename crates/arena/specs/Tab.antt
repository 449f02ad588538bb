-- A list given by its elements.
use Rattle.std.specs.Prelude.{List, [], ◌∷◌, ℕ, zero, suc}

module _ {A : Type 0} where
  -- f 0, f 1, .., f (n - 1)
  abbrev pub tab : ℕ → (ℕ → A) → List A
  tab zero f = []
  tab (suc n) f = f zero ∷ tab n (λ (i : ℕ). f (suc i))
