-- Reordering by steps: neighbours change places, one pair at a time.
use Rattle.std.specs.Prelude.{◌≡◌, true, List, ◌∷◌, ℕ}
use Rattle.decoder_stream.specs.Reports.{Report}
use Rattle.reorder.specs.Reports.{of}

-- ys is reached from xs where only neighbours related by I change places
pub data Swaps {R : Type 0} (I : R → R → Type 0) : List R → List R → Type 0 where
  same : (xs : List R) → Swaps I xs xs
  keep : (x : R) {xs ys : List R} → Swaps I xs ys → Swaps I (x ∷ xs) (x ∷ ys)
  swap : (x y : R) (xs : List R) → I x y → Swaps I (x ∷ (y ∷ xs)) (y ∷ (x ∷ xs))
  then : {xs ys zs : List R} → Swaps I xs ys → Swaps I ys zs → Swaps I xs zs

-- two reports that are not of one stream: their streams differ, or one of them is an increment
abbrev pub Independent : Report → Report → Type 0
Independent x y = (s : ℕ) → of s x ≡ true → of s y ≡ true → ⊥

-- any two
abbrev pub Any : Report → Report → Type 0
Any x y = Unit {0}
