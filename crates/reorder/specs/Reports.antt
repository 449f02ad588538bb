-- A batch of the peer's reports, RFC 9204 4.4, and when one batch is another one reordered.
use Rattle.std.specs.Prelude.{◌≡◌, Bool, true, false, cond, List, [], ◌∷◌, ℕ, suc, ◌+◌, eqb}
use Rattle.decoder_stream.specs.Reports.{Report, acknowledgement, cancellation, increment}

-- ---- lists

-- the elements that pass a test, in their order
abbrev pub only : {A : Type 0} → (A → Bool) → List A → List A
only p [] = []
only p (x ∷ xs) = cond (p x) (x ∷ only p xs) (only p xs)

-- how many elements pass a test
abbrev pub how_many : {A : Type 0} → (A → Bool) → List A → ℕ
how_many p [] = 0
how_many p (x ∷ xs) = cond (p x) (suc (how_many p xs)) (how_many p xs)

-- ---- tests on a report

-- 4.4.1, 4.4.2: it is an acknowledgement or a cancellation of stream s
abbrev pub of : ℕ → Report → Bool
of s (acknowledgement t) = eqb s t
of s (cancellation t) = eqb s t
of s (increment n) = false

-- 4.4.3: it is an increment by n
abbrev pub by : ℕ → Report → Bool
by n (acknowledgement t) = false
by n (cancellation t) = false
by n (increment k) = eqb n k

-- it is an increment
abbrev pub is_increment : Report → Bool
is_increment (acknowledgement t) = false
is_increment (cancellation t) = false
is_increment (increment n) = true

-- ---- what a batch adds to the known received count: all its increments

abbrev pub amount : Report → ℕ
amount (acknowledgement s) = 0
amount (cancellation s) = 0
amount (increment n) = n

abbrev pub total : List Report → ℕ
total [] = 0
total (x ∷ xs) = amount x + total xs

-- ---- reordered

-- ys is xs in another order that keeps each stream's own: each stream has the same list of reports, and each number stands in as many increments
pub record Reordered (xs ys : List Report) : Type 0 where
  pub streams : (s : ℕ) → only (of s) xs ≡ only (of s) ys
  pub increments : (n : ℕ) → how_many (by n) xs ≡ how_many (by n) ys
