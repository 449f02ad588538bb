-- A batch reordered is reached by swaps of neighbours that are not of one stream, and so is no other. Assumes nothing.
use mathlib.Core.Path.{◌≡◌, refl, sym, ap, ◌∙◌}
use mathlib.Core.Bool.{Bool, true, false, cond, false≢true}
use mathlib.Core.List.{List, [], ◌∷◌}
use Prim.Native.Nat.{ℕ, zero, suc}
use native.Mathlib.Decide.{ℕ_discrete}
use borrow.Author.Tests.{eq-eqb, eqb-true}
use Rattle.decoder_stream.specs.Reports.{Report, acknowledgement, cancellation, increment, Report-discrete}
use Rattle.reorder.specs.Reports.{only, how_many, of, by, Reordered}
use Rattle.reorder.specs.Swaps.{Swaps, same, keep, swap, then, Independent, Any}
use Rattle.reorder.proofs.Trace.{widen, two, reach}

-- ---- each number in as many increments: the increments by it are the same list

-- n increments by k
abbrev copies : ℕ → ℕ → List Report
copies k zero = []
copies k (suc n) = increment k ∷ copies k n

is_by : (n : ℕ) (x : Report) → by n x ≡ true → x ≡ increment n
is_by n (acknowledgement s) h = absurd (false≢true h)
is_by n (cancellation s) h = absurd (false≢true h)
is_by n (increment k) h = ap increment (sym (eqb-true n k h))

all_copies : (n : ℕ) (xs : List Report) → only (by n) xs ≡ copies n (how_many (by n) xs)
all_copies n [] = refl
all_copies n (x ∷ xs) = go (by n x) refl (all_copies n xs)
  where
    go : (b : Bool) → by n x ≡ b → only (by n) xs ≡ copies n (how_many (by n) xs)
        → cond b (x ∷ only (by n) xs) (only (by n) xs) ≡ copies n (cond b (suc (how_many (by n) xs)) (how_many (by n) xs))
    go true e h = rw (is_by n x e, h)
    go false e h = h

-- ---- the first theorem: reordered is reached by swaps of independent neighbours

-- what has an order of its own: a stream, and the increments by one number
data Channel : Type 0 where
  stream : ℕ → Channel
  number : ℕ → Channel

abbrev has : Channel → Report → Bool
has (stream s) x = of s x
has (number n) x = by n x

cover : (x : Report) → (c : Channel) × (has c x ≡ true)
cover (acknowledgement s) = (stream s, eq-eqb s s refl)
cover (cancellation s) = (stream s, eq-eqb s s refl)
cover (increment n) = (number n, eq-eqb n n refl)

agree : {xs ys : List Report} → Reordered xs ys → (c : Channel) → only (has c) xs ≡ only (has c) ys
agree r (stream s) = r.streams s
agree {xs} {ys} r (number n) = all_copies n xs ∙ ap (copies n) (r.increments n) ∙ sym (all_copies n ys)

pub by_swaps : {xs ys : List Report} → Reordered xs ys → Swaps Independent xs ys
by_swaps {xs} {ys} r = widen (λ x y a s. a (stream s)) (reach (Report-discrete ℕ_discrete) has cover xs ys (agree r))

-- ---- and the other way

two_is_increment : (a b : Bool) (n : ℕ) → cond a (suc (cond b (suc n) n)) (cond b (suc n) n) ≡ cond b (suc (cond a (suc n) n)) (cond a (suc n) n)
two_is_increment true true n = refl
two_is_increment true false n = refl
two_is_increment false true n = refl
two_is_increment false false n = refl

-- any swaps keep how many pass a test, and keep the list of those that do if two such never change places, or are equal
swaps_count : {I : Report → Report → Type 0} (p : Report → Bool) {xs ys : List Report} → Swaps I xs ys → how_many p xs ≡ how_many p ys
swaps_count p (same xs) = refl
swaps_count p (keep x w) = ap (λ (k : ℕ). cond (p x) (suc k) k) (swaps_count p w)
swaps_count p (swap x y xs i) = two_is_increment (p x) (p y) (how_many p xs)
swaps_count p (then v w) = swaps_count p v ∙ swaps_count p w

swaps_only : {I : Report → Report → Type 0} (p : Report → Bool) → ((x y : Report) → I x y → p x ≡ true → p y ≡ true → x ≡ y)
    → {xs ys : List Report} → Swaps I xs ys → only p xs ≡ only p ys
swaps_only p un (same xs) = refl
swaps_only p un (keep x w) = ap (λ (l : List Report). cond (p x) (x ∷ l) l) (swaps_only p un w)
swaps_only p un (swap x y xs i) = two (p x) (p y) x y (only p xs) (un x y i)
swaps_only p un (then v w) = swaps_only p un v ∙ swaps_only p un w

pub from_swaps : {xs ys : List Report} → Swaps Independent xs ys → Reordered xs ys
from_swaps w =
    record {
      streams = λ s. swaps_only (of s) (λ x y i h k. absurd (i s h k)) w;
      increments = λ n. swaps_count (by n) w;
    }

-- reordered is: a permutation, any neighbours changing places, that keeps each stream's reports in their order
pub to_permutation : {xs ys : List Report} → Reordered xs ys → Swaps Any xs ys
to_permutation r = widen (λ x y i. tt) (by_swaps r)

pub from_permutation : {xs ys : List Report} → Swaps Any xs ys → ((s : ℕ) → only (of s) xs ≡ only (of s) ys) → Reordered xs ys
from_permutation w h = record { streams = h; increments = λ n. swaps_count (by n) w }
