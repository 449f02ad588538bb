-- What the loop of `sums` keeps, and `keeps_count` by its cases. Assumes nothing.
use mathlib.Core.Path.{◌≡◌, refl, ◌∙◌}
use mathlib.Core.Bool.{Bool, true, false, and-true, and-false}
use mathlib.Core.List.{List}
use Prim.Native.Nat.{ℕ, ◌+◌, ◌-◌, ◌≤◌, ◌<◌}
use native.Mathlib.Numerals.{add-one}
use native.Mathlib.Omega.{arith}
use lib.Dec.{leb, eqb}
use lib.ListN.{length, get_or, drop, drop_of_length-le}
use lib.Seq.{drop-cons}
use borrow.Author.Tests.{leb-true, le-leb, lt-leb, eqb-true, eqb-false, eq-eqb, ne_eqb}
use Rattle.model.specs.Bounds.{blocked_values, blocked_sections}
use Rattle.blocked.specs.declared.Value.{Value}
use Rattle.blocked.specs.declared.Waiting.{Waiting}
use Rattle.blocked.specs.Waiting.{values_of, sum_of, keeps_count}
use Rattle.blocked.proofs.Lists.{and_left, and_right}

pub record Counting (total : ℕ) (l : List Value) (left k : ℕ) : Type 0 where
  pub within : left ≤ total
  pub sum : sum_of l + left ≡ total + sum_of (drop k l)

module _ (total : ℕ) (l : List Value) where
  pub count : Counting total l total 0
  count = record { within = omega arith; sum = omega arith }

  module _ (left k : ℕ) (w : Counting total l left k) where
    module _ (d : Value) (h : k < length l) where
      opened : sum_of (drop k l) ≡ (get_or l k d).sections + sum_of (drop (k + 1) l)
      opened = rw (drop-cons l k d h, add-one)

      pub counted : (get_or l k d).sections ≤ left → Counting total l (left - (get_or l k d).sections) (k + 1)
      counted g = record { within = omega (arith, w.within); sum = omega (arith, opened, w.sum) }

      pub past : left < (get_or l k d).sections → eqb (sum_of l) total ≡ false
      past g = ne_eqb (sum_of l) total (λ e. omega (arith, opened, w.sum))

    pub settled : length l ≤ k → eqb left 0 ≡ eqb (sum_of l) total
    settled h = go (eqb left 0) refl
      where
        all : sum_of l + left ≡ total
        all = let e : sum_of (drop k l) ≡ 0 = rw (drop_of_length-le l {i = k} h) in omega (arith, w.sum)

        go : (b : Bool) → eqb left 0 ≡ b → b ≡ eqb (sum_of l) total
        go true e = let z : left ≡ 0 = eqb-true left 0 e in rw (eq-eqb (sum_of l) total (omega (arith, all)))
        go false e =
            let z : left ≡ 0 → ⊥ = eqb-false left 0 e in
            rw (ne_eqb (sum_of l) total (λ s. z (omega (arith, all))))

module _ (w : Waiting) where
  pub many_values : blocked_values < w.distinct → keeps_count w ≡ false
  unfolding keeps_count
  many_values h = rw (lt-leb w.distinct blocked_values h)

  pub many_sections : blocked_sections < w.total → keeps_count w ≡ false
  unfolding keeps_count
  many_sections h = rw (lt-leb w.total blocked_sections h, and-false, and-false)

  pub keeps_sum : w.distinct ≤ blocked_values → w.total ≤ blocked_sections → keeps_count w ≡ eqb (sum_of (values_of w)) w.total
  unfolding keeps_count
  keeps_sum h g = rw (le-leb w.distinct blocked_values h, le-leb w.total blocked_sections g, and-true)

  -- what a record that keeps its rule says
  module _ (h : keeps_count w ≡ true) where
    pub few_values : w.distinct ≤ blocked_values
    unfolding keeps_count
    few_values = leb-true w.distinct blocked_values (and_left (leb w.distinct blocked_values) _ h)

    pub sums_up : sum_of (values_of w) ≡ w.total
    unfolding keeps_count
    sums_up =
        eqb-true (sum_of (values_of w)) w.total
        (and_left (eqb (sum_of (values_of w)) w.total) _ (and_right (leb w.distinct blocked_values) _ h))

    pub few_sections : w.total ≤ blocked_sections
    unfolding keeps_count
    few_sections =
        leb-true w.total blocked_sections
        (and_right (eqb (sum_of (values_of w)) w.total) _ (and_right (leb w.distinct blocked_values) _ h))

  pub keeps : w.distinct ≤ blocked_values → sum_of (values_of w) ≡ w.total → w.total ≤ blocked_sections → keeps_count w ≡ true
  keeps h e g = keeps_sum h g ∙ eq-eqb (sum_of (values_of w)) w.total e
