-- The blocked sections in their array and in the model: one more, and those above a count, are the same in both, and keep the rule. Assumes nothing.
use mathlib.Core.Path.{◌≡◌, refl, sym, ap, ◌∙◌}
use mathlib.Core.Bool.{Bool, true, false, cond}
use mathlib.Core.List.{List, [], ◌∷◌, ◌++◌, map}
use mathlib.Core.Logic.{◌⊎◌, inl, inr}
use mathlib.Core.Option.{some, none}
use Prim.Native.Nat.{ℕ, zero, suc, ◌+◌, ◌≤◌, ◌<◌}
use native.Mathlib.Numerals.{add-one}
use native.Mathlib.Omega.{arith}
use lib.Dec.{leb, ltb}
use lib.ListN.{length, get_or, set, length-append, length-set, length-replicate}
use lib.Seq.{length-take-le, get_or-take, take_at, take-set-lt, take-suc-set}
use borrow.Author.Tests.{lt-ltb, le-ltb, ltb-true, ltb-false, le-leb, lt-leb, leb-true, leb-false, eq-eqb, ne_eqb}
use Rattle.model.specs.Bounds.{blocked_values, blocked_sections}
use Rattle.model.specs.Report.{above}
use Rattle.model.specs.Section.{block_in}
use Rattle.model.specs.Table.{Blocked, blocked_count}
use Rattle.blocked.specs.declared.Value.{Value}
use Rattle.blocked.specs.declared.Waiting.{Waiting}
use Rattle.blocked.specs.Waiting.{
  Counted,
  no_value,
  blocked_of,
  values_of,
  waiting_of,
  sum_of,
  keeps_count,
  value_at,
  blocking,
  kept,
  let_go_of,
  let_go,
}
use Rattle.blocked.proofs.First.{first_is, Passing, changed, added, not_added}
use Rattle.blocked.proofs.Counting.{few_values, few_sections, sums_up, keeps}
use Rattle.blocked.proofs.Blocking.{no_more, one_more, no_place, new_value}
use Rattle.blocked.proofs.Keeping.{sum_append, kept_sum, lets_go}

-- ---- how many there are

count_is : (l : List Value) → blocked_count (map blocked_of l) ≡ sum_of l
count_is [] = refl
count_is (v ∷ l) = ap (λ (n : ℕ). v.sections + n) (count_is l)

pub waiting_count : (w : Waiting) → keeps_count w ≡ true → blocked_count (waiting_of w) ≡ w.total
waiting_count w h = count_is (values_of w) ∙ sums_up w h

-- ---- one more

sum_set : (l : List Value) (i : ℕ) (v d : Value) → i < length l → sum_of (set l i v) + (get_or l i d).sections ≡ sum_of l + v.sections
sum_set [] i v d h = absurd (omega arith)
sum_set (u ∷ l) zero v d h = omega arith
sum_set (u ∷ l) (suc i) v d h = omega (arith, sum_set l i v d (omega arith))

-- in the model a value that is there has one section more, and one that is not is added
blocks : (x : ℕ)
    → Passing (λ (v : Value). v.largest) x blocked_of (record { largest = x; sections = 1 }) (λ (room : ℕ) (l : List Value). block_in x room (map blocked_of l))
blocks x =
    record {
      adds = λ room h. rw (lt-ltb 0 room h);
      ends = refl;
      goes_on = λ room v l r h e. rw (ne_eqb v.largest x h, e);
      fails = λ room v l h e. rw (ne_eqb v.largest x h, e);
    }

abbrev with_more : Waiting → ℕ → ℕ → Waiting
with_more w x i =
    record {
      total = w.total + 1;
      distinct = w.distinct;
      values = set w.values i (record { largest = x; sections = (get_or w.values i no_value).sections + 1 });
    }

abbrev with_new : Waiting → ℕ → Waiting
with_new w x =
    record {
      total = w.total + 1;
      distinct = w.distinct + 1;
      values = set w.values w.distinct (record { largest = x; sections = 1 });
    }

module _ (w : Waiting) (x : ℕ) (ok : keeps_count w ≡ true) (i : ℕ) (at : i ≡ value_at x (values_of w)) where
  by_cases : (P : Counted → Type 0)
      → (blocked_sections ≤ w.total → P (record { fits = false; waiting = w }))
      → (w.total < blocked_sections → i < w.distinct → P (record { fits = true; waiting = with_more w x i }))
      → (w.total < blocked_sections → w.distinct ≤ i → blocked_values ≤ w.distinct → P (record { fits = false; waiting = w }))
      → (w.total < blocked_sections → w.distinct ≤ i → w.distinct < blocked_values → P (record { fits = true; waiting = with_new w x }))
      → P (blocking w x)
  by_cases P a b c d = all (ltb w.total blocked_sections) refl
    where
      nowhere : (t : Bool) → ltb w.distinct blocked_values ≡ t → w.total < blocked_sections → w.distinct ≤ i → P (blocking w x)
      nowhere true e g l =
          let f = ltb-true w.distinct blocked_values e in rw (new_value w x ok g i at l f) (d g l f)
      nowhere false e g l =
          let f = ltb-false w.distinct blocked_values e in rw (no_place w x ok g i at l f) (c g l f)

      there : (t : Bool) → ltb i w.distinct ≡ t → w.total < blocked_sections → P (blocking w x)
      there true e g = let l = ltb-true i w.distinct e in rw (one_more w x ok g i at l) (b g l)
      there false e g = nowhere (ltb w.distinct blocked_values) refl g (ltb-false i w.distinct e)

      all : (t : Bool) → ltb w.total blocked_sections ≡ t → P (blocking w x)
      all true e = there (ltb i w.distinct) refl (ltb-true w.total blocked_sections e)
      all false e = let g = ltb-false w.total blocked_sections e in rw (no_more w x ok g) (a g)

module _ (w : Waiting) (x : ℕ) (ok : keeps_count w ≡ true) (long : length w.values ≡ blocked_values) where
  place : ℕ
  place = value_at x (values_of w)

  count : length (values_of w) ≡ w.distinct
  count = length-take-le w.distinct w.values (omega (arith, few_values w ok))

  same : place < w.distinct → get_or (values_of w) place no_value ≡ get_or w.values place no_value
  same l = get_or-take w.distinct w.values place no_value l

  is : place < w.distinct → (get_or w.values place no_value).largest ≡ x
  unfolding place
  is l = rw (same l) at (first_is (λ (v : Value). v.largest) x (values_of w) no_value (rw count l))

  counted : Value
  counted = record { largest = x; sections = (get_or w.values place no_value).sections + 1 }

  more_values : place < w.distinct → values_of (with_more w x place) ≡ set (values_of w) place counted
  unfolding counted
  more_values l = take-set-lt w.distinct w.values place _ l

  more_sum : place < w.distinct → sum_of (values_of (with_more w x place)) ≡ w.total + 1
  unfolding counted
  more_sum l =
      let e : (get_or (values_of w) place no_value).sections ≡ (get_or w.values place no_value).sections = ap (λ (v : Value). v.sections) (same l) in
      rw (more_values l) (omega (arith, sum_set (values_of w) place counted no_value (rw count l), sums_up w ok))

  new_values : w.distinct < blocked_values → values_of (with_new w x) ≡ values_of w ++ (record { largest = x; sections = 1 } ∷ [])
  new_values l = rw add-one (take-suc-set w.values w.distinct (record { largest = x; sections = 1 }) (omega arith))

  pub blocking_is : cond (ltb (blocked_count (waiting_of w)) blocked_sections) (block_in x blocked_values (waiting_of w)) none
      ≡ cond (blocking w x).fits (some (waiting_of (blocking w x).waiting)) none
  unfolding place counted
  blocking_is =
      rw (waiting_count w ok)
      (by_cases w x ok place refl
      (λ (r : Counted). cond (ltb w.total blocked_sections) (block_in x blocked_values (waiting_of w)) none ≡ cond r.fits (some (waiting_of r.waiting)) none)
      (λ g. rw (le-ltb w.total blocked_sections g))
      (λ g l. rw (lt-ltb w.total blocked_sections g, more_values l)
      (changed (blocks x) (values_of w) blocked_values no_value counted (rw count l) (λ room m. rw (same l, is l, eq-eqb x x refl))))
      (λ g l f. rw (lt-ltb w.total blocked_sections g) (not_added (blocks x) (values_of w) blocked_values (rw count l) (rw count f)))
      (λ g l f. rw (lt-ltb w.total blocked_sections g, new_values f) (added (blocks x) (values_of w) blocked_values (rw count l) (rw count f))))

  pub blocking_keeps : keeps_count (blocking w x).waiting ≡ true
  unfolding place
  blocking_keeps =
      by_cases w x ok place refl (λ (r : Counted). keeps_count r.waiting ≡ true)
      (λ g. ok)
      (λ g l. keeps (with_more w x place) (few_values w ok) (more_sum l) (omega arith))
      (λ g l f. ok)
      (λ g l f. keeps (with_new w x) (omega arith) (rw (new_values f, sum_append) (omega (arith, sums_up w ok))) (omega arith))

  pub blocking_values : length (blocking w x).waiting.values ≡ blocked_values
  blocking_values =
      by_cases w x ok _ refl (λ (r : Counted). length r.waiting.values ≡ blocked_values)
      (λ _. long)
      (λ _ _. length-set w.values _ _ ∙ long)
      (λ _ _ _. long)
      (λ _ _ _. length-set w.values _ _ ∙ long)

  pub blocked_some : (blocking w x).fits ≡ true → some (waiting_of (blocking w x).waiting) ≡ block_in x blocked_values (waiting_of w)
  blocked_some e = go (ltb (blocked_count (waiting_of w)) blocked_sections) (rw e at blocking_is)
    where
      go : (b : Bool) → cond b (block_in x blocked_values (waiting_of w)) none ≡ some (waiting_of (blocking w x).waiting)
          → some (waiting_of (blocking w x).waiting) ≡ block_in x blocked_values (waiting_of w)
      go true h = sym h
      go false h = let z : ◌≡◌ {A = ℕ} 0 1 = cc in absurd (omega arith)

  pub blocked_none : (blocking w x).fits ≡ false
      → (blocked_sections ≤ blocked_count (waiting_of w)) ⊎ (block_in x blocked_values (waiting_of w) ≡ none)
  blocked_none e = go (ltb (blocked_count (waiting_of w)) blocked_sections) refl (rw e at blocking_is)
    where
      go : (b : Bool) → ltb (blocked_count (waiting_of w)) blocked_sections ≡ b
          → cond b (block_in x blocked_values (waiting_of w)) none ≡ none
          → (blocked_sections ≤ blocked_count (waiting_of w)) ⊎ (block_in x blocked_values (waiting_of w) ≡ none)
      go true q h = inr h
      go false q h = inl (ltb-false (blocked_count (waiting_of w)) blocked_sections q)

-- ---- those above a count

low_or_high : {P : Type 0} (k n : ℕ) → (n ≤ k → P) → (k < n → P) → P
low_or_high {P} k n y z = go (leb n k) refl
  where
    go : (b : Bool) → leb n k ≡ b → P
    go true e = y (leb-true n k e)
    go false e = z (leb-false n k e)

kept_length : (k : ℕ) (l : List Value) → length (kept k l) ≤ length l
kept_length k [] = omega arith
kept_length k (v ∷ l) =
    low_or_high k v.largest
    (λ h. rw (le-leb v.largest k h) (omega (arith, kept_length k l)))
    (λ h. rw (lt-leb v.largest k h) (omega (arith, kept_length k l)))

kept_above : (k : ℕ) (l : List Value) → map blocked_of (kept k l) ≡ above k (map blocked_of l)
kept_above k [] = refl
kept_above k (v ∷ l) =
    low_or_high k v.largest
    (λ h. rw (le-leb v.largest k h) (kept_above k l))
    (λ h. rw (lt-leb v.largest k h) (ap (λ (m : List Blocked). blocked_of v ∷ m) (kept_above k l)))

-- of two counts the larger one decides
module _ (j k : ℕ) (le : j ≤ k) where
  kept_less : (l : List Value) → kept k (kept j l) ≡ kept k l
  kept_less [] = refl
  kept_less (v ∷ l) =
      low_or_high j v.largest
      (λ h. rw (le-leb v.largest j h, le-leb v.largest k (omega arith)) (kept_less l))
      (λ h. rw (lt-leb v.largest j h, kept_less l))

  kept_more : (l : List Value) → kept j (kept k l) ≡ kept k l
  kept_more [] = refl
  kept_more (v ∷ l) =
      low_or_high k v.largest
      (λ h. rw (le-leb v.largest k h) (kept_more l))
      (λ h. rw (lt-leb v.largest k h, lt-leb v.largest j (omega arith), kept_more l))

let_go_values : (k : ℕ) (l : List Value) → values_of (let_go_of k l) ≡ kept k l
let_go_values k l = take_at (kept k l) _ (length (kept k l)) refl

module _ (w : Waiting) (ok : keeps_count w ≡ true) (long : length w.values ≡ blocked_values) where
  few : length (values_of w) ≤ blocked_values
  few = rw (length-take-le w.distinct w.values (omega (arith, few_values w ok))) (few_values w ok)

  module _ (k : ℕ) where
    pub let_go_is : waiting_of (let_go w k) ≡ above k (waiting_of w)
    let_go_is = rw (lets_go w k ok, let_go_values) (kept_above k (values_of w))

    pub let_go_keeps : keeps_count (let_go w k) ≡ true
    let_go_keeps =
        rw (lets_go w k ok)
        (keeps (let_go_of k (values_of w)) (omega (arith, kept_length k (values_of w), few)) (ap sum_of (let_go_values k (values_of w)))
        (omega (arith, kept_sum k (values_of w), sums_up w ok, few_sections w ok)))

    pub let_go_length : length (let_go w k).values ≡ blocked_values
    let_go_length =
        rw (lets_go w k ok, length-append, length-replicate) (omega (arith, kept_length k (values_of w), few))

  let_go_twice : (j k : ℕ) → let_go (let_go w j) k ≡ let_go_of k (kept j (values_of w))
  let_go_twice j k = lets_go (let_go w j) k (let_go_keeps j) ∙ rw (lets_go w j ok, let_go_values)

  module _ (j k : ℕ) (h : j ≤ k) where
    pub let_go_less_first : let_go (let_go w j) k ≡ let_go w k
    let_go_less_first = let_go_twice j k ∙ rw (kept_less j k h, lets_go w k ok)

    pub let_go_less_then : let_go w k ≡ let_go (let_go w k) j
    let_go_less_then = sym (let_go_twice k j ∙ rw (kept_more j k h, lets_go w k ok))
