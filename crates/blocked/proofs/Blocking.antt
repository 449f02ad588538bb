-- `blocking` by its cases, and the bound of one value's sections. Assumes nothing.
use mathlib.Core.Path.{◌≡◌}
use mathlib.Core.Bool.{true, false}
use mathlib.Core.List.{List, [], ◌∷◌}
use Prim.Native.Nat.{ℕ, zero, suc, ◌+◌, ◌≤◌, ◌<◌}
use native.Mathlib.Omega.{arith}
use lib.ListN.{get_or, set}
use lib.Seq.{get_or-take}
use borrow.Author.Tests.{lt-ltb, le-ltb}
use Rattle.model.specs.Bounds.{blocked_values, blocked_sections}
use Rattle.blocked.specs.declared.Value.{Value}
use Rattle.blocked.specs.declared.Waiting.{Waiting}
use Rattle.blocked.specs.Waiting.{no_value, values_of, sum_of, value_at, keeps_count, blocking}
use Rattle.blocked.proofs.Counting.{few_sections, sums_up}

-- no value has more sections than all
part_of_sum : (l : List Value) (i : ℕ) → (get_or l i no_value).sections ≤ sum_of l
part_of_sum [] i = omega arith
part_of_sum (v ∷ l) zero = omega arith
part_of_sum (v ∷ l) (suc i) = omega (arith, part_of_sum l i)

pub bounded : (w : Waiting) → keeps_count w ≡ true → (i : ℕ) → i < w.distinct → (get_or w.values i no_value).sections ≤ blocked_sections
bounded w h i g =
    let s : get_or (values_of w) i no_value ≡ get_or w.values i no_value = get_or-take w.distinct w.values i no_value g in
    let p : (get_or w.values i no_value).sections ≤ sum_of (values_of w) = rw s at (part_of_sum (values_of w) i) in
    omega (arith, sums_up w h, few_sections w h)

module _ (w : Waiting) (x : ℕ) where
  pub breaks_rule : keeps_count w ≡ false → blocking w x ≡ record { fits = false; waiting = w }
  unfolding blocking
  breaks_rule h = rw h

  module _ (h : keeps_count w ≡ true) where
    pub no_more : blocked_sections ≤ w.total → blocking w x ≡ record { fits = false; waiting = w }
    unfolding blocking
    no_more g = rw (h, le-ltb w.total blocked_sections g)

    module _ (g : w.total < blocked_sections) (i : ℕ) (e : i ≡ value_at x (values_of w)) where
      pub one_more : i < w.distinct → blocking w x ≡ record {
        fits = true;
        waiting = record {
          total = w.total + 1;
          distinct = w.distinct;
          values = set w.values i (record { largest = x; sections = (get_or w.values i no_value).sections + 1 });
        };
      }
      unfolding blocking
      one_more l = rw (h, lt-ltb w.total blocked_sections g, ← e, lt-ltb i w.distinct l)

      pub no_place : w.distinct ≤ i → blocked_values ≤ w.distinct → blocking w x ≡ record { fits = false; waiting = w }
      unfolding blocking
      no_place l f = rw (h, lt-ltb w.total blocked_sections g, ← e, le-ltb i w.distinct l, le-ltb w.distinct blocked_values f)

      pub new_value : w.distinct ≤ i → w.distinct < blocked_values → blocking w x ≡ record {
        fits = true;
        waiting = record {
          total = w.total + 1;
          distinct = w.distinct + 1;
          values = set w.values w.distinct (record { largest = x; sections = 1 });
        };
      }
      unfolding blocking
      new_value l f = rw (h, lt-ltb w.total blocked_sections g, ← e, le-ltb i w.distinct l, lt-ltb w.distinct blocked_values f)
