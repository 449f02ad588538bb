-- What the loop of `let_go` keeps: the values kept so far, and those kept of what is left, are those kept of the whole. Assumes nothing.
use mathlib.Core.Path.{◌≡◌, refl, sym, ap, ◌∙◌}
use mathlib.Core.Bool.{Bool, true, false, cond}
use mathlib.Core.List.{List, [], ◌∷◌, ◌++◌, append-nil}
use Prim.Native.Nat.{ℕ, suc, ◌+◌, ◌-◌, ◌≤◌, ◌<◌}
use native.Mathlib.Nat.{zero-add}
use native.Mathlib.Numerals.{add-one}
use native.Mathlib.Omega.{arith}
use lib.Dec.{leb}
use lib.ListN.{length, get_or, drop, drop_of_length-le, set, replicate, length-append}
use lib.Seq.{append_snoc, drop-cons, set_at}
use borrow.Author.Tests.{le-leb, lt-leb}
use Rattle.model.specs.Bounds.{blocked_values, blocked_sections}
use Rattle.blocked.specs.declared.Value.{Value}
use Rattle.blocked.specs.declared.Waiting.{Waiting}
use Rattle.blocked.specs.Waiting.{no_value, values_of, sum_of, keeps_count, kept, let_go_of, let_go}

pub sum_append : (l m : List Value) → sum_of (l ++ m) ≡ sum_of l + sum_of m
sum_append [] m = sym (zero-add _)
sum_append (v ∷ l) m = omega (arith, sum_append l m)

pub kept_sum : (k : ℕ) (l : List Value) → sum_of (kept k l) ≤ sum_of l
kept_sum k [] = omega arith
kept_sum k (v ∷ l) = go (leb v.largest k) (kept_sum k l)
  where
    go : (b : Bool) → sum_of (kept k l) ≤ sum_of l → sum_of (cond b (kept k l) (v ∷ kept k l)) ≤ v.sections + sum_of l
    go true r = omega arith
    go false r = omega arith

pub record Keeping (k : ℕ) (l values : List Value) (total count i : ℕ) : Type 0 where
  pub so_far : List Value
  pub few : length l ≤ blocked_values
  pub bound : sum_of l ≤ blocked_sections
  pub passed : i ≤ length l
  pub behind : count ≤ i
  pub size : length so_far ≡ count
  pub sum : sum_of so_far ≡ total
  pub shape : values ≡ so_far ++ replicate (blocked_values - count) no_value
  pub whole : so_far ++ kept k (drop i l) ≡ kept k l

module _ (k : ℕ) (l : List Value) where
  pub none_kept : length l ≤ blocked_values → sum_of l ≤ blocked_sections → Keeping k l (replicate blocked_values no_value) 0 0 0
  none_kept f b =
      record {
        so_far = [];
        few = f;
        bound = b;
        passed = omega arith;
        behind = omega arith;
        size = refl;
        sum = refl;
        shape = refl;
        whole = refl;
      }

  module _ (values : List Value) (total count i : ℕ) (w : Keeping k l values total count i) where
    module _ (d : Value) (h : i < length l) where
      rest : drop i l ≡ get_or l i d ∷ drop (i + 1) l
      rest = rw (drop-cons l i d h, add-one)

      pub gone : (get_or l i d).largest ≤ k → Keeping k l values total count (i + 1)
      gone g =
          record {
            so_far = w.so_far;
            few = w.few;
            bound = w.bound;
            passed = omega arith;
            behind = omega (arith, w.behind);
            size = w.size;
            sum = w.sum;
            shape = w.shape;
            whole = rw (rest, le-leb (get_or l i d).largest k g) at w.whole;
          }

      module _ (g : k < (get_or l i d).largest) where
        more : w.so_far ++ (get_or l i d ∷ kept k (drop (i + 1) l)) ≡ kept k l
        more = rw (rest, lt-leb (get_or l i d).largest k g) at w.whole

        pub fits : total + (get_or l i d).sections ≤ blocked_sections
        fits = omega (arith, kept_sum k l, w.bound, w.sum, sym (sum_append w.so_far _) ∙ ap sum_of more)

        pub one_kept : Keeping k l (set values count (get_or l i d)) (total + (get_or l i d).sections) (count + 1) (i + 1)
        one_kept =
            record {
              so_far = w.so_far ++ (get_or l i d ∷ []);
              few = w.few;
              bound = w.bound;
              passed = omega arith;
              behind = omega (arith, w.behind);
              size = rw length-append (omega (arith, w.size));
              sum = rw sum_append (omega (arith, w.sum));
              shape =
                  let m : blocked_values - count ≡ suc (blocked_values - (count + 1)) = omega (arith, w.behind, w.few) in
                  let s : values ≡ w.so_far ++ (no_value ∷ replicate (blocked_values - (count + 1)) no_value) = rw m at w.shape in
                  rw (s, set_at w.so_far no_value (replicate (blocked_values - (count + 1)) no_value) (get_or l i d) count w.size, append_snoc);
              whole = rw append_snoc more;
            }

    pub all_kept : length l ≤ i → record { total = total; distinct = count; values = values } ≡ let_go_of k l
    all_kept h =
        let e : w.so_far ++ [] ≡ kept k l = rw (drop_of_length-le l {i = i} h) at w.whole in
        let f : w.so_far ≡ kept k l = rw append-nil at e in
        rw (← f, w.size, w.sum, w.shape)

module _ (w : Waiting) (k : ℕ) where
  pub breaks_rule : keeps_count w ≡ false → let_go w k ≡ w
  unfolding let_go
  breaks_rule h = rw h

  pub lets_go : keeps_count w ≡ true → let_go w k ≡ let_go_of k (values_of w)
  unfolding let_go
  lets_go h = rw h
