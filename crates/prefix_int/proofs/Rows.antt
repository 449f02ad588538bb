-- An integer is read, or refused by 1 or 2; a width that is no good is 22. Assumes nothing.
use mathlib.Core.Bool.{Bool, true, false, cond}
use mathlib.Core.List.{List, [], ◌∷◌}
use Prim.Native.Nat.{ℕ, zero, suc, ◌+◌, ◌-◌, ◌*◌, ◌/◌, ◌%◌, ◌^◌, ◌≤◌, ◌<◌}
use native.Mathlib.Omega.{arith}
use lib.Dec.{ltb}
use lib.ListN.{drop}
use Rattle.answers.specs.Answer.{Answer, refused, answer_number}
use Rattle.answers.specs.declared.Refusal.TheVariants.{BadCall}
use Rattle.int_writing.proofs.Writing.{width_call}
use Rattle.prefix_int.specs.Integer.{good_call, groups, int_from, int_at}

-- an answer of the rows 0 to 3, which are those of integers and strings
abbrev pub Row : {A : Type 0} → Answer A → Type 0
Row x = answer_number x ≤ 3

pub row_cond : {A : Type 0} (t : Bool) (x y : Answer A) → Row x → Row y → Row (cond t x y)
row_cond true x y p q = p
row_cond false x y p q = q

groups_row : (k : ℕ) (s : List ℕ) (f at m i : ℕ) → Row (groups k s f at m i)
unfolding groups
groups_row zero s f at m i = omega arith
groups_row (suc k) [] f at m i = omega arith
groups_row (suc k) (b ∷ s) f at m i = row_cond (ltb b 128) _ _ (omega arith) (groups_row k s f (at + 1) (m + 7) (i + b % 128 * 2 ^ m))

from_row : (n : ℕ) (s : List ℕ) (at : ℕ) → Row (int_from n s at)
unfolding int_from
from_row n [] at = omega arith
from_row n (b ∷ s) at = row_cond (ltb (b % 2 ^ n) (2 ^ n - 1)) _ _ (omega arith) (groups_row 9 s (b / 2 ^ n) (at + 1) 0 (2 ^ n - 1))

module _ (s : List ℕ) (at n : ℕ) where
  pub int_row : 1 ≤ n → n ≤ 8 → Row (int_at s at n)
  int_row low high = rw (width_call n low high) (from_row n (drop at s) at)

  -- and of any width it is never refused by 26
  pub int_not_26 : answer_number (int_at s at n) < 26
  int_not_26 = go (good_call n 0)
    where
      go : (b : Bool) → answer_number (cond b (int_from n (drop at s) at) (refused BadCall)) < 26
      go true = omega (arith, from_row n (drop at s) at)
      go false = omega arith
