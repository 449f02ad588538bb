-- A string is read, or refused by 1, 2 or 3; a width that is no good is 22. Assumes nothing.
use mathlib.Core.List.{List}
use Prim.Native.Nat.{ℕ, ◌-◌, ◌≤◌}
use native.Mathlib.Omega.{arith}
use lib.Dec.{ltb, leb, eqb}
use lib.ListN.{length, get_or}
use Rattle.answers.specs.Answer.{Answer, done, refused, and_then}
use Rattle.prefix_int.specs.Integer.{int_at}
use Rattle.prefix_int.proofs.Rows.{Row, row_cond, int_row}
use Rattle.prefix_string.specs.Text.{h_bit, bytes_after, text_at}
use Rattle.text_writing.proofs.Laws.{text_width}

pub row_then : {A B : Type 0} (x : Answer A) (f : A → Answer B) → Row x → ((a : A) → Row (f a)) → Row (and_then x f)
row_then (done a) f p q = q a
row_then (refused r) f p q = p

module _ (s : List ℕ) (at n : ℕ) (low : 1 ≤ n) (high : n ≤ 7) where
  pub text_row : Row (text_at s at n)
  unfolding text_at
  text_row =
      rw (text_width n low high)
      (row_cond (leb (length s) at) _ _ (omega arith)
      (row_cond (eqb (h_bit n (get_or s at 0)) 1) _ _ (omega arith)
      (row_then (int_at s at n) (bytes_after s) (int_row s at n low (omega arith))
      (λ i. row_cond (ltb (length s - i.next) i.value) _ _ (omega arith) (omega arith)))))
