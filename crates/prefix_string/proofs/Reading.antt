-- Laws of reading a plain string: one for each test on the way. Assumes nothing.
use mathlib.Core.Path.{◌≡◌}
use mathlib.Core.Bool.{true, false}
use mathlib.Core.List.{List}
use Prim.Native.Nat.{ℕ, ◌≤◌, ◌<◌}
use lib.Dec.{eqb}
use lib.ListN.{length, get_or}
use borrow.Author.Tests.{le-leb, lt-leb}
use Rattle.answers.specs.Answer.{refused, and_then}
use Rattle.answers.specs.declared.Refusal.TheVariants.{UnexpectedEnd, HuffmanString, BadCall}
use Rattle.prefix_int.specs.Integer.{int_at}
use Rattle.prefix_string.specs.Text.{h_bit, bytes_after, text_at, good_text}

-- a width that is no good
pub text_bad : (s : List ℕ) (at n : ℕ) → good_text n 0 ≡ false → text_at s at n ≡ refused BadCall
unfolding text_at
text_bad s at n h = rw h

module _ (s : List ℕ) (at n : ℕ) (good : good_text n 0 ≡ true) where
  pub text_end : length s ≤ at → text_at s at n ≡ refused UnexpectedEnd
  unfolding text_at
  text_end h = simp (good, le-leb (length s) at h)

  -- H is set
  pub text_huffman : at < length s → eqb (h_bit n (get_or s at 0)) 1 ≡ true → text_at s at n ≡ refused HuffmanString
  unfolding text_at
  text_huffman here set = simp (good, lt-leb (length s) at here, set)

  -- H is not set: a length, and the bytes after it
  pub text_plain : at < length s → eqb (h_bit n (get_or s at 0)) 1 ≡ false → text_at s at n ≡ and_then (int_at s at n) (bytes_after s)
  unfolding text_at
  text_plain here clear = simp (good, lt-leb (length s) at here, clear)
