-- The two shapes of RFC 9204 4.3 and 4.5 that hold strings: an integer and a value, and a name and a value.
use Rattle.std.specs.Prelude.{List, ℕ}
use Rattle.answers.specs.Answer.{Answer, done, refused, and_then}
use Rattle.prefix_int.specs.declared.Integer.{Integer}
use Rattle.prefix_string.specs.Text.{text_at}
use Rattle.prefix_string.specs.declared.Text.{Text}
-- what was read: an integer and a value, and a name and a value, with the position past them
use Rattle.shapes.specs.declared.IntText.{IntText}
use Rattle.shapes.specs.declared.TwoTexts.{TwoTexts}
-- the width of a value's length, and the bytes of both shapes
unfoldable pub use Rattle.shape_writing.specs.Joined.{int_text_bytes, texts_bytes}
pub use Rattle.shape_writing.specs.Joined.{value_width, joined}

abbrev pub int_text : Integer → Text → Answer IntText
int_text i t = done (record { flags = i.flags; index = i.value; start = t.start; len = t.len; next = t.next })

-- an integer, and then a value
unfoldable pub text_after : List ℕ → Answer Integer → Answer IntText
text_after s int = and_then int (λ i. and_then (text_at s i.next value_width) (int_text i))

abbrev pub two_texts : Text → Text → Answer TwoTexts
two_texts a b =
    done (record { flags = a.flags; name = a.start; name_len = a.len; value = b.start; value_len = b.len; next = b.next })

-- a name, and then a value
unfoldable pub texts_at : List ℕ → ℕ → ℕ → Answer TwoTexts
texts_at s at n = and_then (text_at s at n) (λ a. and_then (text_at s a.next value_width) (two_texts a))
