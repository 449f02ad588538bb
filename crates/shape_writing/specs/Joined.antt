-- The bytes of an integer and a value, and of a name and a value (RFC 9204 4.3 and 4.5).
use Rattle.std.specs.Prelude.{List, ◌++◌, ℕ}
use Rattle.answers.specs.Answer.{Answer, done, and_then}
use Rattle.prefix_int.specs.Integer.{int_bytes}
use Rattle.text_writing.specs.Plain.{text_bytes}

-- "H, Value Length (7+)"
abbrev pub value_width : ℕ
value_width = 7

-- the bytes of one and then of another
abbrev pub joined : Answer (List ℕ) → Answer (List ℕ) → Answer (List ℕ)
joined a b = and_then a (λ x. and_then b (λ y. done (x ++ y)))

unfoldable pub int_text_bytes : ℕ → ℕ → ℕ → List ℕ → Answer (List ℕ)
int_text_bytes n f i t = joined (int_bytes n f i) (text_bytes value_width 0 t)

unfoldable pub texts_bytes : ℕ → ℕ → List ℕ → List ℕ → Answer (List ℕ)
texts_bytes n f s t = joined (text_bytes n f s) (text_bytes value_width 0 t)
