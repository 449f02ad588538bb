-- A line is read, or refused by 1, 2 or 3; so it is never refused by 26, since each first byte begins a line. Assumes nothing.
use mathlib.Core.Path.{◌≡◌, ap}
use mathlib.Core.Bool.{Bool, true, false}
use mathlib.Core.List.{List}
use Prim.Native.Nat.{ℕ, ◌≤◌}
use native.Mathlib.Omega.{arith}
use lib.Dec.{leb}
use lib.ListN.{length, get_or}
use Rattle.answers.specs.Answer.{Answer, done, refused, answer_number, and_then}
use Rattle.answers.specs.declared.Refusal.TheVariants.{InvalidPrefix}
use Rattle.forms.specs.Forms.{line_kind}
use Rattle.forms.specs.declared.HeaderBlockField.{HeaderBlockField}
use Rattle.forms.specs.declared.HeaderBlockField.TheVariants.{
  LiteralWithPostBaseNameRef,
  IndexedWithPostBase,
  Literal,
  LiteralWithNameRef,
  Indexed,
}
use Rattle.forms.specs.declared.Kind.TheVariants.{Line}
use Rattle.forms.proofs.Every.{width_low, width_high}
use Rattle.prefix_int.specs.Integer.{int_at}
use Rattle.prefix_int.specs.declared.Integer.{Integer}
use Rattle.prefix_int.proofs.Rows.{Row, row_cond, int_row}
use Rattle.prefix_string.specs.Text.{text_at}
use Rattle.prefix_string.proofs.Rows.{row_then, text_row}
use Rattle.shapes.specs.Shapes.{value_width, text_after, texts_at}
use Rattle.block.specs.Lines.{width_of, indexed_line, named_line, literal_line, line_of, line_at}

row_last : {A B : Type 0} (x : Answer A) (f : A → B) → Row x → Row (and_then x (λ a. done (f a)))
row_last x f p = row_then x (λ a. done (f a)) p (λ a. omega arith)

-- ---- strings

pub value_row : (s : List ℕ) (at : ℕ) → Row (text_at s at value_width)
value_row s at = text_row s at value_width (omega arith) (omega arith)

after_row : (s : List ℕ) (x : Answer Integer) → Row x → Row (text_after s x)
unfolding text_after
after_row s x h = row_then x _ h (λ i. row_last (text_at s i.next value_width) _ (value_row s i.next))

texts_row : (s : List ℕ) (at n : ℕ) → 1 ≤ n → n ≤ 7 → Row (texts_at s at n)
unfolding texts_at
texts_row s at n low high =
    row_then (text_at s at n) _ (text_row s at n low high) (λ a. row_last (text_at s a.next value_width) _ (value_row s a.next))

-- ---- lines

module _ (s : List ℕ) (at : ℕ) where
  first_row : (k : HeaderBlockField) → Row (int_at s at (width_of k))
  first_row k = int_row s at (width_of k) (width_low (Line k)) (omega (arith, width_high (Line k)))

  indexed_row : (k : HeaderBlockField) (post : Bool) → Row (indexed_line s at k post)
  unfolding indexed_line
  indexed_row k post = row_last (int_at s at (width_of k)) _ (first_row k)

  named_row : (k : HeaderBlockField) (post : Bool) → Row (named_line s at k post)
  unfolding named_line
  named_row k post = row_last (text_after s (int_at s at (width_of k))) _ (after_row s (int_at s at (width_of k)) (first_row k))

  literal_row : Row (literal_line s at)
  unfolding literal_line
  literal_row = row_last (texts_at s at (width_of Literal)) _ (texts_row s at (width_of Literal) (omega arith) (omega arith))

  of_row : (k : HeaderBlockField) → Row (line_of s at k)
  unfolding line_of
  of_row LiteralWithPostBaseNameRef = named_row LiteralWithPostBaseNameRef true
  of_row IndexedWithPostBase = indexed_row IndexedWithPostBase true
  of_row Literal = literal_row
  of_row LiteralWithNameRef = named_row LiteralWithNameRef false
  of_row Indexed = indexed_row Indexed false

  pub line_row : answer_number (line_at s at) ≤ 3
  unfolding line_at
  line_row = row_cond (leb (length s) at) _ _ (omega arith) (of_row (line_kind (get_or s at 0)))

  pub line_never_26 : line_at s at ≡ refused InvalidPrefix → ⊥
  line_never_26 h = omega (arith, line_row, ap answer_number h)
