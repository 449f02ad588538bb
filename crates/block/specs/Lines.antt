-- The field lines of RFC 9204 4.5, each by itself: what a reader finds at a position, and the bytes that a writer writes.
use Rattle.std.specs.Prelude.{Result, Ok, Err, Bool, true, false, cond, List, ℕ, ◌%◌, leb, eqb, length, get_or}
use Rattle.answers.specs.Answer.{Answer, done, refused, and_then}
use Rattle.answers.specs.declared.Refusal.{Refusal}
use Rattle.answers.specs.declared.Refusal.TheVariants.{UnexpectedEnd}
use Rattle.forms.specs.Forms.{form_of, line_kind}
use Rattle.forms.specs.declared.HeaderBlockField.{HeaderBlockField}
use Rattle.forms.specs.declared.HeaderBlockField.TheVariants.{
  LiteralWithPostBaseNameRef,
  IndexedWithPostBase,
  Literal,
  LiteralWithNameRef,
  Indexed,
}
use Rattle.forms.specs.declared.Kind.TheVariants.{Line}
use Rattle.prefix_int.specs.Integer.{int_at}
use Rattle.shapes.specs.Shapes.{text_after, texts_at}
use Rattle.block.specs.declared.FieldLine.{FieldLine as CodeLine}
use Rattle.block.specs.declared.FieldLine.TheVariants as code
use Rattle.line_writing.specs.declared.Reference.{Reference}
use Rattle.line_writing.specs.declared.Reference.TheVariants.{Static, Relative, PostBase}
-- the bytes of a line
unfoldable pub use Rattle.line_writing.specs.Bytes.{indexed_bytes, named_bytes, literal_bytes}
pub use Rattle.line_writing.specs.Bytes.{index_of, indexed_head, named_head}

-- a line: a whole field by its index; a name by its index and a value; or a name and a value. Positions and lengths are those of the strings;
-- the last number is the position past the line
pub data FieldLine : Type 0 where
  indexed : Reference → ℕ → FieldLine
  named : Reference → ℕ → ℕ → ℕ → FieldLine
  literal : ℕ → ℕ → ℕ → ℕ → ℕ → FieldLine

-- T, the lowest flag, says whether an index is one of the static table; a post-base line has no T
abbrev pub reference_of : Bool → ℕ → ℕ → Reference
reference_of post f i = cond post (PostBase i) (cond (eqb (f % 2) 1) (Static i) (Relative i))

abbrev pub width_of : HeaderBlockField → ℕ
width_of k = (form_of (Line k)).width

-- 4.5.2, "1 T, Index (6+)", and 4.5.3, "0 0 0 1, Index (4+)"
unfoldable pub indexed_line : List ℕ → ℕ → HeaderBlockField → Bool → Answer FieldLine
indexed_line s at k post =
    and_then (int_at s at (width_of k)) (λ i. done (indexed (reference_of post i.flags i.value) i.next))

-- 4.5.4, "0 1 N T, Name Index (4+), H, Value Length (7+), Value", and 4.5.5, "0 0 0 0 N, Name Index (3+), H, Value Length (7+), Value"
unfoldable pub named_line : List ℕ → ℕ → HeaderBlockField → Bool → Answer FieldLine
named_line s at k post =
    and_then (text_after s (int_at s at (width_of k)))
    (λ t. done (named (reference_of post t.flags t.index) t.start t.len t.next))

-- 4.5.6, "0 0 1 N H, Name Length (3+), Name, H, Value Length (7+), Value"
unfoldable pub literal_line : List ℕ → ℕ → Answer FieldLine
literal_line s at =
    and_then (texts_at s at (width_of Literal))
    (λ t. done (literal t.name t.name_len t.value t.value_len t.next))

unfoldable pub line_of : List ℕ → ℕ → HeaderBlockField → Answer FieldLine
line_of s at LiteralWithPostBaseNameRef = named_line s at LiteralWithPostBaseNameRef true
line_of s at IndexedWithPostBase = indexed_line s at IndexedWithPostBase true
line_of s at Literal = literal_line s at
line_of s at LiteralWithNameRef = named_line s at LiteralWithNameRef false
line_of s at Indexed = indexed_line s at Indexed false

-- "1 UnexpectedEnd: a section ends early"
unfoldable pub line_at : List ℕ → ℕ → Answer FieldLine
line_at s at = cond (leb (length s) at) (refused UnexpectedEnd) (line_of s at (line_kind (get_or s at 0)))

-- a line as the code has it
abbrev pub line_read : Result CodeLine Refusal → Answer FieldLine
line_read (Ok (code.Indexed r e)) = done (indexed r e)
line_read (Ok (code.Named r v n e)) = done (named r v n e)
line_read (Ok (code.Literal a m b n e)) = done (literal a m b n e)
line_read (Err r) = refused r
