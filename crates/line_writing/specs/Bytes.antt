-- The bytes of the field lines of RFC 9204 4.5.
use Rattle.std.specs.Prelude.{true, false, List, ℕ, ◌/◌}
use Rattle.answers.specs.Answer.{Answer}
use Rattle.forms.specs.Forms.{head_of}
use Rattle.forms.specs.declared.Head.{Head}
use Rattle.forms.specs.declared.HeaderBlockField.TheVariants.{
  LiteralWithPostBaseNameRef,
  IndexedWithPostBase,
  Literal,
  LiteralWithNameRef,
  Indexed,
}
use Rattle.forms.specs.declared.Kind.TheVariants.{Line}
use Rattle.int_writing.specs.Octets.{int_bytes}
use Rattle.shape_writing.specs.Joined.{int_text_bytes, texts_bytes}
use Rattle.line_writing.specs.declared.Reference.{Reference}
use Rattle.line_writing.specs.declared.Reference.TheVariants.{Static, Relative, PostBase}

abbrev pub index_of : Reference → ℕ
index_of (Static i) = i
index_of (Relative i) = i
index_of (PostBase i) = i

abbrev pub indexed_head : Reference → Head
indexed_head (Static i) = head_of (Line Indexed) true
indexed_head (Relative i) = head_of (Line Indexed) false
indexed_head (PostBase i) = head_of (Line IndexedWithPostBase) false

-- N, "never indexed", is not set
abbrev pub named_head : Reference → Head
named_head (Static i) = head_of (Line LiteralWithNameRef) true
named_head (Relative i) = head_of (Line LiteralWithNameRef) false
named_head (PostBase i) = head_of (Line LiteralWithPostBaseNameRef) false

unfoldable pub indexed_bytes : Reference → Answer (List ℕ)
indexed_bytes r = int_bytes (indexed_head r).width (indexed_head r).flags (index_of r)

unfoldable pub named_bytes : Reference → List ℕ → Answer (List ℕ)
named_bytes r v = int_text_bytes (named_head r).width (named_head r).flags (index_of r) v

-- H stands between the pattern and the length
unfoldable pub literal_bytes : List ℕ → List ℕ → Answer (List ℕ)
literal_bytes n v = texts_bytes (head_of (Line Literal) false).width ((head_of (Line Literal) false).flags / 2) n v
