-- The instructions of RFC 9204 4.3 and 4.4, each by itself: what a reader finds at a position, and the bytes that a writer writes.
use Rattle.std.specs.Prelude.{Bool, cond, List, ℕ, ◌%◌, eqb}
use Rattle.std.proofs.Math.Option.{Option, some, none}
use Rattle.answers.specs.Answer.{Answer, done, refused, and_then, cut_short}
use Rattle.answers.specs.declared.Refusal.TheVariants.{Overflow}
use Rattle.forms.specs.Forms.{form_of}
use Rattle.forms.specs.declared.EncoderInstruction.TheVariants.{InsertWithNameRef, InsertWithoutNameRef}
use Rattle.forms.specs.declared.Kind.{Kind}
use Rattle.forms.specs.declared.Kind.TheVariants.{Encoder}
use Rattle.prefix_int.specs.declared.Integer.{Integer}
use Rattle.shapes.specs.Shapes.{text_after, texts_at}
use Rattle.shapes.specs.declared.TwoTexts.{TwoTexts}
use Rattle.shapes.specs.declared.IntText.{IntText}
use Rattle.stream.specs.declared.Literal.{Literal}
use Rattle.stream.specs.declared.NameRef.{NameRef}
use Rattle.stream.specs.declared.OneInteger.{OneInteger}
-- the first integer, its limit, and the bytes of an instruction
unfoldable pub use Rattle.stream_parts.specs.Parts.{kind_int, integer_bytes, name_ref_bytes, literal_bytes}
pub use Rattle.stream_parts.specs.Parts.{increment_limit, past_limit}

-- ---- an instruction that is one integer

abbrev pub within_limit : Kind → Integer → Answer OneInteger
within_limit k i = cond (past_limit k i.value) (refused Overflow) (done (record { value = i.value; next = i.next }))

-- "26 beats an increment above 64"
unfoldable pub integer_at : List ℕ → ℕ → Kind → Answer (Option OneInteger)
integer_at s at k = cut_short (and_then (kind_int s at k) (within_limit k))

-- ---- 4.3.2: an insert with a name reference, "1 T, Name Index (6+), H, Value Length (7+), Value"

-- T is the lowest of the flags
abbrev pub name_ref : IntText → NameRef
name_ref t =
    record { is_static = eqb (t.flags % 2) 1; index = t.index; value = t.start; value_len = t.len; next = t.next }

abbrev pub name_ref_kind : Kind
name_ref_kind = Encoder InsertWithNameRef

unfoldable pub name_ref_at : List ℕ → ℕ → Answer (Option NameRef)
name_ref_at s at =
    cut_short (and_then (text_after s (kind_int s at name_ref_kind)) (λ t. done (name_ref t)))

-- ---- 4.3.3: an insert with both strings, "0 1 H, Name Length (5+), Name, H, Value Length (7+), Value"

abbrev pub literal : TwoTexts → Literal
literal t = record { name = t.name; name_len = t.name_len; value = t.value; value_len = t.value_len; next = t.next }

abbrev pub literal_width : ℕ
literal_width = (form_of (Encoder InsertWithoutNameRef)).width

-- "the literal insert's reader tests no kind"
unfoldable pub literal_at : List ℕ → ℕ → Answer (Option Literal)
literal_at s at = cut_short (and_then (texts_at s at literal_width) (λ t. done (literal t)))
