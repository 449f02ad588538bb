-- The first integer of an instruction of RFC 9204 4.3 and 4.4, its limit, and the bytes that a writer writes.
use Rattle.std.specs.Prelude.{Bool, false, cond, List, ℕ, ◌/◌, ltb, get_or}
use Rattle.answers.specs.Answer.{Answer, done, refused, and_then}
use Rattle.answers.specs.declared.Refusal.TheVariants.{InvalidPrefix}
use Rattle.forms.specs.Forms.{form_of, has_form, head_of}
use Rattle.forms.specs.declared.DecoderInstruction.TheVariants.{InsertCountIncrement, StreamCancel, HeaderAck}
use Rattle.forms.specs.declared.EncoderInstruction.TheVariants.{InsertWithNameRef, InsertWithoutNameRef}
use Rattle.forms.specs.declared.Kind.{Kind}
use Rattle.forms.specs.declared.Kind.TheVariants.{Encoder, Decoder, Line}
use Rattle.prefix_int.specs.Integer.{int_at, int_bytes}
use Rattle.prefix_int.specs.declared.Integer.{Integer}
use Rattle.shape_writing.specs.Joined.{int_text_bytes, texts_bytes}

-- "26 InvalidPrefix: a single-instruction reader given another kind". "26 comes after the first integer, so a cut or a ninth-byte 2 wins"
unfoldable pub kind_int : List ℕ → ℕ → Kind → Answer Integer
kind_int s at k =
    and_then (int_at s at (form_of k).width)
    (λ i. cond (has_form (form_of k) (get_or s at 0)) (done i) (refused InvalidPrefix))

-- "2 Overflow: increment above 64"
abbrev pub increment_limit : ℕ
increment_limit = 64

abbrev pub past_limit : Kind → ℕ → Bool
past_limit (Encoder e) v = false
past_limit (Decoder InsertCountIncrement) v = ltb increment_limit v
past_limit (Decoder StreamCancel) v = false
past_limit (Decoder HeaderAck) v = false
past_limit (Line l) v = false

-- ---- the bytes of an instruction

unfoldable pub integer_bytes : Kind → ℕ → Answer (List ℕ)
integer_bytes k v = int_bytes (head_of k false).width (head_of k false).flags v

unfoldable pub name_ref_bytes : Bool → ℕ → List ℕ → Answer (List ℕ)
name_ref_bytes t i v =
    int_text_bytes (head_of (Encoder InsertWithNameRef) t).width (head_of (Encoder InsertWithNameRef) t).flags i v

-- H stands between the pattern and the length
unfoldable pub literal_bytes : List ℕ → List ℕ → Answer (List ℕ)
literal_bytes s t =
    texts_bytes (head_of (Encoder InsertWithoutNameRef) false).width ((head_of (Encoder InsertWithoutNameRef) false).flags / 2) s t
