-- The constant table holds each kind's form in the kind's row. Assumes nothing.
use mathlib.Core.Path.{◌≡◌, refl}
use mathlib.Core.List.{List, [], ◌∷◌}
use Prim.Native.Nat.{ℕ, ◌+◌, ◌*◌}
use lib.ListN.{get_or}
use Rattle.forms.specs.Forms.{form_of, row_of}
use Rattle.forms.specs.declared.Form.{Form}
use Rattle.forms.specs.declared.EncoderInstruction.TheVariants.{Duplicate, DynamicTableSizeUpdate, InsertWithoutNameRef, InsertWithNameRef}
use Rattle.forms.specs.declared.DecoderInstruction.TheVariants.{InsertCountIncrement, StreamCancel, HeaderAck}
use Rattle.forms.specs.declared.HeaderBlockField.TheVariants.{LiteralWithPostBaseNameRef, IndexedWithPostBase, Literal, LiteralWithNameRef, Indexed}
use Rattle.forms.specs.declared.Kind.{Kind}
use Rattle.forms.specs.declared.Kind.TheVariants.{Encoder, Decoder, Line}

abbrev pub numbers : List ℕ
numbers = 0 ∷ 224 ∷ 5 ∷ 32 ∷ 224 ∷ 5 ∷ 64 ∷ 192 ∷ 5 ∷ 128 ∷ 128 ∷ 6 ∷ 0 ∷ 192 ∷ 6 ∷ 64 ∷ 192 ∷ 6 ∷ 128 ∷ 128 ∷ 7 ∷ 0 ∷ 240 ∷ 3 ∷ 16 ∷ 240 ∷ 4 ∷ 32 ∷ 224 ∷ 3 ∷ 64 ∷ 192 ∷ 4 ∷ 128 ∷ 128 ∷ 6 ∷ []

abbrev pub form_in : ℕ → Form
form_in r = record { pattern = get_or numbers (r * 3) 0; mask = get_or numbers (r * 3 + 1) 0; width = get_or numbers (r * 3 + 2) 0 }

pub tabled : (k : Kind) → form_in (row_of k) ≡ form_of k
tabled (Encoder Duplicate) = refl
tabled (Encoder DynamicTableSizeUpdate) = refl
tabled (Encoder InsertWithoutNameRef) = refl
tabled (Encoder InsertWithNameRef) = refl
tabled (Decoder InsertCountIncrement) = refl
tabled (Decoder StreamCancel) = refl
tabled (Decoder HeaderAck) = refl
tabled (Line LiteralWithPostBaseNameRef) = refl
tabled (Line IndexedWithPostBase) = refl
tabled (Line Literal) = refl
tabled (Line LiteralWithNameRef) = refl
tabled (Line Indexed) = refl
