-- The specification: "one short table of bit pattern and prefix width" covers the encoder's four instructions (RFC 9204 4.3), the decoder's
-- three (4.4) and the five field lines (4.5).
use Rattle.std.specs.Prelude.{Bool, true, false, cond, ℕ, ◌+◌, ◌/◌, ◌^◌, ltb, eqb}
use Rattle.std.specs.Int.Bits.{bit_and}
use Rattle.forms.specs.declared.Form.{Form}
use Rattle.forms.specs.declared.Head.{Head}
use Rattle.forms.specs.declared.EncoderInstruction.{EncoderInstruction}
use Rattle.forms.specs.declared.EncoderInstruction.TheVariants.{Duplicate, DynamicTableSizeUpdate, InsertWithoutNameRef, InsertWithNameRef}
use Rattle.forms.specs.declared.DecoderInstruction.{DecoderInstruction}
use Rattle.forms.specs.declared.DecoderInstruction.TheVariants.{InsertCountIncrement, StreamCancel, HeaderAck}
use Rattle.forms.specs.declared.HeaderBlockField.{HeaderBlockField}
use Rattle.forms.specs.declared.HeaderBlockField.TheVariants.{LiteralWithPostBaseNameRef, IndexedWithPostBase, Literal, LiteralWithNameRef, Indexed}
use Rattle.forms.specs.declared.Kind.{Kind}
use Rattle.forms.specs.declared.Kind.TheVariants.{Encoder, Decoder, Line}

-- the bits that the RFC's pictures fix, where they stand, and the width of the integer that begins in the first byte
abbrev pub form_of : Kind → Form
-- 4.3.4: 0 0 0, Index (5+)
form_of (Encoder Duplicate) = record { pattern = 0b00000000; mask = 0b11100000; width = 5 }
-- 4.3.1: 0 0 1, Capacity (5+)
form_of (Encoder DynamicTableSizeUpdate) = record { pattern = 0b00100000; mask = 0b11100000; width = 5 }
-- 4.3.3: 0 1 H, Name Length (5+)
form_of (Encoder InsertWithoutNameRef) = record { pattern = 0b01000000; mask = 0b11000000; width = 5 }
-- 4.3.2: 1 T, Name Index (6+)
form_of (Encoder InsertWithNameRef) = record { pattern = 0b10000000; mask = 0b10000000; width = 6 }
-- 4.4.3: 0 0, Increment (6+)
form_of (Decoder InsertCountIncrement) = record { pattern = 0b00000000; mask = 0b11000000; width = 6 }
-- 4.4.2: 0 1, Stream ID (6+)
form_of (Decoder StreamCancel) = record { pattern = 0b01000000; mask = 0b11000000; width = 6 }
-- 4.4.1: 1, Stream ID (7+)
form_of (Decoder HeaderAck) = record { pattern = 0b10000000; mask = 0b10000000; width = 7 }
-- 4.5.5: 0 0 0 0 N, Name Index (3+)
form_of (Line LiteralWithPostBaseNameRef) = record { pattern = 0b00000000; mask = 0b11110000; width = 3 }
-- 4.5.3: 0 0 0 1, Index (4+)
form_of (Line IndexedWithPostBase) = record { pattern = 0b00010000; mask = 0b11110000; width = 4 }
-- 4.5.6: 0 0 1 N H, Name Length (3+)
form_of (Line Literal) = record { pattern = 0b00100000; mask = 0b11100000; width = 3 }
-- 4.5.4: 0 1 N T, Name Index (4+)
form_of (Line LiteralWithNameRef) = record { pattern = 0b01000000; mask = 0b11000000; width = 4 }
-- 4.5.2: 1 T, Index (6+)
form_of (Line Indexed) = record { pattern = 0b10000000; mask = 0b10000000; width = 6 }

-- a byte has a form when its bits under the mask are the pattern
abbrev pub has_form : Form → ℕ → Bool
has_form f b = eqb (bit_and b f.mask) f.pattern

abbrev pub bit_of : Bool → ℕ
bit_of true = 1
bit_of false = 0

-- what is written: the pattern as flags above the prefix, with the lowest of them set or not
abbrev pub head_of : Kind → Bool → Head
head_of k t = record { width = (form_of k).width; flags = (form_of k).pattern / 2 ^ (form_of k).width + bit_of t }

-- "first byte 0 to 31, 32 to 63, 64 to 127, 128 to 255 is Duplicate, capacity, literal insert, insert with name reference"
abbrev pub encoder_kind : ℕ → EncoderInstruction
encoder_kind b =
    cond (ltb b 32) Duplicate (cond (ltb b 64) DynamicTableSizeUpdate (cond (ltb b 128) InsertWithoutNameRef InsertWithNameRef))

abbrev pub decoder_kind : ℕ → DecoderInstruction
decoder_kind b = cond (ltb b 64) InsertCountIncrement (cond (ltb b 128) StreamCancel HeaderAck)

abbrev pub line_kind : ℕ → HeaderBlockField
line_kind b =
    cond (ltb b 16)
    LiteralWithPostBaseNameRef
    (cond (ltb b 32) IndexedWithPostBase (cond (ltb b 64) Literal (cond (ltb b 128) LiteralWithNameRef Indexed)))

-- the place of a kind in the constant table
abbrev pub row_of : Kind → ℕ
row_of (Encoder Duplicate) = 0
row_of (Encoder DynamicTableSizeUpdate) = 1
row_of (Encoder InsertWithoutNameRef) = 2
row_of (Encoder InsertWithNameRef) = 3
row_of (Decoder InsertCountIncrement) = 4
row_of (Decoder StreamCancel) = 5
row_of (Decoder HeaderAck) = 6
row_of (Line LiteralWithPostBaseNameRef) = 7
row_of (Line IndexedWithPostBase) = 8
row_of (Line Literal) = 9
row_of (Line LiteralWithNameRef) = 10
row_of (Line Indexed) = 11
