-- The instructions of the encoder stream, RFC 9204 4.3, with the strings that they carry.
use Rattle.std.specs.Prelude.{Result, Ok, Err, Option as Maybe, Some, None, Bool, List, ℕ, ◌+◌, ◌<◌, ◌≤◌, length, get_or, take, drop}
use Rattle.std.proofs.Math.Option.{Option, some, none}
use Rattle.answers.specs.Answer.{Answer, done, refused}
use Rattle.forms.specs.Forms.{encoder_kind}
use Rattle.forms.specs.declared.EncoderInstruction.{EncoderInstruction}
use Rattle.forms.specs.declared.EncoderInstruction.TheVariants.{
  Duplicate,
  DynamicTableSizeUpdate,
  InsertWithoutNameRef,
  InsertWithNameRef,
}
use Rattle.forms.specs.declared.Kind.TheVariants.{Encoder}
use Rattle.running.specs.Run.{Whole, found}
use Rattle.stream.specs.Instructions.{integer_at, name_ref_at, literal_at}
use Rattle.stream.specs.declared.Literal.{Literal}
use Rattle.stream.specs.declared.NameRef.{NameRef}
use Rattle.stream.specs.declared.OneInteger.{OneInteger}
use Rattle.instructions.specs.declared.Parsed.{Parsed}
use Rattle.answers.specs.declared.Refusal.{Refusal}
use Rattle.running.specs.declared.Whole.{Whole as CodeWhole}

pub data Instruction : Type 0 where
  duplicate : ℕ → Instruction
  capacity : ℕ → Instruction
  -- a name and a value
  literal : List ℕ → List ℕ → Instruction
  -- whether the index is the static table's, the index, and a value
  name_ref : Bool → ℕ → List ℕ → Instruction

-- the n bytes from position p on
abbrev pub stretch : List ℕ → ℕ → ℕ → List ℕ
stretch s p n = take n (drop p s)

-- "first byte 0 to 31, 32 to 63, 64 to 127, 128 to 255 is Duplicate, capacity, literal insert, insert with name reference"
unfoldable pub of_kind : List ℕ → ℕ → EncoderInstruction → Answer (Option (Whole Instruction))
of_kind s at Duplicate =
    found (λ (i : OneInteger). record { instruction = duplicate i.value; next = i.next }) (integer_at s at (Encoder Duplicate))
of_kind s at DynamicTableSizeUpdate =
    found (λ (i : OneInteger). record { instruction = capacity i.value; next = i.next })
    (integer_at s at (Encoder DynamicTableSizeUpdate))
of_kind s at InsertWithoutNameRef =
    found
    (λ (i : Literal).
    record { instruction = literal (stretch s i.name i.name_len) (stretch s i.value i.value_len); next = i.next })
    (literal_at s at)
of_kind s at InsertWithNameRef =
    found
    (λ (i : NameRef).
    record { instruction = name_ref i.is_static i.index (stretch s i.value i.value_len); next = i.next })
    (name_ref_at s at)

unfoldable pub instruction_at : List ℕ → ℕ → Answer (Option (Whole Instruction))
instruction_at s at = of_kind s at (encoder_kind (get_or s at 0))

-- ---- what the code holds of an instruction: positions in the slice

abbrev pub parsed : List ℕ → Parsed → Instruction
parsed s (Parsed.Duplicate i) = duplicate i
parsed s (Parsed.Capacity c) = capacity c
parsed s (Parsed.Literal p m q n) = literal (stretch s p m) (stretch s q n)
parsed s (Parsed.NameRef t i q n) = name_ref t i (stretch s q n)

abbrev pub instruction_read : List ℕ → Result (Maybe (CodeWhole Parsed)) Refusal → Answer (Option (Whole Instruction))
instruction_read s (Ok (Some w)) = done (some (record { instruction = parsed s w.instruction; next = w.next }))
instruction_read s (Ok None) = done none
instruction_read s (Err r) = refused r

-- the strings lie in the slice
abbrev pub Inside : ℕ → Parsed → Type 0
Inside m (Parsed.Duplicate i) = Unit {0}
Inside m (Parsed.Capacity c) = Unit {0}
Inside m (Parsed.Literal p k q n) = (p + k ≤ m) × (q + n ≤ m)
Inside m (Parsed.NameRef t i q n) = q + n ≤ m

-- an instruction has a byte at least, and ends in the slice
abbrev pub Within : List ℕ → ℕ → Result (Maybe (CodeWhole Parsed)) Refusal → Type 0
Within s at (Ok (Some w)) = Inside (length s) w.instruction × (at < w.next) × (w.next ≤ length s)
Within s at (Ok None) = Unit {0}
Within s at (Err r) = Unit {0}
