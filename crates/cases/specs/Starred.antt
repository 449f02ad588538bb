-- The specification, "Readings on each side of the line": the starred cases as one table, and what it means that a row holds.
use Rattle.std.specs.Prelude.{◌≡◌, List, [], ◌∷◌, ℕ, length}
use Rattle.std.proofs.Math.Option.{some}
use Rattle.answers.specs.Answer.{done, refused}
use Rattle.answers.specs.declared.Refusal.{Refusal}
use Rattle.answers.specs.declared.Refusal.TheVariants.{Overflow, BadPostbaseIndex}
use Rattle.forms.specs.declared.DecoderInstruction.TheVariants.{InsertCountIncrement}
use Rattle.forms.specs.declared.Kind.{Kind}
use Rattle.forms.specs.declared.Kind.TheVariants.{Decoder}
use Rattle.prefix_int.specs.Integer.{int_at, int_bytes}
use Rattle.stream.specs.Instructions.{integer_at, integer_bytes}
use Rattle.vas.specs.Vas.{relative_at, base_relative_at, post_base_at}

pub data Case : Type 0 where
  -- a width, a value and its bytes: the value is written so, and the bytes are read so
  integer : ℕ → ℕ → List ℕ → Case
  -- an increment and its bytes, written and read
  increment : ℕ → List ℕ → Case
  -- bytes of an increment that are refused, and by what
  refused_increment : List ℕ → Refusal → Case
  -- an increment that is written so
  written_increment : ℕ → List ℕ → Case
  -- inserted, dropped, an index, and the position that it names
  relative : ℕ → ℕ → ℕ → ℕ → Case
  -- inserted, dropped, base, an index, and the position that it names
  relative_to_base : ℕ → ℕ → ℕ → ℕ → ℕ → Case
  post_base : ℕ → ℕ → ℕ → ℕ → ℕ → Case
  -- inserted, dropped, base, and an index that is refused, and by what
  refused_post_base : ℕ → ℕ → ℕ → ℕ → Refusal → Case

abbrev an_increment : Kind
an_increment = Decoder InsertCountIncrement

abbrev pub Holds : Case → Type 0
Holds (integer n v bytes) =
    (int_bytes n 0 v ≡ done bytes) × (int_at bytes 0 n ≡ done (record { flags = 0; value = v; next = length bytes }))
Holds (increment v bytes) =
    (integer_bytes an_increment v ≡ done bytes)
    × (integer_at bytes 0 an_increment ≡ done (some (record { value = v; next = length bytes })))
Holds (refused_increment bytes r) = integer_at bytes 0 an_increment ≡ refused r
Holds (written_increment v bytes) = integer_bytes an_increment v ≡ done bytes
Holds (relative i d x p) = relative_at i d x ≡ done p
Holds (relative_to_base i d b x p) = base_relative_at i d b x ≡ done p
Holds (post_base i d b x p) = post_base_at i d b x ≡ done p
Holds (refused_post_base i d b x r) = post_base_at i d b x ≡ refused r

abbrev pub AllHold : List Case → Type 0
AllHold [] = Unit {0}
AllHold (c ∷ l) = Holds c × AllHold l

abbrev pub starred : List Case
starred =
    -- "*5 bits: 10 is 0a; *30 is 1e; *31 is 1f 00; *1337 is 1f 9a 0a"
    integer 5 10 (0x0a ∷ [])
    ∷ integer 5 30 (0x1e ∷ [])
    ∷ integer 5 31 (0x1f ∷ 0x00 ∷ [])
    ∷ integer 5 1337 (0x1f ∷ 0x9a ∷ 0x0a ∷ [])
    -- "*increment 64 is 3f 01; *3f 02 is refused. *255 is written 3f c0 01"
    ∷ increment 64 (0x3f ∷ 0x01 ∷ [])
    ∷ refused_increment (0x3f ∷ 0x02 ∷ []) Overflow
    ∷ written_increment 255 (0x3f ∷ 0xc0 ∷ 0x01 ∷ [])
    -- "I 21, D 15: *relative 0 is position 5; *relative 5 is position 0"
    ∷ relative 21 15 0 5
    ∷ relative 21 15 5 0
    -- "base 17: *relative 0 is position 1; *post-base 3 is position 5; *post-base 4 refused"
    ∷ relative_to_base 21 15 17 0 1
    ∷ post_base 21 15 17 3 5
    ∷ refused_post_base 21 15 17 4 BadPostbaseIndex
    ∷ []
