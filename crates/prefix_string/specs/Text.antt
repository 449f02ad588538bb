-- The specification, "Plain strings: H bit, length, bytes. H set is refused once its byte is seen, before the length." (RFC 7541 5.2)
use Rattle.std.specs.Prelude.{cond, List, ℕ, ◌+◌, ◌-◌, ◌/◌, ◌%◌, ◌^◌, ltb, leb, eqb, length, get_or}
use Rattle.answers.specs.Answer.{Answer, done, refused, and_then}
use Rattle.answers.specs.declared.Refusal.TheVariants.{UnexpectedEnd, HuffmanString, BadCall}
use Rattle.prefix_int.specs.Integer.{int_at}
use Rattle.prefix_int.specs.declared.Integer.{Integer}
-- a string that was read: the bits above H, where its bytes start, how many there are, and the position past them
use Rattle.prefix_string.specs.declared.Text.{Text}
-- the bytes of a string
pub use Rattle.text_writing.specs.Plain.{good_text, plain, text_bytes, text_size}

-- the bit above a prefix of n bits
abbrev pub h_bit : ℕ → ℕ → ℕ
h_bit n b = b / 2 ^ n % 2

-- the bytes after a length
abbrev pub bytes_after : List ℕ → Integer → Answer Text
bytes_after s i =
    cond (ltb (length s - i.next) i.value)
    (refused UnexpectedEnd)
    (done (record { flags = i.flags / 2; start = i.next; len = i.value; next = i.next + i.value }))

-- with H above it, a length's prefix has 1 to 7 bits
unfoldable pub text_at : List ℕ → ℕ → ℕ → Answer Text
text_at s at n =
    cond (good_text n 0)
    (cond (leb (length s) at)
    (refused UnexpectedEnd)
    (cond (eqb (h_bit n (get_or s at 0)) 1) (refused HuffmanString) (and_then (int_at s at n) (bytes_after s))))
    (refused BadCall)
