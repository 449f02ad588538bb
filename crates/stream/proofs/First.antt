-- The first byte of what the head of a kind writes: it has the kind's form, and is in the kind's range. Assumes nothing.
use mathlib.Core.Path.{◌≡◌, sym, ◌∙◌}
use mathlib.Core.Bool.{Bool, true, false}
use Prim.Native.Nat.{ℕ, ◌*◌, ◌/◌, ◌%◌, ◌^◌, ◌≤◌, ◌<◌}
use native.Mathlib.Nat.{add-zero, div-add-mod'}
use native.Mathlib.Omega.{arith}
use lib.Bits.{bit_and, and_shr, and_mod, and_zero_r}
use lib.Dec.{T, eqb, eqb→eq}
use borrow.Author.Tests.{lt-ltb, le-ltb}
use Rattle.forms.specs.Forms.{form_of, head_of, encoder_kind, decoder_kind}
use Rattle.forms.specs.declared.DecoderInstruction.{DecoderInstruction}
use Rattle.forms.specs.declared.DecoderInstruction.TheVariants.{InsertCountIncrement, StreamCancel, HeaderAck}
use Rattle.forms.specs.declared.EncoderInstruction.{EncoderInstruction}
use Rattle.forms.specs.declared.EncoderInstruction.TheVariants.{Duplicate, DynamicTableSizeUpdate, InsertWithoutNameRef, InsertWithNameRef}
use Rattle.forms.specs.declared.Kind.{Kind}
use Rattle.forms.specs.declared.Kind.TheVariants.{Encoder, Decoder}
use Rattle.forms.proofs.Every.{every_kind}

-- a mask of the flags alone sees the flags alone
under_mask : (b m w : ℕ) → m % 2 ^ w ≡ 0 → bit_and b m ≡ bit_and (b / 2 ^ w) (m / 2 ^ w) * 2 ^ w
under_mask b m w low = sym (div-add-mod' (bit_and b m) (2 ^ w)) ∙ rw (and_shr, and_mod, low, and_zero_r, add-zero)

flags_masked : (k : Kind) → (form_of k).mask % 2 ^ (form_of k).width ≡ 0
flags_masked k = eqb→eq _ 0 (every_kind (λ k. eqb ((form_of k).mask % 2 ^ (form_of k).width) 0) tt k)

-- the head's flags have the kind's pattern
abbrev pub in_form : Kind → Bool → Bool
in_form k t = eqb (bit_and (head_of k t).flags ((form_of k).mask / 2 ^ (form_of k).width) * 2 ^ (form_of k).width) (form_of k).pattern

pub head_in_form : (k : Kind) → T (in_form k false)
head_in_form = every_kind (λ k. in_form k false) tt

pub t_in_form : (t : Bool) → T (in_form (Encoder InsertWithNameRef) t)
t_in_form true = tt
t_in_form false = tt

pub first_form : (k : Kind) (t : Bool) (b : ℕ) → T (in_form k t) → b / 2 ^ (form_of k).width ≡ (head_of k t).flags
    → bit_and b (form_of k).mask ≡ (form_of k).pattern
first_form k t b own flags = under_mask b (form_of k).mask (form_of k).width (flags_masked k) ∙ rw flags (eqb→eq _ _ own)

-- ---- the ranges of the first byte

module _ (b : ℕ) where
  pub first_name_ref : 128 ≤ b → encoder_kind b ≡ InsertWithNameRef
  first_name_ref h = rw (le-ltb b 32 (omega arith), le-ltb b 64 (omega arith), le-ltb b 128 h)

  pub first_literal : 64 ≤ b → b < 128 → encoder_kind b ≡ InsertWithoutNameRef
  first_literal h k = rw (le-ltb b 32 (omega arith), le-ltb b 64 h, lt-ltb b 128 k)

  pub encoder_first : (x : EncoderInstruction) → b / 2 ^ (form_of (Encoder x)).width ≡ (head_of (Encoder x) false).flags → encoder_kind b ≡ x
  encoder_first Duplicate h = rw (lt-ltb b 32 (omega arith))
  encoder_first DynamicTableSizeUpdate h = rw (le-ltb b 32 (omega arith), lt-ltb b 64 (omega arith))
  encoder_first InsertWithoutNameRef h = first_literal (omega arith) (omega arith)
  encoder_first InsertWithNameRef h = first_name_ref (omega arith)

  pub decoder_first : (x : DecoderInstruction) → b / 2 ^ (form_of (Decoder x)).width ≡ (head_of (Decoder x) false).flags → decoder_kind b ≡ x
  decoder_first InsertCountIncrement h = rw (lt-ltb b 64 (omega arith))
  decoder_first StreamCancel h = rw (le-ltb b 64 (omega arith), lt-ltb b 128 (omega arith))
  decoder_first HeaderAck h = rw (le-ltb b 64 (omega arith), le-ltb b 128 (omega arith))
