-- Reading an instruction that the writer wrote gives back what was written, where the strings stand, and its kind. Assumes nothing.
use mathlib.Core.Path.{◌≡◌, refl, sym, ap, ◌∙◌}
use mathlib.Core.Bool.{Bool, true, false}
use mathlib.Core.List.{List}
use mathlib.Core.Option.{some}
use Prim.Native.Nat.{ℕ, ◌/◌, ◌%◌, ◌^◌, ◌<◌}
use native.Mathlib.Omega.{arith}
use lib.Dec.{T, eqb}
use lib.ListN.{length, get_or, take, drop}
use borrow.Author.Tests.{lt-ltb}
use Rattle.answers.specs.Answer.{done, refused, and_then}
use Rattle.answers.specs.Write.{fitted, left}
use Rattle.answers.specs.declared.Refusal.TheVariants.{Overflow}
use Rattle.answers.proofs.Cut.{cut_whole, cut_past}
use Rattle.forms.specs.Forms.{form_of, head_of, encoder_kind, decoder_kind}
use Rattle.forms.specs.declared.DecoderInstruction.{DecoderInstruction}
use Rattle.forms.specs.declared.DecoderInstruction.TheVariants.{InsertCountIncrement}
use Rattle.forms.specs.declared.EncoderInstruction.{EncoderInstruction}
use Rattle.forms.specs.declared.EncoderInstruction.TheVariants.{InsertWithNameRef, InsertWithoutNameRef}
use Rattle.forms.specs.declared.Kind.{Kind}
use Rattle.forms.specs.declared.Kind.TheVariants.{Encoder, Decoder}
use Rattle.prefix_int.specs.Integer.{int_at}
use Rattle.prefix_int.specs.declared.Integer.{Integer}
use Rattle.prefix_int.proofs.Bounds.{found}
use Rattle.prefix_int.proofs.RoundTrip.{round_trip}
use Rattle.shapes.specs.Shapes.{text_after, texts_at}
use Rattle.shapes.specs.declared.TwoTexts.{TwoTexts}
use Rattle.shapes.specs.declared.IntText.{IntText}
use Rattle.shapes.proofs.Bounds.{found_int_text, found_texts}
use Rattle.shapes.proofs.RoundTrip.{int_text_round_trip, texts_round_trip}
use Rattle.stream.specs.Instructions.{
  kind_int,
  increment_limit,
  past_limit,
  within_limit,
  integer_at,
  integer_bytes,
  name_ref,
  name_ref_at,
  name_ref_bytes,
  literal,
  literal_at,
  literal_bytes,
}
use Rattle.stream.proofs.First.{in_form, head_in_form, t_in_form, first_form, first_name_ref, first_literal, encoder_first, decoder_first}
use Rattle.stream_parts.proofs.Reading.{kind_same}

-- the first integer of an instruction, whose flags are those of the kind's head
module _ (s : List ℕ) (at : ℕ) (k : Kind) (t : Bool) (i : Integer) (read : int_at s at (form_of k).width ≡ done i)
    (flags : i.flags ≡ (head_of k t).flags) where
  first_flags : get_or s at 0 / 2 ^ (form_of k).width ≡ (head_of k t).flags
  first_flags = sym (found s at (form_of k).width i read).flags ∙ flags

  kind_there : T (in_form k t) → kind_int s at k ≡ done i
  kind_there own = sym (kind_same s at k (form_of k) refl i read (first_form k t (get_or s at 0) own first_flags))

-- ---- an instruction that is one integer: what the writer says yes to, and the buffer that it left

module _ (l : List ℕ) (at : ℕ) (k : Kind) (v e : ℕ) (h : and_then (integer_bytes k v) (fitted l at) ≡ done e) where
  int_there : int_at (left (integer_bytes k v) l at) at (form_of k).width ≡ done (record { flags = (head_of k false).flags; value = v; next = e })
  unfolding integer_bytes
  int_there = round_trip l at (head_of k false).width (head_of k false).flags v e h

  one_int : kind_int (left (integer_bytes k v) l at) at k ≡ done (record { flags = (head_of k false).flags; value = v; next = e })
  one_int = kind_there (left (integer_bytes k v) l at) at k false _ int_there refl (head_in_form k)

  above_prefix : get_or (left (integer_bytes k v) l at) at 0 / 2 ^ (form_of k).width ≡ (head_of k false).flags
  above_prefix = first_flags (left (integer_bytes k v) l at) at k false _ int_there refl

  pub integer_round_trip : past_limit k v ≡ false
      → integer_at (left (integer_bytes k v) l at) at k ≡ done (some (record { value = v; next = e }))
  unfolding integer_at
  integer_round_trip within = sym (cut_whole (kind_int (left (integer_bytes k v) l at) at k) (within_limit k) _ _ one_int (rw within))

  -- a writer writes what is past the limit, and a reader refuses it
  pub integer_past : past_limit k v ≡ true → integer_at (left (integer_bytes k v) l at) at k ≡ refused Overflow
  unfolding integer_at
  integer_past past = sym (cut_past (kind_int (left (integer_bytes k v) l at) at k) (within_limit k) _ _ one_int (rw past) refl)

pub increment_past : (l : List ℕ) (at v e : ℕ) → increment_limit < v
    → and_then (integer_bytes (Decoder InsertCountIncrement) v) (fitted l at) ≡ done e
    → integer_at (left (integer_bytes (Decoder InsertCountIncrement) v) l at) at (Decoder InsertCountIncrement) ≡ refused Overflow
increment_past l at v e past h = integer_past l at (Decoder InsertCountIncrement) v e h (lt-ltb increment_limit v past)

-- its first byte is of its kind
pub encoder_integer_kind : (l : List ℕ) (at : ℕ) (x : EncoderInstruction) (v e : ℕ) → and_then (integer_bytes (Encoder x) v) (fitted l at) ≡ done e
    → encoder_kind (get_or (left (integer_bytes (Encoder x) v) l at) at 0) ≡ x
encoder_integer_kind l at x v e h = encoder_first _ x (above_prefix l at (Encoder x) v e h)

pub decoder_integer_kind : (l : List ℕ) (at : ℕ) (x : DecoderInstruction) (v e : ℕ) → and_then (integer_bytes (Decoder x) v) (fitted l at) ≡ done e
    → decoder_kind (get_or (left (integer_bytes (Decoder x) v) l at) at 0) ≡ x
decoder_integer_kind l at x v e h = decoder_first _ x (above_prefix l at (Decoder x) v e h)

-- ---- an insert with a name reference

pub record NameRefStands (s : List ℕ) (at : ℕ) (t : Bool) (i : ℕ) (v : List ℕ) (e : ℕ) : Type 0 where
  pub start : ℕ
  pub read : name_ref_at s at ≡ done (some (record { is_static = t; index = i; value = start; value_len = length v; next = e }))
  pub value : take (length v) (drop start s) ≡ v
  pub kind : encoder_kind (get_or s at 0) ≡ InsertWithNameRef

t_read : (t : Bool) → eqb ((head_of (Encoder InsertWithNameRef) t).flags % 2) 1 ≡ t
t_read true = refl
t_read false = refl

pub name_ref_round_trip : (l : List ℕ) (at : ℕ) (t : Bool) (i : ℕ) (v : List ℕ) (e : ℕ) → length v < 2 ^ 63
    → and_then (name_ref_bytes t i v) (fitted l at) ≡ done e → NameRefStands (left (name_ref_bytes t i v) l at) at t i v e
unfolding name_ref_bytes name_ref_at
name_ref_round_trip l at t i v e small h =
    let k = Encoder InsertWithNameRef in
    let s = left (name_ref_bytes t i v) l at in
    let w = int_text_round_trip l at (head_of k t).width (head_of k t).flags i v e small h in
    let f = found_int_text s (int_at s at (form_of k).width) _ w.read in
    let kind = kind_there s at k t f.integer f.given (sym f.flags) (t_in_form t) in
    let first = first_flags s at k t f.integer f.given (sym f.flags) in
    record {
      start = w.start;
      read =
          sym (cut_whole (text_after s (kind_int s at k)) (λ (x : IntText). done (name_ref x)) _ _ (ap (text_after s) (kind ∙ sym f.given) ∙ w.read) (rw (t_read t)));
      value = w.value;
      kind = first_name_ref (get_or s at 0) (omega arith);
    }

-- ---- an insert with both strings

pub record LiteralStands (s : List ℕ) (at : ℕ) (n v : List ℕ) (e : ℕ) : Type 0 where
  pub name : ℕ
  pub value : ℕ
  pub read : literal_at s at
      ≡ done (some (record { name = name; name_len = length n; value = value; value_len = length v; next = e }))
  pub name_bytes : take (length n) (drop name s) ≡ n
  pub value_bytes_lem : take (length v) (drop value s) ≡ v
  pub kind : encoder_kind (get_or s at 0) ≡ InsertWithoutNameRef

pub literal_round_trip : (l : List ℕ) (at : ℕ) (n v : List ℕ) (e : ℕ) → length n < 2 ^ 63 → length v < 2 ^ 63
    → and_then (literal_bytes n v) (fitted l at) ≡ done e → LiteralStands (left (literal_bytes n v) l at) at n v e
unfolding literal_bytes literal_at
literal_round_trip l at n v e small-name small h =
    let k = Encoder InsertWithoutNameRef in
    let s = left (literal_bytes n v) l at in
    let w = texts_round_trip l at (head_of k false).width ((head_of k false).flags / 2) n v e small-name small h in
    let first : get_or s at 0 / 32 / 2 ≡ 1 = sym (found_texts s at (form_of k).width _ w.read).flags in
    record {
      name = w.name;
      value = w.value;
      read = sym (cut_whole (texts_at s at (form_of k).width) (λ (x : TwoTexts). done (literal x)) _ _ w.read refl);
      name_bytes = w.name_bytes;
      value_bytes_lem = w.value_bytes_lem;
      kind = first_literal (get_or s at 0) (omega arith) (omega arith);
    }
