-- An answer of another row than 22, and that no reader of an instruction answers 22. Assumes nothing.
use mathlib.Core.Path.{◌≡◌}
use mathlib.Core.Bool.{Bool, true, false, cond}
use mathlib.Core.List.{List}
use mathlib.Core.Option.{Option, some, none}
use Prim.Native.Nat.{ℕ, ◌≤◌}
use native.Mathlib.Omega.{arith}
use lib.ListN.{get_or}
use Rattle.answers.specs.Answer.{Answer, done, refused, answer_number, and_then, ends_early, cut_short}
use Rattle.block.proofs.Rows.{value_row}
use Rattle.decoder_stream.specs.Reports.{report_at}
use Rattle.forms.specs.Forms.{form_of, has_form, decoder_kind, encoder_kind}
use Rattle.forms.specs.declared.EncoderInstruction.{EncoderInstruction}
use Rattle.forms.specs.declared.EncoderInstruction.TheVariants.{Duplicate, DynamicTableSizeUpdate, InsertWithoutNameRef, InsertWithNameRef}
use Rattle.forms.specs.declared.Kind.{Kind}
use Rattle.forms.specs.declared.Kind.TheVariants.{Encoder, Decoder}
use Rattle.forms.proofs.Every.{width_low, width_high}
use Rattle.instructions.specs.Instruction.{of_kind, instruction_at}
use Rattle.prefix_int.specs.Integer.{int_at}
use Rattle.prefix_int.proofs.Rows as rows
use Rattle.prefix_string.specs.Text.{text_at}
use Rattle.prefix_string.proofs.Rows.{text_row}
use Rattle.running.specs.Run.{found}
use Rattle.shapes.specs.Shapes.{value_width, text_after, texts_at}
use Rattle.stream.specs.Instructions.{kind_int, past_limit, within_limit, integer_at, name_ref_at, literal_at}

-- an answer of another row than 22
pub record Row {A : Type 0} (x : Answer A) : Type 0 where
  pub not_22 : answer_number x ≡ 22 → ⊥

pub said : {A : Type 0} (a : A) → Row (done a)
said a = record { not_22 = λ e. omega arith }

pub cond_row : {A : Type 0} (b : Bool) (x y : Answer A) → Row x → Row y → Row (cond b x y)
cond_row true x y p q = p
cond_row false x y p q = q

pub past_row : {A : Type 0} (b : Bool) (x y : Answer A) → b ≡ false → Row y → Row (cond b x y)
past_row b x y e p = rw e p

pub then_row : {A B : Type 0} (x : Answer A) (f : A → Answer B) → Row x → ((a : A) → Row (f a)) → Row (and_then x f)
then_row (done a) f p q = q a
then_row (refused r) f p q = record { not_22 = p.not_22 }

-- ---- the readers

-- a reader that refuses by 1, 2 or 3 alone
pub low_row : {A : Type 0} (x : Answer A) → answer_number x ≤ 3 → Row x
low_row x h = record { not_22 = λ e. omega arith }

pub int_row : (s : List ℕ) (at n : ℕ) → 1 ≤ n → n ≤ 8 → Row (int_at s at n)
int_row s at n low high = low_row (int_at s at n) (rows.int_row s at n low high)

after_row : (s : List ℕ) (at : ℕ) → Row (text_at s at value_width)
after_row s at = low_row (text_at s at value_width) (value_row s at)

cut_row : {A : Type 0} (x : Answer A) → Row x → Row (cut_short x)
cut_row (done a) p = said _
cut_row (refused r) p = cond_row (ends_early r) _ _ (said _) (record { not_22 = p.not_22 })

found_row : {A B : Type 0} (f : A → B) (x : Answer (Option A)) → Row x → Row (found f x)
found_row f (done (some a)) p = said _
found_row f (done none) p = said _
found_row f (refused r) p = record { not_22 = p.not_22 }

module _ (s : List ℕ) (at : ℕ) where
  kind_row : (k : Kind) → Row (kind_int s at k)
  unfolding kind_int
  kind_row k =
      then_row (int_at s at (form_of k).width) _ (int_row s at (form_of k).width (width_low k) (omega (arith, width_high k)))
      (λ i. cond_row (has_form (form_of k) (get_or s at 0)) _ _ (said _) (record { not_22 = λ e. omega arith }))

  integer_row : (k : Kind) → Row (integer_at s at k)
  unfolding integer_at
  integer_row k =
      cut_row _ (then_row (kind_int s at k) (within_limit k) (kind_row k)
      (λ i. cond_row (past_limit k i.value) _ _ (record { not_22 = λ e. omega arith }) (said _)))

  name_ref_row : Row (name_ref_at s at)
  unfolding name_ref_at text_after
  name_ref_row =
      cut_row _ (then_row _ _
      (then_row (kind_int s at (Encoder InsertWithNameRef)) _ (kind_row (Encoder InsertWithNameRef))
      (λ i. then_row (text_at s i.next value_width) _ (after_row s i.next) (λ t. said _)))
      (λ t. said _))

  literal_row : Row (literal_at s at)
  unfolding literal_at texts_at
  literal_row =
      cut_row _ (then_row _ _
      (then_row (text_at s at 5) _ (low_row (text_at s at 5) (text_row s at 5 (omega arith) (omega arith)))
      (λ a. then_row (text_at s a.next value_width) _ (after_row s a.next) (λ t. said _)))
      (λ t. said _))

  pub instruction_row : Row (instruction_at s at)
  unfolding instruction_at of_kind
  instruction_row = go (encoder_kind (get_or s at 0))
    where
      go : (k : EncoderInstruction) → Row (of_kind s at k)
      go Duplicate = found_row _ _ (integer_row (Encoder Duplicate))
      go DynamicTableSizeUpdate = found_row _ _ (integer_row (Encoder DynamicTableSizeUpdate))
      go InsertWithoutNameRef = found_row _ _ literal_row
      go InsertWithNameRef = found_row _ _ name_ref_row

  pub report_row : Row (report_at s at)
  unfolding report_at
  report_row = found_row _ _ (integer_row (Decoder (decoder_kind (get_or s at 0))))
