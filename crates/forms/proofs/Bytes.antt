-- The ranges of the first byte and the table of patterns say the same, of each byte and each kind of a stream. Assumes nothing.
use mathlib.Core.Path.{◌≡◌, refl, subst, ◌∙◌}
use mathlib.Core.Bool.{Bool, true, false, beq}
use mathlib.Core.List.{List, [], ◌∷◌}
use Prim.Native.Nat.{ℕ, zero, suc, ◌+◌, ◌<◌}
use native.Mathlib.Nat.{zero-add}
use native.Mathlib.Omega.{arith}
use lib.Dec.{T, eqb}
use lib.ListN.{length, get_or}
use Rattle.forms.specs.Forms.{form_of, row_of, has_form, encoder_kind, decoder_kind, line_kind}
use Rattle.forms.specs.declared.EncoderInstruction.TheVariants.{Duplicate, DynamicTableSizeUpdate, InsertWithoutNameRef, InsertWithNameRef}
use Rattle.forms.specs.declared.DecoderInstruction.TheVariants.{InsertCountIncrement, StreamCancel, HeaderAck}
use Rattle.forms.specs.declared.HeaderBlockField.TheVariants.{LiteralWithPostBaseNameRef, IndexedWithPostBase, Literal, LiteralWithNameRef, Indexed}
use Rattle.forms.specs.declared.Kind.{Kind}
use Rattle.forms.specs.declared.Kind.TheVariants.{Encoder, Decoder, Line}
use Rattle.forms.proofs.Every.{all, all_at}

-- from, from + 1, .., n numbers in all
abbrev numbers_from : ℕ → ℕ → List ℕ
numbers_from zero from = []
numbers_from (suc n) from = from ∷ numbers_from n (suc from)

nth : (n from i : ℕ) → i < n → get_or (numbers_from n from) i 0 ≡ from + i
nth zero from i h = absurd (omega arith)
nth (suc n) from zero h = omega arith
nth (suc n) from (suc i) h = let r : get_or (numbers_from n (suc from)) i 0 ≡ suc from + i = nth n (suc from) i (omega arith) in omega arith

long : (n from : ℕ) → length (numbers_from n from) ≡ n
long zero from = refl
long (suc n) from = let r : length (numbers_from n (suc from)) ≡ n = long n (suc from) in omega arith

abbrev first : Kind
first = Encoder Duplicate

-- a byte has a kind's form exactly when the kind is the one of its range
abbrev agrees : (ℕ → Kind) → List Kind → ℕ → Bool
agrees kind_of ks b = all (λ k. beq (has_form (form_of k) b) (eqb (row_of k) (row_of (kind_of b)))) ks

module _ (kind_of : ℕ → Kind) (ks : List Kind) (t : T (all (agrees kind_of ks) (numbers_from 256 0))) where
  rule : (b i : ℕ) → b < 256 → i < length ks
      → T (beq (has_form (form_of (get_or ks i first)) b) (eqb (row_of (get_or ks i first)) (row_of (kind_of b))))
  rule b i hb hi =
      let here : T (agrees kind_of ks (get_or (numbers_from 256 0) b 0)) =
      all_at (agrees kind_of ks) (numbers_from 256 0) 0 t b (rw (long 256 0) hb) in
      let same : get_or (numbers_from 256 0) b 0 ≡ b = nth 256 0 b hb ∙ zero-add b in
      all_at (λ k. beq (has_form (form_of k) b) (eqb (row_of k) (row_of (kind_of b)))) ks first (subst (λ (x : ℕ). T (agrees kind_of ks x)) same here) i hi

abbrev pub encoder_kinds : List Kind
encoder_kinds = Encoder Duplicate ∷ Encoder DynamicTableSizeUpdate ∷ Encoder InsertWithoutNameRef ∷ Encoder InsertWithNameRef ∷ []

abbrev pub decoder_kinds : List Kind
decoder_kinds = Decoder InsertCountIncrement ∷ Decoder StreamCancel ∷ Decoder HeaderAck ∷ []

abbrev pub line_kinds : List Kind
line_kinds = Line LiteralWithPostBaseNameRef ∷ Line IndexedWithPostBase ∷ Line Literal ∷ Line LiteralWithNameRef ∷ Line Indexed ∷ []

beq_eq : (a b : Bool) → T (beq a b) → a ≡ b
beq_eq true true t = refl
beq_eq true false t = absurd t
beq_eq false true t = absurd t
beq_eq false false t = refl

module _ (b i : ℕ) (byte : b < 256) where
  pub encoder_agrees : i < 4 → has_form (form_of (get_or encoder_kinds i first)) b ≡ eqb (row_of (get_or encoder_kinds i first)) (row_of (Encoder (encoder_kind b)))
  encoder_agrees h = beq_eq _ _ (rule (λ b. Encoder (encoder_kind b)) encoder_kinds tt b i byte h)

  pub decoder_agrees : i < 3 → has_form (form_of (get_or decoder_kinds i first)) b ≡ eqb (row_of (get_or decoder_kinds i first)) (row_of (Decoder (decoder_kind b)))
  decoder_agrees h = beq_eq _ _ (rule (λ b. Decoder (decoder_kind b)) decoder_kinds tt b i byte h)

  pub line_agrees : i < 5 → has_form (form_of (get_or line_kinds i first)) b ≡ eqb (row_of (get_or line_kinds i first)) (row_of (Line (line_kind b)))
  line_agrees h = beq_eq _ _ (rule (λ b. Line (line_kind b)) line_kinds tt b i byte h)
