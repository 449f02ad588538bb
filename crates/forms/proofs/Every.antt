-- A rule of every kind, by one test over the twelve; each width is within 1 to 7. Assumes nothing.
use mathlib.Core.Path.{◌≡◌, refl, subst}
use mathlib.Core.Bool.{Bool, true, false, ◌&&◌}
use mathlib.Core.List.{List, [], ◌∷◌}
use Prim.Native.Nat.{ℕ, zero, suc, ◌/◌, ◌^◌, ◌≤◌, ◌<◌}
use native.Mathlib.Omega.{arith}
use lib.Dec.{T, leb, leb→le}
use lib.ListN.{length, get_or}
use Rattle.forms.specs.Forms.{form_of, row_of}
use Rattle.forms.specs.declared.EncoderInstruction.TheVariants.{Duplicate, DynamicTableSizeUpdate, InsertWithoutNameRef, InsertWithNameRef}
use Rattle.forms.specs.declared.DecoderInstruction.TheVariants.{InsertCountIncrement, StreamCancel, HeaderAck}
use Rattle.forms.specs.declared.HeaderBlockField.TheVariants.{LiteralWithPostBaseNameRef, IndexedWithPostBase, Literal, LiteralWithNameRef, Indexed}
use Rattle.forms.specs.declared.Kind.{Kind}
use Rattle.forms.specs.declared.Kind.TheVariants.{Encoder, Decoder, Line}

both : (a b : Bool) → T (a && b) → T a × T b
both true b t = (tt, t)
both false b t = absurd t

module _ {A : Type 0} where
  abbrev pub all : (A → Bool) → List A → Bool
  all test [] = true
  all test (x ∷ l) = test x && all test l

  pub all_at : (test : A → Bool) (l : List A) (d : A) → T (all test l) → (i : ℕ) → i < length l → T (test (get_or l i d))
  all_at test [] d t i h = absurd (omega arith)
  all_at test (x ∷ l) d t zero h = (both (test x) (all test l) t).0
  all_at test (x ∷ l) d t (suc i) h = all_at test l d (both (test x) (all test l) t).1 i (omega arith)

abbrev pub kinds : List Kind
kinds = Encoder Duplicate ∷ Encoder DynamicTableSizeUpdate ∷ Encoder InsertWithoutNameRef ∷ Encoder InsertWithNameRef ∷ Decoder InsertCountIncrement ∷ Decoder StreamCancel ∷ Decoder HeaderAck ∷ Line LiteralWithPostBaseNameRef ∷ Line IndexedWithPostBase ∷ Line Literal ∷ Line LiteralWithNameRef ∷ Line Indexed ∷ []

place : (k : Kind) → (row_of k < length kinds) × (get_or kinds (row_of k) (Encoder Duplicate) ≡ k)
place (Encoder Duplicate) = (omega arith, refl)
place (Encoder DynamicTableSizeUpdate) = (omega arith, refl)
place (Encoder InsertWithoutNameRef) = (omega arith, refl)
place (Encoder InsertWithNameRef) = (omega arith, refl)
place (Decoder InsertCountIncrement) = (omega arith, refl)
place (Decoder StreamCancel) = (omega arith, refl)
place (Decoder HeaderAck) = (omega arith, refl)
place (Line LiteralWithPostBaseNameRef) = (omega arith, refl)
place (Line IndexedWithPostBase) = (omega arith, refl)
place (Line Literal) = (omega arith, refl)
place (Line LiteralWithNameRef) = (omega arith, refl)
place (Line Indexed) = (omega arith, refl)

-- what a test finds of each of the twelve holds of every kind
pub every_kind : (test : Kind → Bool) → T (all test kinds) → (k : Kind) → T (test k)
every_kind test t k = subst (λ (x : Kind). T (test x)) (place k).1 (all_at test kinds (Encoder Duplicate) t (row_of k) (place k).0)

pub width_low : (k : Kind) → 1 ≤ (form_of k).width
width_low k = leb→le 1 (form_of k).width (every_kind (λ k. leb 1 (form_of k).width) tt k)

pub width_high : (k : Kind) → (form_of k).width ≤ 7
width_high k = leb→le (form_of k).width 7 (every_kind (λ k. leb (form_of k).width 7) tt k)

pub flags_high : (k : Kind) → (form_of k).pattern / 2 ^ (form_of k).width ≤ 4
flags_high k = leb→le _ 4 (every_kind (λ k. leb ((form_of k).pattern / 2 ^ (form_of k).width) 4) tt k)
