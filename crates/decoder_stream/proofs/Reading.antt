-- The report at a position, case by case, and that it ends past its start and within the slice. Assumes nothing.
use mathlib.Core.Path.{◌≡◌, refl, ap}
use mathlib.Core.List.{List}
use mathlib.Core.Option.{Option, some, none}
use Prim.Native.Nat.{ℕ, ◌≤◌}
use native.Mathlib.Omega.{arith}
use lib.ListN.{length, get_or}
use Rattle.answers.specs.Answer.{Answer, done, refused}
use Rattle.answers.specs.declared.Refusal.{Refusal}
use Rattle.forms.specs.Forms.{decoder_kind}
use Rattle.forms.specs.declared.DecoderInstruction.{DecoderInstruction}
use Rattle.forms.specs.declared.Kind.TheVariants.{Decoder}
use Rattle.running.specs.Run.{Whole, found}
use Rattle.stream.specs.Instructions.{integer_at}
use Rattle.stream.specs.declared.OneInteger.{OneInteger}
use Rattle.stream.proofs.Found.{Behind, integer_behind, integer_over}
use Rattle.decoder_stream.specs.Reports.{Report, report_of, report_at}

-- ---- what the reader of one integer found

module _ (s : List ℕ) (at : ℕ) where
  module _ (k : DecoderInstruction) (own : k ≡ decoder_kind (get_or s at 0)) where
    pub report_cut : integer_at s at (Decoder k) ≡ done none → done none ≡ report_at s at
    unfolding report_at
    report_cut h = rw (← own, h)

    pub report_refused : (r : Refusal) → integer_at s at (Decoder k) ≡ refused r → refused r ≡ report_at s at
    unfolding report_at
    report_refused r h = rw (← own, h)

    pub report_whole : (d : DecoderInstruction) (i : OneInteger) → k ≡ d → integer_at s at (Decoder k) ≡ done (some i)
        → done (some (record { instruction = report_of d i.value; next = i.next })) ≡ report_at s at
    unfolding report_at
    report_whole d i same h = rw (← own, h, same)

  -- no byte is left
  pub report_past : length s ≤ at → done none ≡ report_at s at
  report_past h = report_cut (decoder_kind (get_or s at 0)) refl (integer_over s at (Decoder (decoder_kind (get_or s at 0))) h)

-- ---- where a report ends

found_whole : {A B : Type 0} (f : A → B) (x : Answer (Option A)) (b : B) → found f x ≡ done (some b) → (a : A) × (x ≡ done (some a)) × (f a ≡ b)
found_whole f (done (some a)) b h = (a, refl, cc)
found_whole f (done none) b h = let z : ◌≡◌ {A = ℕ} 0 1 = cc in absurd (omega arith)
found_whole f (refused r) b h = let z : ◌≡◌ {A = ℕ} 0 1 = cc in absurd (omega arith)

module _ (s : List ℕ) (at : ℕ) where
  pub report_bounded : (w : Whole Report) → report_at s at ≡ done (some w) → Behind s at w.next
  unfolding report_at
  report_bounded w h =
      let k = decoder_kind (get_or s at 0) in
      let i = found_whole (λ (i : OneInteger). record { instruction = report_of k i.value; next = i.next }) (integer_at s at (Decoder k)) w h in
      let b = integer_behind s at (Decoder k) i.0 i.1 in
      let last : i.0.next ≡ w.next = ap (λ (j : Whole Report). j.next) i.2 in
      record { past = omega (arith, b.past); within = omega (arith, b.within) }
