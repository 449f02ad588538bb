-- 26 is answered exactly when the integer was read and the first byte has another form. Assumes nothing.
use mathlib.Core.Path.{◌≡◌, refl, ap, ◌∙◌}
use mathlib.Core.Bool.{Bool, true, false, cond}
use mathlib.Core.List.{List}
use Prim.Native.Nat.{ℕ}
use native.Mathlib.Omega.{arith}
use lib.ListN.{get_or}
use Rattle.answers.specs.Answer.{Answer, done, refused, answer_number, and_then}
use Rattle.answers.specs.declared.Refusal.TheVariants.{InvalidPrefix}
use Rattle.forms.specs.Forms.{form_of, has_form}
use Rattle.forms.specs.declared.Kind.{Kind}
use Rattle.prefix_int.specs.Integer.{int_at}
use Rattle.prefix_int.specs.declared.Integer.{Integer}
use Rattle.prefix_int.proofs.Rows.{int_not_26}
use Rattle.stream.specs.Instructions.{kind_int}

-- ---- the first integer of an instruction of a kind

-- another kind: the integer is whole, and the first byte does not have the kind's form
pub record OtherKind (s : List ℕ) (at : ℕ) (k : Kind) : Type 0 where
  pub integer : Integer
  pub read : int_at s at (form_of k).width ≡ done integer
  pub form : has_form (form_of k) (get_or s at 0) ≡ false

module _ (s : List ℕ) (at : ℕ) (k : Kind) where
  pub other_kind : OtherKind s at k → kind_int s at k ≡ refused InvalidPrefix
  unfolding kind_int
  other_kind o = rw (o.read, o.form)

  pub told_other_kind : kind_int s at k ≡ refused InvalidPrefix → OtherKind s at k
  unfolding kind_int
  told_other_kind h = go (int_at s at (form_of k).width) (has_form (form_of k) (get_or s at 0)) refl refl h
    where
      go : (a : Answer Integer) (b : Bool) → int_at s at (form_of k).width ≡ a → has_form (form_of k) (get_or s at 0) ≡ b
          → and_then a (λ i. cond b (done i) (refused InvalidPrefix)) ≡ refused InvalidPrefix → OtherKind s at k
      go (done i) true p q h = let z : ◌≡◌ {A = ℕ} 0 1 = cc in absurd (omega arith)
      go (done i) false p q h = record { integer = i; read = p; form = q }
      go (refused r) b p q h = absurd (omega (arith, int_not_26 s at (form_of k).width, ap answer_number (p ∙ h)))
