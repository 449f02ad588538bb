-- The first integer of an instruction of a kind, case by case. Assumes nothing.
use mathlib.Core.Path.{◌≡◌}
use mathlib.Core.List.{List}
use Prim.Native.Nat.{ℕ}
use lib.Bits.{bit_and}
use lib.ListN.{get_or}
use borrow.Author.Tests.{eq-eqb, ne_eqb}
use Rattle.answers.specs.Answer.{done, refused}
use Rattle.answers.specs.declared.Refusal.{Refusal}
use Rattle.answers.specs.declared.Refusal.TheVariants.{InvalidPrefix}
use Rattle.forms.specs.Forms.{form_of}
use Rattle.forms.specs.declared.Form.{Form}
use Rattle.forms.specs.declared.Kind.{Kind}
use Rattle.prefix_int.specs.Integer.{int_at}
use Rattle.prefix_int.specs.declared.Integer.{Integer}
use Rattle.stream_parts.specs.Parts.{kind_int}

module _ (s : List ℕ) (at : ℕ) (k : Kind) (f : Form) (ef : f ≡ form_of k) where
  pub kind_refused : (r : Refusal) → int_at s at f.width ≡ refused r → refused r ≡ kind_int s at k
  unfolding kind_int
  kind_refused r h = let e : int_at s at (form_of k).width ≡ refused r = rw ef at h in rw e

  module _ (i : Integer) (h : int_at s at f.width ≡ done i) where
    read : int_at s at (form_of k).width ≡ done i
    read = rw ef at h

    pub kind_same : bit_and (get_or s at 0) f.mask ≡ f.pattern → done i ≡ kind_int s at k
    unfolding kind_int
    kind_same m = let e : bit_and (get_or s at 0) (form_of k).mask ≡ (form_of k).pattern = rw ef at m in rw (read, eq-eqb _ _ e)

    pub kind_other : (bit_and (get_or s at 0) f.mask ≡ f.pattern → ⊥) → refused InvalidPrefix ≡ kind_int s at k
    unfolding kind_int
    kind_other m =
        let e : bit_and (get_or s at 0) (form_of k).mask ≡ (form_of k).pattern → ⊥ = rw ef at m in
        rw (read, ne_eqb _ _ e)
