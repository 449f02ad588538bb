-- What a reader of one instruction found lies behind its start and inside the slice. Assumes nothing.
use mathlib.Core.Path.{◌≡◌, refl, subst, ◌∙◌}
use mathlib.Core.Bool.{Bool, true, false, cond}
use mathlib.Core.List.{List, [], ◌∷◌}
use mathlib.Core.Option.{some, none}
use Prim.Native.Nat.{ℕ, zero, suc, ◌+◌, ◌≤◌, ◌<◌}
use native.Mathlib.Omega.{arith}
use lib.ListN.{length, get_or}
use Rattle.answers.specs.Answer.{Answer, done, refused, ends_early, cut_short}
use Rattle.answers.specs.declared.Refusal.TheVariants.{Overflow, InvalidPrefix}
use Rattle.answers.proofs.Then.{then_done}
use Rattle.forms.specs.Forms.{form_of, has_form}
use Rattle.forms.specs.declared.EncoderInstruction.TheVariants.{InsertWithNameRef, InsertWithoutNameRef}
use Rattle.forms.specs.declared.Kind.{Kind}
use Rattle.forms.specs.declared.Kind.TheVariants.{Encoder}
use Rattle.forms.proofs.Every.{width_low, width_high}
use Rattle.prefix_int.specs.Integer.{int_at}
use Rattle.prefix_int.specs.declared.Integer.{Integer}
use Rattle.prefix_int.proofs.Bounds.{found}
use Rattle.prefix_int.proofs.Reading.{int_end}
use Rattle.shapes.specs.Shapes.{text_after, texts_at}
use Rattle.shapes.proofs.Bounds.{found_int_text, found_texts}
use Rattle.stream.specs.Instructions.{kind_int, past_limit, within_limit, integer_at, name_ref, name_ref_at, literal, literal_at}
use Rattle.stream.specs.declared.Literal.{Literal}
use Rattle.stream.specs.declared.NameRef.{NameRef}
use Rattle.stream.specs.declared.OneInteger.{OneInteger}

-- a cut answer that has a value is that value's
cut_some : {A : Type 0} (x : Answer A) (a : A) → cut_short x ≡ done (some a) → x ≡ done a
cut_some (done b) a h = let e : b ≡ a = cc in rw e
cut_some (refused r) a h = go (ends_early r) h
  where
    go : (b : Bool) → cond b (done none) (refused r) ≡ done (some a) → refused r ≡ done a
    go true h = let z : ◌≡◌ {A = ℕ} 0 1 = cc in absurd (omega arith)
    go false h = let z : ◌≡◌ {A = ℕ} 0 1 = cc in absurd (omega arith)

-- the first integer
kind_found : (s : List ℕ) (at : ℕ) (k : Kind) (i : Integer) → kind_int s at k ≡ done i → int_at s at (form_of k).width ≡ done i
unfolding kind_int
kind_found s at k i h =
    let p = then_done (int_at s at (form_of k).width) _ i h in
    p.1 ∙ go (has_form (form_of k) (get_or s at 0)) p.0 p.2
  where
    go : (b : Bool) (a : Integer) → cond b (done a) (refused InvalidPrefix) ≡ done i → done a ≡ done i
    go true a h = h
    go false a h = let z : ◌≡◌ {A = ℕ} 0 1 = cc in absurd (omega arith)

pub record Behind (s : List ℕ) (at next : ℕ) : Type 0 where
  pub past : at < next
  pub within : next ≤ length s

pub integer_behind : (s : List ℕ) (at : ℕ) (k : Kind) (r : OneInteger) → integer_at s at k ≡ done (some r) → Behind s at r.next
unfolding integer_at
integer_behind s at k r h =
    let p = then_done (kind_int s at k) (within_limit k) r (cut_some _ r h) in
    let f = found s at (form_of k).width p.0 (kind_found s at k p.0 p.1) in
    go (past_limit k p.0.value) p.0 f.past f.within p.2
  where
    go : (b : Bool) (i : Integer) → at < i.next → i.next ≤ length s
        → cond b (refused Overflow) (done (record { value = i.value; next = i.next })) ≡ done r → Behind s at r.next
    go true i a b h = let z : ◌≡◌ {A = ℕ} 0 1 = cc in absurd (omega arith)
    go false i a b h = let e : i.next ≡ r.next = cc in record { past = omega arith; within = omega arith }

-- past the end of a slice no byte stands
pub past_end : (s : List ℕ) (at : ℕ) → length s ≤ at → get_or s at 0 ≡ 0
past_end [] at h = refl
past_end (b ∷ s) zero h = absurd (omega arith)
past_end (b ∷ s) (suc at) h = past_end s at (omega arith)

-- at the end of the slice there is none
pub integer_over : (s : List ℕ) (at : ℕ) (k : Kind) → length s ≤ at → integer_at s at k ≡ done none
unfolding integer_at kind_int
integer_over s at k h =
    let low : 1 ≤ (form_of k).width = width_low k in
    let high : (form_of k).width ≤ 8 = omega (arith, width_high k) in
    rw (int_end s at (form_of k).width low high h)

-- an insert with a name reference
pub record FoundNameRef (s : List ℕ) (at : ℕ) (r : NameRef) : Type 0 where
  pub value : r.value + r.value_len ≤ length s
  pub behind : Behind s at r.next

pub name_ref_found : (s : List ℕ) (at : ℕ) (r : NameRef) → name_ref_at s at ≡ done (some r) → FoundNameRef s at r
unfolding name_ref_at
name_ref_found s at r h =
    let k = Encoder InsertWithNameRef in
    let p = then_done (text_after s (kind_int s at k)) (λ t. done (name_ref t)) r (cut_some _ r h) in
    let f = found_int_text s (kind_int s at k) p.0 p.1 in
    let g = found s at (form_of k).width f.integer (kind_found s at k f.integer f.given) in
    let e : name_ref p.0 ≡ r = let z = p.2 in cc in
    subst (FoundNameRef s at) e
    (record {
      value = omega (arith, f.next, f.within);
      behind = record { past = omega (arith, f.past, f.next, g.past); within = f.within };
    })

-- an insert with both strings
pub record FoundLiteral (s : List ℕ) (at : ℕ) (r : Literal) : Type 0 where
  pub name : r.name + r.name_len ≤ length s
  pub value : r.value + r.value_len ≤ length s
  pub behind : Behind s at r.next

pub literal_found : (s : List ℕ) (at : ℕ) (r : Literal) → literal_at s at ≡ done (some r) → FoundLiteral s at r
unfolding literal_at
literal_found s at r h =
    let w = (form_of (Encoder InsertWithoutNameRef)).width in
    let p = then_done (texts_at s at w) (λ t. done (literal t)) r (cut_some _ r h) in
    let f = found_texts s at w p.0 p.1 in
    let e : literal p.0 ≡ r = let z = p.2 in cc in
    subst (FoundLiteral s at) e
    (record {
      name = omega (arith, f.between, f.next, f.within);
      value = omega (arith, f.next, f.within);
      behind = record { past = omega (arith, f.past, f.between, f.next); within = f.within };
    })
