-- What a read tells: where it ends, its flags, how large its value is, and that our own spelling of that value is no longer. Assumes nothing.
use mathlib.Core.Path.{◌≡◌, refl, ◌∙◌, subst}
use mathlib.Core.Bool.{Bool, true, false, cond}
use mathlib.Core.List.{List, [], ◌∷◌}
use Prim.Native.Nat.{ℕ, zero, suc, ◌+◌, ◌-◌, ◌*◌, ◌/◌, ◌%◌, ◌^◌, ◌≤◌, ◌<◌}
use native.Mathlib.Nat.{add-zero, mul-one, pow-suc, pow-le-pow_right}
use native.Mathlib.Omega.{arith}
use lib.Dec.{lit<, ltb}
use lib.ListN.{length, get_or, drop, length-drop}
use lib.Pow.{pow-add, pow_mono, pow_pos}
use lib.Seq.{get_or-drop}
use borrow.Author.Tests.{ltb-true, ltb-false}
use Rattle.answers.specs.Answer.{done, refused}
use Rattle.answers.specs.declared.Refusal.TheVariants.{BadCall}
use Rattle.int_writing.proofs.Writing.{call_good, length_short, length_long}
use Rattle.prefix_int.specs.Integer.{good_call, groups, int_from, int_at, spell, encode}
use Rattle.prefix_int.specs.declared.Integer.{Integer}
use Rattle.prefix_int.proofs.Reading.{digit_add}

same_done : {A : Type 0} (a b : A) → done a ≡ done b → a ≡ b
same_done a b h = cc

-- groups that were read: used of them before the last, which spell rest from the weight 2 ^ m on
record Grouped (k : ℕ) (s : List ℕ) (f at m i : ℕ) (r : Integer) : Type 0 where
  flags : r.flags ≡ f
  used : ℕ
  few : used < k
  within : used < length s
  next : r.next ≡ at + suc used
  rest : ℕ
  below : rest < 128 ^ used * 128
  value : r.value ≡ i + rest * 2 ^ m

grouped : (k : ℕ) (s : List ℕ) (f at m i : ℕ) (r : Integer) → groups k s f at m i ≡ done r → Grouped k s f at m i r
unfolding groups
grouped zero s f at m i r h = let z : ◌≡◌ {A = ℕ} 0 1 = cc in absurd (omega arith)
grouped (suc k) [] f at m i r h = let z : ◌≡◌ {A = ℕ} 0 1 = cc in absurd (omega arith)
grouped (suc k) (b ∷ s) f at m i r h = go (ltb b 128) refl h (grouped k s f (at + 1) (m + 7) (i + b % 128 * 2 ^ m) r)
  where
    last : Integer
    last = record { flags = f; value = i + b * 2 ^ m; next = at + 1 }

    go : (t : Bool) → ltb b 128 ≡ t → cond t (done last) (groups k s f (at + 1) (m + 7) (i + b % 128 * 2 ^ m)) ≡ done r
        → (groups k s f (at + 1) (m + 7) (i + b % 128 * 2 ^ m) ≡ done r → Grouped k s f (at + 1) (m + 7) (i + b % 128 * 2 ^ m) r)
        → Grouped (suc k) (b ∷ s) f at m i r
    go true e h ih = subst (Grouped (suc k) (b ∷ s) f at m i) (same_done last r h) (
        record {
          flags = refl;
          used = 0;
          few = omega arith;
          within = omega arith;
          next = refl;
          rest = b;
          below = ltb-true b 128 e;
          value = refl;
        })
    go false e h ih =
        let g = ih h in
        let above : b % 128 * 2 ^ m + g.rest * 2 ^ (m + 7) ≡ (b % 128 + g.rest * 128) * 2 ^ m =
        rw (pow-add 2 m 7) (digit_add (b % 128) g.rest (2 ^ m)) in
        record {
          flags = g.flags;
          used = suc g.used;
          few = omega arith;
          within = omega arith;
          next = omega arith;
          rest = b % 128 + g.rest * 128;
          below = omega (arith, pow-suc 128 g.used);
          value = omega arith;
        }

-- an integer takes ten octets at the most
pub encode_most : (n f v : ℕ) → length (encode n f v) ≤ 10
unfolding encode spell
encode_most n f v = go (ltb v (2 ^ n - 1)) (spell_most 8 (v - (2 ^ n - 1)))
  where
    spell_most : (k i : ℕ) → length (spell k i) ≤ suc k
    spell_most zero i = omega arith
    spell_most (suc k) i = at_most (ltb i 128) (spell_most k (i / 128))
      where
        at_most : (t : Bool) → length (spell k (i / 128)) ≤ suc k → length (cond t (i ∷ []) ((i % 128 + 128) ∷ spell k (i / 128))) ≤ suc (suc k)
        at_most true h = omega arith
        at_most false h = omega arith

    go : (t : Bool) → length (spell 8 (v - (2 ^ n - 1))) ≤ 9
        → length (cond t ((f * 2 ^ n + v) ∷ []) ((f * 2 ^ n + (2 ^ n - 1)) ∷ spell 8 (v - (2 ^ n - 1)))) ≤ 10
    go true h = omega arith
    go false h = omega arith

-- what is spelled in j + 1 groups takes us no more
spell_least : (k j i : ℕ) → i < 128 ^ j * 128 → length (spell k i) ≤ suc j
unfolding spell
spell_least zero j i h = omega arith
spell_least (suc k) j i h = go j (ltb i 128) refl h (spell_least k)
  where
    go : (j : ℕ) (t : Bool) → ltb i 128 ≡ t → i < 128 ^ j * 128 → ((j i : ℕ) → i < 128 ^ j * 128 → length (spell k i) ≤ suc j)
        → length (cond t (i ∷ []) ((i % 128 + 128) ∷ spell k (i / 128))) ≤ suc j
    go j true e h ih = omega arith
    go zero false e h ih = absurd (omega (arith, ltb-false i 128 e))
    go (suc j) false e h ih = omega (arith, ih j (i / 128) (omega (arith, pow-suc 128 j)))

-- an integer that was read from a list's first octet on
pub record First (n : ℕ) (s : List ℕ) (at : ℕ) (r : Integer) : Type 0 where
  pub flags : r.flags ≡ get_or s 0 0 / 2 ^ n
  pub past : at < r.next
  pub within : r.next ≤ at + length s
  pub value : r.value < 2 ^ n + 2 ^ 63
  pub shortest : (f : ℕ) → length (encode n f r.value) ≤ r.next - at

pub first : (n : ℕ) (s : List ℕ) (at : ℕ) (r : Integer) → int_from n s at ≡ done r → First n s at r
unfolding int_from
first n [] at r h = let z : ◌≡◌ {A = ℕ} 0 1 = cc in absurd (omega arith)
first n (b ∷ s) at r h = go (ltb (b % 2 ^ n) (2 ^ n - 1)) refl h
  where
    short : Integer
    short = record { flags = b / 2 ^ n; value = b % 2 ^ n; next = at + 1 }

    go : (t : Bool) → ltb (b % 2 ^ n) (2 ^ n - 1) ≡ t
        → cond t (done short) (groups 9 s (b / 2 ^ n) (at + 1) 0 (2 ^ n - 1)) ≡ done r → First n (b ∷ s) at r
    go true e h =
        let fits : b % 2 ^ n < 2 ^ n - 1 = ltb-true _ _ e in
        subst (First n (b ∷ s) at) (same_done short r h) (
        record {
          flags = refl;
          past = omega arith;
          within = omega arith;
          value = omega arith;
          shortest = λ f. omega (arith, length_short n f (b % 2 ^ n) (2 ^ n) refl fits);
        })
    go false e h =
        let g = grouped 9 s (b / 2 ^ n) (at + 1) 0 (2 ^ n - 1) r h in
        let top : 128 ^ g.used ≤ 128 ^ 8 = pow-le-pow_right (lit< tt) {i = g.used} {j = 8} (omega arith) in
        let v : r.value ≡ 2 ^ n - 1 + g.rest = g.value ∙ rw mul-one in
        let rest : r.value - (2 ^ n - 1) ≡ g.rest = omega arith in
        let many : (f : ℕ) → length (encode n f r.value) ≡ suc (length (spell 8 g.rest)) =
        λ f. rw rest at (length_long n f r.value (2 ^ n) refl (omega arith)) in
        record {
          flags = g.flags;
          past = omega arith;
          within = omega arith;
          value = omega (arith, pow_pos n);
          shortest = λ f. omega (arith, many f, spell_least 8 g.used g.rest g.below);
        }

-- an integer that was read at a position
pub record Found (s : List ℕ) (at n : ℕ) (r : Integer) : Type 0 where
  pub low : 1 ≤ n
  pub high : n ≤ 8
  pub flags : r.flags ≡ get_or s at 0 / 2 ^ n
  pub past : at < r.next
  pub within : r.next ≤ length s
  pub value : r.value < 2 ^ 64
  pub shortest : (f : ℕ) → length (encode n f r.value) ≤ r.next - at

pub found : (s : List ℕ) (at n : ℕ) (r : Integer) → int_at s at n ≡ done r → Found s at n r
found s at n r h = go (good_call n 0) refl h
  where
    go : (b : Bool) → good_call n 0 ≡ b → cond b (int_from n (drop at s) at) (refused BadCall) ≡ done r → Found s at n r
    go false p h = let z : ◌≡◌ {A = ℕ} 0 1 = cc in absurd (omega arith)
    go true p h =
        let g = call_good n 0 p in
        let i = first n (drop at s) at r h in
        let small : 2 ^ n ≤ 2 ^ 8 = pow_mono {j = 8} g.high in
        record {
          low = g.low;
          high = g.high;
          flags = rw (get_or-drop, add-zero) at i.flags;
          past = i.past;
          within = omega (arith, length-drop at s);
          value = omega arith;
          shortest = i.shortest;
        }
