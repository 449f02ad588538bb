-- Laws of an integer's octets: what each step spells, how many there are, how they are stored, and when a call is good. Assumes nothing.
use mathlib.Core.Path.{◌≡◌, refl, sym, ap, ◌∙◌}
use mathlib.Core.Bool.{Bool, true, false, cond}
use mathlib.Core.List.{List, [], ◌∷◌}
use Prim.Native.Nat.{ℕ, zero, suc, ◌+◌, ◌-◌, ◌*◌, ◌/◌, ◌%◌, ◌^◌, ◌≤◌, ◌<◌, zero-le}
use native.Mathlib.Nat.{pow-suc, pow-le-pow_right, sub-add_cancel}
use native.Mathlib.Numerals.{add-one}
use native.Mathlib.Omega.{arith}
use lib.Arith.{digits_lt}
use lib.Count.{count_leading_zeros, leading_top}
use lib.Dec.{lit<, ltb}
use lib.ListN.{length, set}
use lib.Pow.{pow-add, pow_mono, pow_pos}
use lib.Seq.{sets}
use borrow.Author.Tests.{lt-ltb, le-ltb, ltb-true, ltb-false}
use Rattle.answers.specs.Answer.{done, refused}
use Rattle.answers.specs.declared.Refusal.TheVariants.{BadCall, CountTooLarge}
use Rattle.int_writing.specs.Octets.{spell, encode, good_call, int_bytes}

-- ---- a run of groups

pub spell_last : (k i : ℕ) → i < 128 → spell k i ≡ i ∷ []
unfolding spell
spell_last zero i h = refl
spell_last (suc k) i h = rw (lt-ltb i 128 h)

module _ (k i : ℕ) (big : 128 ≤ i) (small : i < 128 ^ k * 128) where
  pub spell_more : spell k i ≡ (i % 128 + 128) ∷ spell (k - 1) (i / 128)
  unfolding spell
  spell_more = go k small
    where
      go : (k : ℕ) → i < 128 ^ k * 128 → spell k i ≡ (i % 128 + 128) ∷ spell (k - 1) (i / 128)
      go zero l = absurd (omega arith)
      go (suc k) l =
          let e : suc k - 1 ≡ k = omega arith in
          rw (e, le-ltb i 128 big)

  pub spell_fits : i / 128 < 128 ^ (k - 1) * 128
  spell_fits = go k small
    where
      go : (k : ℕ) → i < 128 ^ k * 128 → i / 128 < 128 ^ (k - 1) * 128
      go zero l = absurd (omega arith)
      go (suc k) l =
          let e : suc k - 1 ≡ k = omega arith in
          rw e (omega (arith, pow-suc 128 k))

  pub length_more : length (spell k i) ≡ suc (length (spell (k - 1) (i / 128)))
  length_more = ap length spell_more

  -- a store, and then the stores of the rest
  pub put_more : (l : List ℕ) (at : ℕ) → sets (set l at (i % 128 + 128)) (at + 1) (spell (k - 1) (i / 128)) ≡ sets l at (spell k i)
  put_more l at = rw (spell_more, add-one)

pub length_last : (k i : ℕ) → i < 128 → length (spell k i) ≡ 1
length_last k i h = ap length (spell_last k i h)

pub put_last : (l : List ℕ) (at k i : ℕ) → i < 128 → set l at i ≡ sets l at (spell k i)
put_last l at k i h = rw (spell_last k i h)

-- how many octets: c + 1, where i has c groups below its highest
spell_length : (c k i : ℕ) → i < 128 ^ k * 128 → 128 ^ c ≤ i → i < 128 ^ c * 128 → length (spell k i) ≡ suc c
spell_length zero k i l lo hi = length_last k i hi
spell_length (suc c) k i l lo hi =
    let one : 128 ^ 0 ≤ 128 ^ c = pow-le-pow_right (lit< tt) {i = 0} {j = c} zero-le in
    let big : 128 ≤ i = omega (arith, pow-suc 128 c) in
    length_more k i big l
    ∙ ap suc (spell_length c (k - 1) (i / 128) (spell_fits k i big l) (omega (arith, pow-suc 128 c)) (omega (arith, pow-suc 128 c)))

pow_128 : (c : ℕ) → 128 ^ c ≡ 2 ^ (7 * c)
pow_128 zero = refl
pow_128 (suc c) =
    let e : 7 * suc c ≡ 7 * c + 7 = omega arith in
    rw (pow-suc, e, pow-add 2 (7 * c) 7, pow_128 c)

-- the count of groups from the leading zeros
pub spelled_law : (i : ℕ) → 128 ≤ i → i < 2 ^ 63 → (64 - count_leading_zeros 64 i + 6) / 7 ≡ length (spell 8 i)
spelled_law i lo hi =
    let t = leading_top 64 i (omega arith) (omega arith) in
    let j = t.0 in
    let c = j / 7 in
    let low : 2 ^ (7 * c) ≤ 2 ^ j = pow_mono {i = 7 * c} {j = j} (omega arith) in
    let high : 2 ^ suc j ≤ 2 ^ (7 * c + 7) = pow_mono {i = suc j} {j = 7 * c + 7} (omega arith) in
    let e : 2 ^ (7 * c + 7) ≡ 2 ^ (7 * c) * 128 = pow-add 2 (7 * c) 7 in
    let n : length (spell 8 i) ≡ suc c = spell_length c 8 i (omega arith) (omega (arith, pow_128 c, t.2)) (omega (arith, pow_128 c, t.3)) in
    omega (arith, t.1)

-- ---- an integer's octets

module _ (n f v p : ℕ) (e : p ≡ 2 ^ n) where
  pub encode_short : v < p - 1 → encode n f v ≡ (f * p + v) ∷ []
  unfolding encode
  encode_short h = rw (← e, lt-ltb v (p - 1) h)

  pub encode_long : p - 1 ≤ v → encode n f v ≡ (f * p + (p - 1)) ∷ spell 8 (v - (p - 1))
  unfolding encode
  encode_long h = rw (← e, le-ltb v (p - 1) h)

  pub length_short : v < p - 1 → length (encode n f v) ≡ 1
  length_short h = ap length (encode_short h)

  pub length_long : p - 1 ≤ v → length (encode n f v) ≡ suc (length (spell 8 (v - (p - 1))))
  length_long h = ap length (encode_long h)

  -- its first octet, and then its groups
  pub store_long : (l : List ℕ) (at : ℕ) → p - 1 ≤ v
      → sets (set l at (f * p + (p - 1))) (at + 1) (spell 8 (v - (p - 1))) ≡ sets l at (encode n f v)
  store_long l at h = rw (encode_long h, add-one)

  -- flags of 8 - n bits above a prefix of n bits make an octet
  pub first_fits : (low : ℕ) → n ≤ 8 → f < 2 ^ (8 - n) → low < p → f * p + low < 256
  first_fits low h hf hl =
      let whole : 2 ^ (8 - n) * 2 ^ n ≡ 256 = sym (pow-add 2 (8 - n) n) ∙ ap (λ (k : ℕ). 2 ^ k) (sub-add_cancel h) in
      let b : f * 2 ^ n + low < 2 ^ (8 - n) * 2 ^ n = digits_lt {q = f} {m = 2 ^ (8 - n)} {r = low} {c = 2 ^ n} hf (rw e at hl) in
      rw e (omega (arith, whole))

-- the flags do not change how many octets there are
pub length_flags : (n f v : ℕ) → length (encode n f v) ≡ length (encode n 0 v)
unfolding encode
length_flags n f v = go (ltb v (2 ^ n - 1))
  where
    go : (t : Bool) → length (cond t ((f * 2 ^ n + v) ∷ []) ((f * 2 ^ n + (2 ^ n - 1)) ∷ spell 8 (v - (2 ^ n - 1))))
        ≡ length (cond t ((0 * 2 ^ n + v) ∷ []) ((0 * 2 ^ n + (2 ^ n - 1)) ∷ spell 8 (v - (2 ^ n - 1))))
    go true = refl
    go false = refl

-- ---- a call

-- a width of k bits at the most, and flags that fit above it
pub record Good (k n f : ℕ) : Type 0 where
  pub low : 1 ≤ n
  pub high : n ≤ k
  pub flags : f < 2 ^ (k - n)

module _ (n f : ℕ) where
  pub call_good : good_call n f ≡ true → Good 8 n f
  call_good h = go (ltb n 1) (ltb 8 n) refl refl h
    where
      go : (s t : Bool) → ltb n 1 ≡ s → ltb 8 n ≡ t → cond s false (cond t false (ltb f (2 ^ (8 - n)))) ≡ true → Good 8 n f
      go true t p q h = let z : ◌≡◌ {A = ℕ} 0 1 = cc in absurd (omega arith)
      go false true p q h = let z : ◌≡◌ {A = ℕ} 0 1 = cc in absurd (omega arith)
      go false false p q h = record { low = ltb-false n 1 p; high = ltb-false 8 n q; flags = ltb-true f (2 ^ (8 - n)) h }

  pub good_call_lem : Good 8 n f → good_call n f ≡ true
  good_call_lem g = rw (le-ltb n 1 g.low, le-ltb 8 n g.high, lt-ltb f (2 ^ (8 - n)) g.flags)

pub width_call : (n : ℕ) → 1 ≤ n → n ≤ 8 → good_call n 0 ≡ true
width_call n low high = good_call_lem n 0 (record { low = low; high = high; flags = pow_pos (8 - n) })

module _ (n f v : ℕ) where
  pub bytes_bad : good_call n f ≡ false → int_bytes n f v ≡ refused BadCall
  bytes_bad h = simp h

  pub bytes_large : good_call n f ≡ true → 2 ^ 63 ≤ v → int_bytes n f v ≡ refused CountTooLarge
  bytes_large h l = simp (h, le-ltb v (2 ^ 63) l)

  pub bytes_good : good_call n f ≡ true → v < 2 ^ 63 → int_bytes n f v ≡ done (encode n f v)
  bytes_good h l = simp (h, lt-ltb v (2 ^ 63) l)
