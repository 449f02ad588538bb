-- Laws of plain strings: when a call is good and how many bytes a string takes. Assumes nothing.
use mathlib.Core.Path.{◌≡◌, refl, sym, ap, ◌∙◌}
use mathlib.Core.Bool.{Bool, true, false, cond}
use mathlib.Core.List.{List}
use Prim.Native.Nat.{ℕ, suc, ◌+◌, ◌-◌, ◌*◌, ◌^◌, ◌≤◌, ◌<◌}
use native.Mathlib.Nat.{pow-suc}
use native.Mathlib.Omega.{arith}
use lib.ListN.{length, length-append}
use Rattle.answers.specs.Answer.{done, refused, and_then}
use Rattle.answers.specs.declared.Refusal.TheVariants.{BadCall}
use Rattle.prefix_int.specs.Integer.{encode, good_call, int_bytes, size_of}
use Rattle.prefix_int.proofs.RoundTrip.{encoded}
use Rattle.int_writing.proofs.Writers.{sized}
use Rattle.int_writing.proofs.Writing.{Good, call_good, width_call, bytes_good, length_flags}
use Rattle.text_writing.specs.Plain.{good_text, plain, text_bytes, text_size}

-- ---- a call

-- a length of 7 bits at the most, and flags that fit above it and H
pub text_good : (n f : ℕ) → good_text n f ≡ true → Good 7 n f
text_good n f h = go (good_call n 0) refl h
  where
    go : (b : Bool) → good_call n 0 ≡ b → cond b (good_call (n + 1) f) false ≡ true → Good 7 n f
    go false p h = let z : ◌≡◌ {A = ℕ} 0 1 = cc in absurd (omega arith)
    go true p h =
        let g = call_good (n + 1) f h in
        let bits : 8 - (n + 1) ≡ 7 - n = omega arith in
        record { low = (call_good n 0 p).low; high = omega (arith, g.high); flags = rw bits at g.flags }

pub text_width : (n : ℕ) → 1 ≤ n → n ≤ 7 → good_text n 0 ≡ true
text_width n low high = rw (width_call n low (omega arith), width_call (n + 1) (omega arith) (omega arith))

-- the flags and H make the flags of the length
pub length_call : (n f : ℕ) → Good 7 n f → Good 8 n (f * 2)
length_call n f g =
    let bits : 8 - n ≡ suc (7 - n) = omega (arith, g.low, g.high) in
    let double : 2 ^ suc (7 - n) ≡ 2 ^ (7 - n) * 2 = pow-suc 2 (7 - n) in
    record { low = g.low; high = omega (arith, g.high); flags = rw bits (omega (arith, g.flags)) }

-- ---- how many bytes

-- what the size of a length tells
pub head_is : (n m k : ℕ) → size_of n m ≡ done k → (k ≡ length (encode n 0 m)) × (m < 2 ^ 63)
head_is n m k h =
    let s = sized (int_bytes n 0 m) k h in
    let e = encoded n 0 m s.bytes s.given in
    (sym s.many ∙ ap length e.bytes_are, e.value)

pub length_plain : (n f : ℕ) (t : List ℕ) → length (plain n f t) ≡ length (encode n 0 (length t)) + length t
length_plain n f t = length-append (encode n (f * 2) (length t)) t ∙ ap (λ (k : ℕ). k + length t) (length_flags n (f * 2) (length t))

-- the bytes of a string are plain, and of a good call
pub text_bytes_lem : (n f : ℕ) (t bytes : List ℕ) → text_bytes n f t ≡ done bytes → (good_text n f ≡ true) × (bytes ≡ plain n f t)
text_bytes_lem n f t bytes h = go (good_text n f) refl h
  where
    go : (b : Bool) → good_text n f ≡ b → cond b (done (plain n f t)) (refused BadCall) ≡ done bytes
        → (good_text n f ≡ true) × (bytes ≡ plain n f t)
    go true p q = (p, cc)
    go false p q = let z : ◌≡◌ {A = ℕ} 0 1 = cc in absurd (omega arith)

-- the bytes of a string, whose size was answered
pub record TextOf (n f : ℕ) (t : List ℕ) (k : ℕ) : Type 0 where
  pub good : good_text n f ≡ true
  pub given : text_bytes n f t ≡ done (plain n f t)
  pub many : length (plain n f t) ≡ k

module _ (n f : ℕ) (t : List ℕ) (small : length t < 2 ^ 63) where
  -- a size is that of the bytes to write, or the refusal to write them
  pub text_size_lem : text_size n f (length t) ≡ and_then (text_bytes n f t) (λ bytes. done (length bytes))
  text_size_lem = go (good_text n f) refl
    where
      go : (b : Bool) → good_text n f ≡ b
          → cond b (and_then (size_of n (length t)) (λ head. done (head + length t))) (refused BadCall)
          ≡ and_then (cond b (done (plain n f t)) (refused BadCall)) (λ bytes. done (length bytes))
      go true p =
          let g = length_call n f (text_good n f p) in
          let c = bytes_good n 0 (length t) (width_call n g.low g.high) small in
          rw c (ap done (sym (length_plain n f t)))
      go false p = refl

  pub text_of : (k : ℕ) → text_size n f (length t) ≡ done k → TextOf n f t k
  text_of k h =
      let s = sized (text_bytes n f t) k (sym text_size_lem ∙ h) in
      let b = text_bytes_lem n f t s.bytes s.given in
      record { good = b.0; given = s.given ∙ ap done b.1; many = ap length (sym b.1) ∙ s.many }
