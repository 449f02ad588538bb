-- Reading what the writer wrote gives back the flags, the value and the position. Assumes nothing.
use mathlib.Core.Path.{◌≡◌, refl, ◌∙◌}
use mathlib.Core.Bool.{Bool, true, false, cond}
use mathlib.Core.List.{List, ◌∷◌, ◌++◌}
use Prim.Native.Nat.{ℕ, zero, suc, ◌+◌, ◌-◌, ◌*◌, ◌/◌, ◌%◌, ◌^◌, ◌≤◌, ◌<◌}
use native.Mathlib.Nat.{mul-one, le_refl}
use native.Mathlib.Omega.{arith}
use lib.Arith.{digits_div, digits_mod}
use lib.Dec.{ltb}
use lib.ListN.{length, drop}
use lib.Pow.{pow-add, pow_pos}
use borrow.Author.Tests.{lt-ltb, le-ltb, ltb-true, ltb-false}
use Rattle.answers.specs.Answer.{Answer, done, refused, and_then}
use Rattle.answers.specs.Write.{fitted, left}
use Rattle.answers.specs.declared.Refusal.TheVariants.{BadCall, CountTooLarge}
use Rattle.prefix_int.specs.Integer.{groups, int_from, int_at, spell, encode, good_call, int_bytes}
use Rattle.prefix_int.specs.declared.Integer.{Integer}
use Rattle.prefix_int.proofs.Reading.{digit_add}
use Rattle.int_writing.proofs.Writers.{leaves}
use Rattle.int_writing.proofs.Writing.{Good, call_good, width_call, spell_last, spell_more, spell_fits, encode_short, encode_long}

-- an integer's answer, at a value and a position that are the same
same_int : (f : ℕ) {v w d e : ℕ} → v ≡ w → d ≡ e
    → ◌≡◌ {A = Answer Integer} (done (record { flags = f; value = v; next = d })) (done (record { flags = f; value = w; next = e }))
same_int f p q = rw (p, q)

-- the groups of i, read from weight 2 ^ m on
groups_spell : (k i : ℕ) (t : List ℕ) (f at m a : ℕ) → i < 128 ^ k * 128
    → groups (suc k) (spell k i ++ t) f at m a ≡ done (record { flags = f; value = a + i * 2 ^ m; next = at + length (spell k i) })
unfolding groups
groups_spell zero i t f at m a h = rw (spell_last zero i h, lt-ltb i 128 h)
groups_spell (suc k) i t f at m a h = go (ltb i 128) refl (groups_spell k (i / 128) t f (at + 1) (m + 7) (a + (i % 128 + 128) % 128 * 2 ^ m))
  where
    low : ℕ
    low = (i % 128 + 128) % 128

    go : (b : Bool) → ltb i 128 ≡ b
        → (i / 128 < 128 ^ k * 128 → groups (suc k) (spell k (i / 128) ++ t) f (at + 1) (m + 7) (a + low * 2 ^ m)
        ≡ done (record { flags = f; value = a + low * 2 ^ m + i / 128 * 2 ^ (m + 7); next = at + 1 + length (spell k (i / 128)) }))
        → groups (suc (suc k)) (spell (suc k) i ++ t) f at m a
        ≡ done (record { flags = f; value = a + i * 2 ^ m; next = at + length (spell (suc k) i) })
    go true e ih = rw (spell_last (suc k) i (ltb-true i 128 e), e)
    go false e ih =
        let big : 128 ≤ i = ltb-false i 128 e in
        let one : suc k - 1 ≡ k = omega arith in
        let s : spell (suc k) i ≡ (i % 128 + 128) ∷ spell k (i / 128) = rw one at (spell_more (suc k) i big h) in
        let fit : i / 128 < 128 ^ k * 128 = rw one at (spell_fits (suc k) i big h) in
        let whole : low + i / 128 * 128 ≡ i = omega arith in
        let v : a + low * 2 ^ m + i / 128 * 2 ^ (m + 7) ≡ a + i * 2 ^ m =
        rw (pow-add 2 m 7) (omega (arith, rw whole at (digit_add low (i / 128) (2 ^ m)))) in
        rw (s, le-ltb (i % 128 + 128) 128 (omega arith)) (ih fit ∙ same_int f v (omega arith))

-- an integer's octets, whatever follows them
pub read_encode : (n f v at : ℕ) (t : List ℕ) → v < 2 ^ 63
    → int_from n (encode n f v ++ t) at ≡ done (record { flags = f; value = v; next = at + length (encode n f v) })
unfolding int_from
read_encode n f v at t h = go (ltb v (2 ^ n - 1)) refl
  where
    top : ℕ
    top = 2 ^ n - 1

    pos : top < 2 ^ n
    pos = omega (arith, pow_pos n)

    go : (b : Bool) → ltb v (2 ^ n - 1) ≡ b
        → int_from n (encode n f v ++ t) at ≡ done (record { flags = f; value = v; next = at + length (encode n f v) })
    go true e =
        let l : v < 2 ^ n - 1 = ltb-true v (2 ^ n - 1) e in
        let q : (f * 2 ^ n + v) / 2 ^ n ≡ f = digits_div f (omega (arith, pos)) in
        let r : (f * 2 ^ n + v) % 2 ^ n ≡ v = digits_mod f (omega (arith, pos)) in
        rw (encode_short n f v (2 ^ n) refl l, r, e, q)
    go false e =
        let l : 2 ^ n - 1 ≤ v = ltb-false v (2 ^ n - 1) e in
        let q : (f * 2 ^ n + (2 ^ n - 1)) / 2 ^ n ≡ f = digits_div f pos in
        let r : (f * 2 ^ n + (2 ^ n - 1)) % 2 ^ n ≡ 2 ^ n - 1 = digits_mod f pos in
        let w : 2 ^ n - 1 + (v - (2 ^ n - 1)) * 1 ≡ v = rw mul-one (omega arith) in
        rw (encode_long n f v (2 ^ n) refl l, r, le-ltb (2 ^ n - 1) (2 ^ n - 1) (le_refl _), q)
        (groups_spell 8 (v - (2 ^ n - 1)) t f (at + 1) 0 (2 ^ n - 1) (omega arith) ∙ same_int f w (omega arith))

-- an integer's octets, wherever they stand in a list
pub read_there : (s : List ℕ) (at n f v : ℕ) (t : List ℕ) → Good 8 n f → v < 2 ^ 63 → drop at s ≡ encode n f v ++ t
    → int_at s at n ≡ done (record { flags = f; value = v; next = at + length (encode n f v) })
read_there s at n f v t good small here = rw (width_call n good.low good.high, here) (read_encode n f v at t small)

-- what the octets of a call tell
pub record Encoded (n f v : ℕ) (bytes : List ℕ) : Type 0 where
  pub good : Good 8 n f
  pub value : v < 2 ^ 63
  pub bytes_are : bytes ≡ encode n f v

pub encoded : (n f v : ℕ) (bytes : List ℕ) → int_bytes n f v ≡ done bytes → Encoded n f v bytes
encoded n f v bytes h = go (good_call n f) (ltb v (2 ^ 63)) refl refl h
  where
    go : (b c : Bool) → good_call n f ≡ b → ltb v (2 ^ 63) ≡ c
        → cond b (cond c (done (encode n f v)) (refused CountTooLarge)) (refused BadCall) ≡ done bytes → Encoded n f v bytes
    go true true p q h = record { good = call_good n f p; value = ltb-true v (2 ^ 63) q; bytes_are = let z = h in cc }
    go true false p q h = let z : ◌≡◌ {A = ℕ} 0 1 = cc in absurd (omega arith)
    go false c p q h = let z : ◌≡◌ {A = ℕ} 0 1 = cc in absurd (omega arith)

-- what the writer says yes to, the reader gives back from the buffer that the writer left
pub round_trip : (l : List ℕ) (at n f v e : ℕ) → and_then (int_bytes n f v) (fitted l at) ≡ done e
    → int_at (left (int_bytes n f v) l at) at n ≡ done (record { flags = f; value = v; next = e })
round_trip l at n f v e h =
    let w = leaves (int_bytes n f v) l at e h in
    let c = encoded n f v w.bytes w.given in
    read_there _ at n f v _ c.good c.value (rw c.bytes_are at w.here) ∙ same_int f refl (rw c.bytes_are at w.next)
