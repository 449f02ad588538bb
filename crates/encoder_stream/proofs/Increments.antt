-- The increment that a call writes: when there is none, when it is too large, and that three bytes hold it. Assumes nothing.
use mathlib.Core.Path.{◌≡◌, refl, ◌∙◌}
use mathlib.Core.Bool.{Bool, true, false, cond}
use mathlib.Core.List.{List, [], ◌∷◌}
use Prim.Native.Nat.{ℕ, ◌+◌, ◌-◌, ◌/◌, ◌%◌, ◌≤◌, ◌<◌}
use native.Mathlib.Omega.{arith}
use lib.Dec.{leb, ltb, eqb}
use lib.ListN.{length}
use lib.Seq.{sets}
use borrow.Author.Tests.{le-leb, lt-leb, ne_eqb, lt-ltb}
use Rattle.std.specs.Prelude.{Result, Ok, Err}
use Rattle.answers.specs.Answer.{answered, Answer, done, refused}
use Rattle.answers.specs.Table.{replied}
use Rattle.answers.specs.Write.{Writes}
use Rattle.answers.specs.declared.Refusal.{Refusal}
use Rattle.answers.specs.declared.Refusal.TheVariants.{BufSize}
use Rattle.answers.proofs.Write.{writes_sets}
use Rattle.forms.specs.declared.DecoderInstruction.TheVariants.{InsertCountIncrement}
use Rattle.forms.specs.declared.Kind.TheVariants.{Decoder}
use Rattle.prefix_int.specs.Integer.{encode, spell}
use Rattle.stream.specs.Instructions.{integer_bytes}
use Rattle.encoder_stream.specs.Stream.{most_inserts, increment_room, increment_bytes, incremented, Tells, told}
use Rattle.encoder_stream.proofs.Front.{sets_front}

module _ (n : ℕ) (o : List ℕ) where
  pub none_inserted : n ≡ 0 → Tells (incremented n) o o (Ok 0)
  none_inserted e = record { answer = rw e; written = rw e; out = rw e }

  pub too_many : most_inserts < n → Tells (incremented n) o o (Err BufSize)
  too_many h =
      let some : eqb n 0 ≡ false = ne_eqb n 0 (λ e. omega arith) in
      let over : leb n most_inserts ≡ false = lt-leb n most_inserts h in
      record { answer = rw (some, over); written = rw (some, over); out = rw (some, over) }

  module _ (low : 0 < n) (high : n ≤ most_inserts) where
    -- at most three bytes
    short : length (increment_bytes n) ≤ increment_room
    unfolding increment_bytes encode spell
    short = go (ltb n 63) (ltb (n - 63) 128) refl
      where
        go : (a b : Bool) → ltb n 63 ≡ a
            → length (cond a ((0 + n) ∷ []) (63 ∷ cond b ((n - 63) ∷ []) (((n - 63) % 128 + 128) ∷ spell 7 ((n - 63) / 128)))) ≤ increment_room
        go true b e = omega arith
        go false true e = omega arith
        go false false e = rw (lt-ltb ((n - 63) / 128) 128 (omega arith)) (omega arith)

    bytes_are : integer_bytes (Decoder InsertCountIncrement) n ≡ done (increment_bytes n)
    unfolding integer_bytes increment_bytes
    bytes_are = rw (lt-ltb n (9223372036854775808) (omega arith))

    module _ (room : increment_room ≤ length o) (p : List ℕ) (w : Result ℕ Refusal)
        (v : Writes (integer_bytes (Decoder InsertCountIncrement) n) o 0 w p) where
      wrote : (answered w ≡ done (length (increment_bytes n))) × (p ≡ sets o 0 (increment_bytes n))
      wrote =
          let e : 0 + length (increment_bytes n) ≡ length (increment_bytes n) = omega arith in
          let z = writes_sets (increment_bytes n) o 0 w p (omega (arith, short)) (rw bytes_are at v) in
          (rw e at z.0, z.1)

      pub one_increment : (e : ℕ) → w ≡ Ok e → Tells (incremented n) o p (Ok e)
      one_increment e q =
          let some : eqb n 0 ≡ false = ne_eqb n 0 (λ z. omega arith) in
          let few : leb n most_inserts ≡ true = le-leb n most_inserts high in
          let told_end : ◌≡◌ {A = Answer ℕ} (done e) (done (length (increment_bytes n))) = rw q at wrote.0 in
          let end : e ≡ length (increment_bytes n) = cc in
          let fits : length (increment_bytes n) ≤ length o = omega (arith, short) in
          record {
            answer = rw (some, few);
            written = rw (some, few) end;
            out = rw (some, few, end) (wrote.1 ∙ sets_front (increment_bytes n) o fits);
          }

      pub never_refused : (r : Refusal) → w ≡ Err r → ⊥
      never_refused r q =
          let no : ◌≡◌ {A = Answer ℕ} (refused r) (done (length (increment_bytes n))) = rw q at wrote.0 in
          let z : ◌≡◌ {A = ℕ} 0 1 = cc in omega arith

      pub told_increment : Tells (incremented n) o p w
      told_increment = go w refl
        where
          go : (x : Result ℕ Refusal) → w ≡ x → Tells (incremented n) o p x
          go (Ok e) q = one_increment e q
          go (Err r) q = absurd (never_refused r q)

-- ---- by the answer of the instructions

pub told_done : (n : ℕ) (o p : List ℕ) (f : Result ℕ Refusal) (y : Result Unit Refusal) → y ≡ (Ok tt) → Tells (incremented n) o p f → Tells (told (replied y) n) o p f
unfolding told
told_done n o p f y e w = rw e w

pub told_refused : (n : ℕ) (o : List ℕ) (y : Result Unit Refusal) (r : Refusal) → y ≡ Err r
    → Tells (told (replied y) n) o o (Err r)
unfolding told
told_refused n o y r e = rw e (record { answer = refl; written = refl; out = refl })
