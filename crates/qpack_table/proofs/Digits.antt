-- The decimal digits that the library formats are those of the report. Assumes nothing.
use mathlib.Core.Path.{◌≡◌, refl, sym, ◌∙◌}
use mathlib.Core.Bool.{Bool, true, false}
use mathlib.Core.List.{List, [], ◌∷◌, ◌++◌, append_assoc, append-nil}
use Prim.Native.Nat.{ℕ, zero, suc, ◌+◌, ◌/◌, ◌%◌, ◌^◌, ◌<◌}
use native.Mathlib.Nat.{pow-suc}
use native.Mathlib.Omega.{arith}
use lib.Dec.{ltb, eqb}
use borrow.Author.Tests.{lt-ltb, ne_eqb, ltb-true, ltb-false}
use Rattle.std.specs.Fmt as fmt
use Rattle.qpack_table.specs.Text.{digits, decimal}

-- with fuel to spare, the digits of a number before what stands behind them
onto : (j k n : ℕ) (acc : List ℕ) → j < k → n < 10 ^ suc j → fmt.digits_onto k 10 false n acc ≡ digits j n ++ acc
unfolding digits
onto j zero n acc h below = absurd (omega arith)
onto zero (suc k) n acc h below =
    let none : n / 10 ≡ 0 = omega arith in
    rw (none, lt-ltb (n % 10) 10 (omega arith)) refl
onto (suc j) (suc k) n acc h below = go (ltb n 10) refl (λ m a low. onto j k m a (omega arith) low)
  where
    go : (b : Bool) → ltb n 10 ≡ b → ((m : ℕ) (a : List ℕ) → m < 10 ^ suc j → fmt.digits_onto k 10 false m a ≡ digits j m ++ a)
        → fmt.digits_onto (suc k) 10 false n acc ≡ digits (suc j) n ++ acc
    go true e rest =
        let none : n / 10 ≡ 0 = omega (arith, ltb-true n 10 e) in
        let all : n % 10 ≡ n = omega (arith, ltb-true n 10 e) in
        rw (none, all, e) refl
    go false e rest =
        let p = pow-suc 10 (suc j) in
        let more : eqb (n / 10) 0 ≡ false = ne_eqb (n / 10) 0 (λ z. omega (arith, ltb-false n 10 e)) in
        rw (more, lt-ltb (n % 10) 10 (omega arith), e)
        (rest (n / 10) ((48 + n % 10) ∷ acc) (omega (arith, p)) ∙ sym (append_assoc (digits j (n / 10)) ((48 + n % 10) ∷ []) acc))

pub decimal_is : (n : ℕ) → n < 2 ^ 64 → fmt.decimal n ≡ decimal n
unfolding fmt.digits
decimal_is n h = onto 19 64 n [] (omega arith) (omega arith) ∙ append-nil (digits 19 n)
