-- Law of a shift of one: for widths of a byte no bit is lost. Assumes nothing.
use mathlib.Core.Path.{◌≡◌, ◌∙◌}
use Prim.Native.Nat.{ℕ, ◌*◌, ◌%◌, ◌^◌, ◌≤◌}
use native.Mathlib.Nat.{one-mul}
use native.Mathlib.Omega.{arith}
use lib.Dec.{lit<}
use lib.Pow.{shl_exact, pow_pos, pow_mono}

-- what `1u64 << k` gives: 2 to the k, within 1 to 256
pub one_shifted : (k : ℕ) → k ≤ 8 → let r = (1 * 2 ^ k) % 2 ^ 64 in (r ≡ 2 ^ k) × (1 ≤ r) × (r ≤ 256)
one_shifted k h =
    let e : (1 * 2 ^ k) % 2 ^ 64 ≡ 2 ^ k = shl_exact {a = 1} 1 k 64 (lit< tt) (omega arith) ∙ one-mul (2 ^ k) in
    let lo : 1 ≤ 2 ^ k = pow_pos k in
    let hi : 2 ^ k ≤ 2 ^ 8 = pow_mono {j = 8} h in
    (e, omega (arith, e, lo), omega (arith, e, hi))
