-- Which encoded count gets which required count, by plain inequalities; and that its sums fit. Assumes nothing.
use mathlib.Core.Path.{◌≡◌}
use mathlib.Core.Option.{some}
use Prim.Native.Nat.{ℕ, ◌+◌, ◌-◌, ◌≤◌, ◌<◌}
use native.Mathlib.Nat.{div-mul-le_self}
use borrow.Author.Tests.{lt-ltb, le-ltb, lt-leb, ne_eqb}
use Rattle.header_prefix.specs.Prefix.{full_range, max_value, max_wrapped, not_zero, required_count}

module _ (total capacity encoded : ℕ) where
  module _ (given : encoded ≡ 0 → ⊥) where
    module _ (within : encoded ≤ full_range capacity) (r : ℕ) (e : r ≡ max_wrapped total capacity + encoded - 1) where
      pub count_lowered : max_value total capacity < r → full_range capacity < r
          → not_zero (some (r - full_range capacity)) ≡ required_count total capacity encoded
      unfolding required_count
      count_lowered h g =
          rw (ne_eqb encoded 0 given, le-ltb (full_range capacity) encoded within, ← e, lt-ltb (max_value total capacity) r h, lt-leb r (full_range capacity) g)

      pub count_whole : r ≤ max_value total capacity → not_zero (some r) ≡ required_count total capacity encoded
      unfolding required_count
      count_whole h =
          rw (ne_eqb encoded 0 given, le-ltb (full_range capacity) encoded within, ← e, le-ltb (max_value total capacity) r h)

-- the largest multiple of a range up to a value is at most that value
pub wrapped_le : (total capacity : ℕ) → max_wrapped total capacity ≤ max_value total capacity
wrapped_le total capacity = div-mul-le_self (max_value total capacity) (full_range capacity)
