-- The section prefix of RFC 9204 4.5.1: the required insert count, the base, and the order of the refusals.
use Rattle.std.specs.Prelude.{Some, None, Option as Maybe, Bool, true, false, cond, List, ℕ, ◌+◌, ◌-◌, ◌*◌, ◌/◌, ◌^◌, leb, ltb, eqb}
use Rattle.std.proofs.Math.Option.{Option, some, none}
use Rattle.answers.specs.Answer.{Answer, done, refused, and_then}
use Rattle.answers.specs.declared.Refusal.TheVariants.{MissingRefs, BadBaseIndex, BadInsertCount, BadCall}
use Rattle.field.specs.Field.{overhead}
use Rattle.prefix_int.specs.Integer.{int_at}
use Rattle.ring.specs.Ring.{largest_count}
-- a prefix that was read
use Rattle.header_prefix.specs.declared.Prefix.{Prefix}

-- ---- 4.5.1.1, the required insert count

-- "MaxEntries = floor(MaxTableCapacity / 32)"; "with MaxEntries the capacity in force / 32, rounded down"
abbrev pub max_entries : ℕ → ℕ
max_entries capacity = capacity / overhead

-- "FullRange = 2 * MaxEntries"
abbrev pub full_range : ℕ → ℕ
full_range capacity = 2 * max_entries capacity

-- "MaxValue = TotalNumberOfInserts + MaxEntries"
abbrev pub max_value : ℕ → ℕ → ℕ
max_value total capacity = total + max_entries capacity

-- "MaxWrapped is the largest possible value of ReqInsertCount that is 0 mod 2*MaxEntries"
abbrev pub max_wrapped : ℕ → ℕ → ℕ
max_wrapped total capacity = max_value total capacity / full_range capacity * full_range capacity

-- "If ReqInsertCount exceeds MaxValue, the Encoder's value must have wrapped one fewer time"; where it cannot have, an error
abbrev pub wrapped_less : ℕ → ℕ → ℕ → Option ℕ
wrapped_less total capacity r =
    cond (ltb (max_value total capacity) r) (cond (leb r (full_range capacity)) none (some (r - full_range capacity))) (some r)

-- "Value of 0 must be encoded as 0": as a result it is an error
abbrev pub not_zero : Option ℕ → Option ℕ
not_zero none = none
not_zero (some r) = cond (eqb r 0) none (some r)

-- a count as a call gives it
abbrev pub given : Maybe ℕ → Option ℕ
given (Some r) = some r
given None = none

-- none where the RFC gives no count
unfoldable pub required_count : ℕ → ℕ → ℕ → Option ℕ
required_count total capacity encoded =
    cond (eqb encoded 0)
    (some 0)
    (cond (ltb (full_range capacity) encoded)
    none
    (not_zero (wrapped_less total capacity (max_wrapped total capacity + encoded - 1))))

-- ---- 4.5.1.2, the base

-- "past 2^63-1"
abbrev pub largest_base : ℕ
largest_base = 2 ^ 63 - 1

-- sign 0: "Base = ReqInsertCount + DeltaBase"; sign 1: "Base = ReqInsertCount - DeltaBase - 1".
-- "14: sign set and delta >= required count; base past 2^63-1"
unfoldable pub base_of : ℕ → Bool → ℕ → Answer ℕ
base_of required true delta = cond (leb required delta) (refused BadBaseIndex) (done (required - delta - 1))
base_of required false delta = cond (ltb largest_base (required + delta)) (refused BadBaseIndex) (done (required + delta))

-- ---- the prefix

-- "13: required count above inserted"
abbrev pub not_missing : ℕ → ℕ → ℕ → ℕ → Answer Prefix
not_missing total required next base =
    cond (ltb total required) (refused MissingRefs) (done (record { required = required; base = base; next = next }))

-- "15: RFC 4.5.1.1 gives no count"; "a prefix tries 15, 14, 13"
abbrev pub prefix_of : ℕ → Bool → ℕ → ℕ → Option ℕ → Answer Prefix
prefix_of total sign delta next none = refused BadInsertCount
prefix_of total sign delta next (some required) = and_then (base_of required sign delta) (not_missing total required next)

-- "Required Insert Count (8+), S, Delta Base (7+)": both integers are read first. A total past 2^62-1 is of no table: 22
unfoldable pub prefix_at : List ℕ → ℕ → ℕ → ℕ → Answer Prefix
prefix_at s at total capacity =
    cond (ltb largest_count total)
    (refused BadCall)
    (and_then (int_at s at 8)
    (λ c. and_then (int_at s c.next 7)
    (λ d. prefix_of total (eqb d.flags 1) d.value d.next (required_count total capacity c.value))))
