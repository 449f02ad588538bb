-- Worked prefixes and counts, each computed from the definitions. Assumes nothing.
use mathlib.Core.Path.{◌≡◌, refl}
use mathlib.Core.Bool.{false}
use mathlib.Core.List.{[], ◌∷◌}
use mathlib.Core.Option.{some, none}
use Prim.Native.Nat.{◌-◌, ◌^◌}
use Rattle.answers.specs.Answer.{done, refused}
use Rattle.answers.specs.declared.Refusal.TheVariants.{UnexpectedEnd, MissingRefs, BadBaseIndex, BadInsertCount}
use Rattle.prefix_int.specs.Integer.{int_from, groups}
use Rattle.header_prefix.specs.Prefix.{required_count, base_of, prefix_at}

-- RFC 9204 B.2 and B.4: the sections of streams 4 and 8
pub b2 : prefix_at (0x03 ∷ 0x81 ∷ []) 0 2 220 ≡ done (record { required = 2; base = 0; next = 2 })
unfolding prefix_at required_count base_of int_from groups
b2 = refl

pub b4 : prefix_at (0x05 ∷ 0x00 ∷ []) 0 4 220 ≡ done (record { required = 4; base = 4; next = 2 })
unfolding prefix_at required_count base_of int_from groups
b4 = refl

-- RFC 9204 4.5.1.1: a table of 100 bytes, 10 inserts, encoded 4
pub wrapped_once_less : required_count 10 100 4 ≡ some 9
unfolding required_count
wrapped_once_less = refl

-- FullRange itself is in the range; one more is not
pub at_the_range : required_count 3 64 4 ≡ some 3
unfolding required_count
at_the_range = refl

pub past_the_range : required_count 3 64 5 ≡ none
unfolding required_count
past_the_range = refl

pub never_wrapped : required_count 0 64 4 ≡ none
unfolding required_count
never_wrapped = refl

pub zero_as_one : required_count 0 32 1 ≡ none
unfolding required_count
zero_as_one = refl

pub no_entries : required_count 0 31 1 ≡ none
unfolding required_count
no_entries = refl

-- the largest base, and one more
pub largest_base_lem : base_of 2 false (2 ^ 63 - 3) ≡ done (2 ^ 63 - 1)
unfolding base_of
largest_base_lem = refl

pub past_largest_base : base_of 2 false (2 ^ 63 - 2) ≡ refused BadBaseIndex
unfolding base_of
past_largest_base = refl

-- "a prefix tries 15, 14, 13": one prefix for each, in this order
pub no_count_first : prefix_at (0x0d ∷ 0x8d ∷ []) 0 0 220 ≡ refused BadInsertCount
unfolding prefix_at required_count base_of int_from groups
no_count_first = refl

pub no_base_next : prefix_at (0x03 ∷ 0x82 ∷ []) 0 0 220 ≡ refused BadBaseIndex
unfolding prefix_at required_count base_of int_from groups
no_base_next = refl

pub missing_last : prefix_at (0x03 ∷ 0x81 ∷ []) 0 0 220 ≡ refused MissingRefs
unfolding prefix_at required_count base_of int_from groups
missing_last = refl

-- both integers are read before the count is tried
pub cut_before_count : prefix_at (0x0d ∷ []) 0 0 220 ≡ refused UnexpectedEnd
unfolding prefix_at required_count base_of int_from groups
cut_before_count = refl

-- nothing dynamic: no count, so the sign bit is at fault
pub sign_without_count : prefix_at (0x00 ∷ 0x80 ∷ []) 0 0 0 ≡ refused BadBaseIndex
unfolding prefix_at required_count base_of int_from groups
sign_without_count = refl
