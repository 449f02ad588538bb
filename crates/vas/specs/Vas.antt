-- The specification: "Absolute indexes start at 1. With I inserted and D dropped, relative i names absolute I-i; with base B it names B-i,
-- and post-base i names B+i+1. The named entry must be live, D < absolute <= I, else refused."
use Rattle.std.specs.Prelude.{Result, Ok, Err, Bool, ◌&&◌, cond, ℕ, ◌+◌, ◌-◌, ltb, leb}
use Rattle.answers.specs.declared.Refusal.{Refusal}
use Rattle.answers.specs.Answer.{Answer, done, refused}
use Rattle.answers.specs.declared.Refusal.TheVariants.{BadRelativeIndex, BadPostbaseIndex, BadIndex}

abbrev pub is_live : ℕ → ℕ → ℕ → Bool
is_live i d absolute = ltb d absolute && leb absolute i

-- the oldest live entry is at position 0
abbrev pub position_of : ℕ → ℕ → ℕ
position_of d absolute = absolute - d - 1

-- "5: relative entry dropped or below 1; no live entry. 7: position at or past the live count, where 5 doesn't apply"
abbrev pub named : ℕ → ℕ → ℕ → Answer ℕ
named i d absolute =
    cond (leb i d)
    (refused BadRelativeIndex)
    (cond (leb absolute d)
    (refused BadRelativeIndex)
    (cond (leb (i - d) (position_of d absolute)) (refused BadIndex) (done (position_of d absolute))))

abbrev pub relative_at : ℕ → ℕ → ℕ → Answer ℕ
relative_at i d index = named i d (i - index)

abbrev pub base_relative_at : ℕ → ℕ → ℕ → ℕ → Answer ℕ
base_relative_at i d base index = named i d (base - index)

-- "6: post-base not live, or sum past 2^64-1": a sum past the largest count names no live entry
abbrev pub post_base_at : ℕ → ℕ → ℕ → ℕ → Answer ℕ
post_base_at i d base index =
    cond (is_live i d (base + index + 1)) (done (position_of d (base + index + 1))) (refused BadPostbaseIndex)

-- the entry at a position; "7: position at or past the live count"
abbrev pub absolute_of : ℕ → ℕ → ℕ → Answer ℕ
absolute_of i d position = cond (ltb position (i - d)) (done (d + position + 1)) (refused BadIndex)
