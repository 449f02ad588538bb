-- RFC 7541 section 5.1: the bytes of an integer, and when a call is no good.
use Rattle.std.specs.Prelude.{Bool, false, cond, List, [], ◌∷◌, ℕ, zero, suc, ◌+◌, ◌-◌, ◌*◌, ◌/◌, ◌%◌, ◌^◌, ltb, length}
use Rattle.answers.specs.Answer.{Answer, done, refused, and_then}
use Rattle.answers.specs.declared.Refusal.TheVariants.{BadCall, CountTooLarge}

-- "while I >= 128: encode I % 128 + 128; I = I / 128. encode I", with at most k octets before the last
unfoldable pub spell : ℕ → ℕ → List ℕ
spell zero i = i ∷ []
spell (suc k) i = cond (ltb i 128) (i ∷ []) ((i % 128 + 128) ∷ spell k (i / 128))

-- the octets of v, with the flags f above a prefix of n bits: "if I < 2^N - 1, encode I on N bits; else encode 2^N - 1 on N bits; I = I - (2^N - 1); .."
unfoldable pub encode : ℕ → ℕ → ℕ → List ℕ
encode n f v = cond (ltb v (2 ^ n - 1)) ((f * 2 ^ n + v) ∷ []) ((f * 2 ^ n + (2 ^ n - 1)) ∷ spell 8 (v - (2 ^ n - 1)))

-- "22: width, flags past 8-N bits"
abbrev pub good_call : ℕ → ℕ → Bool
good_call n f = cond (ltb n 1) false (cond (ltb 8 n) false (ltb f (2 ^ (8 - n))))

-- what is to be written: "23: writing 2^63 or more"
abbrev pub int_bytes : ℕ → ℕ → ℕ → Answer (List ℕ)
int_bytes n f v = cond (good_call n f) (cond (ltb v (2 ^ 63)) (done (encode n f v)) (refused CountTooLarge)) (refused BadCall)

-- "how many bytes an integer takes is answered before any is written"
abbrev pub size_of : ℕ → ℕ → Answer ℕ
size_of n v = and_then (int_bytes n 0 v) (λ bytes. done (length bytes))
