-- The bytes of a plain string (RFC 7541 5.2): its H bit, its length and its bytes.
use Rattle.std.specs.Prelude.{Bool, false, cond, List, ◌++◌, ℕ, ◌+◌, ◌*◌, length}
use Rattle.answers.specs.Answer.{Answer, done, refused, and_then}
use Rattle.answers.specs.declared.Refusal.TheVariants.{BadCall}
use Rattle.prefix_int.specs.Integer.{encode, good_call, size_of}

-- "22: width, flags past 8-N bits", of a length of n bits and of H with it, which are n + 1
abbrev pub good_text : ℕ → ℕ → Bool
good_text n f = cond (good_call n 0) (good_call (n + 1) f) false

-- "strings are written plain": H is 0
abbrev pub plain : ℕ → ℕ → List ℕ → List ℕ
plain n f t = encode n (f * 2) (length t) ++ t

abbrev pub text_bytes : ℕ → ℕ → List ℕ → Answer (List ℕ)
text_bytes n f t = cond (good_text n f) (done (plain n f t)) (refused BadCall)

-- how many bytes a string of m bytes takes: its length, with H and the flags, and then its bytes
abbrev pub text_size : ℕ → ℕ → ℕ → Answer ℕ
text_size n f m = cond (good_text n f) (and_then (size_of n m) (λ head. done (head + m))) (refused BadCall)
