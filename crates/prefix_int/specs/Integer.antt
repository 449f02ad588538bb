-- RFC 7541 section 5.1 over lists of bytes: what a read finds, the bytes of an integer, and when a call is no good.
use Rattle.std.specs.Prelude.{cond, List, [], ◌∷◌, ℕ, zero, suc, ◌+◌, ◌-◌, ◌*◌, ◌/◌, ◌%◌, ◌^◌, ltb, drop}
use Rattle.answers.specs.Answer.{Answer, done, refused}
use Rattle.answers.specs.declared.Refusal.TheVariants.{UnexpectedEnd, Overflow, BadCall}
-- an integer that was read: the bits above its prefix, its value, and the position past it
use Rattle.prefix_int.specs.declared.Integer.{Integer}
-- the bytes of an integer
unfoldable pub use Rattle.int_writing.specs.Octets.{spell, encode}
pub use Rattle.int_writing.specs.Octets.{good_call, int_bytes, size_of}

-- "repeat: B = next octet; I = I + (B & 127) * 2^M; M = M + 7; while B & 128 == 128", with at most k octets:
-- "reading stops with Overflow when the ninth following byte still continues". f: the flags; at: the position of the list's first octet
unfoldable pub groups : ℕ → List ℕ → ℕ → ℕ → ℕ → ℕ → Answer Integer
groups zero s f at m i = refused Overflow
groups (suc k) [] f at m i = refused UnexpectedEnd
groups (suc k) (b ∷ s) f at m i =
    cond (ltb b 128)
    (done (record { flags = f; value = i + b * 2 ^ m; next = at + 1 }))
    (groups k s f (at + 1) (m + 7) (i + b % 128 * 2 ^ m))

-- "below 2^N-1 the value fits the first byte; else that byte's low bits are all ones and 7-bit groups follow, lowest first"
unfoldable pub int_from : ℕ → List ℕ → ℕ → Answer Integer
unfolding groups
int_from n [] at = refused UnexpectedEnd
int_from n (b ∷ s) at =
    cond (ltb (b % 2 ^ n) (2 ^ n - 1))
    (done (record { flags = b / 2 ^ n; value = b % 2 ^ n; next = at + 1 }))
    (groups 9 s (b / 2 ^ n) (at + 1) 0 (2 ^ n - 1))

-- "width N is 1 to 8"; another is 22
abbrev pub int_at : List ℕ → ℕ → ℕ → Answer Integer
int_at s at n = cond (good_call n 0) (int_from n (drop at s) at) (refused BadCall)
