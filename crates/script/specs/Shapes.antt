-- Where a command's numbers stand, 8 bytes each: the arena's length, the output buffer's length and fill, and the others.
use Rattle.std.specs.Prelude.{cond, ℕ, ◌+◌, ◌*◌, ◌%◌}
use Rattle.script.specs.declared.opcodes.Shape.{Shape}

-- behind the arena's length
abbrev pub out_at : Shape → ℕ
out_at s = cond s.arena 8 0

-- behind the output buffer's two
abbrev pub others_at : Shape → ℕ
others_at s = out_at s + cond s.out 16 0

-- the count of the others is a digit
abbrev pub numbers_end : Shape → ℕ
numbers_end s = others_at s + 8 * (s.numbers % 10)
