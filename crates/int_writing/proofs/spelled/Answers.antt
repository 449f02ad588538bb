-- `int_writing::spelled`: the count of groups from the leading zeros. Assumes nothing.
use mathlib.Core.Path.{sym}
use native.Mathlib.Omega.{arith}
use lib.Count.{leading_le}
use Rattle.int_writing.proofs.Writing.{length_last, spelled_law}
use Rattle.int_writing.proofs.spelled.Goals as goal

pub returns-then-rest-lt128 : goal.returns-then-rest-lt128
returns-then-rest-lt128 c = (sym (length_last 8 c.args.rest c.if-rest-lt128.true), omega arith)

pub overflow_sub-bits : goal.overflow_sub-bits
overflow_sub-bits c = omega (arith, leading_le 64 c.args.rest)

pub returns : goal.returns
returns c = (spelled_law c.args.rest c.if-rest-lt128.false c.requires, omega arith)
