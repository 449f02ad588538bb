-- `forms::head_of`: every width is below 8, and the flags leave room for one more. Assumes nothing.
use native.Mathlib.Nat.{add-zero}
use native.Mathlib.Omega.{arith}
use Rattle.forms.proofs.Every.{width_high, flags_high}
use Rattle.forms.proofs.head_of.Goals as goal

pub overflow_shr-flags : goal.overflow_shr-flags
overflow_shr-flags c = rw c.form_of-form.ensures (omega (arith, width_high c.args.kind))

pub overflow_add-result : goal.overflow_add-result
overflow_add-result c = rw c.form_of-form.ensures (omega (arith, flags_high c.args.kind))

pub returns-then-lowest : goal.returns-then-lowest
returns-then-lowest c = rw (c.form_of-form.ensures, c.if-lowest.true)

pub returns : goal.returns
returns c = rw (c.form_of-form.ensures, c.if-lowest.false, add-zero)
