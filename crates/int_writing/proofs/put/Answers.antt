-- `int_writing::put`. The invariant: storing what is left to spell gives the list that storing all gives. Assumes nothing.
use mathlib.Core.Path.{◌≡◌, refl, ◌∙◌}
use Prim.Native.Nat.{suc, ◌-◌, ◌/◌}
use native.Mathlib.Omega.{arith}
use lib.ListN.{length, length-set}
use Rattle.int_writing.specs.Octets.{spell}
use Rattle.int_writing.proofs.Writing.{length_last, length_more, put_last, put_more, spell_fits}
use Rattle.int_writing.proofs.put.Lts
use Rattle.int_writing.proofs.put.Reads
use Rattle.int_writing.proofs.put.Goals as goal

abbrev In-loop-i : Type 0
In-loop-i = Lts.In-loop Reads.Pre Reads.Post goal.the-invariant-loop-i goal.the-decreases-loop-i

pub loop-i-init : goal.loop-i-init
loop-i-init c = (8, c.requires.0, c.requires.1, refl, refl)

-- the octets left, one more than are left after this one
more : (c : In-loop-i)
    → let L = c.loop-i in length (spell L.invariant.0 L.i) ≡ suc (length (spell (L.invariant.0 - 1) (L.i / 128)))
more c = let L = c.loop-i in length_more L.invariant.0 L.i c.loop-i-test.true L.invariant.1

pub bounds-buf-at : goal.bounds-buf-at
bounds-buf-at c = omega (arith, more c)

pub overflow_add-at : goal.overflow_add-at
overflow_add-at c = omega (arith, more c)

pub loop-i-preserved : goal.loop-i-preserved
loop-i-preserved c =
    let L = c.loop-i in (
      L.invariant.0 - 1,
      spell_fits L.invariant.0 L.i c.loop-i-test.true L.invariant.1,
      simp length-set (omega (arith, more c)),
      simp length-set L.invariant.3,
      put_more L.invariant.0 L.i c.loop-i-test.true L.invariant.1 L.buf L.at ∙ L.invariant.4,
    )

pub bounds-buf-at-2 : goal.bounds-buf-at-2
bounds-buf-at-2 c = omega (arith, length_last c.loop-i.invariant.0 c.loop-i.i c.loop-i-test.false)

pub returns : goal.returns
returns c =
    let L = c.loop-i in
    put_last L.buf L.at L.invariant.0 L.i c.loop-i-test.false ∙ L.invariant.4
