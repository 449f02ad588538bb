-- `int_writing::store`: one octet where the value ends in the prefix, else a full prefix and the groups. Assumes nothing.
use mathlib.Core.Path.{◌≡◌, ◌∙◌}
use Prim.Native.Nat.{ℕ, suc, ◌+◌, ◌-◌, ◌*◌, ◌≤◌, ◌<◌}
use native.Mathlib.Omega.{arith}
use lib.ListN.{length, length-set}
use Rattle.int_writing.specs.Octets.{encode, spell}
use Rattle.int_writing.proofs.Writing.{first_fits, encode_short, length_short, length_long, store_long}
use Rattle.int_writing.proofs.store.Lts
use Rattle.int_writing.proofs.store.Reads
use Rattle.int_writing.proofs.store.Tie
use Rattle.int_writing.proofs.store.Goals as goal

abbrev After-power-p : Type 0
After-power-p = Lts.After-power Tie.the-claims Reads.Pre Reads.Post

module _ (c : After-power-p) where
  -- the first octet fits
  first : (low : ℕ) → low < c.power-p.result → c.args.flags * c.power-p.result + low < 256
  first low h =
      let a = c.args in
      let g = c.requires in
      first_fits a.width a.flags a.value c.power-p.result c.power-p.ensures.0 low g.0 g.1 h

  -- how many octets there are
  short : let a = c.args in a.value < c.power-p.result - 1 → length (encode a.width a.flags a.value) ≡ 1
  short h = let a = c.args in length_short a.width a.flags a.value c.power-p.result c.power-p.ensures.0 h

  long : let a = c.args in
      c.power-p.result - 1 ≤ a.value
      → length (encode a.width a.flags a.value) ≡ suc (length (spell 8 (a.value - (c.power-p.result - 1))))
  long h = let a = c.args in length_long a.width a.flags a.value c.power-p.result c.power-p.ensures.0 h

pub overflow_mul-buf : goal.overflow_mul-buf
overflow_mul-buf c = omega (arith, first c.before c.args.value (omega arith))

pub overflow_add-buf : goal.overflow_add-buf
overflow_add-buf c = omega (arith, first c.before c.args.value (omega arith))

pub overflow_cast-buf : goal.overflow_cast-buf
overflow_cast-buf c = omega (arith, first c.before c.args.value (omega arith))

pub bounds-buf-at : goal.bounds-buf-at
bounds-buf-at c = omega (arith, short c.before c.if-value-top.true)

pub returns-then-value-top : goal.returns-then-value-top
returns-then-value-top c =
    let a = c.args in
    let p = c.power-p in
    rw (encode_short a.width a.flags a.value p.result p.ensures.0 c.if-value-top.true)

pub overflow_mul-buf-2 : goal.overflow_mul-buf-2
overflow_mul-buf-2 c = omega (arith, first c.before (c.power-p.result - 1) (omega arith))

pub overflow_add-buf-2 : goal.overflow_add-buf-2
overflow_add-buf-2 c = omega (arith, first c.before (c.power-p.result - 1) (omega arith))

pub overflow_cast-buf-2 : goal.overflow_cast-buf-2
overflow_cast-buf-2 c = omega (arith, first c.before (c.power-p.result - 1) (omega arith))

pub bounds-buf-at-2 : goal.bounds-buf-at-2
bounds-buf-at-2 c = omega (arith, long c.before c.if-value-top.false)

pub put-requires : goal.put-requires
put-requires c = (omega arith, simp length-set (omega (arith, long c.before.before c.if-value-top.false)))

pub returns : goal.returns
returns c =
    let d = c.before.before.before.before.before in
    let a = d.args in
    let p = d.power-p in
    c.put.ensures
    ∙ store_long a.width a.flags a.value p.result p.ensures.0 a.buf.now a.at d.if-value-top.false
