-- `entries::stands`: the name, then the value is compared, where they are asked for. Assumes nothing.
use mathlib.Core.Path.{sym, ◌∙◌}
use mathlib.Core.Bool.{and-true, and-false}
use Prim.Native.Nat.{◌+◌}
use lib.ListN.{length}
use Rattle.arena.specs.Ring.{ring_read}
use Rattle.field.specs.Field.{same}
use Rattle.entries.proofs.Searching.{other_length}
use Rattle.entries.proofs.stands.Goals as goal

pub returns-in_default : goal.returns-in_default
returns-in_default c = c.is_at.ensures ∙ rw (c.requires.0, c.in_default.is) (sym (and-true _))

pub returns-then-len-value : goal.returns-then-len-value
returns-then-len-value c =
    let g = c.args in
    rw (c.in-Some.is, other_length g.arena.now (g.start + length g.name.now) g.len c.in-Some.value.now c.if-len-value.true)
    (sym (and-false (same g.name.now (ring_read g.arena.now g.start (length g.name.now)))))

pub returns-then-not-is_at : goal.returns-then-not-is_at
returns-then-not-is_at c = rw (c.in-Some.is, sym (rw c.requires.0 at c.is_at-2.ensures) ∙ c.if-not-is_at.true)

pub returns : goal.returns
returns c =
    c.is_at-3.ensures
    ∙ rw (c.requires.0, c.in-Some.is, sym (rw c.requires.0 at c.is_at-2.ensures) ∙ c.if-not-is_at.false, c.if-len-value.false)
