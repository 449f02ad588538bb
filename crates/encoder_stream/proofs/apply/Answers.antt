-- `encoder_stream::apply`: each instruction's own function; its strings lie in the slice. Assumes nothing.
use mathlib.Core.Bool.{true, false}
use native.Mathlib.Omega.{arith}
use lib.ListN.{length}
use Rattle.encoder_stream.specs.Entries.{holding}
use Rattle.encoder_stream.proofs.Applying.{literal_within, name_ref_within, applies_duplicate, applies_capacity, applies_literal, applies_name_ref}
use Rattle.encoder_stream.proofs.apply.Goals as goal

-- an insert's strings lie in the slice
pub overflow_add-name_end : goal.overflow_add-name_end
overflow_add-name_end c = omega (arith, literal_within (length c.args.s.now) c.args.one _ _ _ _ c.in-Literal.is c.requires)

pub overflow_add-value_end : goal.overflow_add-value_end
overflow_add-value_end c = omega (arith, literal_within (length c.args.s.now) c.args.one _ _ _ _ c.in-Literal.is c.requires)

pub overflow_add-end : goal.overflow_add-end
overflow_add-end c = omega (arith, name_ref_within (length c.args.s.now) c.args.one _ _ _ _ c.in-NameRef.is c.requires)

pub returns-in-Duplicate : goal.returns-in-Duplicate
returns-in-Duplicate c =
    let a = c.args in
    applies_duplicate a.low (holding a.ring.now a.arena.now) a.s.now a.one _ c.in-Duplicate.is c.duplicate.ensures

pub returns-in-Capacity : goal.returns-in-Capacity
returns-in-Capacity c =
    let a = c.args in
    applies_capacity a.low (holding a.ring.now a.arena.now) a.s.now a.one _ c.in-Capacity.is (c.set_capacity.ensures _)

pub returns-in-Literal : goal.returns-in-Literal
returns-in-Literal c =
    let a = c.args in
    applies_literal a.low (holding a.ring.now a.arena.now) a.s.now a.one _ _ _ _ c.in-Literal.is c.push.ensures

pub returns-then-is_static : goal.returns-then-is_static
returns-then-is_static c =
    let a = c.args in
    applies_name_ref a.low (holding a.ring.now a.arena.now) a.s.now a.one _ true _ _ _ c.in-NameRef.is c.if-is_static.true c.insert_static.ensures

pub returns-else-is_static : goal.returns-else-is_static
returns-else-is_static c =
    let a = c.args in
    applies_name_ref a.low (holding a.ring.now a.arena.now) a.s.now a.one _ false _ _ _ c.in-NameRef.is c.if-is_static.false c.insert_named.ensures
