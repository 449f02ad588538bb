-- `section_steps::copy_field`: one copy where the value stands behind the name in the static table, else two. Assumes nothing.
use mathlib.Core.Path.{◌≡◌, sym, ◌∙◌}
use Prim.Native.Nat.{◌+◌, ◌≤◌}
use native.Mathlib.Omega.{arith}
use lib.ListN.{length}
use Rattle.field_lines.specs.Line.{TextInside}
use Rattle.section_steps.specs.Section.{length_of, Ready}
use Rattle.section_steps.proofs.Copying.{same_ready, parts_copied, fixed_end, fixed_room, whole_copied}
use Rattle.section_steps.proofs.copy_field.Goals.{Joined-name, in-Fixed+in-Fixed-value+else-start-len, in-Fixed+in_default-value, in_default}
use Rattle.section_steps.proofs.copy_field.Goals as goal

-- no test changes a string
same_texts : (c : Joined-name) → (c.match-name.name ≡ c.args.name) × (c.match-name.value ≡ c.args.value)
same_texts c =
    elim c.match-name.branch [
      | in-Fixed+in-Fixed-value+else-start-len w ↦ (w.name-is ∙ sym w.in-Fixed.is, w.value-is ∙ sym w.in-Fixed-value.is)
      | in-Fixed+in_default-value w ↦ (w.name-is ∙ sym w.in-Fixed.is, w.value-is)
      | in_default w ↦ (w.name-is, w.value-is)
    ]

-- so what was required holds of them here
ready : (c : Joined-name) → TextInside (length c.args.s.now) c.match-name.name × TextInside (length c.args.s.now) c.match-name.value
    × Ready c.args.arena.now c.match-name.name × Ready c.args.arena.now c.match-name.value
    × (c.args.at + (length_of c.match-name.name + length_of c.match-name.value) ≤ length c.args.out.now)
ready c =
    same_ready c.args.name c.args.value _ _ (same_texts c).0 (same_texts c).1 c.args.s.now c.args.arena.now c.args.at (length c.args.out.now) c.requires

pub overflow_add-start : goal.overflow_add-start
overflow_add-start c =
    omega (arith, fixed_end c.args.name c.args.value _ _ _ _ c.in-Fixed.is c.in-Fixed-value.is (length c.args.s.now) c.requires.0)

pub overflow_add-len : goal.overflow_add-len
overflow_add-len c =
    omega (arith, fixed_room c.args.name c.args.value _ _ _ _ c.in-Fixed.is c.in-Fixed-value.is c.args.at (length c.args.out.now) c.requires.4, c.ranges, c.well_formed)

pub unwrap-requires : goal.unwrap-requires
unwrap-requires c =
    let a = c.args in
    (whole_copied a.name a.value _ _ _ _ c.in-Fixed.is c.in-Fixed-value.is
    a.s.now a.arena.now a.out.now a.at _ (omega arith) (length a.s.now) c.requires.1 c.requires.4 c.copy.result c.copy.ensures).0

pub returns-then-start-len : goal.returns-then-start-len
returns-then-start-len c =
    let a = c.args in
    (whole_copied a.name a.value _ _ _ _ c.in-Fixed.is c.in-Fixed-value.is
    a.s.now a.arena.now a.out.now a.at _ (omega arith) (length a.s.now) c.requires.1 c.requires.4 c.copy.result c.copy.ensures).1

pub copy_text-requires : goal.copy_text-requires
copy_text-requires c =
    let r = ready (goal.at.copy_text-requires c).Joined-name in
    (r.0, r.2, omega (arith, r.4))

pub overflow_add-at : goal.overflow_add-at
overflow_add-at c =
    omega (arith, (ready (goal.at.overflow_add-at c).Joined-name).4, c.text_len.ensures, c.ranges, c.well_formed)

pub copy_text-requires-2 : goal.copy_text-requires-2
copy_text-requires-2 c =
    let r = ready (goal.at.copy_text-requires-2 c).Joined-name in
    (r.1, r.3, omega (arith, r.4, c.text_len.ensures, c.copy_text.auto))

pub returns : goal.returns
returns c =
    let a = c.args in
    parts_copied a.name a.value _ _ (same_texts (goal.at.returns c).Joined-name).0 (same_texts (goal.at.returns c).Joined-name).1 a.s.now a.arena.now a.at (ready (goal.at.returns c).Joined-name).0 a.out.now _ _ _ c.text_len.ensures
    c.copy_text.ensures c.copy_text-2.ensures
