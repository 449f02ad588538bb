-- `section_steps::next_stateless`: why there is no line, the end, or the field of the line. Assumes nothing.
use mathlib.Core.Path.{◌≡◌, refl, sym, ap, ◌∙◌}
use mathlib.Core.List.{[]}
use Rattle.answers.specs.Answer.{answered, done}
use Rattle.section_steps.specs.Section.{stateless, cursor_at}
use Rattle.section_steps.proofs.Lines.{line_static_lem}
use Rattle.section_steps.proofs.Stepping.{ready_static, next_refused, next_ended, next_placed}
use Rattle.section_steps.proofs.next_stateless.Goals.{In-Ok}
use Rattle.section_steps.proofs.next_stateless.Goals as goal

stands : (c : In-Ok) → cursor_at (stateless c.args.max.bytes)
    c.args.s.now c.args.c ≡ done c.in-Ok.d
stands c = sym (c.begin_stateless.ensures _) ∙ ap answered c.in-Ok.is

pub returns-then-s-d : goal.returns-then-s-d
returns-then-s-d c =
    let a = c.args in
    let n = next_ended (stateless a.max.bytes) a.s.now a.out.now a.room a.c _ _ (stands (goal.at.returns-then-s-d c).In-Ok) c.if-s-d.true refl in
    (n.answer, n.bytes)

pub place-requires : goal.place-requires
place-requires c =
    let a = c.args in
    ready_static a.s.now [] _ c.read_static-line.result c.read_static-line.ensures.field_fixed c.read_static-line.ensures.field_inside

pub returns-in-Err : goal.returns-in-Err
returns-in-Err c =
    let a = c.args in
    let n = next_refused (stateless a.max.bytes) a.s.now a.out.now a.room a.c _ _ (sym (c.begin_stateless.ensures _) ∙ ap answered c.in-Err.is) refl in
    (n.answer, n.bytes)

pub returns-else-s-d : goal.returns-else-s-d
returns-else-s-d c =
    let a = c.args in
    let n = next_placed (stateless a.max.bytes) a.s.now a.out.now a.room a.c _ _ (stands (goal.at.returns-else-s-d c).In-Ok) c.if-s-d.false _ (c.read_static-line.ensures.by_index [] ∙ line_static_lem _ _ _ _) c.place.ensures.0 _ c.place.ensures.1 in
    (n.answer, n.bytes)
