-- `tracking::note`: both cases of the place that `place_of` finds are its callees'. Assumes nothing.
use mathlib.Core.Path.{sym, ◌∙◌}
use native.Mathlib.Omega.{arith}
use lib.ListN.{take}
use Rattle.std.proofs.lemmas.List.{length-take}
use Rattle.blocked.proofs.Searching.{found, absent}
use Rattle.tracking.specs.declared.Held.{Held}
use Rattle.tracking.proofs.Noting.{too_long}
use Rattle.tracking.proofs.note.Goals as goal

pub returns-then-section-gt-SECTION_ENTRIES : goal.returns-then-section-gt-SECTION_ENTRIES
returns-then-section-gt-SECTION_ENTRIES c = sym (too_long _ _ _ c.if-section-gt-SECTION_ENTRIES.true)

pub use_again-requires : goal.use_again-requires
use_again-requires c =
    let s = c.args.section.now in
    let f = found (λ (h : Held). h.offset) c.args.offset (take s.used s.uses) _ (sym c.place_of.ensures ∙ c.in-Some.is) in
    (c.if-section-gt-SECTION_ENTRIES.false, f.0, omega (arith, f.1, length-take s.used s.uses))

pub use_first-requires : goal.use_first-requires
use_first-requires c =
    let s = c.args.section.now in
    let f = absent (λ (h : Held). h.offset) c.args.offset (take s.used s.uses) (sym c.place_of.ensures ∙ c.in-None.is) in
    (c.if-section-gt-SECTION_ENTRIES.false, omega (arith, f, length-take s.used s.uses))
