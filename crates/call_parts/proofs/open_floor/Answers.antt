-- `call_parts::open_floor`: the floor of an open section that keeps its rules. Assumes nothing.
use mathlib.Core.Path.{◌≡◌}
use mathlib.Core.Bool.{true}
use Prim.Native.Nat.{◌+◌, ◌<◌, ◌≤◌}
use native.Mathlib.Omega.{arith}
use borrow.Author.Tests.{le-leb, lt-leb}
use Rattle.entries.specs.Entry.{slots}
use Rattle.tracking.specs.Queue.{Floor, section_live}
use Rattle.tracking.proofs.Floors.{few_uses}
use Rattle.tracking.proofs.Flooring.{dies, lives, lowers}
use Rattle.call_parts.specs.Parts.{open_floor}
use Rattle.call_parts.proofs.Opening.{Opened, is_opened, open_found}
use Rattle.call_parts.proofs.open_floor.Goals.{Else-not-active, In_ok-floor}
use Rattle.call_parts.proofs.open_floor.Goals as goal

is_open : (c : Else-not-active) → c.args.active ≡ true
is_open c = c.if-not-active.false

live : (c : In_ok-floor) → section_live c.args.dropped c.args.inserted c.args.section.now ≡ true
live c = lives _ _ _ _ _ c.section_floor.ensures _ c.in_ok-floor.was

floors : (c : In_ok-floor)
    → let a = c.args in
    Opened a.base a.section.now a.dropped a.inserted
    → ◌≡◌ {A = Floor} (record { live = true; low = c.in_ok-floor.floor }) (open_floor a.active a.base a.section.now a.dropped a.inserted a.low)
floors c rules =
    rw (← lowers _ _ _ _ _ c.section_floor.ensures _ c.in_ok-floor.was)
    (open_found _ _ _ _ _ _ (is_open (goal.at.In_ok-floor c).Else-not-active) (is_opened _ _ _ _ rules))

pub returns-then-not-active : goal.returns-then-not-active
unfolding open_floor
returns-then-not-active c = rw c.if-not-active.true

pub returns-in_err-floor : goal.returns-in_err-floor
unfolding open_floor
returns-in_err-floor c =
    let dead = dies _ _ _ _ _ c.section_floor.ensures c.in_err-floor.was in
    rw (c.from_residual.ensures, is_open (goal.at.returns-in_err-floor c).Else-not-active, dead)

pub returns-then-inserted-base : goal.returns-then-inserted-base
unfolding open_floor
returns-then-inserted-base c =
    let at = goal.at.returns-then-inserted-base c in
    rw (is_open at.Else-not-active, live at.In_ok-floor, lt-leb _ _ c.if-inserted-base.true)

pub returns-then-dropped-from : goal.returns-then-dropped-from
unfolding open_floor
returns-then-dropped-from c =
    let at = goal.at.returns-then-dropped-from c in
    rw (is_open at.Else-not-active, live at.In_ok-floor, le-leb _ _ c.if-inserted-base.false, lt-leb _ _ c.if-dropped-from.true)

pub returns-then-inserted-from : goal.returns-then-inserted-from
returns-then-inserted-from c =
    let at = goal.at.returns-then-inserted-from c in
    let s = c.args.section.now in
    let within : c.args.inserted ≤ s.from + slots + s.used = omega arith in
    floors at.In_ok-floor (record { live = live at.In_ok-floor; base_within = c.if-inserted-base.false; from_low = c.if-dropped-from.false; every = within })

pub overflow_add-section : goal.overflow_add-section
overflow_add-section c =
    let a = c.args in
    omega (arith, few_uses a.dropped a.inserted a.section.now (live (goal.at.overflow_add-section c).In_ok-floor))

pub returns-then-section-inserted : goal.returns-then-section-inserted
unfolding open_floor
returns-then-section-inserted c =
    let at = goal.at.returns-then-section-inserted c in
    let s = c.args.section.now in
    let over : s.from + slots + s.used < c.args.inserted = omega arith in
    rw (
      is_open at.Else-not-active,
      live at.In_ok-floor,
      le-leb _ _ c.if-inserted-base.false,
      le-leb _ _ c.if-dropped-from.false,
      lt-leb _ _ over,
    )

pub returns : goal.returns
returns c =
    let at = goal.at.returns c in
    let s = c.args.section.now in
    let within : c.args.inserted ≤ s.from + slots + s.used = omega arith in
    floors at.In_ok-floor (record { live = live at.In_ok-floor; base_within = c.if-inserted-base.false; from_low = c.if-dropped-from.false; every = within })
