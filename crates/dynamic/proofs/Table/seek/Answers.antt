-- `dynamic::Table::seek`: nothing found, no room for a use, or the latest entry's use noted. Assumes nothing.
use mathlib.Core.Path.{◌≡◌}
use native.Mathlib.Omega.{arith}
use mathlib.Core.Option.{some}
use Rattle.entries.specs.Latest.{bytes_in, is_given}
use Rattle.dynamic.specs.Calls.{latest_of}
use Rattle.dynamic.proofs.Refer.{Near, near}
use Rattle.dynamic.proofs.Searched.{found_within, found_at}
use Rattle.dynamic.proofs.Table.seek.Goals.{In-Some}
use Rattle.dynamic.proofs.Table.seek.Goals as goal

found : (c : In-Some)
    → latest_of c.args.self.now c.args.arena.now c.args.name.now (bytes_in c.args.value) (is_given c.args.value) ≡ some c.in-Some.k
found c =
    let t = c.args.self.now in
    found_at t.ring c.args.arena.now t.ring.dropped c.args.name.now (bytes_in c.args.value) (is_given c.args.value) _
    c.requires.1 c.newest.ensures _ c.in-Some.is

here : (c : In-Some) → Near c.args.self.now c.in-Some.k
here c =
    let t = c.args.self.now in
    near t c.in-Some.k c.requires.0.rules c.requires.0.active
    (found_within t.ring c.args.arena.now t.ring.dropped c.args.name.now _ _ _ (found c))

pub overflow_add-absolute : goal.overflow_add-absolute
overflow_add-absolute c = let n = here (goal.at.overflow_add-absolute c).In-Some in omega (arith, n.below, n.counted)

pub overflow_add-absolute-2 : goal.overflow_add-absolute-2
overflow_add-absolute-2 c = let n = here (goal.at.overflow_add-absolute-2 c).In-Some in omega (arith, n.below, n.counted)

pub note-requires : goal.note-requires
note-requires c = let n = here (goal.at.note-requires c).In-Some in (omega (arith, n.from), n.offset)
