-- `prefix_int::rest`. The invariant: what the groups from here give is what they give from the start. Assumes nothing.
use mathlib.Core.Path.{◌≡◌}
use Prim.Native.Nat.{ℕ, ◌+◌, ◌-◌, ◌*◌, ◌^◌, ◌≤◌}
use lib.ListN.{drop}
use Rattle.prefix_int.specs.Integer.{groups}
use Rattle.prefix_int.proofs.rest.Given as goal

abbrev pub invariant-loop-group : goal.invariant-loop-group
invariant-loop-group l =
    (m : ℕ) × (l.weight ≡ 2 ^ m) × (m ≡ 7 * l.group) × (l.value ≤ 254 + l.weight)
    × (groups (9 - l.group) (drop l.at l.s) l.flags l.at m l.value ≡ groups 9 (drop l.from l.s) l.flags l.from 0 l.first)
