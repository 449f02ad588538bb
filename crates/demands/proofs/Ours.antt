-- Reports in any order on a table that came from ours, with any calls before and after. Assumes nothing.
use mathlib.Core.Path.{◌≡◌}
use mathlib.Core.Bool.{true, false}
use mathlib.Core.List.{List}
use Prim.Native.Nat.{ℕ, ◌+◌, ◌≤◌}
use Rattle.arena.specs.Ring.{long_enough}
use Rattle.decoder_stream.specs.Reports.{Report}
use Rattle.dynamic.specs.Calls.{fresh_table}
use Rattle.reorder.specs.Reports.{Reordered, total}
use Rattle.ring.specs.Ring.{largest_count}
use Rattle.demands.specs.Calls.{holds, Call, outcomes, after, AllLongEnough, batch}
use Rattle.demands.proofs.Sequences.{same_calls_later, ours_is_ready}

-- so from a fresh table: any calls that leave no section open, then the batch in two orders, then any calls
pub ours_reordered : (a : List ℕ) → long_enough a ≡ true → (first : List Call) → AllLongEnough first
    → (after (holds fresh_table a) first).table.active ≡ false → (xs ys : List Report) → Reordered xs ys
    → (after (holds fresh_table a) first).table.known + total xs ≤ largest_count → (later : List Call)
    → outcomes (after (after (holds fresh_table a) first) (batch xs)) later ≡ outcomes (after (after (holds fresh_table a) first) (batch ys)) later
ours_reordered a l first w e xs ys r h later =
    let x = after (holds fresh_table a) first in
    same_calls_later x.table (ours_is_ready a l first w e) xs ys r h x.arena later
