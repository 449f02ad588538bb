-- The ring of a fresh table keeps its rules, and so does the ring after a stream was applied to it. Assumes nothing.
use mathlib.Core.Path.{◌≡◌}
use mathlib.Core.Bool.{true}
use mathlib.Core.List.{List}
use Prim.Native.Nat.{ℕ, ◌≤◌}
use lib.ListN.{length}
use borrow.Author.Tests.{le-leb}
use Rattle.arena.specs.Ring.{ring, long_enough}
use Rattle.dynamic.specs.Calls.{fresh_table}
use Rattle.dynamic.specs.Record.{sound, usable}
use Rattle.dynamic.specs.declared.Table.{Table}
use Rattle.dynamic.proofs.Fresh.{fresh_sound}
use Rattle.dynamic.proofs.Sound.{facts}
use Rattle.encoder_stream.specs.Stream.{Receives}
use Rattle.encoder_stream.specs.declared.Received.{Received}
use Rattle.entries.proofs.Chain.{and_left}
use Rattle.ring.specs.Ring.{keeps}

module _ {t : Table} (fresh : t ≡ fresh_table) where
  pub fresh_keeps : keeps t.ring ≡ true
  fresh_keeps = rw fresh (facts fresh_table fresh_sound).ring

  pub received_keeps : {a b s o p : List ℕ} {r : Received} → Receives t a b s o p r → ring ≤ length a → keeps r.table.ring ≡ true
  received_keeps {a} {b} {r = r} done room =
      let before : usable t a ≡ true = rw (fresh, fresh_sound, le-leb ring (length a) room) in
      (facts r.table (and_left (sound r.table) (long_enough b) (done.kept before))).ring
