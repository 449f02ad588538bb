-- A fresh table keeps the rules, and is the model's. Assumes nothing.
use mathlib.Core.Path.{◌≡◌, refl}
use mathlib.Core.Bool.{true}
use mathlib.Core.List.{List}
use Prim.Native.Nat.{ℕ}
use Rattle.entries.specs.Entry.{between}
use Rattle.entries.specs.Rules.{keeps_rules}
use Rattle.model.specs.Table as model
use Rattle.ring.specs.Ring.{keeps}
use Rattle.blocked.specs.Waiting.{keeps_count}
use Rattle.dynamic.specs.Calls.{fresh_table}
use Rattle.dynamic.specs.Record.{sound, view}

pub fresh_sound : sound fresh_table ≡ true
unfolding sound fresh_table keeps keeps_rules between keeps_count
fresh_sound = refl

pub fresh_view : (a : List ℕ) → view fresh_table a ≡ model.fresh
unfolding view fresh_table between
fresh_view a = refl
