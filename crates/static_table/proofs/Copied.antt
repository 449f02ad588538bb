-- The bytes of a stretch of the table, and what `copy` answers and leaves. Assumes nothing.
use mathlib.Core.Path.{◌≡◌}
use mathlib.Core.List.{List}
use Prim.Native.Nat.{ℕ, ◌+◌, ◌≤◌}
use lib.ListN.{length}
use Rattle.std.specs.Prelude.{Result}
use Rattle.answers.specs.declared.Refusal.{Refusal}
use Rattle.answers.specs.Answer.{done}
use Rattle.answers.specs.Write.{Writes}
use Rattle.byte_writing.specs.Stretch.{stretch_of}
use Rattle.byte_writing.proofs.Stretch.{cut, stretch_done}
use Rattle.static_table.specs.AppendixA.{appendix_a}
use Rattle.static_table.specs.Static.{laid, cut_of}

pub cut_done : (start len : ℕ) → start + len ≤ length (laid appendix_a) → cut_of start len ≡ done (cut (laid appendix_a) start len)
unfolding cut_of
cut_done start len h = stretch_done (laid appendix_a) start len h

-- a write from bytes that are the table's
pub copied : (b : List ℕ) (start len : ℕ) (l : List ℕ) (at : ℕ) (r : Result ℕ Refusal) (m : List ℕ) → b ≡ laid appendix_a
    → Writes (stretch_of b start len) l at r m → Writes (cut_of start len) l at r m
unfolding cut_of
copied b start len l at r m e w = rw e at w
