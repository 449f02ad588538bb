-- The line at a position is the one of its first byte's kind. Assumes nothing.
use mathlib.Core.Path.{◌≡◌, sym, ◌∙◌}
use mathlib.Core.List.{List}
use Prim.Native.Nat.{ℕ, ◌<◌}
use lib.ListN.{length, get_or}
use borrow.Author.Tests.{lt-leb}
use Rattle.forms.specs.Forms.{line_kind}
use Rattle.forms.specs.declared.HeaderBlockField.{HeaderBlockField}
use Rattle.block.specs.Lines.{line_of, line_at}

pub line_by_kind : (s : List ℕ) (at : ℕ) (k k' : HeaderBlockField) → at < length s → k' ≡ line_kind (get_or s at 0) → k' ≡ k
    → line_of s at k ≡ line_at s at
unfolding line_at
line_by_kind s at k k' l e m = let h : k ≡ line_kind (get_or s at 0) = sym m ∙ e in rw (lt-leb _ _ l, ← h)
