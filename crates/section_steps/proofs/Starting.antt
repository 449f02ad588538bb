-- Where the first line of a section on a table stands, case by case. Assumes nothing.
use mathlib.Core.Path.{◌≡◌, refl, sym, ap, ◌∙◌}
use mathlib.Core.Bool.{Bool, true, false, cond}
use mathlib.Core.List.{List}
use Prim.Native.Nat.{ℕ, ◌≤◌}
use lib.ListN.{length}
use borrow.Author.Tests.{le-leb}
use Rattle.std.specs.Prelude.{Some, None, Option as Maybe}
use Rattle.answers.specs.Answer.{Answer, done, refused, and_then}
use Rattle.answers.specs.declared.Refusal.TheVariants.{SectionOpen, BadCall}
use Rattle.arena.specs.Ring.{ring}
use Rattle.dynamic.specs.Record.{sound, lowest_used, checked, checking, Checked}
use Rattle.dynamic.specs.declared.Table.{Table}
use Rattle.header_prefix.specs.Prefix.{prefix_at}
use Rattle.header_prefix.specs.declared.Prefix.{Prefix}
use Rattle.section_steps.specs.Section.{on_table, start_of, begun, cursor_at}
use Rattle.section_steps.specs.declared.Cursor.{Cursor}

-- what a check of the record tells
told : (t : Table) (o : Maybe ℕ) → checked o ≡ checking t → (checked o).sound ≡ sound t
unfolding checking
told t o h = ap (λ (k : Checked). k.sound) h ∙ go (sound t)
  where
    go : (b : Bool) → (cond {A = Checked} b (record { sound = true; low = lowest_used t }) (record { sound = false; low = 0 })).sound ≡ b
    go true = refl
    go false = refl

module _ (t : Table) (a s : List ℕ) (c : Cursor) (long : ring ≤ length a) (first : c.started ≡ false) (o : Maybe ℕ) (h : checked o ≡ checking t) where
  pub on_broken : o ≡ None → refused BadCall ≡ cursor_at (on_table t a) s c
  unfolding cursor_at start_of
  on_broken e =
      let broken : sound t ≡ false = sym (told t o h) ∙ ap (λ (x : Maybe ℕ). (checked x).sound) e in
      rw (first, broken)

  module _ (low : ℕ) (e : o ≡ Some low) where
    keeps : sound t ≡ true
    keeps = sym (told t o h) ∙ ap (λ (x : Maybe ℕ). (checked x).sound) e

    pub on_open : t.active ≡ true → refused SectionOpen ≡ cursor_at (on_table t a) s c
    unfolding cursor_at start_of
    on_open on = rw (first, keeps, le-leb ring (length a) long, on)

    pub on_prefix : t.active ≡ false → (p : Answer Prefix) → p ≡ prefix_at s 0 t.ring.inserted t.ring.capacity
        → and_then p (λ q. done (begun c q)) ≡ cursor_at (on_table t a) s c
    unfolding cursor_at start_of
    on_prefix off p g = rw (first, keeps, le-leb ring (length a) long, off, g)
