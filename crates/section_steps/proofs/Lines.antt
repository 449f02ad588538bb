-- The line of each reader, and a line past the prefix on what is live of a table. Assumes nothing.
use mathlib.Core.Path.{◌≡◌, refl, ◌∙◌}
use mathlib.Core.List.{List}
use mathlib.Core.Option.{none}
use Prim.Native.Nat.{ℕ, ◌≤◌, ◌<◌}
use lib.ListN.{length}
use borrow.Author.Tests.{le-leb, lt-leb}
use Rattle.std.specs.Prelude.{Ok, Err}
use Rattle.answers.specs.Answer.{Answer, done}
use Rattle.answers.specs.declared.Refusal.TheVariants.{BadCall}
use Rattle.arena.specs.Ring.{ring}
use Rattle.dynamic.specs.declared.Table.{Table}
use Rattle.field_lines.specs.Line.{Read, Live, line_on, line_static, live_of}
use Rattle.section_steps.specs.Section.{Line, on_table, stateless, line_with, cursor_at, ended_of, field_step, line_of, bytes_of, bytes_at, stored_by, line_in, out_in}
use Rattle.section_steps.specs.declared.Cursor.{Cursor}
use Rattle.section_steps.proofs.Stepping.{Next, long_there, same_used}

pub line_static_lem : (most base : ℕ) (s : List ℕ) (at : ℕ) → line_static s at ≡ line_with (stateless most) base s at
unfolding line_with
line_static_lem most base s at = refl

-- ---- a line past the prefix, case by case

pub record NextIn (v : Live) (a s l m : List ℕ) (room : ℕ) (c : Cursor) (y : Line) : Type 0 where
  pub answer : y ≡ line_in v a s room (length l) c
  pub bytes : m ≡ out_in v s c l y

module _ (v : Live) (a s l : List ℕ) (room : ℕ) (c : Cursor) (y : Line) where
  pub in_short : length a < ring → y ≡ ended_of (Err BadCall) c → NextIn v a s l l room c y
  in_short h e = record { answer = rw (e, lt-leb ring (length a) h); bytes = rw e }

  module _ (long : ring ≤ length a) where
    pub in_ended : length s ≤ c.at → y ≡ ended_of (Ok tt) c → NextIn v a s l l room c y
    in_ended over e = record { answer = rw (e, le-leb ring (length a) long, le-leb (length s) c.at over); bytes = rw e }

    pub in_placed : c.at < length s → (x : Answer Read) → x ≡ line_on v c.base s c.at
        → y ≡ field_step none room (length l) c x → (m : List ℕ) → m ≡ stored_by c l y (bytes_of x) → NextIn v a s l m room c y
    in_placed more x q e m w =
        record {
          answer = e ∙ rw (q, le-leb ring (length a) long, lt-leb (length s) c.at more);
          bytes = w ∙ rw q;
        }

-- ---- the same on a table, from a cursor whose prefix gives the one that was read on from

module _ (t : Table) (a s l m : List ℕ) (room : ℕ) (c d : Cursor) (h : cursor_at (on_table t a) s c ≡ done d) (y : Line)
    (answer : y ≡ line_in (live_of t.ring a) a s room (length l) d) (bytes : m ≡ out_in (live_of t.ring a) s d l y) where
  pub next_in : Next (on_table t a) s l m room c y
  unfolding line_of bytes_at line_with
  next_in =
      record {
        answer = answer ∙ rw (long_there t a s c d h, h);
        bytes = bytes ∙ rw (h, same_used (on_table t a) s c d h);
      }
