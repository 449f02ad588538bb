-- A step that goes on found a field: its line lies in the section, and its record in the list. Assumes nothing.
use mathlib.Core.Path.{◌≡◌, refl}
use mathlib.Core.Bool.{Bool, true, false, cond}
use mathlib.Core.List.{List}
use Prim.Native.Nat.{ℕ, ◌+◌, ◌≤◌, ◌<◌}
use native.Mathlib.Omega.{arith}
use lib.Dec.{leb}
use lib.ListN.{length, get_or}
use Rattle.std.specs.Prelude.{Result, Ok, Err}
use Rattle.answers.specs.declared.Refusal.{Refusal}
use Rattle.answers.specs.Answer.{Answer, done, refused, and_then}
use Rattle.answers.specs.declared.Refusal.TheVariants.{UnexpectedEnd, MissingRefs, OutputFull, HeaderTooLong}
use Rattle.answers.proofs.Then.{then_done}
use Rattle.field.specs.Field.{overhead, Field}
use Rattle.block.specs.Lines.{FieldLine, indexed, named, literal, line_at}
use Rattle.line_writing.specs.declared.Reference.{Reference}
use Rattle.block.proofs.Found.{Lies, line_lies}
use Rattle.field_lines.specs.Line.{Read, entry_on, entry_static, field_of_line, line_on, line_static, live_of, is_post_base}
use Rattle.forms.specs.Forms.{line_kind}
use Rattle.section_steps.specs.Section.{Line, Reader, on_table, stateless, line_with, most_of, cursor_at, ended_of, found_of, is_over, fits, placed_of, field_step, step_of, line_from, line_of}
use Rattle.section_steps.specs.declared.Cursor.{Cursor}
use Rattle.section_steps.proofs.Placing.{fits_facts}
use Rattle.section_steps.proofs.Stepping.{same_count}

-- ---- the line of a field lies in the section

pub record Ends (s : List ℕ) (at next : ℕ) : Type 0 where
  pub past : at < next
  pub within : next ≤ length s

line_ends : (s : List ℕ) (at : ℕ) (entry : Reference → Answer Field) (l : FieldLine) (f : Read) → field_of_line entry s l ≡ done f → Lies s at l → Ends s at f.next
line_ends s at entry (indexed r e) f h w =
    let p = then_done (entry r) (λ g. done (record { field = g; next = e })) f h in
    let q : e ≡ f.next = let z = p.2 in cc in
    record { past = omega (arith, q, w.0); within = omega (arith, q, w.1) }
line_ends s at entry (named r v n e) f h w =
    let p = then_done (entry r) _ f h in
    let q : e ≡ f.next = let z = p.2 in cc in
    record { past = omega (arith, q, w.1); within = omega (arith, q, w.2) }
line_ends s at entry (literal a m b n e) f h w =
    let q : e ≡ f.next = cc in
    record { past = omega (arith, q, w.2); within = omega (arith, q, w.3) }

of_line : (s : List ℕ) (at : ℕ) (entry : Reference → Answer Field) (f : Read) → and_then (line_at s at) (field_of_line entry s) ≡ done f → Ends s at f.next
of_line s at entry f h =
    let p = then_done (line_at s at) (field_of_line entry s) f h in
    line_ends s at entry p.0 f p.2 (line_lies s at p.0 p.1)

pub field_ends : (k : Reader) (base : ℕ) (s : List ℕ) (at : ℕ) (f : Read) → line_with k base s at ≡ done f → Ends s at f.next
unfolding line_with line_on line_static
field_ends (on_table t a) base s at f h = of_line s at (entry_on (live_of t.ring a) base) f h
field_ends (stateless most) base s at f h = go (leb (length s) at) (is_post_base (line_kind (get_or s at 0))) h
  where
    go : (x y : Bool) → cond x (refused UnexpectedEnd) (cond y (refused MissingRefs) (and_then (line_at s at) (field_of_line entry_static s))) ≡ done f
        → Ends s at f.next
    go true y h = let z : ◌≡◌ {A = ℕ} 0 1 = cc in absurd (omega arith)
    go false true h = let z : ◌≡◌ {A = ℕ} 0 1 = cc in absurd (omega arith)
    go false false h = of_line s at entry_static f h

-- ---- a step that goes on

pub record Goes (k : Reader) (s : List ℕ) (room : ℕ) (c : Cursor) (l : Line) : Type 0 where
  pub cursor : Cursor
  pub stands : cursor_at k s c ≡ done cursor
  pub ends : Ends s cursor.at l.next.at
  pub more : c.count < room
  pub started : l.next.started ≡ cursor.started
  pub count : l.next.count ≡ c.count + 1

no_line : {A : Type 0} (y : Result Unit Refusal) (c : Cursor) → (ended_of y c).done ≡ false → A
no_line y c h = let z : ◌≡◌ {A = ℕ} 0 1 = cc in absurd (omega arith)

module _ (k : Reader) (s : List ℕ) (room cap : ℕ) (c : Cursor) where
  module _ (d : Cursor) (h : cursor_at k s c ≡ done d) where
    placed_goes : (f : Read) → Ends s d.at f.next
        → (placed_of (most_of k) room cap d (length f.field.name) (length f.field.value) f.next).done ≡ false
        → Goes k s room c (placed_of (most_of k) room cap d (length f.field.name) (length f.field.value) f.next)
    placed_goes f w = go (is_over (most_of k) (d.size + (i + j + overhead))) (fits room cap d i j) refl
      where
        i : ℕ
        i = length f.field.name

        j : ℕ
        j = length f.field.value

        go : (x y : Bool) → fits room cap d i j ≡ y
            → (cond x (ended_of (Err HeaderTooLong) d) (cond y (found_of d i j f.next) (ended_of (Err OutputFull) d))).done ≡ false
            → Goes k s room c (cond x (ended_of (Err HeaderTooLong) d) (cond y (found_of d i j f.next) (ended_of (Err OutputFull) d)))
        go true y e g = no_line (Err HeaderTooLong) d g
        go false false e g = no_line (Err OutputFull) d g
        go false true e g =
            let same = same_count k s c d h in
            record {
              cursor = d;
              stands = h;
              ends = w;
              more = omega (arith, (fits_facts room cap d i j e).list, same);
              started = refl;
              count = rw same;
            }

    step_goes : (step_of k s room cap d).done ≡ false → Goes k s room c (step_of k s room cap d)
    step_goes = go (leb (length s) d.at) (line_with k d.base s d.at) refl
      where
        go : (x : Bool) (r : Answer Read) → line_with k d.base s d.at ≡ r
            → (cond x (ended_of (Ok tt) d) (field_step (most_of k) room cap d r)).done ≡ false
            → Goes k s room c (cond x (ended_of (Ok tt) d) (field_step (most_of k) room cap d r))
        go true r e g = no_line (Ok tt) d g
        go false (refused r) e g = no_line (Err r) d g
        go false (done f) e g = placed_goes f (field_ends k d.base s d.at f e) g

  pub line_goes : (line_of k s room cap c).done ≡ false → Goes k s room c (line_of k s room cap c)
  unfolding line_of
  line_goes = go (cursor_at k s c) refl
    where
      go : (r : Answer Cursor) → cursor_at k s c ≡ r → (line_from k s room cap c r).done ≡ false → Goes k s room c (line_from k s room cap c r)
      go (refused r) e g = no_line (Err r) c g
      go (done d) e g = step_goes d e g
