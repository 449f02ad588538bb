-- A field stored at a cursor, by the tests before it. Assumes nothing.
use mathlib.Core.Path.{◌≡◌, sym, ◌∙◌}
use mathlib.Core.Bool.{true, false}
use mathlib.Core.List.{List, ◌++◌}
use mathlib.Core.Option.{Option}
use Prim.Native.Nat.{ℕ, ◌+◌, ◌≤◌, ◌<◌}
use lib.Dec.{leb, ltb}
use lib.ListN.{length}
use lib.Seq.{sets}
use borrow.Author.Tests.{leb-true, ltb-true}
use Rattle.std.specs.Prelude.{Result, Ok, Err}
use Rattle.answers.specs.declared.Refusal.{Refusal}
use Rattle.answers.specs.declared.Refusal.TheVariants.{OutputFull, HeaderTooLong}
use Rattle.entries.proofs.Chain.{and_left, and_right}
use Rattle.field.specs.Field.{overhead}
use Rattle.field_lines.specs.Line.{text_in, TextInside, field_read}
use Rattle.field_lines.specs.declared.FieldAt.{FieldAt}
use Rattle.section_steps.specs.Section.{Line, ended_of, found_of, is_over, largest_sum, fits, field_step, bytes_of, stored_by, length_of, Ready, LineReady}
use Rattle.section_steps.specs.declared.Cursor.{Cursor}
use Rattle.section_steps.proofs.Copying.{text_length}

-- what fits is within all three
pub record Fits (room cap : ℕ) (c : Cursor) (n v : ℕ) : Type 0 where
  pub list : c.count < room
  pub buffer : c.used + (n + v) ≤ cap
  pub sum : c.size + (n + v + overhead) ≤ largest_sum

pub fits_facts : (room cap : ℕ) (c : Cursor) (n v : ℕ) → fits room cap c n v ≡ true → Fits room cap c n v
fits_facts room cap c n v h =
    let g = and_right (ltb c.count room) _ h in
    record {
      list = ltb-true _ _ (and_left (ltb c.count room) _ h);
      buffer = leb-true _ _ (and_left (leb (c.used + (n + v)) cap) _ g);
      sum = leb-true _ _ (and_right (leb (c.used + (n + v)) cap) _ g);
    }

-- what a step answers and leaves
pub record Placed (most : Option ℕ) (room : ℕ) (s a l m : List ℕ) (c : Cursor) (line : Result FieldAt Refusal) (y : Line) : Type 0 where
  pub answer : y ≡ field_step most room (length l) c (field_read s a line)
  pub bytes : m ≡ stored_by c l y (bytes_of (field_read s a line))

pub line_ready : (s a : List ℕ) (line : Result FieldAt Refusal) (f : FieldAt) → line ≡ Ok f → LineReady s a line
    → TextInside (length s) f.name × TextInside (length s) f.value × Ready a f.name × Ready a f.value
line_ready s a line f q w = rw q at w

module _ (most : Option ℕ) (room : ℕ) (s a l : List ℕ) (c : Cursor) (line : Result FieldAt Refusal) (y : Line) where
  pub place_refused : (r : Refusal) → line ≡ Err r → y ≡ ended_of (Err r) c → Placed most room s a l l c line y
  place_refused r q e = record { answer = rw (e, q); bytes = rw e }

  module _ (f : FieldAt) (q : line ≡ Ok f) (w : LineReady s a line) where
    ready : TextInside (length s) f.name × TextInside (length s) f.value × Ready a f.name × Ready a f.value
    ready = line_ready s a line f q w

    module _ (i j : ℕ) (ei : i ≡ length_of f.name) (ej : j ≡ length_of f.value) where
      first : length (text_in s a f.name) ≡ i
      first = text_length s a f.name ready.0 ∙ sym ei

      second : length (text_in s a f.value) ≡ j
      second = text_length s a f.value ready.1 ∙ sym ej

      pub place_over : is_over most (c.size + (i + j + overhead)) ≡ true → y ≡ ended_of (Err HeaderTooLong) c → Placed most room s a l l c line y
      place_over h e = record { answer = rw (e, q, first, second, h); bytes = rw e }

      module _ (under : is_over most (c.size + (i + j + overhead)) ≡ false) where
        pub place_full : fits room (length l) c i j ≡ false → y ≡ ended_of (Err OutputFull) c → Placed most room s a l l c line y
        place_full h e = record { answer = rw (e, q, first, second, under, h); bytes = rw e }

        pub place_found : fits room (length l) c i j ≡ true → y ≡ found_of c i j f.next → (m : List ℕ)
            → m ≡ sets l c.used (text_in s a f.name ++ text_in s a f.value) → Placed most room s a l m c line y
        place_found h e m both = record { answer = rw (e, q, first, second, under, h); bytes = rw (e, q) both }
