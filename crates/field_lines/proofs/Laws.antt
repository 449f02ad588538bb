-- Laws of the field of a line, with any way to find an entry whose strings stand in no section. Assumes nothing.
use mathlib.Core.Path.{◌≡◌, refl, sym}
use mathlib.Core.List.{List, []}
use Prim.Native.Nat.{ℕ, ◌+◌, ◌≤◌, ◌<◌}
use native.Mathlib.Omega.{arith}
use lib.ListN.{length}
use Rattle.std.specs.Prelude.{Result, Ok, Err}
use Rattle.answers.specs.Answer.{Answer, done, and_then}
use Rattle.answers.specs.declared.Refusal.{Refusal}
use Rattle.block.specs.Lines.{line_at, line_read}
use Rattle.block.specs.declared.FieldLine.{FieldLine}
use Rattle.block.specs.declared.FieldLine.TheVariants.{Indexed, Named, Literal}
use Rattle.block.proofs.Found.{line_lies}
use Rattle.field.specs.Field.{Field}
use Rattle.instructions.specs.Instruction.{stretch}
use Rattle.line_entries.specs.declared.Entry.{Entry}
use Rattle.line_entries.specs.declared.Text.{Text}
use Rattle.line_writing.specs.declared.Reference.{Reference}
use Rattle.field_lines.specs.Line.{
  text_in,
  TextInside,
  field_of_line,
  field_read,
  whole_field,
  named_field,
  FieldFrom,
  FieldInside,
  entry_read,
  EntryInside,
}
use Rattle.field_lines.specs.declared.FieldAt.{FieldAt}

-- ---- a string that stands in no section

text_inside : (m : ℕ) (t : Text) → TextInside 0 t → TextInside m t
text_inside m (Text.Input p n) h = omega arith
text_inside m (Text.Fixed p n) h = h
text_inside m (Text.Stored p n) h = tt

text_same : (s a : List ℕ) (t : Text) → TextInside 0 t → text_in s a t ≡ text_in [] a t
text_same s a (Text.Input p n) h = let e : n ≡ 0 = omega arith in rw e
text_same s a (Text.Fixed p n) h = refl
text_same s a (Text.Stored p n) h = refl

-- ---- a field with an entry's strings

whole_read : (s a : List ℕ) (e : ℕ) (x : Result Entry Refusal) → EntryInside x
    → field_read s a (whole_field e x) ≡ and_then (entry_read a x) (λ f. done (record { field = f; next = e }))
whole_read s a e (Ok x) h = rw (text_same s a x.name h.0, text_same s a x.value h.1)
whole_read s a e (Err r) h = refl

named_read : (s a : List ℕ) (v n e : ℕ) (x : Result Entry Refusal) → EntryInside x
    → field_read s a (named_field v n e x)
    ≡ and_then (entry_read a x) (λ f. done (record { field = record { name = f.name; value = stretch s v n }; next = e }))
named_read s a v n e (Ok x) h = rw (text_same s a x.name h.0)
named_read s a v n e (Err r) h = refl

whole_inside : (s : List ℕ) (at e : ℕ) (x : Result Entry Refusal) → EntryInside x → at < e → e ≤ length s
    → FieldInside s at (whole_field e x)
whole_inside s at e (Ok x) h past within =
    (text_inside (length s) x.name h.0, text_inside (length s) x.value h.1, past, within)
whole_inside s at e (Err r) h past within = tt

named_inside : (s : List ℕ) (at v n e : ℕ) (x : Result Entry Refusal) → EntryInside x → v + n ≤ length s → at < e → e ≤ length s
    → FieldInside s at (named_field v n e x)
named_inside s at v n e (Ok x) h value past within = (text_inside (length s) x.name h.0, value, past, within)
named_inside s at v n e (Err r) h value past within = tt

-- ---- the field of a line

-- an entry that was found for a reference
pub record Finds (find : List ℕ → Reference → Answer Field) (r : Reference) (x : Result Entry Refusal) : Type 0 where
  pub by_index : (a : List ℕ) → entry_read a x ≡ find a r
  pub inside : EntryInside x

module _ (find : List ℕ → Reference → Answer Field) (P : Reference → Result Entry Refusal → Type 0)
    (finds : (r : Reference) (x : Result Entry Refusal) → P r x → Finds find r x) where
  pub line_field : (s a : List ℕ) (l : FieldLine) (f : Result FieldAt Refusal) → FieldFrom P l f
      → field_read s a f ≡ and_then (line_read (Ok l)) (field_of_line (find a) s)
  line_field s a (Indexed r e) f (x, p, q) = rw (q, whole_read s a e x (finds r x p).inside, (finds r x p).by_index a)
  line_field s a (Named r v n e) f (x, p, q) = rw (q, named_read s a v n e x (finds r x p).inside, (finds r x p).by_index a)
  line_field s a (Literal p m q n e) f h = rw h

  pub line_inside : (s : List ℕ) (at : ℕ) (l : FieldLine) (f : Result FieldAt Refusal) → line_read (Ok l) ≡ line_at s at
      → FieldFrom P l f → FieldInside s at f
  line_inside s at (Indexed r e) f h (x, p, q) =
      let lies = line_lies s at _ (sym h) in
      rw q (whole_inside s at e x (finds r x p).inside lies.0 lies.1)
  line_inside s at (Named r v n e) f h (x, p, q) =
      let lies = line_lies s at _ (sym h) in
      rw q (named_inside s at v n e x (finds r x p).inside lies.0 lies.1 lies.2)
  line_inside s at (Literal p m q n e) f h g = rw g (line_lies s at _ (sym h))
