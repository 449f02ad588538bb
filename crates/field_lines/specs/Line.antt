-- The field that a line of a section stands for, RFC 9204 4.5.2 to 4.5.6: on a table, and with no table.
use Rattle.std.specs.Prelude.{◌≡◌, Result, Ok, Err, Bool, true, false, cond, List, ℕ, ◌≤◌, ◌<◌, leb, length, get_or}
use Rattle.answers.specs.declared.Refusal.{Refusal}
use Rattle.answers.specs.Answer.{Answer, done, refused, and_then}
use Rattle.answers.specs.declared.Refusal.TheVariants.{UnexpectedEnd, MissingRefs}
use Rattle.block.specs.Lines.{FieldLine, indexed, named, literal, line_at}
use Rattle.block.specs.declared.FieldLine.{FieldLine as CodeLine}
use Rattle.block.specs.declared.FieldLine.TheVariants as code
use Rattle.field.specs.Field.{Field}
use Rattle.forms.specs.Forms.{line_kind}
use Rattle.forms.specs.declared.HeaderBlockField.{HeaderBlockField}
use Rattle.forms.specs.declared.HeaderBlockField.TheVariants.{
  LiteralWithPostBaseNameRef,
  IndexedWithPostBase,
  Literal,
  LiteralWithNameRef,
  Indexed,
}
use Rattle.instructions.specs.Instruction.{stretch}
use Rattle.line_writing.specs.declared.Reference.{Reference}
use Rattle.line_entries.specs.declared.Entry.{Entry}
use Rattle.line_entries.specs.declared.Text.{Text}
use Rattle.field_lines.specs.declared.FieldAt.{FieldAt}
-- the entry that a line names
unfoldable pub use Rattle.line_entries.specs.Entry.{static_field}
pub use Rattle.line_entries.specs.Entry.{
  Live,
  live_at,
  entry_on,
  entry_static,
  text_in,
  TextInside,
  entry_read,
  EntryInside,
  live_of,
  NotStored,
  EntryFixed,
}

-- a field, and the position past its line
pub record Read : Type 0 where
  pub field : Field
  pub next : ℕ

-- "bytes in the order read, strings before their index is looked up"
abbrev pub field_of_line : (Reference → Answer Field) → List ℕ → FieldLine → Answer Read
field_of_line entry s (indexed r e) = and_then (entry r) (λ f. done (record { field = f; next = e }))
field_of_line entry s (named r v n e) =
    and_then (entry r) (λ f. done (record { field = record { name = f.name; value = stretch s v n }; next = e }))
field_of_line entry s (literal p m q n e) =
    done (record { field = record { name = stretch s p m; value = stretch s q n }; next = e })

-- the line at a position, on a table
unfoldable pub line_on : Live → ℕ → List ℕ → ℕ → Answer Read
line_on t base s at = and_then (line_at s at) (field_of_line (entry_on t base) s)

abbrev pub is_post_base : HeaderBlockField → Bool
is_post_base LiteralWithPostBaseNameRef = true
is_post_base IndexedWithPostBase = true
is_post_base Literal = false
is_post_base LiteralWithNameRef = false
is_post_base Indexed = false

-- and with no table: "post-base in the stateless reader is 13 at its first byte"
unfoldable pub line_static : List ℕ → ℕ → Answer Read
line_static s at =
    cond (leb (length s) at)
    (refused UnexpectedEnd)
    (cond (is_post_base (line_kind (get_or s at 0))) (refused MissingRefs) (and_then (line_at s at) (field_of_line entry_static s)))

-- ---- what the code holds of a field

abbrev pub field_read : List ℕ → List ℕ → Result FieldAt Refusal → Answer Read
field_read s a (Ok f) = done (record { field = record { name = text_in s a f.name; value = text_in s a f.value }; next = f.next })
field_read s a (Err r) = refused r

abbrev pub FieldInside : List ℕ → ℕ → Result FieldAt Refusal → Type 0
FieldInside s at (Ok f) = TextInside (length s) f.name × TextInside (length s) f.value × (at < f.next) × (f.next ≤ length s)
FieldInside s at (Err r) = Unit {0}

abbrev pub FieldFixed : Result FieldAt Refusal → Type 0
FieldFixed (Ok f) = NotStored f.name × NotStored f.value
FieldFixed (Err r) = Unit {0}

-- a whole entry, or its name with a value in the section
abbrev pub whole_field : ℕ → Result Entry Refusal → Result FieldAt Refusal
whole_field e (Ok x) = Ok (record { name = x.name; value = x.value; next = e })
whole_field e (Err r) = Err r

abbrev pub named_field : ℕ → ℕ → ℕ → Result Entry Refusal → Result FieldAt Refusal
named_field v n e (Ok x) = Ok (record { name = x.name; value = Text.Input v n; next = e })
named_field v n e (Err r) = Err r

-- the field of a line, where a relation says which entries a reference may name
abbrev pub FieldFrom : (Reference → Result Entry Refusal → Type 0) → CodeLine → Result FieldAt Refusal → Type 0
FieldFrom P (code.Indexed r e) f = (x : Result Entry Refusal) × P r x × (f ≡ whole_field e x)
FieldFrom P (code.Named r v n e) f = (x : Result Entry Refusal) × P r x × (f ≡ named_field v n e x)
FieldFrom P (code.Literal p m q n e) f = f ≡ Ok (record { name = Text.Input p m; value = Text.Input q n; next = e })
