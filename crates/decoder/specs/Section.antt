-- Reading a section, RFC 9204 4.5: on a table, and with none. "One record for each decoded field, in a lent list of records (start, name length,
-- value length), plus the bytes in a second buffer, the size sum, and whether the required count was above 0".
use Rattle.std.specs.Prelude.{Ok, cond, List, [], ◌∷◌, ℕ, zero, suc, length, set}
use Rattle.std.proofs.lemmas.List.Edits.{sets}
use Rattle.section_steps.specs.declared.Cursor.{Cursor}
use Rattle.section_steps.specs.declared.Decoded.{Decoded}
use Rattle.section_steps.specs.declared.Field.{Field}
-- one step
unfoldable pub use Rattle.section_steps.specs.Section.{start_of, line_with, cursor_at, line_of, bytes_at}
pub use Rattle.section_steps.specs.Section.{Line, line_told, decoded_of, Reader, on_table, stateless, most_of, start, begun, when_long, no_field, ended_of, found_of, is_over, largest_sum, fits, placed_of, field_step, step_by, step_of, line_from, bytes_of, stored_by, out_of, line_in, out_in, limit_of, length_of, Ready, LineReady}

-- ---- the whole section; R is the form of a record, made of what a line gives

pub record Section (R : Type 0) : Type 0 where
  pub decoded : Decoded
  pub fields : List R
  pub out : List ℕ

abbrev pub section_of : {R : Type 0} → Decoded → List R → List ℕ → Section R
section_of d fs out = record { decoded = d; fields = fs; out = out }

-- "a refused section keeps records and bytes of earlier lines, the rest of both buffers untouched"
unfoldable pub read_from : {R : Type 0} → (Field → R) → Reader → ℕ → List ℕ → Cursor → List R → List ℕ → Section R
read_from make k zero s c fs out = section_of (ended_of (Ok tt) c).decoded fs out
read_from make k (suc n) s c fs out =
    cond (line_of k s (length fs) (length out) c).done
    (section_of (line_of k s (length fs) (length out) c).decoded fs out)
    (read_from make k n s (line_of k s (length fs) (length out) c).next
    (set fs c.count (make (line_of k s (length fs) (length out) c).field))
    (sets out c.used (bytes_at k s c)))

-- a line has at least one byte, and the prefix two
abbrev pub read_all : {R : Type 0} → (Field → R) → Reader → List ℕ → List R → List ℕ → Section R
read_all make k s fs out = read_from make k (suc (length s)) s start fs out

-- a record as three numbers
abbrev pub numbers : Field → List ℕ
numbers f = f.start ∷ f.name ∷ f.value ∷ []
