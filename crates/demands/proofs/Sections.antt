-- A section that is read on a record that keeps its rules is not refused by 22. Assumes nothing.
use mathlib.Core.Path.{◌≡◌}
use mathlib.Core.Bool.{Bool, true, false, cond}
use mathlib.Core.List.{List}
use mathlib.Core.Option.{Option, some, none}
use Prim.Native.Nat.{ℕ, zero, suc, ◌+◌, ◌-◌, ◌≤◌}
use native.Mathlib.Omega.{arith}
use lib.Dec.{ltb, leb, eqb}
use lib.ListN.{length, set}
use lib.Seq.{sets}
use borrow.Author.Tests.{le-ltb}
use Rattle.answers.specs.Answer.{Answer, done, refused}
use Rattle.answers.specs.Table.{replied}
use Rattle.arena.specs.Ring.{long_enough}
use Rattle.block.specs.Lines.{FieldLine, indexed, named, literal, line_at}
use Rattle.line_writing.specs.declared.Reference.{Reference}
use Rattle.block.proofs.Rows.{line_row}
use Rattle.decoder.specs.Section as section
use Rattle.section_steps.specs.declared.Cursor.{Cursor}
use Rattle.section_steps.specs.declared.Field.{Field}
use Rattle.section_steps.specs.Section.{Line}
use Rattle.dynamic.specs.Record.{sound, usable}
use Rattle.dynamic.specs.declared.Table.{Table}
use Rattle.dynamic.proofs.Sound.{facts}
use Rattle.entries.proofs.Chain.{and_left, and_right}
use Rattle.field_lines.specs.Line.{Read, Live, static_field, entry_on, field_of_line, line_on, live_of}
use Rattle.header_prefix.specs.Prefix.{required_count, base_of, largest_base, not_missing, prefix_of, prefix_at}
use Rattle.prefix_int.specs.Integer.{int_at}
use Rattle.ring.specs.Ring.{largest_count}
use Rattle.ring.proofs.Keeping.{kept}
use Rattle.vas.specs.Vas.{is_live}
use Rattle.demands.proofs.ModelRows.{named_row}
use Rattle.demands.proofs.Rows.{Row, said, cond_row, past_row, then_row, low_row, int_row}

met_row : {A : Type 0} (b : Bool) (x y : Answer A) → b ≡ true → Row x → Row (cond b x y)
met_row b x y e p = rw e p

-- ---- the prefix

base_row : (required : ℕ) (below : Bool) (delta : ℕ) → Row (base_of required below delta)
unfolding base_of
base_row required true delta = cond_row (leb required delta) _ _ (record { not_22 = λ e. omega arith }) (said _)
base_row required false delta = cond_row (ltb largest_base (required + delta)) _ _ (record { not_22 = λ e. omega arith }) (said _)

prefix_of_row : (total : ℕ) (below : Bool) (delta next : ℕ) (o : Option ℕ) → Row (prefix_of total below delta next o)
prefix_of_row total below delta next none = record { not_22 = λ e. omega arith }
prefix_of_row total below delta next (some required) =
    then_row (base_of required below delta) (not_missing total required next) (base_row required below delta)
    (λ b. cond_row (ltb total required) _ _ (record { not_22 = λ e. omega arith }) (said _))

prefix_row : (s : List ℕ) (at total capacity : ℕ) → total ≤ largest_count → Row (prefix_at s at total capacity)
unfolding prefix_at
prefix_row s at total capacity h =
    past_row (ltb largest_count total) _ _ (le-ltb largest_count total h)
    (then_row (int_at s at 8) _ (int_row s at 8 (omega arith) (omega arith))
    (λ c. then_row (int_at s c.next 7) _ (int_row s c.next 7 (omega arith) (omega arith))
    (λ d. prefix_of_row total (eqb d.flags 1) d.value d.next (required_count total capacity c.value))))

-- ---- a line

entry_row : (t : Live) (base : ℕ) (r : Reference) → Row (entry_on t base r)
unfolding static_field
entry_row t base (Reference.Static i) = cond_row (ltb i _) _ _ (said _) (record { not_22 = λ e. omega arith })
entry_row t base (Reference.Relative i) =
    then_row _ _ (named_row t.inserted t.dropped (base - i)) (λ k. said _)
entry_row t base (Reference.PostBase i) =
    then_row _ _
    (cond_row (is_live t.inserted t.dropped (base + i + 1)) _ _ (said _) (record { not_22 = λ e. omega arith })) (λ k. said _)

field_row : (t : Live) (base : ℕ) (s : List ℕ) (at : ℕ) → Row (line_on t base s at)
unfolding line_on
field_row t base s at =
    then_row (line_at s at) (field_of_line (entry_on t base) s) (low_row (line_at s at) (line_row s at)) go
  where
    go : (l : FieldLine) → Row (field_of_line (entry_on t base) s l)
    go (indexed r e) = then_row (entry_on t base r) _ (entry_row t base r) (λ f. said _)
    go (named r v n e) = then_row (entry_on t base r) _ (entry_row t base r) (λ f. said _)
    go (literal p m q n e) = said _

module _ (t : Table) (a : List ℕ) (h : usable t a ≡ true) (s : List ℕ) where
  counted : t.ring.inserted ≤ largest_count
  counted = (kept t.ring (facts t (and_left (sound t) _ h)).ring).counted

  cursor_row : (c : Cursor) → Row (section.cursor_at (section.on_table t a) s c)
  unfolding section.cursor_at section.start_of
  cursor_row c =
      cond_row c.started _ _ (met_row (long_enough a) _ _ (and_right (sound t) _ h) (said _))
      (then_row _ _
      (met_row (usable t a) _ _ h
      (cond_row t.active _ _ (record { not_22 = λ e. omega arith }) (prefix_row s 0 t.ring.inserted t.ring.capacity counted)))
      (λ p. said _))

  -- what is told of a section at a line
  record Tells (l : Line) : Type 0 where
    row : Row (replied l.decoded.reply)

  tells_either : (b : Bool) (x y : Line) → Tells x → Tells y → Tells (cond b x y)
  tells_either true x y p q = p
  tells_either false x y p q = q

  pub line_tells : (room cap : ℕ) (c : Cursor) → Row (replied (section.line_of (section.on_table t a) s room cap c).decoded.reply)
  unfolding section.line_of section.line_with
  line_tells room cap c = (from (section.cursor_at (section.on_table t a) s c) (cursor_row c)).row
    where
      step : (d : Cursor) (x : Answer Read) → Row x → Tells (section.field_step none room cap d x)
      step d (refused r) p = record { row = record { not_22 = p.not_22 } }
      step d (done f) p =
          tells_either (section.fits room cap d (length f.field.name) (length f.field.value)) _ _
          (record { row = said _ }) (record { row = record { not_22 = λ e. omega arith } })

      from : (x : Answer Cursor) → Row x → Tells (section.line_from (section.on_table t a) s room cap c x)
      from (refused r) p = record { row = record { not_22 = p.not_22 } }
      from (done d) p =
          tells_either (leb (length s) d.at) _ _ (record { row = said _ })
          (step d (line_on (live_of t.ring a) d.base s d.at) (field_row (live_of t.ring a) d.base s d.at))

  module _ {R : Type 0} (make : Field → R) where
    record TellsAll (x : section.Section R) : Type 0 where
      row : Row (replied x.decoded.reply)

    all_either : (b : Bool) (x y : section.Section R) → TellsAll x → TellsAll y → TellsAll (cond b x y)
    all_either true x y p q = p
    all_either false x y p q = q

    all_from : (n : ℕ) (c : Cursor) (fs : List R) (o : List ℕ) → TellsAll (section.read_from make (section.on_table t a) n s c fs o)
    unfolding section.read_from
    all_from zero c fs o = record { row = said _ }
    all_from (suc n) c fs o =
        let l = section.line_of (section.on_table t a) s (length fs) (length o) c in
        all_either l.done _ _ (record { row = line_tells (length fs) (length o) c })
        (all_from n l.next (set fs c.count (make l.field)) (sets o c.used (section.bytes_at (section.on_table t a) s c)))

    pub section_tells : (fs : List R) (o : List ℕ) → Row (replied (section.read_all make (section.on_table t a) s fs o).decoded.reply)
    section_tells fs o = (all_from (suc (length s)) section.start fs o).row
