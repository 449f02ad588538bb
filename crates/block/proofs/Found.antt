-- A line that was read ends behind its start and inside the slice, and its strings lie there. Assumes nothing.
use mathlib.Core.Path.{◌≡◌, subst}
use mathlib.Core.Bool.{Bool, true, false, cond}
use mathlib.Core.List.{List}
use Prim.Native.Nat.{ℕ, ◌+◌, ◌≤◌, ◌<◌}
use native.Mathlib.Omega.{arith}
use lib.Dec.{leb}
use lib.ListN.{length, get_or}
use Rattle.answers.specs.Answer.{done, refused}
use Rattle.answers.specs.declared.Refusal.TheVariants.{UnexpectedEnd}
use Rattle.answers.proofs.Then.{then_done}
use Rattle.forms.specs.Forms.{line_kind}
use Rattle.forms.specs.declared.HeaderBlockField.{HeaderBlockField}
use Rattle.forms.specs.declared.HeaderBlockField.TheVariants.{
  LiteralWithPostBaseNameRef,
  IndexedWithPostBase,
  Literal,
  LiteralWithNameRef,
  Indexed,
}
use Rattle.prefix_int.specs.Integer.{int_at}
use Rattle.prefix_int.proofs.Bounds.{found}
use Rattle.shapes.specs.Shapes.{text_after, texts_at}
use Rattle.shapes.proofs.Bounds.{found_int_text, found_texts}
use Rattle.block.specs.Lines.{
  FieldLine,
  indexed,
  named,
  literal,
  reference_of,
  width_of,
  indexed_line,
  named_line,
  literal_line,
  line_of,
  line_at,
}

abbrev pub Lies : List ℕ → ℕ → FieldLine → Type 0
Lies s at (indexed r e) = (at < e) × (e ≤ length s)
Lies s at (named r v n e) = (v + n ≤ length s) × (at < e) × (e ≤ length s)
Lies s at (literal p m q n e) = (p + m ≤ length s) × (q + n ≤ length s) × (at < e) × (e ≤ length s)

module _ (s : List ℕ) (at : ℕ) (l : FieldLine) where
  indexed_lies : (k : HeaderBlockField) (post : Bool) → indexed_line s at k post ≡ done l → Lies s at l
  unfolding indexed_line
  indexed_lies k post h =
      let p = then_done (int_at s at (width_of k)) _ l h in
      let f = found s at (width_of k) p.0 p.1 in
      let e : indexed (reference_of post p.0.flags p.0.value) p.0.next ≡ l = let z = p.2 in cc in
      subst (Lies s at) e (f.past, f.within)

  named_lies : (k : HeaderBlockField) (post : Bool) → named_line s at k post ≡ done l → Lies s at l
  unfolding named_line
  named_lies k post h =
      let p = then_done (text_after s (int_at s at (width_of k))) _ l h in
      let t = p.0 in
      let f = found_int_text s (int_at s at (width_of k)) t p.1 in
      let g = found s at (width_of k) f.integer f.given in
      let e : named (reference_of post t.flags t.index) t.start t.len t.next ≡ l = let z = p.2 in cc in
      subst (Lies s at) e (omega (arith, f.next, f.within), omega (arith, f.past, f.next, g.past), f.within)

  literal_lies : literal_line s at ≡ done l → Lies s at l
  unfolding literal_line
  literal_lies h =
      let p = then_done (texts_at s at (width_of Literal)) _ l h in
      let t = p.0 in
      let f = found_texts s at (width_of Literal) t p.1 in
      let e : literal t.name t.name_len t.value t.value_len t.next ≡ l = let z = p.2 in cc in
      subst (Lies s at) e
      (omega (arith, f.between, f.next, f.within), omega (arith, f.next, f.within), omega (arith, f.past, f.between, f.next), f.within)

  kind_lies : (k : HeaderBlockField) → line_of s at k ≡ done l → Lies s at l
  unfolding line_of
  kind_lies LiteralWithPostBaseNameRef h = named_lies LiteralWithPostBaseNameRef true h
  kind_lies IndexedWithPostBase h = indexed_lies IndexedWithPostBase true h
  kind_lies Literal h = literal_lies h
  kind_lies LiteralWithNameRef h = named_lies LiteralWithNameRef false h
  kind_lies Indexed h = indexed_lies Indexed false h

  pub line_lies : line_at s at ≡ done l → Lies s at l
  unfolding line_at
  line_lies h = go (leb (length s) at) h
    where
      go : (b : Bool) → cond b (refused UnexpectedEnd) (line_of s at (line_kind (get_or s at 0))) ≡ done l → Lies s at l
      go true h = let z : ◌≡◌ {A = ℕ} 0 1 = cc in absurd (omega arith)
      go false h = kind_lies (line_kind (get_or s at 0)) h
