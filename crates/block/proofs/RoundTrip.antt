-- Reading a line that the writer wrote gives it back, the strings stand where the read says, and its first byte is of its kind. Assumes nothing.
use mathlib.Core.Path.{◌≡◌, refl, sym, ◌∙◌}
use mathlib.Core.Bool.{false}
use mathlib.Core.List.{List}
use Prim.Native.Nat.{ℕ, ◌/◌, ◌^◌, ◌≤◌, ◌<◌}
use native.Mathlib.Omega.{arith}
use lib.ListN.{length, get_or, take, drop}
use borrow.Author.Tests.{lt-ltb, le-ltb}
use Rattle.answers.specs.Answer.{Answer, done, and_then}
use Rattle.answers.specs.Write.{fitted, left}
use Rattle.forms.specs.Forms.{head_of, line_kind}
use Rattle.forms.specs.declared.HeaderBlockField.{HeaderBlockField}
use Rattle.forms.specs.declared.HeaderBlockField.TheVariants.{
  LiteralWithPostBaseNameRef,
  IndexedWithPostBase,
  Literal,
  LiteralWithNameRef,
  Indexed,
}
use Rattle.forms.specs.declared.Kind.TheVariants.{Line}
use Rattle.prefix_int.specs.Integer.{int_at}
use Rattle.prefix_int.proofs.Bounds.{found}
use Rattle.prefix_int.proofs.RoundTrip.{round_trip}
use Rattle.shapes.specs.Shapes.{text_after}
use Rattle.shapes.proofs.Bounds.{found_int_text, found_texts}
use Rattle.shapes.proofs.RoundTrip.{int_text_round_trip, texts_round_trip}
use Rattle.block.specs.Lines.{
  FieldLine,
  indexed,
  named,
  literal,
  width_of,
  indexed_line,
  named_line,
  literal_line,
  line_of,
  line_at,
  index_of,
  indexed_head,
  named_head,
  indexed_bytes,
  named_bytes,
  literal_bytes,
}
use Rattle.line_writing.specs.declared.Reference.{Reference}
use Rattle.line_writing.specs.declared.Reference.TheVariants.{Static, Relative, PostBase}
use Rattle.block.proofs.Laws.{line_by_kind}

-- the line at a position, by its kind
line_back : (s : List ℕ) (at : ℕ) (k : HeaderBlockField) (x : Answer FieldLine) → at < length s → line_kind (get_or s at 0) ≡ k → line_of s at k ≡ x
    → line_at s at ≡ x
line_back s at k x l e h = sym (line_by_kind s at k k l (sym e) refl) ∙ h

-- ranges of a first byte
module _ (b : ℕ) where
  first_indexed : 128 ≤ b → line_kind b ≡ Indexed
  first_indexed h = rw (le-ltb b 16 (omega arith), le-ltb b 32 (omega arith), le-ltb b 64 (omega arith), le-ltb b 128 h)

  first_named : 64 ≤ b → b < 128 → line_kind b ≡ LiteralWithNameRef
  first_named h k = rw (le-ltb b 16 (omega arith), le-ltb b 32 (omega arith), le-ltb b 64 h, lt-ltb b 128 k)

  first_literal : 32 ≤ b → b < 64 → line_kind b ≡ Literal
  first_literal h k = rw (le-ltb b 16 (omega arith), le-ltb b 32 h, lt-ltb b 64 k)

-- ---- a line that is one index

-- the kind of the line that a reference is written as
abbrev pub indexed_kind : Reference → HeaderBlockField
indexed_kind (Static i) = Indexed
indexed_kind (Relative i) = Indexed
indexed_kind (PostBase i) = IndexedWithPostBase

-- a first byte that begins with the head's flags
indexed_first : (r : Reference) (b : ℕ) → b / 2 ^ (indexed_head r).width ≡ (indexed_head r).flags → line_kind b ≡ indexed_kind r
indexed_first (Static i) b h = first_indexed b (omega arith)
indexed_first (Relative i) b h = first_indexed b (omega arith)
indexed_first (PostBase i) b h = rw (le-ltb b 16 (omega arith), lt-ltb b 32 (omega arith))

indexed_back : (r : Reference) (s : List ℕ) (at e : ℕ)
    → int_at s at (indexed_head r).width ≡ done (record { flags = (indexed_head r).flags; value = index_of r; next = e })
    → line_of s at (indexed_kind r) ≡ done (indexed r e)
unfolding line_of indexed_line
indexed_back (Static i) s at e h = rw h
indexed_back (Relative i) s at e h = rw h
indexed_back (PostBase i) s at e h = rw h

module _ (l : List ℕ) (at : ℕ) (r : Reference) (e : ℕ) (h : and_then (indexed_bytes r) (fitted l at) ≡ done e) where
  index_there : int_at (left (indexed_bytes r) l at) at (indexed_head r).width
      ≡ done (record { flags = (indexed_head r).flags; value = index_of r; next = e })
  unfolding indexed_bytes
  index_there = round_trip l at (indexed_head r).width (indexed_head r).flags (index_of r) e h

  pub indexed_kind_lem : line_kind (get_or (left (indexed_bytes r) l at) at 0) ≡ indexed_kind r
  indexed_kind_lem = indexed_first r _ (sym (found (left (indexed_bytes r) l at) at (indexed_head r).width _ index_there).flags)

  pub indexed_round_trip : line_at (left (indexed_bytes r) l at) at ≡ done (indexed r e)
  indexed_round_trip =
      let s = left (indexed_bytes r) l at in
      let f = found s at (indexed_head r).width _ index_there in
      line_back s at (indexed_kind r) _ (omega (arith, f.past, f.within)) indexed_kind_lem (indexed_back r s at e index_there)

-- ---- a line with a name by its index, and a value

abbrev pub named_kind : Reference → HeaderBlockField
named_kind (Static i) = LiteralWithNameRef
named_kind (Relative i) = LiteralWithNameRef
named_kind (PostBase i) = LiteralWithPostBaseNameRef

named_first : (r : Reference) (b : ℕ) → b / 2 ^ (named_head r).width ≡ (named_head r).flags → line_kind b ≡ named_kind r
named_first (Static i) b h = first_named b (omega arith) (omega arith)
named_first (Relative i) b h = first_named b (omega arith) (omega arith)
named_first (PostBase i) b h = rw (lt-ltb b 16 (omega arith))

named_back : (r : Reference) (s : List ℕ) (at start n e : ℕ)
    → text_after s (int_at s at (named_head r).width)
    ≡ done (record { flags = (named_head r).flags; index = index_of r; start = start; len = n; next = e })
    → line_of s at (named_kind r) ≡ done (named r start n e)
unfolding line_of named_line
named_back (Static i) s at start n e h = rw h
named_back (Relative i) s at start n e h = rw h
named_back (PostBase i) s at start n e h = rw h

pub record NamedStands (s : List ℕ) (at : ℕ) (r : Reference) (v : List ℕ) (e : ℕ) : Type 0 where
  pub start : ℕ
  pub read : line_at s at ≡ done (named r start (length v) e)
  pub value : take (length v) (drop start s) ≡ v
  pub kind : line_kind (get_or s at 0) ≡ named_kind r

pub named_round_trip : (l : List ℕ) (at : ℕ) (r : Reference) (v : List ℕ) (e : ℕ) → length v < 2 ^ 63
    → and_then (named_bytes r v) (fitted l at) ≡ done e → NamedStands (left (named_bytes r v) l at) at r v e
unfolding named_bytes
named_round_trip l at r v e small h =
    let s = left (named_bytes r v) l at in
    let w = int_text_round_trip l at (named_head r).width (named_head r).flags (index_of r) v e small h in
    let t = found_int_text s (int_at s at (named_head r).width) _ w.read in
    let f = found s at (named_head r).width t.integer t.given in
    let kind = named_first r (get_or s at 0) (sym f.flags ∙ sym t.flags) in
    record {
      start = w.start;
      read = line_back s at (named_kind r) _ (omega (arith, f.past, f.within)) kind (named_back r s at w.start (length v) e w.read);
      value = w.value;
      kind = kind;
    }

-- ---- a line with both strings

pub record LiteralStands (s : List ℕ) (at : ℕ) (n v : List ℕ) (e : ℕ) : Type 0 where
  pub name : ℕ
  pub value : ℕ
  pub read : line_at s at ≡ done (literal name (length n) value (length v) e)
  pub name_bytes : take (length n) (drop name s) ≡ n
  pub value_bytes_lem : take (length v) (drop value s) ≡ v
  pub kind : line_kind (get_or s at 0) ≡ Literal

pub literal_round_trip : (l : List ℕ) (at : ℕ) (n v : List ℕ) (e : ℕ) → length n < 2 ^ 63 → length v < 2 ^ 63
    → and_then (literal_bytes n v) (fitted l at) ≡ done e → LiteralStands (left (literal_bytes n v) l at) at n v e
unfolding literal_bytes line_of literal_line
literal_round_trip l at n v e small-name small h =
    let s = left (literal_bytes n v) l at in
    let w = texts_round_trip l at (head_of (Line Literal) false).width ((head_of (Line Literal) false).flags / 2) n v e small-name small h in
    let t = found_texts s at (width_of Literal) _ w.read in
    let first : get_or s at 0 / 8 / 2 ≡ 2 = sym t.flags in
    let kind = first_literal (get_or s at 0) (omega arith) (omega arith) in
    record {
      name = w.name;
      value = w.value;
      read = line_back s at Literal _ (omega (arith, t.past, t.between, t.next, t.within)) kind (rw w.read);
      name_bytes = w.name_bytes;
      value_bytes_lem = w.value_bytes_lem;
      kind = kind;
    }
