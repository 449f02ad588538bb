-- A string copied to the buffer, by where it stands, and a field's two strings. Assumes nothing.
use mathlib.Core.Path.{◌≡◌, refl, sym, ap, ◌∙◌}
use mathlib.Core.Bool.{true}
use mathlib.Core.List.{List, ◌++◌}
use Prim.Native.Nat.{ℕ, ◌+◌, ◌≤◌}
use native.Mathlib.Omega.{arith}
use lib.ListN.{length, drop}
use lib.Seq.{sets, take-add, drop-drop}
use Rattle.std.specs.Prelude.{Result, Ok, Err}
use Rattle.std.specs.Result.{IsOk}
use Rattle.answers.specs.declared.Refusal.{Refusal}
use Rattle.answers.specs.Answer.{answered, done}
use Rattle.answers.specs.Write.{Writes}
use Rattle.answers.proofs.Write.{writes_sets, sets_append}
use Rattle.arena.specs.Ring.{long_enough, ring_read, ring_cut}
use Rattle.arena.proofs.RingRead.{length_ring_read}
use Rattle.byte_writing.specs.Stretch.{stretch_of}
use Rattle.byte_writing.proofs.Stretch.{cut, cut_length, write_sets}
use Rattle.field_lines.specs.Line.{text_in, TextInside}
use Rattle.line_entries.specs.declared.Text.{Text}
use Rattle.static_table.specs.AppendixA.{appendix_a}
use Rattle.static_table.specs.Static.{laid, cut_of}
use Rattle.static_table.proofs.Copied.{cut_done}
use Rattle.static_table.proofs.Table.{size}
use Rattle.section_steps.specs.Section.{length_of, Ready}

ok_of : (r : Result ℕ Refusal) (n : ℕ) → answered r ≡ done n → IsOk r
ok_of (Ok x) n h = refl
ok_of (Err w) n h = let z : ◌≡◌ {A = ℕ} 0 1 = cc in absurd (omega arith)

pub text_length : (s a : List ℕ) (t : Text) → TextInside (length s) t → length (text_in s a t) ≡ length_of t
text_length s a (Text.Input p n) h = cut_length s p n h
text_length s a (Text.Fixed p n) h = cut_length (laid appendix_a) p n h
text_length s a (Text.Stored p n) h = length_ring_read a p n

module _ (t : Text) (p n : ℕ) (s a l : List ℕ) (at : ℕ) (m : List ℕ) where
  pub input_copied : t ≡ Text.Input p n → TextInside (length s) t → at + length_of t ≤ length l → (r : Result ℕ Refusal) → Writes (stretch_of s p n) l at r m
      → IsOk r × (m ≡ sets l at (text_in s a t))
  input_copied e h g r w =
      let inside : p + n ≤ length s = rw e at h in
      let room : at + n ≤ length l = rw e at g in
      let q = write_sets s p n l at inside r m room w in
      (ok_of r _ q.0, rw e q.1)

  pub fixed_copied : t ≡ Text.Fixed p n → (k : ℕ) → TextInside k t → at + length_of t ≤ length l → (r : Result ℕ Refusal) → Writes (cut_of p n) l at r m
      → IsOk r × (m ≡ sets l at (text_in s a t))
  fixed_copied e k h g r w =
      let inside : p + n ≤ length (laid appendix_a) = rw e at h in
      let room : at + n ≤ length l = rw e at g in
      let sized : length (cut (laid appendix_a) p n) ≡ n = cut_length (laid appendix_a) p n inside in
      let v : Writes (done (cut (laid appendix_a) p n)) l at r m = rw (cut_done p n inside) at w in
      let q = writes_sets (cut (laid appendix_a) p n) l at r m (omega (arith, sized)) v in
      (ok_of r _ q.0, rw e q.1)

  pub stored_copied : t ≡ Text.Stored p n → Ready a t → at + length_of t ≤ length l → (r : Result ℕ Refusal) → Writes (ring_cut a p n) l at r m
      → IsOk r × (m ≡ sets l at (text_in s a t))
  stored_copied e h g r w =
      let long : long_enough a ≡ true = rw e at h in
      let room : at + n ≤ length l = rw e at g in
      let v : Writes (done (ring_read a p n)) l at r m = rw long at w in
      let q = writes_sets (ring_read a p n) l at r m (omega (arith, length_ring_read a p n)) v in
      (ok_of r _ q.0, rw e q.1)

-- a field's two strings under other names: they are as ready, and two copies store them
module _ (name value x y : Text) (ex : x ≡ name) (ey : y ≡ value) (s a : List ℕ) (at : ℕ) where
  pub same_ready : (k : ℕ) → TextInside (length s) name × TextInside (length s) value × Ready a name × Ready a value × (at + (length_of name + length_of value) ≤ k)
      → TextInside (length s) x × TextInside (length s) y × Ready a x × Ready a y × (at + (length_of x + length_of y) ≤ k)
  same_ready k h = rw (ex, ey) h

  pub parts_copied : TextInside (length s) x → (l k m : List ℕ) (i : ℕ) → i ≡ length_of x
      → k ≡ sets l at (text_in s a x) → m ≡ sets k (at + i) (text_in s a y) → m ≡ sets l at (text_in s a name ++ text_in s a value)
  parts_copied h l k m i e one two =
      let long : length (text_in s a x) ≡ i = text_length s a x h ∙ sym e in
      let both : sets (sets l at (text_in s a x)) (at + i) (text_in s a y) ≡ sets l at (text_in s a x ++ text_in s a y) =
      rw (← long) (sets_append (text_in s a x) (text_in s a y) l at) in
      rw (← ex, ← ey) (two ∙ rw one both)

-- both of them in the static table: the name's end and the room, in numbers
module _ (name value : Text) (p n q v : ℕ) (en : name ≡ Text.Fixed p n) (ev : value ≡ Text.Fixed q v) where
  pub fixed_end : (k : ℕ) → TextInside k name → p + n ≤ 2026
  fixed_end k h =
      let inside : p + n ≤ length (laid appendix_a) = rw en at h in
      omega (arith, size)

  pub fixed_room : (at k : ℕ) → at + (length_of name + length_of value) ≤ k → at + (n + v) ≤ k
  fixed_room at k h = rw (en, ev) at h

  -- the value behind the name: both by one copy
  pub whole_copied : (s a l : List ℕ) (at : ℕ) (m : List ℕ) → p + n ≡ q → (k : ℕ) → TextInside k value
      → at + (length_of name + length_of value) ≤ length l → (r : Result ℕ Refusal) → Writes (cut_of p (n + v)) l at r m
      → IsOk r × (m ≡ sets l at (text_in s a name ++ text_in s a value))
  whole_copied s a l at m behind k h g r w =
      let inside : q + v ≤ length (laid appendix_a) = rw ev at h in
      let whole : p + (n + v) ≤ length (laid appendix_a) = omega arith in
      let one = fixed_copied (Text.Fixed p (n + v)) p (n + v) s a l at m refl k whole (fixed_room at (length l) g) r w in
      let two : cut (laid appendix_a) p (n + v) ≡ text_in s a name ++ text_in s a value =
      rw (en, ev, ← behind, ← drop-drop n p (laid appendix_a)) (take-add n v (drop p (laid appendix_a))) in
      (one.0, one.1 ∙ ap (sets l at) two)
