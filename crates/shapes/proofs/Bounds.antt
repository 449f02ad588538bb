-- What a read of two parts tells: where its strings start and end. Assumes nothing.
use mathlib.Core.Path.{◌≡◌, refl, subst}
use mathlib.Core.List.{List}
use Prim.Native.Nat.{ℕ, ◌+◌, ◌/◌, ◌^◌, ◌≤◌, ◌<◌}
use native.Mathlib.Omega.{arith}
use lib.ListN.{length, get_or}
use Rattle.answers.specs.Answer.{Answer, done, refused, and_then}
use Rattle.answers.proofs.Then.{then_done}
use Rattle.prefix_int.specs.declared.Integer.{Integer}
use Rattle.prefix_string.specs.Text.{text_at}
use Rattle.prefix_string.specs.declared.Text.{Text}
use Rattle.prefix_string.proofs.Bounds.{found_text}
use Rattle.shapes.specs.Shapes.{value_width, int_text, text_after, two_texts, texts_at}
use Rattle.shapes.specs.declared.TwoTexts.{TwoTexts}
use Rattle.shapes.specs.declared.IntText.{IntText}

-- an integer and a value that were read
pub record FoundIntText (s : List ℕ) (int : Answer Integer) (r : IntText) : Type 0 where
  pub integer : Integer
  pub given : int ≡ done integer
  pub flags : r.flags ≡ integer.flags
  pub index : r.index ≡ integer.value
  pub past : integer.next < r.start
  pub next : r.start + r.len ≡ r.next
  pub within : r.next ≤ length s

pub found_int_text : (s : List ℕ) (int : Answer Integer) (r : IntText) → text_after s int ≡ done r → FoundIntText s int r
unfolding text_after
found_int_text s (refused q) r h = let z : ◌≡◌ {A = ℕ} 0 1 = cc in absurd (omega arith)
found_int_text s (done i) r h = go (text_at s i.next value_width) refl h
  where
    go : (t : Answer Text) → text_at s i.next value_width ≡ t → and_then t (int_text i) ≡ done r → FoundIntText s (done i) r
    go (refused q) p h = let z : ◌≡◌ {A = ℕ} 0 1 = cc in absurd (omega arith)
    go (done t) p h =
        let f = found_text s i.next value_width t p in
        let a : IntText = record { flags = i.flags; index = i.value; start = t.start; len = t.len; next = t.next } in
        let e : a ≡ r = cc in
        subst (FoundIntText s (done i)) e (
        record {
          integer = i;
          given = refl;
          flags = refl;
          index = refl;
          past = f.past;
          next = f.next;
          within = f.within;
        })

-- a name and a value that were read; the flags stand above the name's H
pub record FoundTexts (s : List ℕ) (at n : ℕ) (r : TwoTexts) : Type 0 where
  pub flags : r.flags ≡ get_or s at 0 / 2 ^ n / 2
  pub past : at < r.name
  pub between : r.name + r.name_len < r.value
  pub next : r.value + r.value_len ≡ r.next
  pub within : r.next ≤ length s

pub found_texts : (s : List ℕ) (at n : ℕ) (r : TwoTexts) → texts_at s at n ≡ done r → FoundTexts s at n r
unfolding texts_at
found_texts s at n r h =
    let p = then_done (text_at s at n) _ r h in
    let a = p.0 in
    let q = then_done (text_at s a.next value_width) (two_texts a) r p.2 in
    let b = q.0 in
    let f = found_text s at n a p.1 in
    let g = found_text s a.next value_width b q.1 in
    let both : TwoTexts =
    record { flags = a.flags; name = a.start; name_len = a.len; value = b.start; value_len = b.len; next = b.next } in
    let e : both ≡ r = let z = q.2 in cc in
    subst (FoundTexts s at n) e
    (record {
      flags = f.flags;
      past = f.past;
      between = omega (arith, f.next, g.past);
      next = g.next;
      within = g.within;
    })
