-- What a read tells: where a string's bytes start and end, its flags, and that H is not set. Assumes nothing.
use mathlib.Core.Path.{◌≡◌, refl, ap, subst}
use mathlib.Core.Bool.{Bool, true, false, cond}
use mathlib.Core.List.{List}
use Prim.Native.Nat.{ℕ, ◌+◌, ◌-◌, ◌/◌, ◌^◌, ◌≤◌, ◌<◌}
use native.Mathlib.Omega.{arith}
use lib.Dec.{ltb, leb, eqb}
use lib.ListN.{length, get_or}
use borrow.Author.Tests.{ltb-false, eqb-false}
use Rattle.answers.specs.Answer.{Answer, done, refused, and_then}
use Rattle.answers.specs.declared.Refusal.TheVariants.{UnexpectedEnd, HuffmanString, BadCall}
use Rattle.prefix_int.specs.Integer.{int_at}
use Rattle.prefix_int.specs.declared.Integer.{Integer}
use Rattle.prefix_int.proofs.Bounds.{found}
use Rattle.int_writing.proofs.Writing.{Good}
use Rattle.text_writing.proofs.Laws.{text_good}
use Rattle.prefix_string.specs.Text.{h_bit, bytes_after, text_at, good_text}
use Rattle.prefix_string.specs.declared.Text.{Text}

-- a string that was read at a position
pub record FoundText (s : List ℕ) (at n : ℕ) (r : Text) : Type 0 where
  pub low : 1 ≤ n
  pub high : n ≤ 7
  pub clear : h_bit n (get_or s at 0) ≡ 1 → ⊥
  pub flags : r.flags ≡ get_or s at 0 / 2 ^ n / 2
  pub past : at < r.start
  pub next : r.start + r.len ≡ r.next
  pub within : r.next ≤ length s

pub found_text : (s : List ℕ) (at n : ℕ) (r : Text) → text_at s at n ≡ done r → FoundText s at n r
unfolding text_at
found_text s at n r h = go (good_text n 0) (leb (length s) at) (eqb (h_bit n (get_or s at 0)) 1) refl refl h
  where
    -- the bytes after a length
    after : (i : Integer) (b : Bool) → ltb (length s - i.next) i.value ≡ b → int_at s at n ≡ done i → Good 7 n 0
        → eqb (h_bit n (get_or s at 0)) 1 ≡ false
        → cond b (refused UnexpectedEnd) (done (record { flags = i.flags / 2; start = i.next; len = i.value; next = i.next + i.value }))
        ≡ done r
        → FoundText s at n r
    after i true q read g clear p = let z : ◌≡◌ {A = ℕ} 0 1 = cc in absurd (omega arith)
    after i false q read g clear p =
        let f = found s at n i read in
        let t : Text = record { flags = i.flags / 2; start = i.next; len = i.value; next = i.next + i.value } in
        let e : t ≡ r = cc in
        subst (FoundText s at n) e (
        record {
          low = g.low;
          high = g.high;
          clear = eqb-false _ _ clear;
          flags = ap (λ (x : ℕ). x / 2) f.flags;
          past = f.past;
          next = refl;
          within = omega (arith, f.within, ltb-false (length s - i.next) i.value q);
        })

    read : (a : Answer Integer) → int_at s at n ≡ a → Good 7 n 0 → eqb (h_bit n (get_or s at 0)) 1 ≡ false → and_then a (bytes_after s) ≡ done r
        → FoundText s at n r
    read (done i) q g clear p = after i (ltb (length s - i.next) i.value) refl q g clear p
    read (refused x) q g clear p = let z : ◌≡◌ {A = ℕ} 0 1 = cc in absurd (omega arith)

    go : (a c d : Bool) → good_text n 0 ≡ a → eqb (h_bit n (get_or s at 0)) 1 ≡ d
        → cond a
        (cond c (refused UnexpectedEnd) (cond d (refused HuffmanString) (and_then (int_at s at n) (bytes_after s))))
        (refused BadCall)
        ≡ done r
        → FoundText s at n r
    go false c d p t h = let z : ◌≡◌ {A = ℕ} 0 1 = cc in absurd (omega arith)
    go true true d p t h = let z : ◌≡◌ {A = ℕ} 0 1 = cc in absurd (omega arith)
    go true false true p t h = let z : ◌≡◌ {A = ℕ} 0 1 = cc in absurd (omega arith)
    go true false false p t h = read (int_at s at n) refl (text_good n 0 p) t h
