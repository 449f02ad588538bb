-- What the loop of `walk` keeps: the rules of what is left are those of the whole. Assumes nothing.
use mathlib.Core.Path.{◌≡◌, refl, sym, ◌∙◌}
use mathlib.Core.Bool.{true, false, ◌&&◌}
use mathlib.Core.List.{List, [], ◌∷◌}
use Prim.Native.Nat.{ℕ, suc, ◌+◌, ◌*◌, ◌%◌, ◌^◌, ◌≤◌, ◌<◌}
use native.Mathlib.Nat.{add-zero}
use native.Mathlib.Numerals.{add-one}
use native.Mathlib.Omega.{arith}
use lib.Dec.{eqb}
use lib.ListN.{length, drop, drop_of_length-le}
use borrow.Author.Tests.{eq-eqb, ne_eqb}
use Rattle.arena.specs.Ring.{ring}
use Rattle.field.specs.Field.{overhead}
use Rattle.entries.specs.Entry.{Entry, bytes_of, size_of, end_of}
use Rattle.entries.specs.Rules.{chained, in_order}

-- the first k of l are passed, from the tail to p, and count for sum: at most a name and a value of 16 bits each
pub record Walking (l : List Entry) (tail p sum k : ℕ) : Type 0 where
  pub low : p < ring
  pub most : sum ≤ (2 * 2 ^ 16 + overhead) * k
  pub chain : chained tail l ≡ chained p (drop k l)
  pub end : end_of tail l ≡ end_of p (drop k l)
  pub total : size_of l ≡ sum + size_of (drop k l)

pub start : (l : List Entry) (tail : ℕ) → tail < ring → Walking l tail tail 0 0
start l tail h = record { low = h; most = omega arith; chain = refl; end = refl; total = omega arith }

module _ (l : List Entry) (tail p sum k : ℕ) (w : Walking l tail p sum k) where
  module _ (e : Entry) (next : drop k l ≡ e ∷ drop (suc k) l) where
    -- a start that is out of place
    pub off : (s : ℕ) → s ≡ e.start → (s ≡ p → ⊥) → chained tail l ≡ false
    off s es ne = w.chain ∙ rw (next, ne_eqb e.start p (λ q. ne (es ∙ q)))

    pub step : (s n : ℕ) → s ≡ e.start → s ≡ p → n ≡ bytes_of e → n < 2 * 2 ^ 16
        → Walking l tail ((p + n) % ring) (sum + (n + overhead)) (k + 1)
    step s n es sp en low =
        let here : eqb e.start p ≡ true = eq-eqb _ _ (sym es ∙ sp) in
        let left : size_of (drop k l) ≡ n + overhead + size_of (drop (suc k) l) = rw (next, en) in
        record {
          low = omega arith;
          most = omega (arith, w.most);
          chain = w.chain ∙ rw (next, here, add-one, en);
          end = w.end ∙ rw (next, add-one, en);
          total = rw add-one (omega (arith, w.total));
        }

  -- all entries are passed
  pub done : (head size : ℕ) → length l ≤ k → in_order l size tail head ≡ (eqb p head && eqb sum size)
  done head size h =
      let d : drop k l ≡ [] = drop_of_length-le l {i = k} h in
      let s : size_of l ≡ sum = w.total ∙ rw d (add-zero sum) in
      rw (w.chain, w.end, s, d)
