-- Laws of the rules: as facts and back, and that they are kept when the oldest go and when one entry comes. Assumes nothing.
use mathlib.Core.Path.{◌≡◌, refl, ◌∙◌}
use mathlib.Core.Bool.{true}
use mathlib.Core.List.{List, [], ◌∷◌, ◌++◌}
use Prim.Native.Nat.{ℕ, ◌+◌, ◌-◌, ◌%◌, ◌≤◌, ◌<◌}
use native.Mathlib.Omega.{arith}
use lib.Dec.{leb, ltb, eqb}
use lib.ListN.{length, take, drop}
use borrow.Author.Tests.{leb-true, ltb-true, eqb-true, eq-eqb, le-leb, lt-ltb}
use Rattle.arena.specs.Ring.{ring}
use Rattle.field.specs.Field.{overhead}
use Rattle.entries.specs.Entry.{Entry, slots, size_of, end_of}
use Rattle.entries.specs.Rules.{chained, in_order, keeps_rules}
use Rattle.entries.proofs.Chain.{and_left, and_right, end_of_append, chained_append, size_of_append, chained_drop, end_of_drop, end_of_low, size_is_bytes}

pub record Rules (l : List Entry) (dropped inserted size capacity tail head : ℕ) : Type 0 where
  pub order : dropped ≤ inserted
  pub few : inserted - dropped ≤ slots
  pub most : capacity ≤ ring
  pub within : size ≤ capacity
  pub low : tail < ring
  pub chain : chained tail l ≡ true
  pub ends : end_of tail l ≡ head
  pub total : size_of l ≡ size

module _ (l : List Entry) (dropped inserted size capacity tail head : ℕ) where
  pub facts : keeps_rules l dropped inserted size capacity tail head ≡ true → Rules l dropped inserted size capacity tail head
  unfolding keeps_rules
  facts h =
      let h₁ = and_right (leb dropped inserted) _ h in
      let h₂ = and_right (leb (inserted - dropped) slots) _ h₁ in
      let h₃ = and_right (leb capacity ring) _ h₂ in
      let h₄ = and_right (leb size capacity) _ h₃ in
      let h₅ = and_right (ltb tail ring) _ h₄ in
      let h₆ = and_right (chained tail l) _ h₅ in
      let h₇ = and_right (eqb (end_of tail l) head) _ h₆ in
      record {
        order = leb-true _ _ (and_left (leb dropped inserted) _ h);
        few = leb-true _ _ (and_left (leb (inserted - dropped) slots) _ h₁);
        most = leb-true _ _ (and_left (leb capacity ring) _ h₂);
        within = leb-true _ _ (and_left (leb size capacity) _ h₃);
        low = ltb-true _ _ (and_left (ltb tail ring) _ h₄);
        chain = and_left (chained tail l) _ h₅;
        ends = eqb-true _ _ (and_left (eqb (end_of tail l) head) _ h₆);
        total = eqb-true _ _ h₇;
      }

  -- the tests before the walk
  pub tested : dropped ≤ inserted → inserted - dropped ≤ slots → capacity ≤ ring → size ≤ capacity → tail < ring
      → keeps_rules l dropped inserted size capacity tail head ≡ in_order l size tail head
  unfolding keeps_rules
  tested a b c d e = simp (le-leb _ _ a, le-leb _ _ b, le-leb _ _ c, le-leb _ _ d, lt-ltb _ _ e)

  module _ (s : Rules l dropped inserted size capacity tail head) where
    pub is_sound : keeps_rules l dropped inserted size capacity tail head ≡ true
    is_sound =
        tested s.order s.few s.most s.within s.low
        ∙ rw (s.chain, eq-eqb _ _ s.ends, eq-eqb _ _ s.total)

    pub head_low : head < ring
    head_low = rw (← s.ends) (end_of_low tail l s.low)

    module _ (all : length l ≡ inserted - dropped) where
      -- the k oldest go, and the capacity may change
      pub rules_drop : (k c : ℕ) → k ≤ length l → size_of (drop k l) ≤ c → c ≤ ring
          → Rules (drop k l) (dropped + k) inserted (size_of (drop k l)) c (end_of tail (take k l)) head
      rules_drop k c h fits most =
          record {
            order = omega (arith, s.order);
            few = omega (arith, s.few);
            most = most;
            within = fits;
            low = end_of_low tail (take k l) s.low;
            chain = chained_drop k tail l s.chain;
            ends = end_of_drop k tail l ∙ s.ends;
            total = refl;
          }

      -- an entry comes, right after the bytes of the others
      pub rules_push : (n v : ℕ) → size + (n + v + overhead) ≤ capacity
          → Rules (l ++ (record { start = head; name = n; value = v } ∷ []))
          dropped (inserted + 1) (size + (n + v + overhead)) capacity tail ((head + (n + v)) % ring)
      rules_push n v fits =
          record {
            order = omega (arith, s.order);
            few = omega (arith, s.order, s.most, s.total, size_is_bytes l);
            most = s.most;
            within = fits;
            low = s.low;
            chain = rw (chained_append tail l, s.chain, s.ends, eq-eqb head head refl);
            ends = rw (end_of_append tail l, s.ends);
            total = rw (size_of_append l, s.total) (omega arith);
          }
