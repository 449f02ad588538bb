-- The rules of a ring as facts and back, its arrays, and the number of its entries. Assumes nothing.
use mathlib.Core.Path.{◌≡◌}
use mathlib.Core.Bool.{true}
use mathlib.Core.List.{List}
use Prim.Native.Nat.{ℕ, ◌-◌, ◌≤◌, ◌<◌}
use native.Mathlib.Omega.{arith}
use lib.Dec.{leb}
use lib.ListN.{length}
use borrow.Author.Tests.{leb-true, le-leb, lt-ltb}
use Rattle.arena.specs.Ring.{ring, long_enough}
use Rattle.entries.specs.Entry.{slots}
use Rattle.entries.proofs.Between.{length_between, length_fields}
use Rattle.entries.proofs.Chain.{and_left, and_right, bytes_in, size_is_bytes}
use Rattle.entries.proofs.Rules.{Rules, facts, is_sound, head_low}
use Rattle.ring.specs.Ring.{largest_count, live, fields_of, keeps, source_live, pushable}
use Rattle.ring.specs.declared.Ring.{Ring}
use Rattle.ring.specs.declared.Source.{Source}

-- the facts of a ring that keeps its rules
pub record Kept (r : Ring) : Type 0 where
  pub counted : r.inserted ≤ largest_count
  pub rules : Rules (live r) r.dropped r.inserted r.size r.capacity r.tail r.head

-- its arrays have all their slots
pub record Arrays (r : Ring) : Type 0 where
  pub starts : length r.starts ≡ slots
  pub names : length r.names ≡ slots
  pub values : length r.values ≡ slots

module _ (r : Ring) where
  pub kept : keeps r ≡ true → Kept r
  unfolding keeps
  kept h =
      record {
        counted = leb-true _ _ (and_left (leb r.inserted largest_count) _ h);
        rules = facts _ _ _ _ _ _ _ (and_right (leb r.inserted largest_count) _ h);
      }

  pub keeps_true : Kept r → keeps r ≡ true
  unfolding keeps
  keeps_true k = rw (le-leb _ _ k.counted, is_sound _ _ _ _ _ _ _ k.rules)

  pub length_live : length (live r) ≡ r.inserted - r.dropped
  length_live = length_between r.starts r.names r.values r.dropped r.inserted

  pub count_fields : (a : List ℕ) → length (fields_of r a) ≡ r.inserted - r.dropped
  count_fields a = length_fields r.starts r.names r.values r.dropped r.inserted a

  module _ (k : Kept r) where
    pub low_head : r.head < ring
    low_head = head_low _ _ _ _ _ _ _ k.rules

    -- its bytes go round at most once
    pub bytes_most : bytes_in (live r) ≤ ring
    bytes_most = omega (arith, size_is_bytes (live r), k.rules.total, k.rules.within, k.rules.most)

    -- it passes what a push tests by itself
    pub passes : (a : List ℕ) (s : Source) → long_enough a ≡ true → source_live r s ≡ true → pushable r a s ≡ true
    passes a s long there = rw (le-leb _ _ k.rules.most, lt-ltb _ _ low_head, long, there)
