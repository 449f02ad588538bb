-- The rules of an open section as facts, and what its floor says of them. Assumes nothing.
use mathlib.Core.Path.{◌≡◌}
use mathlib.Core.Bool.{Bool, true, false, cond}
use Prim.Native.Nat.{ℕ, ◌+◌, ◌≤◌}
use lib.Dec.{leb}
use borrow.Author.Tests.{leb-true, le-leb}
use Rattle.entries.specs.Entry.{slots}
use Rattle.entries.proofs.Chain.{and_left, and_right}
use Rattle.tracking.specs.Queue.{Floor, section_live, lowest, no_floor}
use Rattle.tracking.specs.declared.Section.{Section}
use Rattle.call_parts.specs.Parts.{uses_here, open_rules, open_floor}

module _ (b : Bool) (low least : ℕ) where
  -- a floor by whether the rules are kept
  abbrev pub floor_by : Floor
  floor_by = cond b (record { live = true; low = least }) (no_floor low)

  pub live_by : (c : Bool) → b ≡ c → floor_by.live ≡ c
  live_by true e = rw e
  live_by false e = rw e

pub open_found : (on : Bool) (base : ℕ) (s : Section) (d i low : ℕ) → on ≡ true → open_rules base s d i ≡ true
    → ◌≡◌ {A = Floor} (record { live = true; low = lowest low (uses_here s) }) (open_floor on base s d i low)
unfolding open_floor
open_found on base s d i low e h = rw (e, h)

-- an open section
pub record Opened (base : ℕ) (s : Section) (d i : ℕ) : Type 0 where
  pub live : section_live d i s ≡ true
  pub base_within : base ≤ i
  pub from_low : s.from ≤ d
  pub every : i ≤ s.from + slots + s.used

pub opened : (base : ℕ) (s : Section) (d i : ℕ) → open_rules base s d i ≡ true → Opened base s d i
opened base s d i h =
    let h1 = and_right (section_live d i s) _ h in
    let h2 = and_right (leb base i) _ h1 in
    record {
      live = and_left (section_live d i s) _ h;
      base_within = leb-true _ _ (and_left (leb base i) _ h1);
      from_low = leb-true _ _ (and_left (leb s.from d) _ h2);
      every = leb-true _ _ (and_right (leb s.from d) _ h2);
    }

pub is_opened : (base : ℕ) (s : Section) (d i : ℕ) → Opened base s d i → open_rules base s d i ≡ true
is_opened base s d i o = rw (o.live, le-leb _ _ o.base_within, le-leb _ _ o.from_low, le-leb _ _ o.every)
