-- What the code does to the entries for one instruction, case by case. Assumes nothing.
use mathlib.Core.Path.{◌≡◌}
use mathlib.Core.Bool.{Bool, true, false}
use mathlib.Core.List.{List, []}
use mathlib.Core.Option.{some, none}
use Prim.Native.Nat.{ℕ, ◌+◌, ◌-◌, ◌≤◌}
use native.Mathlib.Omega.{arith}
use lib.ListN.{take, drop}
use Rattle.std.specs.Prelude.{Result, Ok}
use Rattle.answers.specs.Answer.{done, refused}
use Rattle.answers.specs.declared.Refusal.{Refusal}
use Rattle.answers.specs.declared.Refusal.TheVariants.{ShrinkBlocked}
use Rattle.dynamic.specs.Calls.{capacity_answer, push_reply}
use Rattle.instructions.specs.Instruction.{duplicate, capacity, name_ref, stretch, parsed, Inside}
use Rattle.instructions.specs.declared.Parsed.{Parsed}
use Rattle.ring.specs.Ring.{Pushes, cutting, Cut}
use Rattle.ring.specs.declared.Pushed.{Pushed}
use Rattle.ring.specs.declared.Ring.{Ring}
use Rattle.ring.specs.declared.Source.{Source}
use Rattle.ring.specs.declared.Source.TheVariants.{Given, NameOf, CopyOf}
use Rattle.vas.specs.Vas.{relative_at}
use Rattle.running.specs.Run.{Took}
use Rattle.encoder_stream.specs.Entries.{static_name, kept, Held, holding, took, pushed, applied}

-- an insert
pub pushed_by_lem : (r : Ring) (a b : List ℕ) (low : ℕ) (s : Source) (n v : List ℕ) (p : Pushed) → Pushes r a b low s n v p
    → (y : Result Unit Refusal) → y ≡ push_reply r.capacity p.push
    → took p.ring y b ≡ pushed low (holding r a) s n v
unfolding pushed
pushed_by_lem r a b low s n v p w y e = rw (← w.next, ← w.bytes, e)

module _ (low : ℕ) (r : Ring) (a : List ℕ) where
  abbrev x : Held
  x = holding r a

  -- an index that names nothing
  pub duplicate_unnamed : (i : ℕ) (w : Refusal) → relative_at r.inserted r.dropped i ≡ refused w → kept x w ≡ applied low x (duplicate i)
  unfolding applied
  duplicate_unnamed i w h = rw h

  pub named_unnamed : (i : ℕ) (v : List ℕ) (w : Refusal) → relative_at r.inserted r.dropped i ≡ refused w
      → kept x w ≡ applied low x (name_ref false i v)
  unfolding applied
  named_unnamed i v w h = rw h

  pub duplicate_pushed : (i p : ℕ) → relative_at r.inserted r.dropped i ≡ done p
      → pushed low x (CopyOf p) [] [] ≡ applied low x (duplicate i)
  unfolding applied
  duplicate_pushed i p h = rw h

  pub named_pushed : (i : ℕ) (v : List ℕ) (p : ℕ) → relative_at r.inserted r.dropped i ≡ done p
      → pushed low x (NameOf p) [] v ≡ applied low x (name_ref false i v)
  unfolding applied
  named_pushed i v p h = rw h

  -- a name of the static table
  pub static_unnamed : (i : ℕ) (v : List ℕ) (w : Refusal) → static_name i ≡ refused w → kept x w ≡ applied low x (name_ref true i v)
  unfolding applied
  static_unnamed i v w h = rw h

  pub static_pushed : (i : ℕ) (n v : List ℕ) → static_name i ≡ done n → pushed low x Given n v ≡ applied low x (name_ref true i v)
  unfolding applied
  static_pushed i n v h = rw h

  -- a capacity
  pub capacity_kept : (c : ℕ) (w : Refusal) → capacity_answer c ≡ some w → kept x w ≡ applied low x (capacity c)
  unfolding applied
  capacity_kept c w h = rw h

  module _ (c : ℕ) (k : Cut) (e : k ≡ cutting r low c) (h : capacity_answer c ≡ none) where
    pub capacity_blocked : k.made ≡ false → kept x ShrinkBlocked ≡ applied low x (capacity c)
    unfolding applied
    capacity_blocked m = rw (h, ← e, m)

    pub capacity_set : k.made ≡ true → took k.ring (Ok tt) a ≡ applied low x (capacity c)
    unfolding applied
    capacity_set m = rw (h, ← e, m)

-- ---- an instruction that the code holds by positions

-- a part of a slice, by its end
stretch_part : (s : List ℕ) (p n : ℕ) → take (p + n - p) (drop p s) ≡ stretch s p n
stretch_part s p n = let e : p + n - p ≡ n = omega arith in rw e

pub literal_within : (k : ℕ) (i : Parsed) (p m q n : ℕ) → i ≡ Parsed.Literal p m q n → Inside k i → (p + m ≤ k) × (q + n ≤ k)
literal_within k i p m q n e h = rw e at h

pub name_ref_within : (k : ℕ) (i : Parsed) (t : Bool) (j q n : ℕ) → i ≡ Parsed.NameRef t j q n → Inside k i → q + n ≤ k
name_ref_within k i t j q n e h = rw e at h

module _ (low : ℕ) (x : Held) (s : List ℕ) (i : Parsed) {y : Took Held} where
  pub applies_duplicate : (j : ℕ) → i ≡ Parsed.Duplicate j → y ≡ applied low x (duplicate j) → y ≡ applied low x (parsed s i)
  applies_duplicate j e w = rw e w

  pub applies_capacity : (c : ℕ) → i ≡ Parsed.Capacity c → y ≡ applied low x (capacity c) → y ≡ applied low x (parsed s i)
  applies_capacity c e w = rw e w

  pub applies_literal : (p m q n : ℕ) → i ≡ Parsed.Literal p m q n
      → y ≡ pushed low x Given (take (p + m - p) (drop p s)) (take (q + n - q) (drop q s)) → y ≡ applied low x (parsed s i)
  unfolding applied
  applies_literal p m q n e w = rw (e, ← stretch_part s p m, ← stretch_part s q n) w

  pub applies_name_ref : (t b : Bool) (j q n : ℕ) → i ≡ Parsed.NameRef t j q n → t ≡ b
      → y ≡ applied low x (name_ref b j (take (q + n - q) (drop q s))) → y ≡ applied low x (parsed s i)
  applies_name_ref t b j q n e f w = rw (e, f, ← stretch_part s q n) w
