-- A find to the last field is a find in the model, and keeps the rules; and its answer by the tests. Assumes nothing.
use mathlib.Core.Path.{◌≡◌, refl}
use mathlib.Core.Bool.{Bool, true, false, cond}
use mathlib.Core.List.{List}
use mathlib.Core.Option.{Option, some, none}
use Prim.Native.Nat.{ℕ}
use lib.ListN.{length}
use Rattle.std.specs.Prelude.{Ok, Err}
use Rattle.answers.specs.Answer.{answered}
use Rattle.answers.specs.declared.Lookup.TheVariants.{NotFound}
use Rattle.answers.specs.declared.Refusal.{Refusal}
use Rattle.answers.specs.declared.Refusal.TheVariants.{NoSection, TrackingFull}
use Rattle.arena.specs.Ring.{long_enough}
use Rattle.entries.proofs.Chain.{and_left, and_right}
use Rattle.model.specs.Bounds.{section_entries}
use Rattle.model.specs.Section as model
use Rattle.model.specs.Table.{Open}
use Rattle.tracking.specs.Uses.{Noted}
use Rattle.dynamic.specs.Calls.{admitting_with, latest_of, noted_in, with_uses, with_noted, looked, found_at, find}
use Rattle.dynamic.specs.Promise.{outcome, Finds}
use Rattle.dynamic.specs.Record.{uses_here, view, sound, usable}
use Rattle.dynamic.specs.declared.Looked.{Looked}
use Rattle.dynamic.specs.declared.Table.{Table}
use Rattle.dynamic.proofs.Searched.{found_within}
use Rattle.dynamic.proofs.Refer.{Refers, entry_at, noted_sound, noted_here}
use Rattle.dynamic.proofs.Steps.{open_with_refused}

-- ---- the answer by the tests

module _ (t : Table) (a n v : List ℕ) where
  pub find_refused : (why : Refusal) → admitting_with t a true ≡ Err why → looked t (Err why) ≡ find t a n v
  unfolding find
  find_refused why e = open_with_refused t (λ (w : Refusal). looked t (Err w)) _ why a e

  pub find_open : sound t ≡ true → long_enough a ≡ true → t.active ≡ true → found_at t (latest_of t a n v true) ≡ find t a n v
  unfolding find
  find_open rules long active = rw (rules, long, active)

  -- a search of a section, by what it found
  module _ (whole : Bool) where
    pub found_nothing : latest_of t a n v whole ≡ none → looked t (Ok NotFound) ≡ found_at t (latest_of t a n v whole)
    found_nothing h = rw h

    module _ (k : ℕ) (h : latest_of t a n v whole ≡ some k) (r : Noted) (e : r ≡ noted_in t.section (entry_at t k)) where
      pub found_full : r.fits ≡ false → looked t (Err TrackingFull) ≡ found_at t (latest_of t a n v whole)
      found_full f = rw (h, ← e, f)

      pub found_noted : r.fits ≡ true
          → looked (with_noted r t) (Ok (model.lookup_of t.base (entry_at t k))) ≡ found_at t (latest_of t a n v whole)
      found_noted f = rw (h, ← e, f)

-- ---- in the model

-- the open section of a record
abbrev pub open_here : Table → Open
open_here t = record { stream = t.section.stream; base = t.base; uses = uses_here t.section }

module _ (t : Table) (a n v : List ℕ) (rules : sound t ≡ true) (long : long_enough a ≡ true) (active : t.active ≡ true)
    (uses : length t.section.uses ≡ section_entries) where
  refer_model : (k : ℕ) → latest_of t a n v true ≡ some k
      → outcome (found_at t (some k)).table a (answered (found_at t (some k)).found) ≡ model.found_at (view t a) (open_here t) (some k)
  unfolding view
  refer_model k h =
      let w : Refers t k = record { rules = rules; active = active; long = uses; live = found_within t.ring a _ n v true k h } in
      rw (noted_here t k w) (go (noted_in t.section (entry_at t k)) (noted_in t.section (entry_at t k)).fits)
    where
      go : (r : Noted) (b : Bool)
          → outcome
          (cond b (looked (with_noted r t) (Ok (model.lookup_of t.base (entry_at t k)))) (looked t (Err TrackingFull))).table a
          (answered (cond b (looked (with_noted r t) (Ok (model.lookup_of t.base (entry_at t k)))) (looked t (Err TrackingFull))).found)
          ≡ model.refer_to (view t a) (open_here t) (cond b (some (uses_here (with_uses t.section r))) none) (model.lookup_of t.base (entry_at t k))
      go r true = rw active
      go r false = refl

  refer_kept : (k : ℕ) → latest_of t a n v true ≡ some k → sound (found_at t (some k)).table ≡ true
  refer_kept k h =
      let w : Refers t k = record { rules = rules; active = active; long = uses; live = found_within t.ring a _ n v true k h } in
      go (noted_in t.section (entry_at t k)) (noted_in t.section (entry_at t k)).fits (noted_sound t k w)
    where
      go : (r : Noted) (b : Bool) → sound (with_noted r t) ≡ true
          → sound (cond b (looked (with_noted r t) (Ok (model.lookup_of t.base (entry_at t k)))) (looked t (Err TrackingFull))).table ≡ true
      go r true s = s
      go r false s = rules

  latest_model : (o : Option ℕ) → latest_of t a n v true ≡ o
      → outcome (found_at t o).table a (answered (found_at t o).found) ≡ model.found_at (view t a) (open_here t) o
  latest_model (some k) h = refer_model k h
  latest_model none h = refl

  latest_kept : (o : Option ℕ) → latest_of t a n v true ≡ o → sound (found_at t o).table ≡ true
  latest_kept (some k) h = refer_kept k h
  latest_kept none h = rules

module _ (t : Table) (a n v : List ℕ) (uses : length t.section.uses ≡ section_entries) (u : usable t a ≡ true) where
  rules : sound t ≡ true
  rules = and_left (sound t) _ u

  long : long_enough a ≡ true
  long = and_right (sound t) _ u

  find_model : outcome (find t a n v).table a (answered (find t a n v).found) ≡ model.find (view t a) (record { name = n; value = v })
  unfolding find model.find view
  find_model = rw (rules, long) (go t.active refl)
    where
      go : (b : Bool) → t.active ≡ b
          → outcome (cond b (found_at t (latest_of t a n v true)) (looked t (Err NoSection))).table a
          (answered (cond b (found_at t (latest_of t a n v true)) (looked t (Err NoSection))).found)
          ≡ model.in_section (view t a) (cond b (some (open_here t)) none) (λ o. model.found_at (view t a) o (latest_of t a n v true))
      go true h = latest_model t a n v rules long h uses _ refl
      go false h = refl

  find_kept : usable (find t a n v).table a ≡ true
  unfolding find
  find_kept = rw (rules, long, go t.active refl)
    where
      go : (b : Bool) → t.active ≡ b
          → sound (cond b (found_at t (latest_of t a n v true)) (looked t (Err NoSection))).table ≡ true
      go true h = latest_kept t a n v rules long h uses _ refl
      go false h = rules

pub finds : (t : Table) (a n v : List ℕ) (r : Looked) → length t.section.uses ≡ section_entries → r ≡ find t a n v → Finds t a n v r
finds t a n v r uses e =
    record { next = e; model = λ u. rw e (find_model t a n v uses u); kept = λ u. rw e (find_kept t a n v uses u) }
