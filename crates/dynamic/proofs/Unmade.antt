-- An insertion that is not made, to the last field, is one in the model, and keeps the rules; and its answer by the searches. Assumes nothing.
use mathlib.Core.Path.{◌≡◌, refl, ap, ◌∙◌}
use mathlib.Core.Bool.{Bool, true, false, cond}
use mathlib.Core.List.{List, [], ◌∷◌}
use mathlib.Core.Option.{Option, some, none}
use Prim.Native.Nat.{ℕ}
use lib.ListN.{length}
use Rattle.std.specs.Prelude.{Result, Ok, Err}
use Rattle.answers.specs.declared.Lookup.{Lookup}
use Rattle.answers.specs.declared.Refusal.{Refusal}
use Rattle.answers.specs.Answer.{answered, done}
use Rattle.answers.specs.declared.Insertion.{Insertion}
use Rattle.answers.specs.declared.Insertion.TheVariants.{NotInserted}
use Rattle.answers.specs.declared.Lookup.TheVariants.{Static}
use Rattle.answers.specs.declared.Refusal.TheVariants.{TrackingFull}
use Rattle.entries.specs.Latest.{last_of, matches}
use Rattle.entries.proofs.Last.{matches_name}
use Rattle.field.specs.Field.{Field}
use Rattle.model.specs.Bounds.{section_entries}
use Rattle.model.specs.Insert as model
use Rattle.model.specs.Section as sections
use Rattle.model.specs.Table.{Step}
use Rattle.ring.specs.Ring.{fields_of}
use Rattle.static_table.specs.Static.{lowest_name}
use Rattle.tracking.specs.Uses.{Noted}
use Rattle.dynamic.specs.Calls.{latest_of, noted_in, with_uses, with_noted, looked, found_at, inserting, not_made, name_at, not_inserted}
use Rattle.dynamic.specs.Promise.{outcome}
use Rattle.dynamic.specs.Record.{uses_here, view, sound}
use Rattle.dynamic.specs.declared.Inserting.{Inserting}
use Rattle.dynamic.specs.declared.Looked.{Looked}
use Rattle.dynamic.specs.declared.Table.{Table}
use Rattle.dynamic.proofs.Searched.{found_within}
use Rattle.dynamic.proofs.Refer.{Refers, entry_at, noted_sound, noted_here}
use Rattle.dynamic.proofs.Finding.{open_here}

-- ---- the answer by the searches

-- the insert that a search stands for, where no entry is made
abbrev pub insert_of : Result Lookup Refusal → Result Insertion Refusal
insert_of (Ok l) = Ok (NotInserted l)
insert_of (Err w) = Err w

abbrev pub named_by : Looked → Inserting
named_by x = inserting x.table (insert_of x.found)

module _ (t : Table) (a n v : List ℕ) where
  pub only_static : (i : ℕ) → lowest_name n ≡ some i → not_made t (Static i) ≡ not_inserted t a n v
  unfolding not_inserted
  only_static i h = rw h

  named_at : (o : Option ℕ) → named_by (found_at t o) ≡ name_at t o
  named_at none = refl
  named_at (some k) = go (noted_in t.section (entry_at t k)) (noted_in t.section (entry_at t k)).fits
    where
      go : (r : Noted) (b : Bool)
          → named_by (cond b (looked (with_noted r t) (Ok (sections.lookup_of t.base (entry_at t k)))) (looked t (Err TrackingFull)))
          ≡ cond b (not_made (with_noted r t) (sections.lookup_of t.base (entry_at t k))) (inserting t (Err TrackingFull))
      go r true = refl
      go r false = refl

  pub only_found : lowest_name n ≡ none → (x : Looked) → x ≡ found_at t (latest_of t a n v false) → named_by x ≡ not_inserted t a n v
  unfolding not_inserted
  only_found unlisted x e = ap named_by e ∙ named_at (latest_of t a n v false) ∙ rw unlisted

-- ---- in the model

pub last_name : (n v : List ℕ) (l : List Field) → last_of (matches n v false) l ≡ last_of (model.has_name n) l
last_name n v [] = refl
last_name n v (f ∷ l) = rw (last_name n v l, matches_name n v f)

-- what is promised of an answer that makes no entry
pub record Unmade (t : Table) (a : List ℕ) (r : Inserting) (s : Step Insertion) : Type 0 where
  pub model : outcome r.table a (answered r.inserted) ≡ s
  pub kept : sound r.table ≡ true
  pub ring : r.table.ring ≡ t.ring

module _ (t : Table) (a n v : List ℕ) (rules : sound t ≡ true) (active : t.active ≡ true)
    (uses : length t.section.uses ≡ section_entries) where
  refer_name : (k : ℕ) → latest_of t a n v false ≡ some k
      → Unmade t a (name_at t (some k)) (model.name_at (view t a) (open_here t) (some k))
  unfolding view
  refer_name k h =
      let w : Refers t k = record { rules = rules; active = active; long = uses; live = found_within t.ring a _ n v false k h } in
      rw (noted_here t k w) (go (noted_in t.section (entry_at t k)) (noted_in t.section (entry_at t k)).fits (noted_sound t k w))
    where
      go : (r : Noted) (b : Bool) → sound (with_noted r t) ≡ true
          → Unmade t a
          (cond b (not_made (with_noted r t) (sections.lookup_of t.base (entry_at t k))) (inserting t (Err TrackingFull)))
          (sections.refer_to (view t a) (open_here t) (cond b (some (uses_here (with_uses t.section r))) none)
          (NotInserted (sections.lookup_of t.base (entry_at t k))))
      go r true s = record { model = rw active; kept = s; ring = refl }
      go r false s = record { model = refl; kept = rules; ring = refl }

  latest_name : (o : Option ℕ) → latest_of t a n v false ≡ o → Unmade t a (name_at t o) (model.name_at (view t a) (open_here t) o)
  latest_name (some k) h = refer_name k h
  latest_name none h = record { model = refl; kept = rules; ring = refl }

  pub unmade : Unmade t a (not_inserted t a n v) (model.not_inserted (view t a) (open_here t) n)
  unfolding not_inserted model.not_inserted view
  unmade = rw (← last_name n v (fields_of t.ring a)) (go (lowest_name n))
    where
      go : (o : Option ℕ)
          → Unmade t a (model.or_else o (λ (i : ℕ). not_made t (Static i)) (name_at t (latest_of t a n v false)))
          (model.static_else o (λ (i : ℕ). record { next = view t a; answer = done (NotInserted (Static i)) })
          (model.name_at (view t a) (open_here t) (latest_of t a n v false)))
      go (some i) = record { model = refl; kept = rules; ring = refl }
      go none = latest_name (latest_of t a n v false) refl
