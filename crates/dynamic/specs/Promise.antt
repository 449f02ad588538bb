-- What each call promises: its answer and the next record to the last field; the arena's bytes; what that is in the model; and that the rules are kept.
use Rattle.std.specs.Prelude.{◌≡◌, true, List, ℕ}
use Rattle.answers.specs.Answer.{answered, Answer}
use Rattle.answers.specs.Table.{Done, replied}
use Rattle.model.specs.Drop as model-table
use Rattle.model.specs.Insert as model-insert
use Rattle.model.specs.Section as model-section
use Rattle.model.specs.Table as model
use Rattle.dynamic.specs.declared.Inserting.{Inserting}
use Rattle.dynamic.specs.declared.Looked.{Looked}
use Rattle.dynamic.specs.declared.Replied.{Replied}
use Rattle.dynamic.specs.declared.Table.{Table}
use Rattle.dynamic.specs.Calls as calls
use Rattle.dynamic.specs.Record.{view, sound, usable}

-- a call's outcome in the model
abbrev pub outcome : {A : Type 0} → Table → List ℕ → Answer A → model.Step A
outcome t a x = record { next = view t a; answer = x }

-- a call that takes no arena: whatever the arena holds, its strings stay
pub record Keeps (t : Table) (exact r : Replied) (step : model.Table → model.Step Done) : Type 0 where
  pub next : r ≡ exact
  pub model : sound t ≡ true → (a : List ℕ) → outcome r.table a (replied r.reply) ≡ step (view t a)
  pub kept : sound t ≡ true → sound r.table ≡ true

-- a put; a is the arena before, b after
pub record Puts (t : Table) (a b : List ℕ) (exact r : Replied) (n v : List ℕ) : Type 0 where
  pub next : r ≡ exact
  pub bytes : b ≡ calls.bytes_after t r.table a n v
  pub model : usable t a ≡ true
      → outcome r.table b (replied r.reply) ≡ model-table.put (view t a) (record { name = n; value = v })
  pub kept : usable t a ≡ true → usable r.table b ≡ true

-- a find
pub record Finds (t : Table) (a n v : List ℕ) (r : Looked) : Type 0 where
  pub next : r ≡ calls.find t a n v
  pub model : usable t a ≡ true
      → outcome r.table a (answered r.found) ≡ model-section.find (view t a) (record { name = n; value = v })
  pub kept : usable t a ≡ true → usable r.table a ≡ true

-- an insert
pub record Inserts (t : Table) (a b n v : List ℕ) (r : Inserting) : Type 0 where
  pub next : r ≡ calls.insert t a n v
  pub bytes : b ≡ calls.bytes_after t r.table a n v
  pub model : usable t a ≡ true
      → outcome r.table b (answered r.inserted) ≡ model-insert.insert (view t a) (record { name = n; value = v })
  pub kept : usable t a ≡ true → usable r.table b ≡ true
