-- The model knows no 22: none of its calls answers it, nor an instruction, nor a run of them. Assumes nothing.
use mathlib.Core.Bool.{Bool, true, false, cond}
use mathlib.Core.List.{List}
use mathlib.Core.Option.{Option, some, none}
use Prim.Native.Nat.{ℕ, zero, suc, ◌+◌, ◌-◌}
use native.Mathlib.Omega.{arith}
use lib.Dec.{ltb, leb, eqb}
use lib.ListN.{length}
use Rattle.answers.specs.Answer.{Answer, done, refused}
use Rattle.answers.specs.Table.{Done, ok}
use Rattle.answers.specs.declared.Insertion.{Insertion}
use Rattle.answers.specs.declared.Insertion.TheVariants.{NotInserted}
use Rattle.encoder_stream.specs.Entries.{naming, static_name, applied_in, entry_in}
use Rattle.entries.specs.Latest.{last_of}
use Rattle.field.specs.Field.{Field, size_of, equal}
use Rattle.instructions.specs.Instruction.{Instruction, duplicate, capacity, literal, name_ref}
use Rattle.model.specs.Drop as drops
use Rattle.model.specs.Insert as inserts
use Rattle.model.specs.Report as reports
use Rattle.model.specs.Section as sections
use Rattle.model.specs.Bounds.{largest_capacity, lent_room, blocked_sections, queue_places}
use Rattle.model.specs.Table.{Table, Step, Open, Use, Blocked, Section, inserted_of, blocked_count}
use Rattle.ring.specs.Ring.{largest_count}
use Rattle.running.specs.Run.{Whole, Took, ends, after_taking, after_reading, run}
use Rattle.static_table.specs.Static.{lowest_name}
use Rattle.vas.specs.Vas.{position_of, named}
use Rattle.demands.proofs.Rows.{Row, said, cond_row}

-- ---- the model's calls

step_row : {A : Type 0} (b : Bool) (x y : Step A) → Row x.answer → Row y.answer → Row (cond b x y).answer
step_row true x y p q = p
step_row false x y p q = q

closed_row : {A : Type 0} (t : Table) (o : Option Open) (s : Step A) → Row s.answer → Row (drops.closed t o s).answer
closed_row t (some o) s p = record { not_22 = λ e. omega arith }
closed_row t none s p = p

open_row : {A : Type 0} (t : Table) (o : Option Open) (f : Open → Step A) → ((o : Open) → Row (f o).answer)
    → Row (sections.in_section t o f).answer
open_row t none f p = record { not_22 = λ e. omega arith }
open_row t (some o) f p = p o

module _ (t : Table) where
  pub capacity_row : (c : ℕ) → Row (drops.set_capacity t c).answer
  unfolding drops.set_capacity
  capacity_row c =
      closed_row t t.section _
      (step_row (ltb largest_capacity c) _ _ (record { not_22 = λ e. omega arith })
      (step_row (ltb lent_room c) _ _ (record { not_22 = λ e. omega arith }) (go (drops.fewest t c))))
    where
      go : (o : Option ℕ) → Row (drops.cut_to t c o).answer
      go (some k) = said _
      go none = record { not_22 = λ e. omega arith }

  pub most_row : (m : ℕ) → Row (drops.set_blocked_max t m).answer
  unfolding drops.set_blocked_max
  most_row m = closed_row t t.section _ (step_row (leb blocked_sections m) _ _ (record { not_22 = λ e. omega arith }) (said _))

  pub put_row : (f : Field) → Row (drops.put t f).answer
  unfolding drops.put
  put_row f =
      closed_row t t.section _
      (step_row (eqb t.capacity 0) _ _ (said _)
      (step_row (ltb t.capacity (size_of f)) _ _ (record { not_22 = λ e. omega arith }) (go (drops.making t (size_of f)))))
    where
      go : (o : Option ℕ) → Row (drops.put_after t f o).answer
      go none = said _
      go (some k) = step_row (ltb (inserted_of t) largest_count) _ _ (said _) (record { not_22 = λ e. omega arith })

  pub begin_row : (stream : ℕ) → Row (sections.begin t stream).answer
  unfolding sections.begin
  begin_row stream = closed_row t t.section _ (said _)

  pub abandon_row : Row (sections.abandon t).answer
  unfolding sections.abandon
  abandon_row = open_row t t.section _ (λ o. said _)

  pub commit_row : (largest : ℕ) → Row (sections.commit t largest).answer
  unfolding sections.commit
  commit_row largest =
      open_row t t.section _
      (λ o. step_row (ltb (inserted_of t) largest) _ _ (record { not_22 = λ e. omega arith })
      (step_row (leb queue_places (length t.queue)) _ _ (record { not_22 = λ e. omega arith }) (go o (sections.block t largest))))
    where
      go : (o : Open) (b : Option (List Blocked)) → Row (sections.queued t o b).answer
      go o none = record { not_22 = λ e. omega arith }
      go o (some bs) = said _

  pub release_row : (stream : ℕ) → Row (reports.release t stream).answer
  unfolding reports.release
  release_row stream = closed_row t t.section _ (go (reports.without_oldest stream t.queue))
    where
      go : (o : Option (List Section)) → Row (reports.releasing t o).answer
      go none = record { not_22 = λ e. omega arith }
      go (some q) = said _

  pub increment_row : (n : ℕ) → Row (reports.increment t n).answer
  unfolding reports.increment
  increment_row n = closed_row t t.section _ (go (ltb largest_count (t.known + n)))
    where
      go : (b : Bool) → Row (reports.counted b t n).answer
      go true = record { not_22 = λ e. omega arith }
      go false = said _

  refer_row : {A : Type 0} (o : Open) (u : Option (List Use)) (x : A) → Row (sections.refer_to t o u x).answer
  refer_row o none x = record { not_22 = λ e. omega arith }
  refer_row o (some us) x = said _

  pub find_row : (f : Field) → Row (sections.find t f).answer
  unfolding sections.find
  find_row f = open_row t t.section _ (λ o. go o (last_of (equal f) t.fields))
    where
      go : (o : Open) (k : Option ℕ) → Row (sections.found_at t o k).answer
      go o none = said _
      go o (some k) = refer_row o (sections.note (t.dropped + k + 1) o.uses) (sections.lookup_of o.base (t.dropped + k + 1))

  pub insert_row : (f : Field) → Row (inserts.insert t f).answer
  unfolding inserts.insert inserts.not_inserted inserts.made
  insert_row f =
      open_row t t.section _
      (λ o. step_row (leb t.blocked_max (blocked_count t.blocked)) _ _ (not_made o) (made o (drops.making t (size_of f))))
    where
      name_row : (o : Open) (k : Option ℕ) → Row (inserts.name_at t o k).answer
      name_row o none = said _
      name_row o (some k) =
          refer_row o (sections.note (t.dropped + k + 1) o.uses) (NotInserted (sections.lookup_of o.base (t.dropped + k + 1)))

      static : (o : Open) (i : Option ℕ) (s : Step Insertion) → Row s.answer
          → (f : ℕ → Step Insertion) → ((i : ℕ) → Row (f i).answer) → Row (inserts.static_else i f s).answer
      static o (some i) s p f q = q i
      static o none s p f q = p

      not_made : (o : Open) → Row (inserts.not_inserted t o f.name).answer
      not_made o = static o (lowest_name f.name) _ (name_row o (last_of (inserts.has_name f.name) t.fields)) _ (λ i. said _)

      by : (u : Table) (o : Open) (w : inserts.Origin) (us : Option (List Use)) → Row (inserts.inserted_by t u o f w us).answer
      by u o w none = record { not_22 = λ e. omega arith }
      by u o w (some us) = step_row (ltb (inserted_of t) largest_count) _ _ (said _) (record { not_22 = λ e. omega arith })

      made : (o : Open) (k : Option ℕ) → Row (inserts.made_or t o f k).answer
      made o none = not_made o
      made o (some k) =
          let u = drops.without k t in
          by u o (inserts.origin_in u f) (inserts.noted_for (inserted_of t + 1) (inserts.origin_in u f) o.uses)

-- ---- the encoder's instructions in the model

naming_row : {S A : Type 0} (x : S) (n : Answer A) (f : A → Took S) → Row n → ((a : A) → Row (f a).answer) → Row (naming x n f).answer
naming_row x (done a) f p q = q a
naming_row x (refused r) f p q = record { not_22 = p.not_22 }

pub named_row : (i d absolute : ℕ) → Row (named i d absolute)
named_row i d absolute =
    cond_row (leb i d) _ _ (record { not_22 = λ e. omega arith })
    (cond_row (leb absolute d) _ _ (record { not_22 = λ e. omega arith })
    (cond_row (leb (i - d) (position_of d absolute)) _ _ (record { not_22 = λ e. omega arith }) (said _)))

static_row : (i : ℕ) → Row (static_name i)
unfolding static_name
static_row i = cond_row (ltb i _) _ _ (said _) (record { not_22 = λ e. omega arith })

pub applied_row : (t : Table) (i : Instruction) → Row (applied_in t i).answer
unfolding applied_in
applied_row t (duplicate i) = naming_row t (entry_in t i) _ (named_row (inserted_of t) t.dropped (inserted_of t - i)) (λ p. put_row t _)
applied_row t (capacity c) = capacity_row t c
applied_row t (literal n v) = put_row t _
applied_row t (name_ref true i v) = naming_row t (static_name i) _ (static_row i) (λ n. put_row t _)
applied_row t (name_ref false i v) = naming_row t (entry_in t i) _ (named_row (inserted_of t) t.dropped (inserted_of t - i)) (λ p. put_row t _)

-- ---- a call on a stream: where no reader and no step answers 22, the call does not

module _ {S I : Type 0} (read : List ℕ → ℕ → Answer (Option (Whole I))) (take : S → I → Took S) (Good : S → Type 0)
    (reads : (s : List ℕ) (at : ℕ) → Row (read s at)) (takes : (x : S) → Good x → (i : I) → Row (take x i).answer)
    (stays : (x : S) → Good x → (i : I) → Good (take x i).state) (s : List ℕ) where
  pub run_row : (k at : ℕ) (x : S) → Good x → Row (run read take k s at x).answer
  unfolding run
  run_row zero at x g = said _
  run_row (suc k) at x g = turn (leb (length s) at) (read s at) (reads s at) (λ e y z. run_row k e y z)
    where
      taken : (i : Whole I) → ((e : ℕ) (y : S) → Good y → Row (run read take k s e y).answer) → (a : Answer Done) → Row a
          → Row (after_taking x at (take x i.instruction).state a (run read take k s i.next)).answer
      taken i more (done d) p = more i.next (take x i.instruction).state (stays x g i.instruction)
      taken i more (refused r) p = record { not_22 = p.not_22 }

      turn : (over : Bool) (a : Answer (Option (Whole I))) → Row a
          → ((e : ℕ) (y : S) → Good y → Row (run read take k s e y).answer)
          → Row
          (cond over
          (ends x at (done ok))
          (after_reading x at a
          (λ i. after_taking x at (take x i.instruction).state (take x i.instruction).answer (run read take k s i.next)))).answer
      turn true a p more = said _
      turn false (done (some i)) p more = taken i more (take x i.instruction).answer (takes x g i.instruction)
      turn false (done none) p more = said _
      turn false (refused r) p more = record { not_22 = p.not_22 }
