-- What an instruction does to the entries of a table, to the last field, and to the arena; and what it does in the model.
use Rattle.std.specs.Prelude.{Result, true, false, cond, List, [], ℕ, ltb, length, get_or}
use Rattle.std.proofs.Math.Option.{Option, some, none}
use Rattle.answers.specs.Answer.{Answer, done, refused}
use Rattle.answers.specs.Table.{Done, ok, replied}
use Rattle.answers.specs.declared.Refusal.{Refusal}
use Rattle.answers.specs.declared.Refusal.TheVariants.{InvalidStaticIndex, ShrinkBlocked}
use Rattle.dynamic.specs.Calls.{capacity_answer, push_reply}
use Rattle.field.specs.Field.{Field}
use Rattle.model.specs.Drop as model-table
use Rattle.model.specs.Table as model
use Rattle.ring.specs.Ring.{pushing, bytes_after, placed_bytes, cutting, Cut}
use Rattle.ring.specs.declared.Ring.{Ring}
use Rattle.ring.specs.declared.Source.{Source}
use Rattle.ring.specs.declared.Source.TheVariants.{Given, NameOf, CopyOf}
use Rattle.running.specs.Run.{Took}
use Rattle.static_table.specs.AppendixA.{appendix_a}
use Rattle.static_table.specs.Static.{no_field}
use Rattle.vas.specs.Vas.{relative_at}
use Rattle.instructions.specs.Instruction.{Instruction, duplicate, capacity, literal, name_ref}

-- "4 InvalidStaticIndex: 99 or more"
unfoldable pub static_name : ℕ → Answer (List ℕ)
static_name i = cond (ltb i (length appendix_a)) (done (get_or appendix_a i no_field).name) (refused InvalidStaticIndex)

abbrev pub kept : {S : Type 0} → S → Refusal → Took S
kept x r = record { state = x; answer = refused r }

-- what an index names is looked up first
abbrev pub naming : {S A : Type 0} → S → Answer A → (A → Took S) → Took S
naming x (done n) go = go n
naming x (refused r) go = kept x r

-- ---- the entries and the arena with their strings

pub record Held : Type 0 where
  pub ring : Ring
  pub arena : List ℕ

abbrev pub holding : Ring → List ℕ → Held
holding r a = record { ring = r; arena = a }

-- what an instruction left of the entries and the arena, and its answer
abbrev pub took : Ring → Result Unit Refusal → List ℕ → Took Held
took r reply b = record { state = holding r b; answer = replied reply }

-- an insert: low is the lowest entry that may not go
unfoldable pub pushed : ℕ → Held → Source → List ℕ → List ℕ → Took Held
pushed low x s n v =
    record {
      state = record {
        ring = (pushing x.ring x.arena low s n v).ring;
        arena = bytes_after (pushing x.ring x.arena low s n v).push x.arena (placed_bytes x.ring x.arena s n v);
      };
      answer = replied (push_reply x.ring.capacity (pushing x.ring x.arena low s n v).push);
    }

abbrev pub cut_by : Held → Cut → Took Held
cut_by x c = cond c.made (record { state = record { ring = c.ring; arena = x.arena }; answer = done ok }) (kept x ShrinkBlocked)

abbrev pub cut_unless : ℕ → Held → ℕ → Option Refusal → Took Held
cut_unless low x c (some r) = kept x r
cut_unless low x c none = cut_by x (cutting x.ring low c)

-- an index is relative to the newest entry
abbrev pub position_in : Held → ℕ → Answer ℕ
position_in x i = relative_at x.ring.inserted x.ring.dropped i

unfoldable pub applied : ℕ → Held → Instruction → Took Held
applied low x (duplicate i) = naming x (position_in x i) (λ p. pushed low x (CopyOf p) [] [])
applied low x (capacity c) = cut_unless low x c (capacity_answer c)
applied low x (literal n v) = pushed low x Given n v
applied low x (name_ref true i v) = naming x (static_name i) (λ n. pushed low x Given n v)
applied low x (name_ref false i v) = naming x (position_in x i) (λ p. pushed low x (NameOf p) [] v)

-- ---- in the model: set capacity, or a put of the field

abbrev pub took_in : model.Step Done → Took model.Table
took_in s = record { state = s.next; answer = s.answer }

-- "relative i names absolute I-i": the live entry
abbrev pub entry_in : model.Table → ℕ → Answer ℕ
entry_in t i = relative_at (model.inserted_of t) t.dropped i

abbrev pub put_in : model.Table → List ℕ → List ℕ → Took model.Table
put_in t n v = took_in (model-table.put t (record { name = n; value = v }))

abbrev pub field_in : model.Table → ℕ → Field
field_in t p = get_or t.fields p no_field

unfoldable pub applied_in : model.Table → Instruction → Took model.Table
applied_in t (duplicate i) = naming t (entry_in t i) (λ p. put_in t (field_in t p).name (field_in t p).value)
applied_in t (capacity c) = took_in (model-table.set_capacity t c)
applied_in t (literal n v) = put_in t n v
applied_in t (name_ref true i v) = naming t (static_name i) (λ n. put_in t n v)
applied_in t (name_ref false i v) = naming t (entry_in t i) (λ p. put_in t (field_in t p).name v)
