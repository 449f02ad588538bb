-- The entry that a reference of a line names, RFC 9204 3.2.5, 3.2.6: on a table, and with no table.
use Rattle.std.specs.Prelude.{Result, Ok, Err, cond, List, [], ℕ, ◌+◌, ◌≤◌, ltb, length, get_or}
use Rattle.answers.specs.declared.Refusal.{Refusal}
use Rattle.answers.specs.Answer.{Answer, done, refused, and_then}
use Rattle.answers.specs.declared.Refusal.TheVariants.{InvalidStaticIndex, MissingRefs}
use Rattle.arena.specs.Ring.{ring_read}
use Rattle.field.specs.Field.{Field}
use Rattle.instructions.specs.Instruction.{stretch}
use Rattle.line_writing.specs.declared.Reference.{Reference}
use Rattle.line_writing.specs.declared.Reference.TheVariants.{Static, Relative, PostBase}
use Rattle.ring.specs.Ring.{fields_of}
use Rattle.ring.specs.declared.Ring.{Ring}
use Rattle.static_table.specs.AppendixA.{appendix_a}
use Rattle.static_table.specs.Static.{no_field, laid}
use Rattle.vas.specs.Vas.{base_relative_at, post_base_at}
use Rattle.line_entries.specs.declared.Entry.{Entry}
use Rattle.line_entries.specs.declared.Text.{Text}

-- "4 InvalidStaticIndex: 99 or more"
unfoldable pub static_field : ℕ → Answer Field
static_field i = cond (ltb i (length appendix_a)) (done (get_or appendix_a i no_field)) (refused InvalidStaticIndex)

-- the live entries, oldest first, and how many were inserted and dropped
pub record Live : Type 0 where
  pub fields : List Field
  pub inserted : ℕ
  pub dropped : ℕ

abbrev pub live_at : Live → Answer ℕ → Answer Field
live_at t p = and_then p (λ k. done (get_or t.fields k no_field))

-- "with base B it names B-i, and post-base i names B+i+1"
abbrev pub entry_on : Live → ℕ → Reference → Answer Field
entry_on t base (Static i) = static_field i
entry_on t base (Relative i) = live_at t (base_relative_at t.inserted t.dropped base i)
entry_on t base (PostBase i) = live_at t (post_base_at t.inserted t.dropped base i)

-- "13: stateless reader meets a dynamic reference"
abbrev pub entry_static : Reference → Answer Field
entry_static (Static i) = static_field i
entry_static (Relative i) = refused MissingRefs
entry_static (PostBase i) = refused MissingRefs

-- ---- what the code holds of an entry: where its strings stand

-- s: the section; a: the arena
abbrev pub text_in : List ℕ → List ℕ → Text → List ℕ
text_in s a (Text.Input p n) = stretch s p n
text_in s a (Text.Fixed p n) = stretch (laid appendix_a) p n
text_in s a (Text.Stored p n) = ring_read a p n

-- the string lies where it is said to stand
abbrev pub TextInside : ℕ → Text → Type 0
TextInside m (Text.Input p n) = p + n ≤ m
TextInside m (Text.Fixed p n) = p + n ≤ length (laid appendix_a)
TextInside m (Text.Stored p n) = Unit {0}

abbrev pub entry_field : List ℕ → Entry → Field
entry_field a e = record { name = text_in [] a e.name; value = text_in [] a e.value }

abbrev pub entry_read : List ℕ → Result Entry Refusal → Answer Field
entry_read a (Ok e) = done (entry_field a e)
entry_read a (Err r) = refused r

-- an entry's strings stand in no section
abbrev pub EntryInside : Result Entry Refusal → Type 0
EntryInside (Ok e) = TextInside 0 e.name × TextInside 0 e.value
EntryInside (Err r) = Unit {0}

-- the entries of a ring
abbrev pub live_of : Ring → List ℕ → Live
live_of r a = record { fields = fields_of r a; inserted = r.inserted; dropped = r.dropped }

-- with no table no string stands in an arena
abbrev pub NotStored : Text → Type 0
NotStored (Text.Input p n) = Unit {0}
NotStored (Text.Fixed p n) = Unit {0}
NotStored (Text.Stored p n) = ⊥

abbrev pub EntryFixed : Result Entry Refusal → Type 0
EntryFixed (Ok e) = NotStored e.name × NotStored e.value
EntryFixed (Err r) = Unit {0}
