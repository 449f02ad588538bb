-- The abstract table of the specification, "How the table behaves".
use Rattle.std.specs.Prelude.{Bool, cond, List, [], ◌∷◌, ℕ, ◌+◌, eqb, ltb, length}
use Rattle.std.proofs.Math.Option.{Option, some, none}
use Rattle.answers.specs.Answer.{Answer, refused}
use Rattle.answers.specs.declared.Refusal.{Refusal}
use Rattle.field.specs.Field.{Field, size_of}

-- one entry's uses in a section: its absolute index, and how often it is used
pub record Use : Type 0 where
  pub entry : ℕ
  pub count : ℕ

-- a committed section
pub record Section : Type 0 where
  pub stream : ℕ
  pub uses : List Use

-- the section that is open
pub record Open : Type 0 where
  pub stream : ℕ
  pub base : ℕ
  pub uses : List Use

-- a largest reference above the known received count, and how many blocked sections have it
pub record Blocked : Type 0 where
  pub largest : ℕ
  pub sections : ℕ

pub record Table : Type 0 where
  -- the live entries, oldest first
  pub fields : List Field
  -- "D dropped"
  pub dropped : ℕ
  pub capacity : ℕ
  -- "the known received count"
  pub known : ℕ
  -- "blocked maximum"
  pub blocked_max : ℕ
  -- in the order of their first sections
  pub blocked : List Blocked
  -- the committed sections not yet reported, in the order of their commits
  pub queue : List Section
  -- the section that is open
  pub section : Option Open

-- "a fresh table has capacity and blocked maximum 0"
abbrev pub fresh : Table
fresh =
    record {
      fields = [];
      dropped = 0;
      capacity = 0;
      known = 0;
      blocked_max = 0;
      blocked = [];
      queue = [];
      section = none;
    }

-- "I inserted"
abbrev pub inserted_of : Table → ℕ
inserted_of t = t.dropped + length t.fields

-- "the size is the sum over live entries"
abbrev pub size_of_all : List Field → ℕ
size_of_all [] = 0
size_of_all (f ∷ l) = size_of f + size_of_all l

abbrev pub blocked_count : List Blocked → ℕ
blocked_count [] = 0
blocked_count (b ∷ l) = b.sections + blocked_count l

-- ---- references: "committed sections not yet reported", and the open one

abbrev pub uses_in : ℕ → List Use → ℕ
uses_in a [] = 0
uses_in a (u ∷ l) = cond (eqb u.entry a) u.count 0 + uses_in a l

abbrev pub uses_queued : ℕ → List Section → ℕ
uses_queued a [] = 0
uses_queued a (s ∷ l) = uses_in a s.uses + uses_queued a l

abbrev pub uses_open : ℕ → Option Open → ℕ
uses_open a none = 0
uses_open a (some o) = uses_in a o.uses

-- an entry's references
abbrev pub references : Table → ℕ → ℕ
references t a = uses_queued a t.queue + uses_open a t.section

abbrev pub is_referenced : Table → ℕ → Bool
is_referenced t a = ltb 0 (references t a)

-- ---- a call: "takes the record and hands back the next one"

pub record Step (A : Type 0) : Type 0 where
  pub next : Table
  pub answer : Answer A

-- "a refusal changes nothing"
abbrev pub refuse : {A : Type 0} → Table → Refusal → Step A
refuse t r = record { next = t; answer = refused r }
