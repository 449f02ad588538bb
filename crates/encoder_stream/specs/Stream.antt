-- A call on the encoder stream: "applies whole instructions, reports bytes consumed and total inserted, and writes one increment if anything was inserted".
use Rattle.std.specs.Prelude.{Result, Ok, Err, ◌≡◌, true, false, ◌&&◌, cond, List, [], ◌++◌, ℕ, ◌-◌, ◌≤◌, leb, eqb, length, drop}
use Rattle.answers.specs.Answer.{Answer, done, refused}
use Rattle.answers.specs.Table.{Done, ok, replied}
use Rattle.answers.specs.declared.Refusal.{Refusal}
use Rattle.answers.specs.declared.Refusal.TheVariants.{BufSize, SectionOpen, BadCall}
use Rattle.dynamic.specs.Calls.{with_ring}
use Rattle.dynamic.specs.Record.{view, usable, lowest_used}
use Rattle.dynamic.specs.declared.Table.{Table}
use Rattle.forms.specs.Forms.{head_of}
use Rattle.forms.specs.declared.DecoderInstruction.TheVariants.{InsertCountIncrement}
use Rattle.forms.specs.declared.Kind.TheVariants.{Decoder}
use Rattle.model.specs.Table as model
use Rattle.prefix_int.specs.Integer.{encode}
use Rattle.ring.specs.declared.Ring.{Ring}
use Rattle.running.specs.Run.{Ended, ends, run_all, unless_open}
use Rattle.encoder_stream.specs.Entries.{Held, applied, applied_in}
use Rattle.instructions.specs.Instruction.{instruction_at}
use Rattle.encoder_stream.specs.declared.Ran.{Ran}
use Rattle.encoder_stream.specs.declared.Received.{Received}

-- ---- the increment

-- "16 BufSize: 256 or more inserted in one stream call"
abbrev pub most_inserts : ℕ
most_inserts = 255

-- "under 3 bytes for the increment"
abbrev pub increment_room : ℕ
increment_room = 3

-- 4.4.3, "0 0, Increment (6+)"
unfoldable pub increment_bytes : ℕ → List ℕ
increment_bytes n = encode (head_of (Decoder InsertCountIncrement) false).width (head_of (Decoder InsertCountIncrement) false).flags n

-- what a call answers and writes
pub record Told : Type 0 where
  pub answer : Answer Done
  pub bytes : List ℕ

-- "number 16 keeps all and writes nothing"
abbrev pub incremented : ℕ → Told
incremented n =
    cond (eqb n 0)
    (record { answer = done ok; bytes = [] })
    (cond (leb n most_inserts) (record { answer = done ok; bytes = increment_bytes n }) (record { answer = refused BufSize; bytes = [] }))

-- how many bytes were written, or why none
abbrev pub count_of : Result ℕ Refusal → ℕ
count_of (Ok n) = n
count_of (Err r) = 0

abbrev pub said : Result ℕ Refusal → Answer Done
said (Ok n) = done ok
said (Err r) = refused r

-- the code's answer, and the buffer before and after
pub record Tells (x : Told) (o p : List ℕ) (f : Result ℕ Refusal) : Type 0 where
  pub answer : said f ≡ x.answer
  pub written : count_of f ≡ length x.bytes
  pub out : p ≡ x.bytes ++ drop (count_of f) o

-- "a refused stream call .. writes no increment"; n were inserted
unfoldable pub told : Answer Done → ℕ → Told
told (done w) n = incremented n
told (refused r) n = record { answer = refused r; bytes = [] }

-- ---- the call: its state, the bytes consumed, the total inserted, the answer, and the bytes written

pub record Streamed (S : Type 0) : Type 0 where
  pub state : S
  pub consumed : ℕ
  pub total : ℕ
  pub told : Told

abbrev pub streamed : {S : Type 0} → (S → ℕ) → S → Ended S → Streamed S
streamed count x e =
    record {
      state = e.state;
      consumed = e.consumed;
      total = count e.state;
      told = told e.answer (count e.state - count x);
    }

abbrev pub inserted_in : Held → ℕ
inserted_in x = x.ring.inserted

abbrev pub held_by : Table → List ℕ → Held
held_by t a = record { ring = t.ring; arena = a }

-- where the code's loop ends
abbrev pub ran_to : Ring → Ran → List ℕ → Ended Held
ran_to r y b = ends (record { ring = r; arena = b }) y.consumed (replied y.reply)

-- 22, then 18, then the instructions
unfoldable pub receiving : Table → List ℕ → List ℕ → ℕ → Ended Held
receiving t a s room =
    cond (usable t a && leb increment_room room)
    (cond t.active
    (ends (held_by t a) 0 (refused SectionOpen))
    (run_all instruction_at (applied (lowest_used t)) s (held_by t a)))
    (ends (held_by t a) 0 (refused BadCall))

abbrev pub received : Table → List ℕ → List ℕ → ℕ → Streamed Held
received t a s room = streamed inserted_in (held_by t a) (receiving t a s room)

-- ---- in the model

unfoldable pub received_in : model.Table → List ℕ → Streamed model.Table
received_in t s = streamed model.inserted_of t (unless_open t t.section (run_all instruction_at applied_in s t))

-- a table's call, seen in the model
abbrev pub seen_in : Table → Streamed Held → Streamed model.Table
seen_in t x =
    record {
      state = view (with_ring x.state.ring t) x.state.arena;
      consumed = x.consumed;
      total = x.total;
      told = x.told;
    }

-- ---- the promise: a and b are the arena before and after, o and p the buffer for the increment

pub record Receives (t : Table) (a b s o p : List ℕ) (r : Received) : Type 0 where
  pub table : r.table ≡ with_ring (received t a s (length o)).state.ring t
  pub arena : b ≡ (received t a s (length o)).state.arena
  pub consumed : r.consumed ≡ (received t a s (length o)).consumed
  pub inserted : r.inserted ≡ (received t a s (length o)).total
  pub answer : replied r.reply ≡ (received t a s (length o)).told.answer
  pub written : r.written ≡ length (received t a s (length o)).told.bytes
  pub out : p ≡ (received t a s (length o)).told.bytes ++ drop r.written o
  pub model : usable t a ≡ true → increment_room ≤ length o → seen_in t (received t a s (length o)) ≡ received_in (view t a) s
  pub kept : usable t a ≡ true → usable r.table b ≡ true
