-- Any sequence of calls on a table: what each call makes of the record and of the arena, and what it answers, to the last byte.
use Rattle.std.specs.Prelude.{◌≡◌, true, List, [], ◌∷◌, ◌++◌, map, ℕ, ◌≤◌, length, drop}
use Rattle.answers.specs.Answer.{answered, Answer, done, answer_number}
use Rattle.answers.specs.Table.{Done, ok, replied}
use Rattle.answers.specs.declared.Insertion.{Insertion}
use Rattle.answers.specs.declared.Lookup.{Lookup}
use Rattle.arena.specs.Ring.{long_enough}
use Rattle.decoder.specs.Section as section
use Rattle.section_steps.specs.declared.Cursor.{Cursor}
use Rattle.section_steps.specs.declared.Field.{Field}
use Rattle.section_steps.specs.Section.{Line}
use Rattle.decoder_stream.specs.Reports as reports
use Rattle.dynamic.specs.Calls as calls
use Rattle.dynamic.specs.declared.Inserting.{Inserting}
use Rattle.dynamic.specs.declared.Looked.{Looked}
use Rattle.dynamic.specs.declared.Replied.{Replied}
use Rattle.dynamic.specs.declared.Table.{Table}
use Rattle.encoder_stream.specs.Entries.{Held}
use Rattle.encoder_stream.specs.Stream as instructions
use Rattle.running.specs.Run.{Ended}

-- a table's record, and the arena that is lent with it
pub record State : Type 0 where
  pub table : Table
  pub arena : List ℕ

abbrev pub holds : Table → List ℕ → State
holds t a = record { table = t; arena = a }

pub data Call : Type 0 where
  set_capacity : ℕ → Call
  set_blocked_maximum : ℕ → Call
  -- a name and a value
  put : List ℕ → List ℕ → Call
  find : List ℕ → List ℕ → Call
  insert : List ℕ → List ℕ → Call
  -- a stream
  begin : ℕ → Call
  -- the largest reference
  commit : ℕ → Call
  abandon : Call
  acknowledge : ℕ → Call
  cancel : ℕ → Call
  increment : ℕ → Call
  -- a slice, and the buffer for the increment
  encoder_stream : List ℕ → List ℕ → Call
  -- a slice
  decoder_stream : List ℕ → Call
  -- a section whole: a slice, the list of records, and the buffer for the bytes; a record is a struct, or three numbers
  decode_header : List ℕ → List Field → List ℕ → Call
  read_on : List ℕ → List (List ℕ) → List ℕ → Call
  -- a section line by line: a slice, how many records there is room for, the buffer for the bytes, and where the reader stands
  next_on : List ℕ → ℕ → List ℕ → Cursor → Call
  -- no call of the program: from here on another arena is lent, whatever it holds
  lend : List ℕ → Call

-- all that a call gives back beside the record and the arena
pub data Answered : Type 0 where
  plain : Answer Done → Answered
  looked : Answer Lookup → Answered
  insertion : Answer Insertion → Answered
  -- bytes consumed, and the answer
  reported : ℕ → Answer Done → Answered
  -- bytes consumed, the total inserted, the answer, how many bytes were written, and the whole buffer
  received : ℕ → ℕ → Answer Done → ℕ → List ℕ → Answered
  -- what is told of a section, the whole list of records, and the whole buffer
  decoded : section.Section Field → Answered
  decoded_numbers : section.Section (List ℕ) → Answered
  -- a line of a section, and the whole buffer
  stepped : Line → List ℕ → Answered

-- the number of the answer's row
abbrev pub number_said : Answered → ℕ
number_said (plain w) = answer_number w
number_said (looked w) = answer_number w
number_said (insertion w) = answer_number w
number_said (reported n w) = answer_number w
number_said (received n m w k o) = answer_number w
number_said (decoded x) = answer_number (replied x.decoded.reply)
number_said (decoded_numbers x) = answer_number (replied x.decoded.reply)
number_said (stepped l o) = answer_number (replied l.decoded.reply)

pub record Outcome : Type 0 where
  pub state : State
  pub answer : Answered

-- ---- one call, by the exact definitions

-- the arena stays
abbrev pub replying : List ℕ → Replied → Outcome
replying a r = record { state = holds r.table a; answer = plain (replied r.reply) }

abbrev pub putting : Table → List ℕ → List ℕ → List ℕ → Replied → Outcome
putting t a n v r =
    record { state = holds r.table (calls.bytes_after t r.table a n v); answer = plain (replied r.reply) }

abbrev pub looking : List ℕ → Looked → Outcome
looking a r = record { state = holds r.table a; answer = looked (answered r.found) }

abbrev pub inserting : Table → List ℕ → List ℕ → List ℕ → Inserting → Outcome
inserting t a n v r =
    record { state = holds r.table (calls.bytes_after t r.table a n v); answer = insertion (answered r.inserted) }

abbrev pub reporting : List ℕ → Ended Table → Outcome
reporting a e = record { state = holds e.state a; answer = reported e.consumed e.answer }

-- o: the buffer before; what was written stands at its front
abbrev pub receiving : Table → List ℕ → instructions.Streamed Held → Outcome
receiving t o e =
    record {
      state = holds (calls.with_ring e.state.ring t) e.state.arena;
      answer = received e.consumed e.total e.told.answer (length e.told.bytes)
          (e.told.bytes ++ drop (length e.told.bytes) o);
    }

-- a section changes neither
abbrev pub reading : Table → List ℕ → Answered → Outcome
reading t a w = record { state = holds t a; answer = w }

abbrev pub line_on : Table → List ℕ → List ℕ → ℕ → List ℕ → Cursor → Line
line_on t a s room o c = section.line_of (section.on_table t a) s room (length o) c

abbrev pub calling : Table → List ℕ → Call → Outcome
calling t a (set_capacity c) = replying a (calls.set_capacity t c)
calling t a (set_blocked_maximum m) = replying a (calls.set_most t m)
calling t a (put n v) = putting t a n v (calls.put t a n v)
calling t a (find n v) = looking a (calls.find t a n v)
calling t a (insert n v) = inserting t a n v (calls.insert t a n v)
calling t a (begin stream) = replying a (calls.begin t stream)
calling t a (commit largest) = replying a (calls.commit t largest)
calling t a abandon = replying a (calls.abandon t)
calling t a (acknowledge stream) = replying a (calls.release t stream)
calling t a (cancel stream) = replying a (calls.release t stream)
calling t a (increment n) = replying a (calls.increment t n)
calling t a (encoder_stream s o) = receiving t o (instructions.received t a s (length o))
calling t a (decoder_stream s) = reporting a (reports.receiving t s)
calling t a (decode_header s fs o) = reading t a (decoded (section.read_all (λ f. f) (section.on_table t a) s fs o))
calling t a (read_on s fs o) = reading t a (decoded_numbers (section.read_all section.numbers (section.on_table t a) s fs o))
calling t a (next_on s room o c) =
    reading t a (stepped (line_on t a s room o c) (section.out_of (section.on_table t a) s c o (line_on t a s room o c)))
calling t a (lend b) = record { state = holds t b; answer = plain (done ok) }

abbrev pub called : State → Call → Outcome
called x c = calling x.table x.arena c

-- ---- a sequence of calls

-- what every call of a sequence came to, in their order
abbrev pub outcomes : State → List Call → List Outcome
outcomes x [] = []
outcomes x (c ∷ cs) = called x c ∷ outcomes (called x c).state cs

-- the state after them
abbrev pub after : State → List Call → State
after x [] = x
after x (c ∷ cs) = after (called x c).state cs

-- "22: short arena, .. under 3 bytes for the increment": what a caller lends is long enough
abbrev pub LongEnough : Call → Type 0
LongEnough (lend b) = long_enough b ≡ true
LongEnough (encoder_stream s o) = instructions.increment_room ≤ length o
LongEnough (set_capacity c) = Unit {0}
LongEnough (set_blocked_maximum m) = Unit {0}
LongEnough (put n v) = Unit {0}
LongEnough (find n v) = Unit {0}
LongEnough (insert n v) = Unit {0}
LongEnough (begin stream) = Unit {0}
LongEnough (commit largest) = Unit {0}
LongEnough abandon = Unit {0}
LongEnough (acknowledge stream) = Unit {0}
LongEnough (cancel stream) = Unit {0}
LongEnough (increment n) = Unit {0}
LongEnough (decoder_stream s) = Unit {0}
LongEnough (decode_header s fs o) = Unit {0}
LongEnough (read_on s fs o) = Unit {0}
LongEnough (next_on s room o c) = Unit {0}

abbrev pub AllLongEnough : List Call → Type 0
AllLongEnough [] = Unit {0}
AllLongEnough (c ∷ cs) = LongEnough c × AllLongEnough cs

-- a rule of every outcome
abbrev pub Every : (Outcome → Type 0) → List Outcome → Type 0
Every P [] = Unit {0}
Every P (o ∷ os) = P o × Every P os

-- ---- a batch of the peer's reports, each handed in by a call of its own

abbrev pub as_call : reports.Report → Call
as_call (reports.acknowledgement stream) = acknowledge stream
as_call (reports.cancellation stream) = cancel stream
as_call (reports.increment n) = increment n

abbrev pub batch : List reports.Report → List Call
batch xs = map as_call xs
