-- One step of reading a section, RFC 9204 4.5: on a table, and with none.
use Rattle.std.specs.Prelude.{Result, Ok, Err, Some, None, Option as Maybe, ◌≡◌, Bool, true, false, ◌&&◌, cond, List, [], ◌++◌, ℕ, ◌+◌, ◌-◌, ◌^◌, leb, ltb, length}
use Rattle.std.proofs.Math.Option.{Option, some, none}
use Rattle.std.proofs.lemmas.List.Edits.{sets}
use Rattle.answers.specs.declared.Refusal.{Refusal}
use Rattle.answers.specs.Answer.{Answer, done, refused, and_then}
use Rattle.answers.specs.declared.Refusal.TheVariants.{SectionOpen, BadCall, OutputFull, HeaderTooLong}
use Rattle.arena.specs.Ring.{long_enough}
use Rattle.dynamic.specs.Record.{usable}
use Rattle.dynamic.specs.declared.Table.{Table}
use Rattle.field.specs.Field as model
use Rattle.field_lines.specs.Line.{Read, Live, line_on, line_static, live_of, TextInside}
use Rattle.field_lines.specs.declared.FieldAt.{FieldAt}
use Rattle.line_entries.specs.declared.Text.{Text}
use Rattle.header_prefix.specs.Prefix.{prefix_at}
use Rattle.header_prefix.specs.declared.Prefix.{Prefix}
use Rattle.section_steps.specs.declared.Cursor.{Cursor}
use Rattle.section_steps.specs.declared.Field.{Field}
use Rattle.section_steps.specs.declared.Decoded.{Decoded}
use Rattle.section_steps.specs.declared.Line.{Line as CodeLine}
use Rattle.section_steps.specs.declared.Line.TheVariants as code

-- ---- the two readers

pub data Reader : Type 0 where
  -- a table and its arena
  on_table : Table → List ℕ → Reader
  -- the largest size sum
  stateless : ℕ → Reader

-- 22, then 18, then the prefix; "the stateless reader has MaxEntries 0"
unfoldable pub start_of : Reader → List ℕ → Answer Prefix
start_of (on_table t a) s =
    cond (usable t a)
    (cond t.active (refused SectionOpen) (prefix_at s 0 t.ring.inserted t.ring.capacity))
    (refused BadCall)
start_of (stateless most) s = prefix_at s 0 0 0

-- the line at a position
unfoldable pub line_with : Reader → ℕ → List ℕ → ℕ → Answer Read
line_with (on_table t a) base s at = line_on (live_of t.ring a) base s at
line_with (stateless most) base s at = line_static s at

abbrev pub most_of : Reader → Option ℕ
most_of (on_table t a) = none
most_of (stateless most) = some most

-- ---- where a reader stands

abbrev pub start : Cursor
start = record { started = false; dynamic = false; base = 0; at = 0; used = 0; count = 0; size = 0 }

-- past the prefix: "whether the required count was above 0"
abbrev pub begun : Cursor → Prefix → Cursor
begun c p =
    record {
      started = true;
      dynamic = ltb 0 p.required;
      base = p.base;
      at = p.next;
      used = c.used;
      count = c.count;
      size = c.size;
    }

-- "22: short arena", at every step
abbrev pub when_long : Reader → Cursor → Answer Cursor
when_long (on_table t a) c = cond (long_enough a) (done c) (refused BadCall)
when_long (stateless most) c = done c

unfoldable pub cursor_at : Reader → List ℕ → Cursor → Answer Cursor
cursor_at k s c = cond c.started (when_long k c) (and_then (start_of k s) (λ p. done (begun c p)))

-- ---- one step

abbrev pub no_field : Field
no_field = record { start = 0; name = 0; value = 0 }

-- what a step finds: the end, with the answer; or a field, with its record and where to go on
pub record Line : Type 0 where
  pub done : Bool
  pub field : Field
  pub next : Cursor
  pub decoded : Decoded

-- the answer of a section that ends at a cursor
abbrev pub decoded_of : Result Unit Refusal → Cursor → Decoded
decoded_of y c = record { reply = y; dynamic = c.dynamic; count = c.count; used = c.used; size = c.size }

-- the section ends here, with an answer
abbrev pub ended_of : Result Unit Refusal → Cursor → Line
ended_of y c =
    record {
      done = true;
      field = no_field;
      next = c;
      decoded = decoded_of y c;
    }

-- no answer yet
abbrev pub not_ended : Decoded
not_ended = record { reply = (Ok tt); dynamic = false; count = 0; used = 0; size = 0 }

-- a field of n and v bytes, whose line ends at a position
abbrev pub found_of : Cursor → ℕ → ℕ → ℕ → Line
found_of c n v next =
    record {
      done = false;
      field = record { start = c.used; name = n; value = v };
      next = record {
        started = c.started;
        dynamic = c.dynamic;
        base = c.base;
        at = next;
        used = c.used + (n + v);
        count = c.count + 1;
        size = c.size + (n + v + model.overhead);
      };
      decoded = not_ended;
    }

-- a step as the code has it
abbrev pub line_told : CodeLine → Line
line_told (code.Ended y c) = ended_of y c
line_told (code.Found f c) = record { done = false; field = f; next = c; decoded = not_ended }

-- "25: stateless size sum above the given maximum, tested after each line"
abbrev pub is_over : Option ℕ → ℕ → Bool
is_over none size = false
is_over (some most) size = ltb most size

-- the largest size sum that is told
abbrev pub largest_sum : ℕ
largest_sum = 2 ^ 63 - 1

-- "24 OutputFull: next field or bytes don't fit"
abbrev pub fits : ℕ → ℕ → Cursor → ℕ → ℕ → Bool
fits room cap c n v =
    ltb c.count room && (leb (c.used + (n + v)) cap && leb (c.size + (n + v + model.overhead)) largest_sum)

-- "for one line, 25 comes before 24"
abbrev pub placed_of : Option ℕ → ℕ → ℕ → Cursor → ℕ → ℕ → ℕ → Line
placed_of most room cap c n v next =
    cond (is_over most (c.size + (n + v + model.overhead)))
    (ended_of (Err HeaderTooLong) c)
    (cond (fits room cap c n v) (found_of c n v next) (ended_of (Err OutputFull) c))

abbrev pub field_step : Option ℕ → ℕ → ℕ → Cursor → Answer Read → Line
field_step most room cap c (refused r) = ended_of (Err r) c
field_step most room cap c (done f) = placed_of most room cap c (length f.field.name) (length f.field.value) f.next

-- at the end of the section it is done; before it, what the line at the cursor gives
abbrev pub step_by : Option ℕ → Answer Read → List ℕ → ℕ → ℕ → Cursor → Line
step_by most line s room cap c = cond (leb (length s) c.at) (ended_of (Ok tt) c) (field_step most room cap c line)

abbrev pub step_of : Reader → List ℕ → ℕ → ℕ → Cursor → Line
step_of k s room cap c = step_by (most_of k) (line_with k c.base s c.at) s room cap c

abbrev pub line_from : Reader → List ℕ → ℕ → ℕ → Cursor → Answer Cursor → Line
line_from k s room cap c (refused r) = ended_of (Err r) c
line_from k s room cap c (done d) = step_of k s room cap d

-- room: how many records the list holds; cap: how many bytes the buffer holds
unfoldable pub line_of : Reader → List ℕ → ℕ → ℕ → Cursor → Line
line_of k s room cap c = line_from k s room cap c (cursor_at k s c)

-- the bytes of the field at a cursor
abbrev pub bytes_of : Answer Read → List ℕ
bytes_of (done f) = f.field.name ++ f.field.value
bytes_of (refused r) = []

unfoldable pub bytes_at : Reader → List ℕ → Cursor → List ℕ
bytes_at k s c = bytes_of (and_then (cursor_at k s c) (λ d. line_with k d.base s d.at))

-- the buffer after a step that stores some bytes, or ends
abbrev pub stored_by : Cursor → List ℕ → Line → List ℕ → List ℕ
stored_by c out l bytes = cond l.done out (sets out c.used bytes)

abbrev pub out_of : Reader → List ℕ → Cursor → List ℕ → Line → List ℕ
out_of k s c out l = stored_by c out l (bytes_at k s c)

-- ---- a line past the prefix, on what is live of a table

-- "22: short arena", at every step
abbrev pub line_in : Live → List ℕ → List ℕ → ℕ → ℕ → Cursor → Line
line_in v a s room cap c =
    cond (long_enough a) (step_by none (line_on v c.base s c.at) s room cap c) (ended_of (Err BadCall) c)

abbrev pub out_in : Live → List ℕ → Cursor → List ℕ → Line → List ℕ
out_in v s c out l = stored_by c out l (bytes_of (line_on v c.base s c.at))

-- ---- what the code holds

abbrev pub limit_of : Maybe ℕ → Option ℕ
limit_of None = none
limit_of (Some m) = some m

abbrev pub length_of : Text → ℕ
length_of (Text.Input p n) = n
length_of (Text.Fixed p n) = n
length_of (Text.Stored p n) = n

-- a string of the arena needs an arena that is long enough
abbrev pub Ready : List ℕ → Text → Type 0
Ready a (Text.Input p n) = Unit {0}
Ready a (Text.Fixed p n) = Unit {0}
Ready a (Text.Stored p n) = long_enough a ≡ true

abbrev pub LineReady : List ℕ → List ℕ → Result FieldAt Refusal → Type 0
LineReady s a (Ok f) = TextInside (length s) f.name × TextInside (length s) f.value × Ready a f.name × Ready a f.value
LineReady s a (Err r) = Unit {0}
