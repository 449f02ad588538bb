-- "For every public call: two results that meet its promise for the same input are equal in answer, next record, live strings, consumed
-- counts and every output byte." Each law takes two results of one input, both as promised, and says that they are equal. Assumes nothing.
--
-- In the laws r, r' are the two results; b, b' the two arenas after the call; m, m' and p, p' the two buffers after it. The one exception
-- that the specification allows, arena bytes outside live strings, is none here: the promises settle the whole arena.
--
-- | call | promise | law |
-- |---|---|---|
-- | Table: set_capacity, set_max_blocked, begin, commit, abandon, acknowledge, cancel, increment | Keeps | one_keeps |
-- | Table: put, find, insert | Puts, Finds, Inserts | one_put, one_find, one_insert |
-- | on_encoder_recv | Receives (encoder_stream) | one_encoder_call |
-- | on_decoder_recv | Receives (decoder_stream) | one_decoder_call |
-- | decode_header, decode_stateless, read_on, read_stateless (decoder) | section_of r fields out ≡ read_all .. | one_section |
-- | decode_header_listed, decode_stateless_listed (listed) | Lists | one_listed (OneListed) |
-- | next_on, next_stateless, line_on (section_steps) | line_told r ≡ line_of .. or line_in .., out ≡ out_of .. or out_in .. | one_step |
-- | begin_on (section_steps) | answered r ≡ .. | one_begun (Meanings) |
-- | every writer: prefix_int, prefix_string, shapes, stream, block; byte_writing::write, static_table::copy, arena::copy | Writes | one_write |
-- | Ring: push | Pushes | one_push |
-- | prefix_int: read, size; stream_parts: kind_int; prefix_string: read, size | answered r ≡ .. | one_int, one_text, one_size (Meanings) |
-- | shapes: text_after, texts | answered r ≡ .. | one_int_text, one_texts (Meanings) |
-- | static_table: get, find, find_name | answered, found r ≡ .. | one_got, one_found (Meanings) |
-- | VirtualAddressSpace: relative, relative_base, post_base, index | answered r ≡ .. | one_located (Meanings) |
-- | stream: read_integer, read_name_ref, read_literal | answered_or_cut r ≡ .. | one_integer, one_name_ref, one_literal (Meanings) |
-- | block: read_line | line_read r ≡ .. | one_line (Meanings) |
-- | header_prefix: read_prefix | answered r ≡ .. | one_prefix (Meanings) |
-- | decoder_stream: read_report | report_read r ≡ .. | one_report (Meanings) |
-- | entries, Ring: newest | latest r ≡ .. | one_latest (Meanings) |
-- | dynamic: capacity_test | tested r ≡ .. | one_capacity_test (Meanings) |
-- | entries: fewest | r ≡ .., for every array of starts | one_room |
-- | arena: write, move_bytes | the arena after ≡ .. | one_exact |
-- | Table: checked | checked r ≡ .. | one_checked (Meanings) |
-- | Ring: cut | was_cut ring r ≡ .. | one_cut (Meanings) |
-- | tracking: note | noted uses used r ≡ .. | one_noted (Meanings) |
-- | tracking: section_floor, queue_floor; call_parts: open_floor | floored low r ≡ .. | one_floor (Meanings) |
-- | tracking: push, release | stepped queue r ≡ .. | one_queue (Meanings) |
-- | tracking: block; call_parts: waiting_with | counted waiting r ≡ .. | one_counted (Meanings) |
-- | answers: cut_short | answered_or_cut r ≡ .. | one_or_cut (Meanings) |
-- | section_steps: begin; Cursor: decoded; Table: fresh; dynamic: push_reply; Ring: sound, room; tracking: waiting_ok, let_go; all of forms; answers: number, ends_early; prefix_int, text_writing: call_ok; stream_parts: past_limit; call_parts: lookup_of, with_uses; VirtualAddressSpace: largest_ref; arena: is_at; entries: check | r ≡ .. | one_exact |
-- | instructions: read_instruction | instruction_read s r ≡ .. | one_instruction: see there |
-- | field_lines: read_on, read_static | field_read s a r ≡ .., for every arena | one_field: see there |
-- | field_lines: entry_on, entry_static, static_entry | entry_read a r ≡ .., for every arena | one_entry: see there |
use mathlib.Core.Path.{◌≡◌, refl, sym, ap, ◌∙◌}
use mathlib.Core.List.{List, [], ◌++◌}
use mathlib.Core.Option.{Option}
use Prim.Native.Nat.{ℕ}
use lib.ListN.{length, drop}
use Rattle.std.specs.Prelude.{Result, cond, Option as Maybe}
use Rattle.answers.specs.declared.Refusal.{Refusal}
use Rattle.answers.specs.Answer.{Answer}
use Rattle.answers.specs.Table.{Done}
use Rattle.answers.specs.Write.{Writes}
use Rattle.decoder.specs.Section as section
use Rattle.section_steps.specs.declared.Decoded.{Decoded}
use Rattle.section_steps.specs.Section.{Line, line_told}
use Rattle.section_steps.specs.declared.Line.{Line as CodeLine}
use Rattle.section_steps.specs.declared.Line.TheVariants as step
use Rattle.decoder_stream.specs.Reports as reports
use Rattle.decoder_stream.specs.declared.Reported.{Reported}
use Rattle.dynamic.specs.Calls as calls
use Rattle.dynamic.specs.Promise.{Keeps, Puts, Finds, Inserts}
use Rattle.dynamic.specs.declared.Inserting.{Inserting}
use Rattle.dynamic.specs.declared.Looked.{Looked}
use Rattle.dynamic.specs.declared.Replied.{Replied}
use Rattle.dynamic.specs.declared.Table.{Table}
use Rattle.encoder_stream.specs.Stream as stream
use Rattle.encoder_stream.specs.declared.Received.{Received}
use Rattle.entries.specs.declared.Room.{Room}
use Rattle.field.specs.Field.{Field}
use Rattle.field_lines.specs.Line.{Read, field_read, entry_read}
use Rattle.line_entries.specs.declared.Entry.{Entry}
use Rattle.field_lines.specs.declared.FieldAt.{FieldAt}
use Rattle.instructions.specs.Instruction.{Instruction, instruction_read}
use Rattle.instructions.specs.declared.Parsed.{Parsed}
use Rattle.model.specs.Table as model
use Rattle.ring.specs.Ring.{Pushes, placed_bytes, bytes_after}
use Rattle.ring.specs.declared.Pushed.{Pushed}
use Rattle.ring.specs.declared.Ring.{Ring}
use Rattle.ring.specs.declared.Source.{Source}
use Rattle.running.specs.Run.{Whole, Ended}
use Rattle.running.specs.declared.Whole.{Whole as CodeWhole}
use Rattle.demands.proofs.Meanings.{one_reply, one_written}

-- a result that is a definition of the input alone
pub one_exact : {R : Type 0} {x r r' : R} → r ≡ x → r' ≡ x → r ≡ r'
one_exact e f = e ∙ sym f

-- ---- the table's calls

pub one_keeps : (t : Table) (exact : Replied) (step : model.Table → model.Step Done) (r r' : Replied)
    → Keeps t exact r step → Keeps t exact r' step → r ≡ r'
one_keeps t exact step r r' w w' = one_exact w.next w'.next

module _ (t : Table) (a n v : List ℕ) where
  pub one_put : (b b' : List ℕ) (r r' : Replied) → Puts t a b (calls.put t a n v) r n v → Puts t a b' (calls.put t a n v) r' n v
      → (r ≡ r') × (b ≡ b')
  one_put b b' r r' w w' =
      let same : r ≡ r' = one_exact w.next w'.next in
      (same, w.bytes ∙ ap (λ (x : Replied). calls.bytes_after t x.table a n v) same ∙ sym w'.bytes)

  pub one_find : (r r' : Looked) → Finds t a n v r → Finds t a n v r' → r ≡ r'
  one_find r r' w w' = one_exact w.next w'.next

  pub one_insert : (b b' : List ℕ) (r r' : Inserting) → Inserts t a b n v r → Inserts t a b' n v r' → (r ≡ r') × (b ≡ b')
  one_insert b b' r r' w w' =
      let same : r ≡ r' = one_exact w.next w'.next in
      (same, w.bytes ∙ ap (λ (x : Inserting). calls.bytes_after t x.table a n v) same ∙ sym w'.bytes)

-- ---- the streams

-- the next record, the bytes consumed, the total inserted, the bytes written and the answer; the arena; and the buffer for the increment
pub one_encoder_call : (t : Table) (a s o b b' p p' : List ℕ) (r r' : Received)
    → stream.Receives t a b s o p r → stream.Receives t a b' s o p' r' → (r ≡ r') × (b ≡ b') × (p ≡ p')
one_encoder_call t a s o b b' p p' r r' w w' =
    let table = one_exact w.table w'.table in
    let consumed = one_exact w.consumed w'.consumed in
    let inserted = one_exact w.inserted w'.inserted in
    let written = one_exact w.written w'.written in
    let reply = one_reply r.reply r'.reply w.answer w'.answer in (
      λ i. record { table = table i; consumed = consumed i; inserted = inserted i; written = written i; reply = reply i },
      one_exact w.arena w'.arena,
      w.out ∙ ap (λ (k : ℕ). (stream.received t a s (length o)).told.bytes ++ drop k o) written ∙ sym w'.out,
    )

-- the next record, the bytes consumed and the answer
pub one_decoder_call : (t : Table) (s : List ℕ) (r r' : Reported) → reports.Receives t s r → reports.Receives t s r' → r ≡ r'
one_decoder_call t s r r' w w' =
    let same : reports.reported r ≡ reports.reported r' = one_exact w.next w'.next in
    let reply = one_reply r.reply r'.reply (ap (λ (e : Ended Table). e.answer) w.next) (ap (λ (e : Ended Table). e.answer) w'.next) in
    λ i. record { table = (same i).state; consumed = (same i).consumed; reply = reply i }

-- ---- sections

-- what is told of the section, the list of records, and the buffer of bytes; R is the form of a record
pub one_section : {R : Type 0} {x : section.Section R} (r r' : Decoded) (fs fs' : List R) (m m' : List ℕ)
    → section.section_of r fs m ≡ x → section.section_of r' fs' m' ≡ x → (r ≡ r') × (fs ≡ fs') × (m ≡ m')
one_section {R} r r' fs fs' m m' w w' =
    let same = one_exact w w' in (
      ap (λ (z : section.Section R). z.decoded) same,
      ap (λ (z : section.Section R). z.fields) same,
      ap (λ (z : section.Section R). z.out) same,
    )

-- one line at a time: what is told, the next cursor, the field, and the buffer
-- after: the buffer after a step, by its line
pub one_step : (after : Line → List ℕ) {x : Line} (r r' : CodeLine) (m m' : List ℕ)
    → (line_told r ≡ x) × (m ≡ after (line_told r)) → (line_told r' ≡ x) × (m' ≡ after (line_told r')) → (r ≡ r') × (m ≡ m')
one_step after r r' m m' w w' =
    let same : line_told r ≡ line_told r' = one_exact w.0 w'.0 in
    (sym (way r) ∙ ap back same ∙ way r', w.1 ∙ ap after same ∙ sym w'.1)
  where
    back : Line → CodeLine
    back l = cond l.done (step.Ended l.decoded.reply l.next) (step.Found l.field l.next)

    way : (r : CodeLine) → back (line_told r) ≡ r
    way (step.Ended y c) = refl
    way (step.Found f c) = refl

-- ---- writers

pub one_write : (x : Answer (List ℕ)) (l : List ℕ) (at : ℕ) (r r' : Result ℕ Refusal) (m m' : List ℕ) → Writes x l at r m → Writes x l at r' m'
    → (r ≡ r') × (m ≡ m')
one_write x l at r r' m m' w w' = (one_written r r' w.answer w'.answer, one_exact w.bytes w'.bytes)

-- ---- the entries

pub one_push : (t : Ring) (a : List ℕ) (low : ℕ) (s : Source) (n v b b' : List ℕ) (r r' : Pushed)
    → Pushes t a b low s n v r → Pushes t a b' low s n v r' → (r ≡ r') × (b ≡ b')
one_push t a low s n v b b' r r' w w' =
    let same : r ≡ r' = one_exact w.next w'.next in
    (same, w.bytes ∙ ap (λ (x : Pushed). bytes_after x.push a (placed_bytes t a s n v)) same ∙ sym w'.bytes)

pub one_room : (x : List ℕ → Room) (r r' : Room) → ((starts : List ℕ) → r ≡ x starts) → ((starts : List ℕ) → r' ≡ x starts) → r ≡ r'
one_room x r r' w w' = one_exact (w []) (w' [])

-- ---- readers whose answer holds strings by their positions. The promise settles the strings, every number and the position past them;
-- a position itself it does not, where the same bytes stand in two places. So equal is what the answers stand for

-- the kind, its numbers, its strings byte for byte, the position past it; or cut; or the refusal
pub one_instruction : (s : List ℕ) {x : Answer (Option (Whole Instruction))} (r r' : Result (Maybe (CodeWhole Parsed)) Refusal)
    → instruction_read s r ≡ x → instruction_read s r' ≡ x → instruction_read s r ≡ instruction_read s r'
one_instruction s r r' w w' = one_exact w w'

-- the name and the value byte for byte, in whatever arena, and the position past the line; or the refusal
pub one_field : (s : List ℕ) (x : List ℕ → Answer Read) (r r' : Result FieldAt Refusal) → ((a : List ℕ) → field_read s a r ≡ x a)
    → ((a : List ℕ) → field_read s a r' ≡ x a) → (a : List ℕ) → field_read s a r ≡ field_read s a r'
one_field s x r r' w w' a = one_exact (w a) (w' a)

pub one_entry : (x : List ℕ → Answer Field) (r r' : Result Entry Refusal) → ((a : List ℕ) → entry_read a r ≡ x a)
    → ((a : List ℕ) → entry_read a r' ≡ x a) → (a : List ℕ) → entry_read a r ≡ entry_read a r'
one_entry x r r' w w' a = one_exact (w a) (w' a)
