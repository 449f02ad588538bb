-- What leaves the library: each answer as the specification's number, with its values beside it.
use Rattle.std.specs.Prelude.{Result, Ok, Err, List, ◌++◌, ℕ, length, drop}
use Rattle.answers.specs.declared.Refusal.{Refusal}
use Rattle.answers.specs.Answer.{answered, answer_number, number_of}
use Rattle.answers.specs.Table.{replied}
use Rattle.answers.specs.declared.Insertion.{Insertion}
use Rattle.answers.specs.declared.Lookup.{Lookup}
use Rattle.section_steps.specs.declared.Decoded.{Decoded}
use Rattle.dynamic.specs.Calls.{with_ring}
use Rattle.dynamic.specs.declared.Inserting.{Inserting}
use Rattle.dynamic.specs.declared.Looked.{Looked}
use Rattle.dynamic.specs.declared.Replied.{Replied}
use Rattle.dynamic.specs.declared.Table.{Table}
use Rattle.encoder_stream.specs.Entries.{Held}
use Rattle.encoder_stream.specs.Stream.{Streamed}
use Rattle.running.specs.Run.{Ended}
use Rattle.embed.specs.declared.outcomes.DecoderOutcome.{DecoderOutcome}
use Rattle.embed.specs.declared.outcomes.EncoderOutcome.{EncoderOutcome}
use Rattle.embed.specs.declared.outcomes.Named.{Named}
use Rattle.embed.specs.declared.outcomes.NamedOutcome.{NamedOutcome}
use Rattle.embed.specs.declared.outcomes.Outcome.{Outcome}
use Rattle.embed.specs.declared.outcomes.SectionOutcome.{SectionOutcome}

-- 0 for done, and else the row 1 to 26
abbrev pub reply_number : Result Unit Refusal → ℕ
reply_number r = answer_number (replied r)

-- a call that gives back the table alone
abbrev pub outcome_of : Replied → Outcome
outcome_of r = record { table = r.table; answer = reply_number r.reply }

-- ---- a find and an insert: a kind, and the values that it has; each that it has not is 0

abbrev pub named : ℕ → ℕ → ℕ → ℕ → Named
named kind index postbase absolute = record { kind = kind; index = index; postbase = postbase; absolute = absolute }

-- kinds 0 to 3: where a name or a field is found
abbrev pub lookup_named : Lookup → Named
lookup_named Lookup.NotFound = named 0 0 0 0
lookup_named (Lookup.Static i) = named 1 i 0 0
lookup_named (Lookup.Relative i x) = named 2 i 0 x
lookup_named (Lookup.PostBase i x) = named 3 i 0 x

-- kinds 4 to 7: how a new entry is written; an entry that is not made has the kind of what names it
abbrev pub insertion_named : Insertion → Named
insertion_named (Insertion.Inserted p x) = named 4 0 p x
insertion_named (Insertion.Duplicated i p x) = named 5 i p x
insertion_named (Insertion.InsertedWithNameRef p i x) = named 6 i p x
insertion_named (Insertion.InsertedWithStaticNameRef p i x) = named 7 i p x
insertion_named (Insertion.NotInserted l) = lookup_named l

-- a refusal has no values
abbrev pub find_named : Result Lookup Refusal → Named
find_named (Ok l) = lookup_named l
find_named (Err r) = named 0 0 0 0

abbrev pub insert_named : Result Insertion Refusal → Named
insert_named (Ok i) = insertion_named i
insert_named (Err r) = named 0 0 0 0

-- a table with what a find or an insert named, as the code hands it on
abbrev pub named_outcome : Table → Result Named Refusal → NamedOutcome
named_outcome t (Ok n) = record { table = t; named = n; answer = 0 }
named_outcome t (Err r) = record { table = t; named = named 0 0 0 0; answer = number_of r }

abbrev pub looked_of : Looked → NamedOutcome
looked_of r = record { table = r.table; named = find_named r.found; answer = answer_number (answered r.found) }

abbrev pub inserting_of : Inserting → NamedOutcome
inserting_of r = record { table = r.table; named = insert_named r.inserted; answer = answer_number (answered r.inserted) }

-- ---- streams and sections

-- the table is the one that was lent, with the entries that the stream left
abbrev pub streamed_of : Table → Streamed Held → EncoderOutcome
streamed_of t x =
    record {
      table = with_ring x.state.ring t;
      consumed = x.consumed;
      inserted = x.total;
      written = length x.told.bytes;
      answer = answer_number x.told.answer;
    }

-- the buffer for the increment: what was written stands first, and the rest is as it was
abbrev pub out_of : Streamed Held → List ℕ → List ℕ
out_of x out = x.told.bytes ++ drop (length x.told.bytes) out

abbrev pub ended_of : Ended Table → DecoderOutcome
ended_of e = record { table = e.state; consumed = e.consumed; answer = answer_number e.answer }

abbrev pub decoded_of : Decoded → SectionOutcome
decoded_of d =
    record {
      count = d.count;
      used = d.used;
      size = d.size;
      dynamic = d.dynamic;
      answer = reply_number d.reply;
    }
