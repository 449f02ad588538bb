-- Small batches: one in two orders, the same as bytes, and what fails where a premise is left out. Assumes nothing.
use mathlib.Core.Path.{◌≡◌, refl, sym, ap, ◌∙◌}
use mathlib.Core.Bool.{false}
use mathlib.Core.List.{List, [], ◌∷◌}
use mathlib.Core.Option.{some}
use Prim.Native.Nat.{ℕ}
use native.Mathlib.Omega.{arith}
use lib.ListN.{replicate}
use borrow.Author.Tests.{eqb-true}
use Rattle.answers.specs.Answer.{done, refused}
use Rattle.answers.specs.Table.{ok}
use Rattle.answers.specs.declared.Refusal.TheVariants.{UnknownStreamId, CountTooLarge}
use Rattle.decoder_stream.specs.Reports.{Report, acknowledgement, cancellation, increment, report_at, Ready, takes}
use Rattle.dynamic.specs.Calls as calls
use Rattle.dynamic.specs.Record.{sound, view}
use Rattle.dynamic.specs.declared.Table.{Table}
use Rattle.entries.specs.Entry.{slots, between}
use Rattle.entries.specs.Rules.{keeps_rules}
use Rattle.model.specs.Table as model
use Rattle.prefix_int.specs.Integer.{int_from, groups}
use Rattle.ring.specs.Ring.{keeps}
use Rattle.stream.specs.Instructions.{kind_int, integer_at}
use Rattle.tracking.specs.Queue.{no_section, releasing}
use Rattle.tracking.specs.Uses.{no_held}
use Rattle.blocked.specs.Waiting.{no_value, keeps_count, let_go}
use Rattle.tracking.specs.declared.Section.{Section}
use Rattle.reorder.specs.Reports.{only, Reordered}
use Rattle.reorder.specs.Swaps.{keep, swap, then, Independent}
use Rattle.reorder.specs.Batch.{after, handed, of_stream, left, SameOutcome}
use Rattle.reorder.specs.Slices.{Slice, SameCalls}
use Rattle.reorder.proofs.Reorder.{from_swaps}
use Rattle.reorder.proofs.Later.{same_calls}
use Rattle.reorder.proofs.Theorem.{same_outcome}

-- ---- a table with two entries, two sections of stream 1 and one of stream 2 between them

-- a section that uses one entry
abbrev section : ℕ → ℕ → ℕ → Section
section s x n = record { stream = s; from = 0; used = 1; uses = record { offset = x; count = n } ∷ replicate 31 no_held }

abbrev table_at : ℕ → Table
table_at known =
    record {
      ring = record {
        inserted = 2;
        dropped = 0;
        size = 64;
        capacity = 64;
        tail = 0;
        head = 0;
        starts = replicate slots 0;
        names = replicate slots 0;
        values = replicate slots 0;
      };
      known = known;
      most = 0;
      waiting = record {
        total = 2;
        distinct = 2;
        values = record { largest = 2; sections = 1 } ∷ (record { largest = 9; sections = 1 } ∷ replicate 62 no_value);
      };
      queue = record { queued = 3; places = section 1 1 2 ∷ (section 2 1 1 ∷ (section 1 2 1 ∷ replicate 29 no_section)) };
      active = false;
      base = 0;
      section = no_section;
    }

abbrev table : Table
table = table_at 1

ready : Ready table
unfolding sound keeps keeps_rules between keeps_count
ready = record { rules = refl; closed = refl; places = refl; values = refl }

-- ---- a batch in two orders

abbrev batch : List Report
batch = acknowledgement 1 ∷ (increment 3 ∷ (cancellation 2 ∷ (cancellation 2 ∷ [])))

abbrev turned : List Report
turned = cancellation 2 ∷ (acknowledgement 1 ∷ (cancellation 2 ∷ (increment 3 ∷ [])))

-- an increment is independent of any report
beside : (x : Report) (n : ℕ) → Independent x (increment n)
beside x n s p q = let z : ◌≡◌ {A = ℕ} 0 1 = cc in omega arith

reordered : Reordered turned batch
reordered =
    from_swaps
    (then (swap (cancellation 2) (acknowledgement 1) (cancellation 2 ∷ (increment 3 ∷ [])) (λ s p q. let z = sym (eqb-true s 2 p) ∙ eqb-true s 1 q in omega arith))
    (keep (acknowledgement 1)
    (then (keep (cancellation 2) (swap (cancellation 2) (increment 3) [] (beside (cancellation 2) 3)))
    (swap (cancellation 2) (increment 3) (cancellation 2 ∷ []) (beside (cancellation 2) 3)))))

both : SameOutcome table turned (handed table turned) (handed table batch)
both = same_outcome table ready turned batch reordered (omega arith)

-- the second section of stream 1 is left
left_is : left table turned ≡ record { stream = 1; uses = record { entry = 2; count = 1 } ∷ [] } ∷ []
left_is = refl

-- entry 1 had three references, and has none
before : (a : List ℕ) → model.references (view table a) 1 ≡ 3
unfolding view
before a = refl

fallen : (a : List ℕ) → model.references (view (after takes table turned) a) 1 ≡ 0
fallen a = both.references a 1

-- the second cancellation of stream 2 finds no section
answers_are : only (of_stream 2) (handed table turned).answers
    ≡ record { report = cancellation 2; answer = done ok } ∷ (record { report = cancellation 2; answer = refused UnknownStreamId } ∷ [])
unfolding calls.release calls.increment sound keeps keeps_rules between keeps_count releasing let_go
answers_are = refl

-- ---- the same as bytes

ack_bytes : report_at (0x81 ∷ []) 0 ≡ done (some (record { instruction = acknowledgement 1; next = 1 }))
unfolding report_at integer_at kind_int int_from groups
ack_bytes = refl

cancel_bytes : report_at (0x42 ∷ []) 0 ≡ done (some (record { instruction = cancellation 2; next = 1 }))
unfolding report_at integer_at kind_int int_from groups
cancel_bytes = refl

-- 63 in two bytes, and in three
short_bytes : report_at (0x3f ∷ (0x00 ∷ [])) 0 ≡ done (some (record { instruction = increment 63; next = 2 }))
unfolding report_at integer_at kind_int int_from groups
short_bytes = refl

long_bytes : report_at (0x3f ∷ (0x80 ∷ (0x00 ∷ []))) 0 ≡ done (some (record { instruction = increment 63; next = 3 }))
unfolding report_at integer_at kind_int int_from groups
long_bytes = refl

abbrev ack_slice : Slice
ack_slice = record { bytes = 0x81 ∷ []; whole = record { instruction = acknowledgement 1; next = 1 }; reads = ack_bytes; alone = refl }

abbrev cancel_slice : Slice
cancel_slice = record { bytes = 0x42 ∷ []; whole = record { instruction = cancellation 2; next = 1 }; reads = cancel_bytes; alone = refl }

abbrev short_slice : Slice
short_slice = record { bytes = 0x3f ∷ (0x00 ∷ []); whole = record { instruction = increment 63; next = 2 }; reads = short_bytes; alone = refl }

abbrev long_slice : Slice
long_slice = record { bytes = 0x3f ∷ (0x80 ∷ (0x00 ∷ [])); whole = record { instruction = increment 63; next = 3 }; reads = long_bytes; alone = refl }

spelled : SameCalls table (ack_slice ∷ (short_slice ∷ (cancel_slice ∷ []))) (ack_slice ∷ (cancel_slice ∷ (long_slice ∷ [])))
spelled =
    same_calls table ready (ack_slice ∷ (short_slice ∷ (cancel_slice ∷ []))) (ack_slice ∷ (cancel_slice ∷ (long_slice ∷ [])))
    (from_swaps (keep (acknowledgement 1) (swap (increment 63) (cancellation 2) [] (λ s p q. beside (cancellation 2) 63 s q p))))
    (omega arith)

-- ---- within one stream

-- an acknowledgement and a cancellation release the same section, the stream's oldest: the table after both does not tell their order
one_table : (t : Table) (s : ℕ)
    → after takes t (acknowledgement s ∷ (cancellation s ∷ [])) ≡ after takes t (cancellation s ∷ (acknowledgement s ∷ []))
one_table t s = refl

oldest_first : left table (cancellation 1 ∷ []) ≡ left table (acknowledgement 1 ∷ [])
oldest_first = refl

-- but the answers do: of three reports for two sections the last is refused, so the cancellation is refused in one order and done in the other
cancelled_last : (handed table (acknowledgement 1 ∷ (acknowledgement 1 ∷ (cancellation 1 ∷ [])))).answers
    ≡ record { report = acknowledgement 1; answer = done ok }
    ∷ (record { report = acknowledgement 1; answer = done ok } ∷ (record { report = cancellation 1; answer = refused UnknownStreamId } ∷ []))
unfolding calls.release sound keeps keeps_rules between keeps_count releasing
cancelled_last = refl

cancelled_first : (handed table (cancellation 1 ∷ (acknowledgement 1 ∷ (acknowledgement 1 ∷ [])))).answers
    ≡ record { report = cancellation 1; answer = done ok }
    ∷ (record { report = acknowledgement 1; answer = done ok } ∷ (record { report = acknowledgement 1; answer = refused UnknownStreamId } ∷ []))
unfolding calls.release sound keeps keeps_rules between keeps_count releasing
cancelled_first = refl

-- ---- without room for all increments: of 1 and 2 only the first is taken, and the answers differ

abbrev full : Table
full = table_at 4611686018427387901

full_ready : Ready full
unfolding sound keeps keeps_rules between keeps_count
full_ready = record { rules = refl; closed = refl; places = refl; values = refl }

exchanged : Reordered (increment 1 ∷ (increment 2 ∷ [])) (increment 2 ∷ (increment 1 ∷ []))
exchanged = from_swaps (swap (increment 1) (increment 2) [] (beside (increment 1) 2))

one_first : (handed full (increment 1 ∷ (increment 2 ∷ []))).answers
    ≡ record { report = increment 1; answer = done ok } ∷ (record { report = increment 2; answer = refused CountTooLarge } ∷ [])
unfolding calls.increment sound keeps keeps_rules between keeps_count let_go
one_first = refl

two_first : (handed full (increment 2 ∷ (increment 1 ∷ []))).answers
    ≡ record { report = increment 2; answer = done ok } ∷ (record { report = increment 1; answer = refused CountTooLarge } ∷ [])
unfolding calls.increment sound keeps keeps_rules between keeps_count let_go
two_first = refl

tables_differ : after takes full (increment 1 ∷ (increment 2 ∷ [])) ≡ after takes full (increment 2 ∷ (increment 1 ∷ [])) → ⊥
unfolding calls.increment sound keeps keeps_rules between keeps_count let_go
tables_differ e =
    let h : ◌≡◌ {A = ℕ} 4611686018427387902 4611686018427387903 = ap (λ (t : Table). t.known) e in
    omega arith
