-- Every call of a sequence leaves the arrays of a record as long as they are. Assumes nothing.
use mathlib.Core.Path.{◌≡◌, refl, sym, subst}
use mathlib.Core.Bool.{Bool, true, false, cond}
use mathlib.Core.List.{List}
use Prim.Native.Nat.{ℕ}
use lib.Dec.{leb}
use lib.ListN.{length}
use Rattle.answers.specs.Answer.{refused}
use Rattle.answers.specs.declared.Refusal.TheVariants.{SectionOpen, BadCall}
use Rattle.decoder_stream.specs.Reports.{Report, acknowledgement, cancellation, increment as counting, called, takes, Ready, report_at, receiving}
use Rattle.decoder_stream.proofs.Receiving.{called_ready}
use Rattle.dynamic.specs.Record.{sound, usable, lowest_used}
use Rattle.dynamic.specs.declared.Table.{Table}
use Rattle.encoder_stream.specs.Entries.{applied, applied_in}
use Rattle.encoder_stream.specs.Stream as stream
use Rattle.encoder_stream.proofs.Modelled.{viewed, Good, shows}
use Rattle.instructions.specs.Instruction.{instruction_at}
use Rattle.ring.proofs.Keeping.{Arrays}
use Rattle.running.specs.Run.{ends, run_all}
use Rattle.running.proofs.Run.{run_good}
use Rattle.demands.specs.Calls.{Call, set_capacity, set_blocked_maximum, put, find, insert, begin, commit, abandon, acknowledge, cancel, increment, encoder_stream, decoder_stream, decode_header, read_on, next_on, lend, calling}
use Rattle.demands.proofs.Full.{Full, capacity_full, most_full, put_full, begin_full, abandon_full, commit_full, release_full, increment_full, find_full, insert_full}

-- a table that reports are applied to, with its arrays
record Reports (t : Table) : Type 0 where
  ready : Ready t
  full : Full t

called_full : (t : Table) → Reports t → (w : Report) → Reports (called t w).table
called_full t g w = record { ready = called_ready t g.ready w; full = go w }
  where
    go : (w : Report) → Full (called t w).table
    go (acknowledgement stream) = release_full t g.full stream
    go (cancellation stream) = release_full t g.full stream
    go (counting n) = increment_full t g.full n

pub reports_full : (t : Table) → Full t → (s : List ℕ) → Full (receiving t s).state
unfolding receiving
reports_full t p s = go (sound t) t.active refl refl
  where
    go : (b on : Bool) → sound t ≡ b → t.active ≡ on
        → Full (cond b (cond on (ends t 0 (refused SectionOpen)) (run_all report_at takes s t)) (ends t 0 (refused BadCall))).state
    go true true h e = p
    go true false h e =
        let g : Reports t = record { ready = record { rules = h; closed = e; places = p.queue; values = p.waiting }; full = p } in
        (run_good (λ (u : Table). u) Reports takes takes
        (record { state = λ x g i. refl; answer = λ x g i. refl; good = called_full }) report_at s (length s) 0 t g).full
    go false on h e = p

pub instructions_good : (t : Table) → Full t → (a s : List ℕ) (room : ℕ) → usable t a ≡ true → Good t (stream.receiving t a s room).state
unfolding stream.receiving
instructions_good t p a s room h = rw h (go (leb stream.increment_room room) t.active refl)
  where
    first : Good t (stream.held_by t a)
    first = record { usable = h; arrays = p.ring }

    go : (b on : Bool) → t.active ≡ on
        → Good t
        (cond b
        (cond on (ends (stream.held_by t a) 0 (refused SectionOpen)) (run_all instruction_at (applied (lowest_used t)) s (stream.held_by t a)))
        (ends (stream.held_by t a) 0 (refused BadCall))).state
    go true true e = first
    go true false e =
        run_good (viewed t) (Good t) (applied (lowest_used t)) applied_in (shows t e (lowest_used t) refl) instruction_at s (length s) 0
        (stream.held_by t a) first
    go false on e = first

-- where 22 comes first, nothing is applied
refused_ring : (t : Table) (a s : List ℕ) (room : ℕ) → usable t a ≡ false → (stream.receiving t a s room).state.ring ≡ t.ring
unfolding stream.receiving
refused_ring t a s room h = rw h

instructions_arrays : (t : Table) → Full t → (a s : List ℕ) (room : ℕ) → Arrays (stream.receiving t a s room).state.ring
instructions_arrays t p a s room = go (usable t a) refl
  where
    go : (can : Bool) → usable t a ≡ can → Arrays (stream.receiving t a s room).state.ring
    go true h = (instructions_good t p a s room h).arrays
    go false h = subst Arrays (sym (refused_ring t a s room h)) p.ring

-- ---- every call, on any record and any arena

pub call_full : (t : Table) → Full t → (a : List ℕ) (c : Call) → Full (calling t a c).state.table
call_full t p a (set_capacity c) = capacity_full t p c
call_full t p a (set_blocked_maximum m) = most_full t p m
call_full t p a (put n v) = put_full t p a n v
call_full t p a (find n v) = find_full t p a n v
call_full t p a (insert n v) = insert_full t p a n v
call_full t p a (begin x) = begin_full t p x
call_full t p a (commit x) = commit_full t p x
call_full t p a abandon = abandon_full t p
call_full t p a (acknowledge x) = release_full t p x
call_full t p a (cancel x) = release_full t p x
call_full t p a (increment n) = increment_full t p n
call_full t p a (encoder_stream s o) =
    record { ring = instructions_arrays t p a s (length o); queue = p.queue; waiting = p.waiting; uses = p.uses }
call_full t p a (decoder_stream s) = reports_full t p s
call_full t p a (decode_header s fs o) = p
call_full t p a (read_on s fs o) = p
call_full t p a (next_on s room o c) = p
call_full t p a (lend b) = p
