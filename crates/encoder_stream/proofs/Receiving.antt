-- The promise of a call on the encoder stream, from what its parts do. Assumes nothing.
use mathlib.Core.Path.{◌≡◌, refl, sym, ap, ◌∙◌}
use mathlib.Core.Bool.{true, false}
use mathlib.Core.List.{List}
use mathlib.Core.Option.{Option}
use Prim.Native.Nat.{ℕ, ◌-◌, ◌≤◌, ◌<◌}
use native.Mathlib.Omega.{arith}
use lib.ListN.{length}
use borrow.Author.Tests.{le-leb, lt-leb}
use Rattle.std.specs.Prelude.{Result, Ok, Err}
use Rattle.std.specs.Result.{result_unwrap_or, result_and}
use Rattle.answers.specs.Answer.{refused}
use Rattle.answers.specs.Table.{replied}
use Rattle.answers.specs.declared.Refusal.{Refusal}
use Rattle.answers.specs.declared.Refusal.TheVariants.{SectionOpen, BadCall}
use Rattle.dynamic.specs.Calls.{with_ring}
use Rattle.dynamic.specs.Record.{view, usable, lowest_used}
use Rattle.dynamic.specs.declared.Table.{Table}
use Rattle.dynamic.proofs.Steps.{open_section, no_section_lem}
use Rattle.instructions.specs.Instruction.{instruction_at}
use Rattle.model.specs.Table as model
use Rattle.ring.proofs.Keeping.{Arrays}
use Rattle.ring.specs.declared.Ring.{Ring}
use Rattle.running.specs.Run.{Ended, ends, run_all, unless_open}
use Rattle.running.proofs.Run.{seen, run_shown, run_good}
use Rattle.encoder_stream.specs.declared.Ran.{Ran}
use Rattle.encoder_stream.specs.declared.Received.{Received}
use Rattle.encoder_stream.specs.Entries.{Held, applied, applied_in}
use Rattle.encoder_stream.specs.Stream.{increment_room, told, Tells, count_of, said, Streamed, streamed, inserted_in, held_by, ran_to, receiving, received, received_in, seen_in, Receives}
use Rattle.encoder_stream.proofs.Modelled.{viewed, Good, shows, counted, counted_in}

-- a call that nothing came of, where n were inserted so far
abbrev stopped : model.Table → ℕ → Streamed model.Table
stopped m n = record { state = m; consumed = 0; total = n; told = told (refused SectionOpen) (n - n) }

-- an increment's bytes and answer, as a call gives them back
counts : (f : Result ℕ Refusal) → result_unwrap_or f 0 ≡ count_of f
counts (Ok n) = refl
counts (Err r) = refl

answered : (f : Result ℕ Refusal) → replied (result_and f (Ok tt)) ≡ said f
answered (Ok n) = refl
answered (Err r) = refl

module _ (t : Table) (a s o : List ℕ) where
  abbrev start : Held
  start = held_by t a

  -- ---- a refusal at the start

  abbrev refused_by : Refusal → Received
  refused_by why = record { table = t; consumed = 0; inserted = t.ring.inserted; written = 0; reply = Err why }

  refuses : (why : Refusal) → receiving t a s (length o) ≡ ends start 0 (refused why)
      → (usable t a ≡ true → increment_room ≤ length o → seen_in t (received t a s (length o)) ≡ received_in (view t a) s)
      → {r : Received} → r ≡ refused_by why → Receives t a a s o o r
  unfolding told
  refuses why e m q =
      record {
        table = rw (q, e);
        arena = rw e;
        consumed = rw (q, e);
        inserted = rw (q, e);
        answer = rw (q, e);
        written = rw (q, e);
        out = rw (q, e);
        model = m;
        kept = λ h. rw q h;
      }

  pub receives_unusable : usable t a ≡ false → {r : Received} → r ≡ refused_by BadCall → Receives t a a s o o r
  unfolding receiving
  receives_unusable h = refuses BadCall (rw h) (λ u g. let z : ◌≡◌ {A = ℕ} 0 1 = cc in absurd (omega arith))

  pub receives_short : usable t a ≡ true → length o < increment_room → {r : Received} → r ≡ refused_by BadCall → Receives t a a s o o r
  unfolding receiving
  receives_short h short = refuses BadCall (rw (h, lt-leb _ _ short)) (λ u g. absurd (omega arith))

  module _ (h : usable t a ≡ true) (room : increment_room ≤ length o) where
    pub receives_open : t.active ≡ true → {r : Received} → r ≡ refused_by SectionOpen → Receives t a a s o o r
    unfolding receiving received_in
    receives_open on = refuses SectionOpen open_now (λ u g. in_view)
      where
        open_now : receiving t a s (length o) ≡ ends start 0 (refused SectionOpen)
        open_now = rw (h, le-leb _ _ room, on)

        -- in the model a section is open too
        in_view : seen_in t (received t a s (length o))
            ≡ streamed model.inserted_of (view t a) (unless_open (view t a) (view t a).section (run_all instruction_at applied_in s (view t a)))
        in_view =
            ap (λ (e : Ended Held). seen_in t (streamed inserted_in start e)) open_now
            ∙ ap (stopped (view t a)) (sym (counted_in t a h))
            ∙ sym (ap (λ (q : Option model.Open). streamed model.inserted_of (view t a) (unless_open (view t a) q (run_all instruction_at applied_in s (view t a)))) (open_section t a on))

    -- ---- the instructions

    module _ (off : t.active ≡ false) (arrays : Arrays t.ring) where
      abbrev all : Ended Held
      all = run_all instruction_at (applied (lowest_used t)) s start

      runs : receiving t a s (length o) ≡ all
      unfolding receiving
      runs = rw (h, le-leb increment_room (length o) room, off)

      first : Good t start
      first = record { usable = h; arrays = arrays }

      last : Good t all.state
      last = run_good (viewed t) (Good t) (applied (lowest_used t)) applied_in (shows t off (lowest_used t) refl) instruction_at s (length s) 0 start first

      shown : seen (viewed t) all ≡ run_all instruction_at applied_in s (view t a)
      shown = run_shown (viewed t) (Good t) (applied (lowest_used t)) applied_in (shows t off (lowest_used t) refl) instruction_at s (length s) 0 start first

      in_model : seen_in t (streamed inserted_in start all) ≡ streamed model.inserted_of (view t a) (seen (viewed t) all)
      in_model =
          ap (totals all.state.ring.inserted) (sym (counted_in t a h))
          ∙ ap (λ (n : ℕ). totals n (model.inserted_of (view t a))) (sym (counted t off (lowest_used t) refl all.state last))
        where
          totals : ℕ → ℕ → Streamed model.Table
          totals n m = record { state = viewed t all.state; consumed = all.consumed; total = n; told = told all.answer (n - m) }

      pub receives_ran : (b p : List ℕ) (u : Ring) (y : Ran) → ran_to u y b ≡ all → (f : Result ℕ Refusal)
          → Tells (told (replied y.reply) (u.inserted - t.ring.inserted)) o p f
          → {r : Received}
          → r ≡ record { table = with_ring u t; consumed = y.consumed; inserted = u.inserted; written = result_unwrap_or f 0; reply = result_and f (Ok tt) }
          → Receives t a b s o p r
      unfolding received_in
      receives_ran b p u y e f w q =
          let ring : u ≡ all.state.ring = ap (λ (z : Ended Held). z.state.ring) e in
          let bytes : b ≡ all.state.arena = ap (λ (z : Ended Held). z.state.arena) e in
          let end : y.consumed ≡ all.consumed = ap (λ (z : Ended Held). z.consumed) e in
          let done_all : replied y.reply ≡ all.answer = ap (λ (z : Ended Held). z.answer) e in
          let tells : Tells (streamed inserted_in start all).told o p f = rw (done_all, ring) at w in
          record {
            table = rw (q, runs, ring);
            arena = rw runs bytes;
            consumed = rw (q, runs) end;
            inserted = rw (q, runs, ring);
            answer = rw (q, answered f, runs) tells.answer;
            written = rw (q, counts f, runs) tells.written;
            out = rw (q, counts f, runs) tells.out;
            model = λ u g. rw runs (in_model ∙ ap (streamed model.inserted_of (view t a)) (shown ∙ not_open));
            kept = λ u. rw (q, ring, bytes) last.usable;
          }
        where
          not_open : run_all instruction_at applied_in s (view t a)
              ≡ unless_open (view t a) (view t a).section (run_all instruction_at applied_in s (view t a))
          not_open =
              sym (ap (λ (z : Option model.Open). unless_open (view t a) z (run_all instruction_at applied_in s (view t a))) (no_section_lem t a off))
