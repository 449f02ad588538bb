-- Over any sequence of calls: the record keeps its rules and 22 is not given; and equal tables stay equal. Assumes nothing.
use mathlib.Core.Path.{◌≡◌, refl, sym, ap, ap₂, ◌∙◌}
use mathlib.Core.Bool.{true, false}
use mathlib.Core.List.{List, [], ◌∷◌}
use Prim.Native.Nat.{ℕ, ◌+◌, ◌≤◌}
use Rattle.arena.specs.Ring.{long_enough}
use Rattle.decoder_stream.specs.Reports.{Report, acknowledgement, cancellation, increment, takes, Ready}
use Rattle.dynamic.specs.Calls.{fresh_table}
use Rattle.dynamic.specs.Record.{sound, usable}
use Rattle.dynamic.specs.declared.Table.{Table}
use Rattle.dynamic.proofs.Fresh.{fresh_sound}
use Rattle.entries.proofs.Chain.{and_left}
use Rattle.reorder.specs.Batch.{handed}
use Rattle.reorder.specs.Reports.{Reordered, total}
use Rattle.reorder.specs.Slices.{Slice, reports_in, handed_bytes}
use Rattle.reorder.proofs.Later.{same_calls}
use Rattle.reorder.proofs.Theorem.{same_outcome}
use Rattle.ring.specs.Ring.{largest_count}
use Rattle.demands.specs.Calls.{State, holds, Call, Outcome, number_said, calling, called, outcomes, after, LongEnough, AllLongEnough, Every, batch}
use Rattle.demands.proofs.Full.{Full, fresh_full}
use Rattle.demands.proofs.Steps.{Kept, call_fine}

-- ---- "Fresh is sound, every call keeps it, so that 22 is not given for a record that came from ours with its live strings as left"

-- what is claimed of each call: its record keeps the rules, and its answer is not 22
pub record SoundAndNot22 (o : Outcome) : Type 0 where
  pub rules : sound o.state.table ≡ true
  pub not_22 : number_said o.answer ≡ 22 → ⊥

long_enough_lem : (t : Table) (a : List ℕ) → sound t ≡ true → long_enough a ≡ true → usable t a ≡ true
long_enough_lem t a h l = rw (h, l)

-- one call, on any record that keeps its rules (in the program every array of a record has all its places)
pub sound_not_22 : (t : Table) → Full t → sound t ≡ true → (a : List ℕ) → long_enough a ≡ true
    → (c : Call) → LongEnough c → SoundAndNot22 (calling t a c)
sound_not_22 t f h a l c w =
    let k = call_fine t a (record { usable = long_enough_lem t a h l; full = f }) c w in
    record { rules = and_left (sound (calling t a c).state.table) _ k.kept.usable; not_22 = k.not_22 }

-- a fresh table keeps its rules
fresh_kept : (a : List ℕ) → long_enough a ≡ true → Kept (holds fresh_table a)
fresh_kept a l = record { usable = long_enough_lem fresh_table a fresh_sound l; full = fresh_full }

each : (x : State) → Kept x → (cs : List Call) → AllLongEnough cs → Every SoundAndNot22 (outcomes x cs)
each x k [] w = tt
each x k (c ∷ cs) w =
    let f = call_fine x.table x.arena k c w.0 in (
      record { rules = and_left (sound (called x c).state.table) _ f.kept.usable; not_22 = f.not_22 },
      each (called x c).state f.kept cs w.1,
    )

last : (x : State) → Kept x → (cs : List Call) → AllLongEnough cs → Kept (after x cs)
last x k [] w = k
last x k (c ∷ cs) w = last (called x c).state (call_fine x.table x.arena k c w.0).kept cs w.1

-- any sequence of calls on a fresh table: where the arena and the buffers that are lent are long enough, every record on the way keeps its
-- rules and no call answers 22. The strings may stand as the calls left them, or anything may be lent in their place: a record's rules do
-- not speak of them
pub fresh_never_22 : (a : List ℕ) → long_enough a ≡ true → (cs : List Call) → AllLongEnough cs
    → Every SoundAndNot22 (outcomes (holds fresh_table a) cs)
fresh_never_22 a l cs w = each (holds fresh_table a) (fresh_kept a l) cs w

-- the record that they leave keeps its rules too
pub fresh_stays_sound : (a : List ℕ) → long_enough a ≡ true → (cs : List Call) → AllLongEnough cs
    → sound (after (holds fresh_table a) cs).table ≡ true
fresh_stays_sound a l cs w = and_left (sound (after (holds fresh_table a) cs).table) _ (last (holds fresh_table a) (fresh_kept a l) cs w).usable

-- ---- "no later sequence of calls on the two tables can differ in an answer or a byte"

-- a sequence of calls is a function of the record and the arena
pub same_sequence : (t u : Table) (a b : List ℕ) → t ≡ u → a ≡ b → (cs : List Call) → outcomes (holds t a) cs ≡ outcomes (holds u b) cs
same_sequence t u a b e f cs = ap₂ (λ (x : Table) (y : List ℕ). outcomes (holds x y) cs) e f

-- what a batch of reports leaves, each report handed in by a call of its own
batch_leaves : (xs : List Report) (t : Table) (a : List ℕ) → after (holds t a) (batch xs) ≡ holds (handed t xs).state a
batch_leaves [] t a = refl
batch_leaves (acknowledgement s ∷ xs) t a = batch_leaves xs (takes t (acknowledgement s)).state a
batch_leaves (cancellation s ∷ xs) t a = batch_leaves xs (takes t (cancellation s)).state a
batch_leaves (increment n ∷ xs) t a = batch_leaves xs (takes t (increment n)).state a

-- a batch of reports in two orders that keep each stream's own leaves one record
pub same_state : (t : Table) → Ready t → (xs ys : List Report) → Reordered xs ys → t.known + total xs ≤ largest_count
    → (a : List ℕ) → after (holds t a) (batch xs) ≡ after (holds t a) (batch ys)
same_state t g xs ys r h a =
    batch_leaves xs t a ∙ ap (λ (u : Table). holds u a) (same_outcome t g xs ys r h).runs.states ∙ sym (batch_leaves ys t a)

-- so in any calls after it every record, every arena, every answer and every buffer is the same
pub same_calls_later : (t : Table) → Ready t → (xs ys : List Report) → Reordered xs ys → t.known + total xs ≤ largest_count
    → (a : List ℕ) (later : List Call)
    → outcomes (after (holds t a) (batch xs)) later ≡ outcomes (after (holds t a) (batch ys)) later
same_calls_later t g xs ys r h a later = ap (λ (x : State). outcomes x later) (same_state t g xs ys r h a)

-- the same where each report came as bytes, in a call on the decoder stream of its own
pub same_calls_after_bytes : (t : Table) → Ready t → (bs cs : List Slice) → Reordered (reports_in bs) (reports_in cs)
    → t.known + total (reports_in bs) ≤ largest_count → (a : List ℕ) (later : List Call)
    → outcomes (holds (handed_bytes t bs).state a) later ≡ outcomes (holds (handed_bytes t cs).state a) later
same_calls_after_bytes t g bs cs r h a later =
    ap (λ (u : Table). outcomes (holds u a) later) (same_calls t g bs cs r h).outcome.runs.states

-- a table that came from ours is one that reports can be handed to, once no section is open
pub ours_is_ready : (a : List ℕ) → long_enough a ≡ true → (cs : List Call) → AllLongEnough cs
    → (after (holds fresh_table a) cs).table.active ≡ false → Ready (after (holds fresh_table a) cs).table
ours_is_ready a l cs w e =
    let k = last (holds fresh_table a) (fresh_kept a l) cs w in
    record { rules = fresh_stays_sound a l cs w; closed = e; places = k.full.queue; values = k.full.waiting }
