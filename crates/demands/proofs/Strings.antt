-- Any sequence of calls on two tables whose live strings are equal. Assumes nothing.
use mathlib.Core.Path.{◌≡◌, refl, sym, ap, subst, subst₂, ◌∙◌}
use mathlib.Core.Bool.{true, false}
use mathlib.Core.List.{List, [], ◌∷◌, map}
use Prim.Native.Nat.{ℕ, ◌+◌, ◌≤◌}
use Rattle.arena.specs.Ring.{long_enough}
use Rattle.decoder_stream.specs.Reports.{Report, Ready}
use Rattle.dynamic.specs.Calls.{fresh_table}
use Rattle.dynamic.specs.declared.Table.{Table}
use Rattle.entries.specs.Entry.{between}
use Rattle.reorder.specs.Reports.{Reordered, total}
use Rattle.reorder.specs.Slices.{Slice, reports_in, receives, handed_bytes}
use Rattle.reorder.proofs.Later.{same_calls}
use Rattle.ring.specs.Ring.{largest_count}
use Rattle.demands.specs.Calls.{State, holds, Call, decoder_stream, called, outcomes, after, AllLongEnough, batch}
use Rattle.demands.specs.Strings.{Alike, same, AlikeCalls, AlikeOutcomes}
use Rattle.demands.proofs.OneCall.{alike_call}
use Rattle.demands.proofs.Full.{Full, fresh_full}
use Rattle.demands.proofs.FullCalls.{call_full}
use Rattle.demands.proofs.Sequences.{same_state, ours_is_ready}

-- ---- "with equal inputs and equal live strings"

-- a sequence of calls: every answer and every byte that is given back is the same, and the tables stay alike
-- (in the program every array of a record has all its places)
pub alike_calls : (x y : State) → Full x.table → Alike x y → (cs ds : List Call) → AlikeCalls x cs ds
    → AlikeOutcomes (outcomes x cs) (outcomes y ds)
alike_calls x y f w [] [] q = tt
alike_calls x y f w [] (d ∷ ds) q = absurd q
alike_calls x y f w (c ∷ cs) [] q = absurd q
alike_calls x y f w (c ∷ cs) (d ∷ ds) q =
    let one = alike_call x y f w c d q.0 in (
      one,
      alike_calls (called x c).state (called y d).state (call_full x.table f x.arena c) one.state cs ds q.1,
    )

-- and so the tables that they leave are alike
pub alike_after : (x y : State) → Full x.table → Alike x y → (cs ds : List Call) → AlikeCalls x cs ds → Alike (after x cs) (after y ds)
alike_after x y f w [] [] q = w
alike_after x y f w [] (d ∷ ds) q = absurd q
alike_after x y f w (c ∷ cs) [] q = absurd q
alike_after x y f w (c ∷ cs) (d ∷ ds) q =
    alike_after (called x c).state (called y d).state (call_full x.table f x.arena c) (alike_call x y f w c d q.0).state cs ds q.1

after_full : (x : State) → Full x.table → (cs : List Call) → Full (after x cs).table
after_full x f [] = f
after_full x f (c ∷ cs) = after_full (called x c).state (call_full x.table f x.arena c) cs

-- the same calls are alike
itself : (x : State) (cs : List Call) → AlikeCalls x cs cs
itself x [] = tt
itself x (c ∷ cs) = (same c, itself (called x c).state cs)

-- ---- "no later sequence of calls on the two tables can differ in an answer or a byte"

-- a batch of reports in two orders that keep each stream's own, on two tables that are alike, leaves tables that are alike
reordered_alike : (x y : State) → Full x.table → Ready x.table → Alike x y → (xs ys : List Report) → Reordered xs ys
    → x.table.known + total xs ≤ largest_count → Alike (after x (batch xs)) (after y (batch ys))
reordered_alike x y f g w xs ys r h =
    subst (λ (z : State). Alike z (after y (batch ys))) (sym (same_state x.table g xs ys r h x.arena))
    (alike_after x y f w (batch ys) (batch ys) (itself x (batch ys)))

-- so any two sequences of calls after it that are given equal inputs come to the same
pub same_strings_later : (t : Table) → Full t → Ready t → (a b : List ℕ) → Alike (holds t a) (holds t b) → (xs ys : List Report)
    → Reordered xs ys → t.known + total xs ≤ largest_count
    → (later other : List Call) → AlikeCalls (after (holds t a) (batch xs)) later other
    → AlikeOutcomes (outcomes (after (holds t a) (batch xs)) later) (outcomes (after (holds t b) (batch ys)) other)
same_strings_later t f g a b w xs ys r h later other q =
    alike_calls (after (holds t a) (batch xs)) (after (holds t b) (batch ys)) (after_full (holds t a) f (batch xs))
    (reordered_alike (holds t a) (holds t b) f g w xs ys r h) later other q

-- the same where each report came as bytes, in a call on the decoder stream of its own
abbrev on_stream : List Slice → List Call
on_stream bs = map (λ (b : Slice). decoder_stream b.bytes) bs

bytes_leave : (bs : List Slice) (t : Table) (a : List ℕ) → after (holds t a) (on_stream bs) ≡ holds (handed_bytes t bs).state a
bytes_leave [] t a = refl
bytes_leave (b ∷ bs) t a = bytes_leave bs (receives t b).state a

pub same_strings_after_bytes : (t : Table) → Full t → Ready t → (a b : List ℕ) → Alike (holds t a) (holds t b) → (bs cs : List Slice)
    → Reordered (reports_in bs) (reports_in cs) → t.known + total (reports_in bs) ≤ largest_count
    → (later other : List Call) → AlikeCalls (holds (handed_bytes t bs).state a) later other
    → AlikeOutcomes (outcomes (holds (handed_bytes t bs).state a) later) (outcomes (holds (handed_bytes t cs).state b) other)
same_strings_after_bytes t f g a b w bs cs r h later other q =
    let x = holds t a in
    let left = alike_after x (holds t b) f w (on_stream cs) (on_stream cs) (itself x (on_stream cs)) in
    let one = bytes_leave cs t a ∙ ap (λ (u : Table). holds u a) (sym (same_calls t g bs cs r h).outcome.runs.states) in
    alike_calls _ _ (subst (λ (z : State). Full z.table) (bytes_leave bs t a) (after_full x f (on_stream bs)))
    (subst₂ Alike one (bytes_leave cs t b) left) later other q

-- two fresh tables are alike whatever their arenas hold: no entry is live
pub fresh_alike : (a b : List ℕ) → long_enough a ≡ true → long_enough b ≡ true → Alike (holds fresh_table a) (holds fresh_table b)
unfolding fresh_table between
fresh_alike a b l m = record { table = refl; long = l ∙ sym m; strings = refl }

-- so from two fresh tables: first calls with equal inputs that leave no section open, then the batch in two orders, then any calls with equal inputs
pub ours_reordered_strings : (a b : List ℕ) → long_enough a ≡ true → long_enough b ≡ true
    → (first second : List Call) → AllLongEnough first → AlikeCalls (holds fresh_table a) first second
    → (after (holds fresh_table a) first).table.active ≡ false → (xs ys : List Report) → Reordered xs ys
    → (after (holds fresh_table a) first).table.known + total xs ≤ largest_count
    → (later other : List Call) → AlikeCalls (after (after (holds fresh_table a) first) (batch xs)) later other
    → AlikeOutcomes (outcomes (after (after (holds fresh_table a) first) (batch xs)) later)
    (outcomes (after (after (holds fresh_table b) second) (batch ys)) other)
ours_reordered_strings a b l m first second enough p e xs ys r h later other q =
    let x = after (holds fresh_table a) first in
    let y = after (holds fresh_table b) second in
    let f = after_full (holds fresh_table a) fresh_full first in
    let w = alike_after (holds fresh_table a) (holds fresh_table b) fresh_full (fresh_alike a b l m) first second p in
    alike_calls (after x (batch xs)) (after y (batch ys)) (after_full x f (batch xs))
    (reordered_alike x y f (ours_is_ready a l first enough e) w xs ys r h) later other q
