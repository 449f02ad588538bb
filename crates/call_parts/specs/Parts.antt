-- What the calls are made of, over the parts of a record: tests of a capacity, a put's answer, the open section.
use Rattle.std.specs.Prelude.{Result, Ok, Err, Bool, true, false, ◌&&◌, cond, List, ℕ, ◌+◌, leb, ltb, eqb}
use Rattle.std.proofs.Math.Option.{Option, some, none}
use Rattle.answers.specs.declared.Refusal.{Refusal}
use Rattle.answers.specs.declared.Refusal.TheVariants.{MaxTableSizeReached, MaximumTableSizeTooLarge, AboveLentRoom, BadCall, CountTooLarge}
use Rattle.blocked.specs.Waiting.{Counted, blocking}
use Rattle.blocked.specs.declared.Waiting.{Waiting}
use Rattle.entries.specs.Entry.{slots}
use Rattle.model.specs.Bounds.{largest_capacity, lent_room}
use Rattle.model.specs.Table as model
use Rattle.ring.specs.declared.Push.{Push}
use Rattle.ring.specs.declared.Push.TheVariants.{Made, TooLarge, NoRoom, Full}
use Rattle.tracking.specs.Queue.{Floor, section_live, lowest}
use Rattle.tracking.specs.Uses.{Noted, uses_of}
use Rattle.tracking.specs.declared.Section.{Section}

-- ---- an open section

abbrev pub uses_here : Section → List model.Use
uses_here s = uses_of s.from s.used s.uses

-- an open section uses live entries; its base and its first number are of this table; and it uses every entry since its begin
abbrev pub open_rules : ℕ → Section → ℕ → ℕ → Bool
open_rules base s d i =
    section_live d i s && (leb base i && (leb s.from d && leb i (s.from + slots + s.used)))

unfoldable pub open_floor : Bool → ℕ → Section → ℕ → ℕ → ℕ → Floor
open_floor active base s d i low =
    cond active
    (cond (open_rules base s d i) (record { live = true; low = lowest low (uses_here s) }) (record { live = false; low = low }))
    (record { live = true; low = low })

-- ---- answers and uses

-- "9: capacity above 1,073,741,823. 10: capacity 16,385 to 1,073,741,823"
abbrev pub tested : Result Unit Refusal → Option Refusal
tested (Ok tt) = none
tested (Err r) = some r

unfoldable pub capacity_answer : ℕ → Option Refusal
capacity_answer c = cond (ltb largest_capacity c) (some MaximumTableSizeTooLarge) (cond (ltb lent_room c) (some AboveLentRoom) none)

-- what a put answers: "at capacity 0, or kept out by references, answers 0 and does nothing"; "8: `put` larger than a capacity above 0"
unfoldable pub push_reply : ℕ → Push → Result Unit Refusal
push_reply c Made = (Ok tt)
push_reply c TooLarge = cond (eqb c 0) (Ok tt) (Err MaxTableSizeReached)
push_reply c NoRoom = (Ok tt)
push_reply c Full = Err CountTooLarge
push_reply c Push.BadCall = Err BadCall

-- "if the largest reference is above the known received count it counts one blocked section"
abbrev pub counted_with : Waiting → ℕ → ℕ → Counted
counted_with w known largest = cond (leb largest known) (record { fits = true; waiting = w }) (blocking w largest)

-- a section with other uses
abbrev pub with_uses : Section → Noted → Section
with_uses s r = record { stream = s.stream; from = s.from; used = r.used; uses = r.uses }
