-- The peer's reports: acknowledgement, cancellation, increment.
use Rattle.std.specs.Prelude.{Bool, true, false, cond, List, [], ◌∷◌, ℕ, ◌+◌, leb, ltb, eqb}
use Rattle.std.proofs.Math.Option.{Option, some, none}
use Rattle.answers.specs.Answer.{done}
use Rattle.answers.specs.Table.{Done, ok}
use Rattle.answers.specs.declared.Refusal.TheVariants.{UnknownStreamId, CountTooLarge}
use Rattle.ring.specs.Ring.{largest_count}
use Rattle.model.specs.Table.{Section, Blocked, Table, Step, refuse}
use Rattle.model.specs.Drop.{closed}

-- the queue without the stream's oldest section; none where the stream has none
abbrev pub before_section : Section → Option (List Section) → Option (List Section)
before_section s none = none
before_section s (some q) = some (s ∷ q)

abbrev pub without_oldest : ℕ → List Section → Option (List Section)
without_oldest stream [] = none
without_oldest stream (s ∷ q) = cond (eqb s.stream stream) (some q) (before_section s (without_oldest stream q))

abbrev pub with_queue : List Section → Table → Table
with_queue q t =
    record {
      fields = t.fields;
      dropped = t.dropped;
      capacity = t.capacity;
      known = t.known;
      blocked_max = t.blocked_max;
      blocked = t.blocked;
      queue = q;
      section = t.section;
    }

-- "12 UnknownStreamId: nothing queued for the stream"
abbrev pub releasing : Table → Option (List Section) → Step Done
releasing t none = refuse t UnknownStreamId
releasing t (some q) = record { next = with_queue q t; answer = done ok }

-- "acknowledgement and cancellation each release the stream's oldest queued section: its references and its place, not its blocked count"
unfoldable pub release : Table → ℕ → Step Done
release t stream = closed t t.section (releasing t (without_oldest stream t.queue))

-- the blocked sections that stay above a count
abbrev pub above : ℕ → List Blocked → List Blocked
above k [] = []
above k (b ∷ bs) = cond (leb b.largest k) (above k bs) (b ∷ above k bs)

-- "an increment raises the known received count and releases blocked sections at or below it"; "23: .. known received past 2^62-1"
abbrev pub counted : Bool → Table → ℕ → Step Done
counted true t n = refuse t CountTooLarge
counted false t n =
    record {
      next = record {
        fields = t.fields;
        dropped = t.dropped;
        capacity = t.capacity;
        known = t.known + n;
        blocked_max = t.blocked_max;
        blocked = above (t.known + n) t.blocked;
        queue = t.queue;
        section = t.section;
      };
      answer = done ok;
    }

abbrev pub counting : Table → ℕ → Step Done
counting t n = counted (ltb largest_count (t.known + n)) t n

unfoldable pub increment : Table → ℕ → Step Done
increment t n = closed t t.section (counting t n)
