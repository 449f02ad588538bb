-- What a push comes to before anything changes: an answer that refuses it, or what is to be stored, with what its sums need.
use Rattle.std.specs.Prelude.{◌≡◌, Result, Ok, Err, List, ℕ, ◌+◌, ◌-◌, ◌<◌, ◌≤◌, length}
use Rattle.arena.specs.Ring.{ring}
use Rattle.entries.specs.Entry.{Entry, cost_of}
use Rattle.entries.specs.declared.Room.{Room}
use Rattle.ring.specs.Ring.{live, drawn, largest_count, pushed, pushed_by, pushing, bytes_after}
use Rattle.ring.specs.declared.Push.{Push}
use Rattle.ring.specs.declared.Push.TheVariants.{Made}
use Rattle.ring.specs.declared.Ring.{Ring}
use Rattle.ring.specs.declared.Source.{Source}
use Rattle.ring.specs.declared.Stored.{Stored}

abbrev pub entry_of : Stored → Entry
entry_of e = record { start = e.start; name = e.name; value = e.value }

pub record Refuses (r : Ring) (a : List ℕ) (low : ℕ) (s : Source) (n v : List ℕ) (p : Push) : Type 0 where
  pub answer : pushing r a low s n v ≡ pushed r p
  pub same : (b : List ℕ) → bytes_after p a b ≡ a

pub record Readies (r : Ring) (a : List ℕ) (low : ℕ) (s : Source) (n v : List ℕ) (e : Stored) (m : Room) : Type 0 where
  pub answer : pushing r a low s n v ≡ pushed (pushed_by r m e.name e.value) Made
  pub entry : entry_of e ≡ drawn (live r) s (length n) (length v)
  pub long : ring ≤ length a
  pub head : r.head < ring
  pub few : r.inserted < largest_count
  pub most : r.capacity ≤ ring
  pub gone : m.count ≤ r.inserted - r.dropped
  pub room : m.size + cost_of (entry_of e) ≤ r.capacity

abbrev pub Plans : Ring → List ℕ → ℕ → Source → List ℕ → List ℕ → Result (Stored × Room) Push → Type 0
Plans r a low s n v (Err p) = Refuses r a low s n v p
Plans r a low s n v (Ok (e, m)) = Readies r a low s n v e m
