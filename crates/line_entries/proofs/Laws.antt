-- Laws of entries: where the strings of a static and of a live entry stand. Assumes nothing.
use mathlib.Core.Path.{◌≡◌, ap, ◌∙◌}
use mathlib.Core.Bool.{Bool, true, false, cond}
use mathlib.Core.List.{List}
use Prim.Native.Nat.{ℕ, ◌+◌, ◌-◌, ◌%◌, ◌<◌}
use native.Mathlib.Omega.{arith}
use lib.Dec.{ltb}
use lib.ListN.{length, get_or, get_or-map}
use borrow.Author.Tests.{lt-ltb}
use Rattle.answers.specs.Answer.{done, refused}
use Rattle.answers.specs.declared.Refusal.{Refusal}
use Rattle.answers.specs.declared.Refusal.TheVariants.{InvalidStaticIndex}
use Rattle.entries.specs.Entry.{slots, no_entry, slot_of, field_of}
use Rattle.entries.proofs.Between.{between_at}
use Rattle.instructions.specs.Instruction.{stretch}
use Rattle.ring.specs.Ring.{live, fields_of}
use Rattle.ring.specs.declared.Ring.{Ring}
use Rattle.static_table.specs.AppendixA.{appendix_a}
use Rattle.static_table.specs.Static.{no_field, laid, place_of, entry_at}
use Rattle.static_table.specs.declared.Place.{Place}
use Rattle.static_table.proofs.Table.{entries, entry_placed}
use Rattle.line_entries.specs.Entry.{static_field}

-- ---- the static table

pub static_done : (i : ℕ) (p : Place) → entry_at i ≡ done p
    → done (record { name = stretch (laid appendix_a) p.start p.name; value = stretch (laid appendix_a) (p.start + p.name) p.value })
    ≡ static_field i
unfolding static_field
static_done i p h =
    let f = entry_placed i p h in
    let low : i < length appendix_a = omega (arith, f.low, entries) in
    rw (lt-ltb i (length appendix_a) low, f.name_bytes, f.value_bytes_lem)

pub static_refused : (i : ℕ) (r : Refusal) → entry_at i ≡ refused r → refused r ≡ static_field i
unfolding static_field entry_at
static_refused i r h = go (ltb i (length appendix_a)) h
  where
    go : (b : Bool) → cond b (done (place_of appendix_a i)) (refused InvalidStaticIndex) ≡ refused r
        → refused r ≡ cond b (done (get_or appendix_a i no_field)) (refused InvalidStaticIndex)
    go true h = let z : ◌≡◌ {A = ℕ} 0 1 = cc in absurd (omega arith)
    go false h = let e : InvalidStaticIndex ≡ r = cc in rw e

-- ---- the live entries

pub live_field : (r : Ring) (a : List ℕ) (k : ℕ) → k < r.inserted - r.dropped
    → get_or (fields_of r a) k no_field ≡ field_of a (slot_of r.starts r.names r.values ((r.dropped + k) % slots))
live_field r a k h =
    get_or-map (field_of a) (live r) k no_entry
    ∙ ap (field_of a) (between_at r.starts r.names r.values r.dropped r.inserted k h)
