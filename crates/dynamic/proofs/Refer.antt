-- A search of a table and a use noted in its open section: what was found is live, the model agrees, and the rules are kept. Assumes nothing.
use mathlib.Core.Path.{◌≡◌, refl, ◌∙◌}
use mathlib.Core.Bool.{true, cond}
use mathlib.Core.Option.{some, none}
use Prim.Native.Nat.{ℕ, ◌+◌, ◌-◌, ◌^◌, ◌≤◌, ◌<◌}
use native.Mathlib.Omega.{arith}
use lib.ListN.{length}
use Rattle.model.specs.Bounds.{section_entries}
use Rattle.model.specs.Section.{note}
use Rattle.ring.specs.Ring.{largest_count}
use Rattle.ring.proofs.Keeping.{kept}
use Rattle.tracking.specs.Queue.{section_live}
use Rattle.tracking.specs.declared.Section.{Section}
use Rattle.tracking.proofs.Floors.{live_use, few_uses, uses_live, section_live_lem}
use Rattle.tracking.proofs.Using.{used_few, used_not_less, length_noted, noted_is, noted_live}
use Rattle.call_parts.proofs.Opening.{Opened}
use Rattle.dynamic.specs.Calls.{noted_in, with_uses, with_noted}
use Rattle.dynamic.specs.Record.{uses_here, sound}
use Rattle.dynamic.specs.declared.Table.{Table}
use Rattle.dynamic.proofs.Sound.{facts, is_sound, open_facts, open_keeps_lem}

-- ---- a use that is noted

module _ (s : Section) (x : ℕ) (few : s.used ≤ section_entries) (long : length s.uses ≡ section_entries) where
  pub note_is : s.from ≤ x
      → note x (uses_here s) ≡ cond (noted_in s x).fits (some (uses_here (with_uses s (noted_in s x)))) none
  note_is low = noted_is s.from x (x - s.from) low refl s.uses s.used few long

  pub still_long : length (with_uses s (noted_in s x)).uses ≡ section_entries
  still_long = length_noted s.uses s.used (x - s.from) few ∙ long

  pub not_fewer : s.used ≤ (with_uses s (noted_in s x)).used
  not_fewer = used_not_less s.uses s.used (x - s.from) few

pub note_live : (d i : ℕ) (s : Section) (x : ℕ) → length s.uses ≡ section_entries → s.from ≤ d → d < x → x ≤ i
    → section_live d i s ≡ true → section_live d i (with_uses s (noted_in s x)) ≡ true
note_live d i s x long from low high live =
    let few = few_uses d i s live in
    section_live_lem d i (with_uses s (noted_in s x)) (used_few s.uses s.used (x - s.from) few)
    (noted_live s.from x (x - s.from) (omega arith) refl s.uses s.used few long d i (uses_live d i s live)
    (live_use d i (record { entry = x; count = 1 }) low high (omega arith)))

-- ---- a live entry that the open section uses once more

-- an open table, and one of its live entries by its place
pub record Refers (t : Table) (k : ℕ) : Type 0 where
  pub rules : sound t ≡ true
  pub active : t.active ≡ true
  pub long : length t.section.uses ≡ section_entries
  pub live : k < t.ring.inserted - t.ring.dropped

abbrev pub entry_at : Table → ℕ → ℕ
entry_at t k = t.ring.dropped + k + 1

-- the numbers of that entry
pub record Near (t : Table) (k : ℕ) : Type 0 where
  pub from : t.section.from ≤ t.ring.dropped
  pub above : t.ring.dropped < entry_at t k
  pub below : entry_at t k ≤ t.ring.inserted
  pub counted : t.ring.inserted ≤ largest_count
  pub offset : entry_at t k - t.section.from < 2 ^ 16

module _ (t : Table) (k : ℕ) (rules : sound t ≡ true) (active : t.active ≡ true) (live : k < t.ring.inserted - t.ring.dropped) where
  opened_here : Opened t.base t.section t.ring.dropped t.ring.inserted
  opened_here = open_facts t (facts t rules) active

  few_here : t.section.used ≤ section_entries
  few_here = few_uses t.ring.dropped t.ring.inserted t.section opened_here.live

  pub near : Near t k
  near =
      let o = opened_here in
      let r = kept t.ring (facts t rules).ring in
      record {
        from = o.from_low;
        above = omega arith;
        below = omega (arith, live);
        counted = r.counted;
        offset = omega (arith, o.every, o.from_low, few_here, live);
      }

module _ (t : Table) (k : ℕ) (w : Refers t k) where
  opened : Opened t.base t.section t.ring.dropped t.ring.inserted
  opened = opened_here t k w.rules w.active w.live

  few : t.section.used ≤ section_entries
  few = few_here t k w.rules w.active w.live

  pub noted_sound : sound (with_noted (noted_in t.section (entry_at t k)) t) ≡ true
  noted_sound =
      let o = opened in
      let f = facts t w.rules in
      let n = near t k w.rules w.active w.live in
      let s = with_uses t.section (noted_in t.section (entry_at t k)) in
      let live : section_live t.ring.dropped t.ring.inserted s ≡ true =
      note_live _ _ t.section (entry_at t k) w.long n.from n.above n.below o.live in
      let keeps : Opened t.base s t.ring.dropped t.ring.inserted =
      record {
        live = live;
        base_within = o.base_within;
        from_low = o.from_low;
        every = omega (arith, o.every, not_fewer t.section (entry_at t k) few w.long);
      } in
      is_sound (with_noted (noted_in t.section (entry_at t k)) t)
      (record {
        ring = f.ring;
        known = f.known;
        most = f.most;
        waiting = f.waiting;
        queued = f.queued;
        live = f.live;
        section = open_keeps_lem (with_noted (noted_in t.section (entry_at t k)) t) w.active keeps;
      })

  pub noted_here : note (entry_at t k) (uses_here t.section)
      ≡ cond (noted_in t.section (entry_at t k)).fits (some (uses_here (with_uses t.section (noted_in t.section (entry_at t k))))) none
  noted_here = note_is t.section (entry_at t k) few w.long (omega (arith, opened.from_low))
