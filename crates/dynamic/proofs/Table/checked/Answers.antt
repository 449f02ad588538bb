-- `dynamic::Table::checked`: each test is one of the record's rules, and the floors find the lowest entry used. Assumes nothing.
use mathlib.Core.Path.{◌≡◌, sym, ap, ◌∙◌}
use mathlib.Core.Bool.{true, false}
use borrow.Author.Tests.{le-leb, lt-leb, lt-ltb, le-ltb}
use borrow.Author.Rules.{rules}
use Rattle.std.specs.Prelude.{None}
use Rattle.ring.specs.Ring.{keeps}
use Rattle.blocked.specs.Waiting.{keeps_count}
use Rattle.tracking.specs.Queue.{Floor, floored}
use Rattle.dynamic.specs.Record.{sound, queue_keeps, lowest_queued, nothing_used}
use Rattle.dynamic.proofs.Checking.{queue_lives, queue_low, rules_left, breaks, all_checked}
use Rattle.dynamic.proofs.Table.checked.Goals.{Else-not-sound, Else-not-waiting_ok, In_ok-queued}
use Rattle.dynamic.proofs.Table.checked.Goals as goal

rings : (c : Else-not-sound) → keeps c.args.self.now.ring ≡ true
rings c = sym c.sound.ensures ∙ c.if-not-sound.false

waits : (c : Else-not-waiting_ok) → keeps_count c.args.self.now.waiting ≡ true
waits c = sym c.waiting_ok.ensures ∙ c.if-not-waiting_ok.false

queue_kept : (c : In_ok-queued) → queue_keeps c.args.self.now ≡ true
queue_kept c =
    sym (queue_lives c.args.self.now)
    ∙ ap (λ (f : Floor). f.live) (sym c.queue_floor.ensures ∙ ap (floored nothing_used) c.in_ok-queued.was)

pub returns-then-not-sound : goal.returns-then-not-sound
unfolding sound
returns-then-not-sound c = let h : keeps c.args.self.now.ring ≡ false = sym c.sound.ensures ∙ c.if-not-sound.true in breaks _ (rw h)

pub returns-then-self-gt-LARGEST_COUNT : goal.returns-then-self-gt-LARGEST_COUNT
unfolding sound
returns-then-self-gt-LARGEST_COUNT c =
    breaks _ (rw (rings (goal.at.returns-then-self-gt-LARGEST_COUNT c).Else-not-sound, lt-leb _ _ c.if-self-gt-LARGEST_COUNT.true))

pub returns-then-self-ge-BLOCKED_SECTIONS : goal.returns-then-self-ge-BLOCKED_SECTIONS
unfolding sound
returns-then-self-ge-BLOCKED_SECTIONS c =
    breaks _
    (rw (
      rings (goal.at.returns-then-self-ge-BLOCKED_SECTIONS c).Else-not-sound,
      le-leb _ _ c.if-self-gt-LARGEST_COUNT.false,
      le-ltb _ _ c.if-self-ge-BLOCKED_SECTIONS.true,
    ))

pub returns-then-not-waiting_ok : goal.returns-then-not-waiting_ok
unfolding sound
returns-then-not-waiting_ok c =
    let h : keeps_count c.args.self.now.waiting ≡ false = sym c.waiting_ok.ensures ∙ c.if-not-waiting_ok.true in
    breaks _
    (rw (
      rings (goal.at.returns-then-not-waiting_ok c).Else-not-sound,
      le-leb _ _ c.if-self-gt-LARGEST_COUNT.false,
      lt-ltb _ _ c.if-self-ge-BLOCKED_SECTIONS.false,
      h,
    ))

pub returns-in_err-queued : goal.returns-in_err-queued
unfolding sound
returns-in_err-queued c =
    let h : queue_keeps c.args.self.now ≡ false =
    sym (queue_lives c.args.self.now)
    ∙ ap (λ (f : Floor). f.live) (sym c.queue_floor.ensures ∙ ap (floored nothing_used) c.in_err-queued.was) in
    let none : c.from_residual.result ≡ None = search rules in
    rw none (breaks _
    (rw (
      rings (goal.at.returns-in_err-queued c).Else-not-sound,
      le-leb _ _ c.if-self-gt-LARGEST_COUNT.false,
      lt-ltb _ _ c.if-self-ge-BLOCKED_SECTIONS.false,
      waits (goal.at.returns-in_err-queued c).Else-not-waiting_ok,
      h,
    )))

pub returns : goal.returns
returns c =
    let t = c.args.self.now in
    let kept = queue_kept (goal.at.returns c).In_ok-queued in
    let low : c.in_ok-queued.queued ≡ lowest_queued t =
    ap (λ (f : Floor). f.low) (ap (floored nothing_used) (sym c.in_ok-queued.was) ∙ c.queue_floor.ensures) ∙ queue_low t kept in
    all_checked t _ _ low
    (rules_left t (rings (goal.at.returns c).Else-not-sound) c.if-self-gt-LARGEST_COUNT.false c.if-self-ge-BLOCKED_SECTIONS.false (waits (goal.at.returns c).Else-not-waiting_ok) kept)
    c.open_floor.ensures
