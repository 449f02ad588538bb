-- One report on the record with no test left, and that reports that are not of one stream commute on it. Assumes nothing.
use mathlib.Core.Path.{◌≡◌, refl, sym, ap, ◌∙◌, subst}
use mathlib.Core.Bool.{Bool, true, false, cond}
use Prim.Native.Nat.{ℕ, ◌+◌, ◌≤◌}
use native.Mathlib.Omega.{arith}
use borrow.Author.Tests.{eq-eqb}
use Rattle.answers.specs.Answer.{Answer, done, refused}
use Rattle.answers.specs.Table.{Done, ok, replied}
use Rattle.answers.specs.declared.Refusal.TheVariants.{UnknownStreamId}
use Rattle.decoder_stream.specs.Reports.{Report, acknowledgement, cancellation, increment, takes, Ready}
use Rattle.decoder_stream.proofs.Receiving.{called_ready}
use Rattle.dynamic.specs.Calls.{with_queue, raised, release}
use Rattle.dynamic.specs.declared.Replied.{Replied}
use Rattle.dynamic.specs.declared.Table.{Table}
use Rattle.dynamic.proofs.Reports.{release_done, release_none, increment_done}
use Rattle.dynamic.proofs.Sound.{facts}
use Rattle.ring.specs.Ring.{largest_count}
use Rattle.running.specs.Run.{Took}
use Rattle.tracking.specs.Queue.{releasing}
use Rattle.blocked.specs.Waiting.{let_go}
use Rattle.tracking.specs.declared.Queue.{Queue}
use Rattle.blocked.specs.declared.Waiting.{Waiting}
use Rattle.blocked.proofs.Blocked.{let_go_less_first}
use Rattle.tracking.proofs.Sections.{not_released, releases_commute, release_made}
use Rattle.reorder.specs.Reports.{amount}
use Rattle.reorder.specs.Swaps.{Independent}

-- a table that bears further increments by b in all
pub record Fine (b : ℕ) (t : Table) : Type 0 where
  pub ready : Ready t
  pub room : t.known + b ≤ largest_count

-- ---- a report with no test left

abbrev released : Table → ℕ → Table
released t s = with_queue (releasing t.queue s).queue t

abbrev pub next : Table → Report → Table
next t (acknowledgement s) = released t s
next t (cancellation s) = released t s
next t (increment n) = raised (t.known + n) t

abbrev release_said : Table → ℕ → Answer Done
release_said t s = cond (releasing t.queue s).made (done ok) (refused UnknownStreamId)

abbrev pub said : Table → Report → Answer Done
said t (acknowledgement s) = release_said t s
said t (cancellation s) = release_said t s
said t (increment n) = done ok

abbrev took : Replied → Took Table
took r = record { state = r.table; answer = replied r.reply }

module _ (t : Table) (g : Ready t) where
  release_plain : (s : ℕ) → took (release t s) ≡ record { state = released t s; answer = release_said t s }
  release_plain s = go (releasing t.queue s).made refl
    where
      go : (b : Bool) → (releasing t.queue s).made ≡ b
          → took (release t s) ≡ record { state = released t s; answer = cond b (done ok) (refused UnknownStreamId) }
      go true m = sym (ap took (release_done t s g.rules g.closed (releasing t.queue s) refl m))
      go false m =
          sym (ap took (release_none t s g.rules g.closed (releasing t.queue s) refl m))
          ∙ ap (λ (q : Queue). record { state = with_queue q t; answer = refused UnknownStreamId })
          (sym (not_released t.queue (facts t g.rules).queued g.places s m))

  increment_plain : (n : ℕ) → t.known + n ≤ largest_count → takes t (increment n) ≡ record { state = raised (t.known + n) t; answer = done ok }
  increment_plain n h = sym (ap took (increment_done t n g.rules g.closed h))

pub plain : (x : Report) (b : ℕ) (t : Table) → Fine (amount x + b) t → takes t x ≡ record { state = next t x; answer = said t x }
plain (acknowledgement s) b t f = release_plain t f.ready s
plain (cancellation s) b t f = release_plain t f.ready s
plain (increment n) b t f = increment_plain t f.ready n (omega (arith, f.room))

pub spend : (x : Report) (b : ℕ) (t : Table) → Fine (amount x + b) t → Fine b (next t x)
spend x b t f =
    record {
      ready = subst Ready (ap (λ (o : Took Table). o.state) (plain x b t f)) (called_ready t f.ready x);
      room = left x f;
    }
  where
    left : (x : Report) → Fine (amount x + b) t → (next t x).known + b ≤ largest_count
    left (acknowledgement s) f = omega (arith, f.room)
    left (cancellation s) f = omega (arith, f.room)
    left (increment n) f = omega (arith, f.room)

-- ---- two reports

apart : (s u : ℕ) → Independent (acknowledgement s) (acknowledgement u) → s ≡ u → ⊥
apart s u i e = i s (eq-eqb s s refl) (eq-eqb s u e)

module _ (t : Table) (g : Ready t) where
  releases : (s u : ℕ) → (s ≡ u → ⊥) → released (released t s) u ≡ released (released t u) s
  releases s u ne =
      ap (λ (q : Queue). with_queue q t) (releases_commute t.queue (facts t g.rules).queued g.places s u ne)

  still_said : (s u : ℕ) → (s ≡ u → ⊥) → release_said (released t u) s ≡ release_said t s
  still_said s u ne =
      ap (λ (b : Bool). cond b (done ok) (refused UnknownStreamId))
      (release_made t.queue (facts t g.rules).queued g.places u s (λ e. ne (sym e)))

  -- of two increments the larger one decides what stays blocked
  raises : (j k m : ℕ) → j ≤ m → k ≤ m → raised m (raised j t) ≡ raised m (raised k t)
  raises j k m hj hk =
      let less : (i : ℕ) → i ≤ m → let_go (let_go t.waiting i) m ≡ let_go t.waiting m =
      λ i h. let_go_less_first t.waiting (facts t g.rules).waiting g.values i m h in
      ap (λ (w : Waiting). record {
        ring = t.ring;
        known = m;
        most = t.most;
        waiting = w;
        queue = t.queue;
        active = t.active;
        base = t.base;
        section = t.section;
      }) (less j hj ∙ sym (less k hk))

  pub states : (x y : Report) → Independent x y → next (next t x) y ≡ next (next t y) x
  states (acknowledgement s) (acknowledgement u) i = releases s u (apart s u i)
  states (acknowledgement s) (cancellation u) i = releases s u (apart s u i)
  states (acknowledgement s) (increment k) i = refl
  states (cancellation s) (acknowledgement u) i = releases s u (apart s u i)
  states (cancellation s) (cancellation u) i = releases s u (apart s u i)
  states (cancellation s) (increment k) i = refl
  states (increment n) (acknowledgement u) i = refl
  states (increment n) (cancellation u) i = refl
  states (increment n) (increment k) i =
      let e : t.known + n + k ≡ t.known + k + n = omega arith in
      rw e (raises (t.known + n) (t.known + k) (t.known + k + n) (omega arith) (omega arith))

  -- a report's answer is not changed by one of another stream before it
  pub answers : (x y : Report) → Independent x y → said (next t y) x ≡ said t x
  answers (acknowledgement s) (acknowledgement u) i = still_said s u (apart s u i)
  answers (acknowledgement s) (cancellation u) i = still_said s u (apart s u i)
  answers (acknowledgement s) (increment k) i = refl
  answers (cancellation s) (acknowledgement u) i = still_said s u (apart s u i)
  answers (cancellation s) (cancellation u) i = still_said s u (apart s u i)
  answers (cancellation s) (increment k) i = refl
  answers (increment n) (acknowledgement u) i = refl
  answers (increment n) (cancellation u) i = refl
  answers (increment n) (increment k) i = refl
