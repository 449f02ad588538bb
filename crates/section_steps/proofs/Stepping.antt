-- One step of a section, by how it ends. Assumes nothing.
use mathlib.Core.Path.{◌≡◌, refl, subst, ◌∙◌}
use mathlib.Core.Bool.{Bool, true, false, ◌&&◌, cond}
use mathlib.Core.List.{List}
use Prim.Native.Nat.{ℕ, ◌≤◌, ◌<◌}
use native.Mathlib.Omega.{arith}
use lib.Dec.{leb}
use lib.ListN.{length}
use borrow.Author.Tests.{le-leb, lt-leb}
use Rattle.std.specs.Prelude.{Result, Ok, Err}
use Rattle.answers.specs.Answer.{Answer, done, refused, and_then}
use Rattle.answers.specs.declared.Refusal.{Refusal}
use Rattle.answers.specs.declared.Refusal.TheVariants.{SectionOpen, BadCall}
use Rattle.answers.proofs.Then.{then_done}
use Rattle.arena.specs.Ring.{ring, long_enough}
use Rattle.dynamic.specs.Record.{sound}
use Rattle.dynamic.specs.declared.Table.{Table}
use Rattle.field_lines.specs.Line.{Read, FieldInside, FieldFixed, NotStored}
use Rattle.field_lines.specs.declared.FieldAt.{FieldAt}
use Rattle.line_entries.specs.declared.Text.{Text}
use Rattle.header_prefix.specs.Prefix.{prefix_at}
use Rattle.header_prefix.specs.declared.Prefix.{Prefix}
use Rattle.section_steps.specs.Section.{Line, Reader, on_table, stateless, start_of, line_with, most_of, begun, when_long, cursor_at, ended_of, field_step, line_of, bytes_of, bytes_at, stored_by, out_of, Ready, LineReady}
use Rattle.section_steps.specs.declared.Cursor.{Cursor}

-- ---- the cursor past the prefix

no_cursor : {A : Type 0} (r : Refusal) (d : Cursor) → ◌≡◌ {A = Answer Cursor} (refused r) (done d) → A
no_cursor r d h = let z : ◌≡◌ {A = ℕ} 0 1 = cc in absurd (omega arith)

pub long_there : (t : Table) (a s : List ℕ) (c d : Cursor) → cursor_at (on_table t a) s c ≡ done d → long_enough a ≡ true
unfolding cursor_at start_of
long_there t a s c d h = go c.started (sound t) (long_enough a) refl h
  where
    go : (b x y : Bool) → long_enough a ≡ y
        → cond b
        (cond y (done c) (refused BadCall))
        (and_then
        (cond (x && y) (cond t.active (refused SectionOpen) (prefix_at s 0 t.ring.inserted t.ring.capacity)) (refused BadCall))
        (λ p. done (begun c p)))
        ≡ done d
        → long_enough a ≡ true
    go b x true e h = e
    go true x false e h = no_cursor BadCall d h
    go false true false e h = no_cursor BadCall d h
    go false false false e h = no_cursor BadCall d h

-- a cursor past the prefix is the one that was, or one made of it
pub past_prefix : (k : Reader) (s : List ℕ) (c d : Cursor) → cursor_at k s c ≡ done d → (P : Cursor → Type 0) → (c.started ≡ true → P c)
    → (c.started ≡ false → (p : Prefix) → start_of k s ≡ done p → P (begun c p)) → P d
unfolding cursor_at
past_prefix k s c d h P same new = go c.started refl h
  where
    long : (b : Bool) → cond b (done c) (refused BadCall) ≡ done d → P c → P d
    long true h g = let e : c ≡ d = cc in subst P e g
    long false h g = no_cursor BadCall d h

    still : (k : Reader) → when_long k c ≡ done d → P c → P d
    still (on_table t a) h g = long (leb ring (length a)) h g
    still (stateless most) h g = let e : c ≡ d = cc in subst P e g

    go : (b : Bool) → c.started ≡ b → cond b (when_long k c) (and_then (start_of k s) (λ p. done (begun c p))) ≡ done d → P d
    go true e h = still k h (same e)
    go false e h =
        let p = then_done (start_of k s) (λ q. done (begun c q)) d h in
        let q : begun c p.0 ≡ d = let z = p.2 in cc in
        subst P q (new e p.0 p.1)

-- what was stored so far stays
pub same_used : (k : Reader) (s : List ℕ) (c d : Cursor) → cursor_at k s c ≡ done d → d.used ≡ c.used
same_used k s c d h = past_prefix k s c d h (λ x. x.used ≡ c.used) (λ e. refl) (λ e p q. refl)

pub same_count : (k : Reader) (s : List ℕ) (c d : Cursor) → cursor_at k s c ≡ done d → d.count ≡ c.count
same_count k s c d h = past_prefix k s c d h (λ x. x.count ≡ c.count) (λ e. refl) (λ e p q. refl)

-- it has started, and stands where the other did if that had
pub has_started : (k : Reader) (s : List ℕ) (c d : Cursor) → cursor_at k s c ≡ done d → d.started ≡ true
has_started k s c d h = past_prefix k s c d h (λ x. x.started ≡ true) (λ e. e) (λ e p q. refl)

-- past the prefix, a cursor that has started stands for itself
pub stays_past : (k : Reader) (s : List ℕ) (c d : Cursor) → cursor_at k s c ≡ done d → (e : Cursor) → e.started ≡ true → cursor_at k s e ≡ done e
unfolding cursor_at
stays_past (on_table t a) s c d h e on = rw (on, long_there t a s c d h)
stays_past (stateless most) s c d h e on = rw on

pub same_at : (k : Reader) (s : List ℕ) (c d : Cursor) → cursor_at k s c ≡ done d → c.started ≡ true → d.at ≡ c.at
same_at k s c d h on =
    past_prefix k s c d h (λ x. x.at ≡ c.at) (λ e. refl) (λ e p q. let z : ◌≡◌ {A = ℕ} 0 1 = cc in absurd (omega arith))

-- ---- the strings of a line can be copied

ready_text : (a : List ℕ) → long_enough a ≡ true → (t : Text) → Ready a t
ready_text a h (Text.Input p n) = tt
ready_text a h (Text.Fixed p n) = tt
ready_text a h (Text.Stored p n) = h

pub ready_on : (s a : List ℕ) (at : ℕ) (r : Result FieldAt Refusal) → long_enough a ≡ true → FieldInside s at r → LineReady s a r
ready_on s a at (Ok f) h w = (w.0, w.1, ready_text a h f.name, ready_text a h f.value)
ready_on s a at (Err r) h w = tt

ready_fixed : (a : List ℕ) (t : Text) → NotStored t → Ready a t
ready_fixed a (Text.Input p n) h = tt
ready_fixed a (Text.Fixed p n) h = tt
ready_fixed a (Text.Stored p n) h = absurd h

pub ready_static : (s a : List ℕ) (at : ℕ) (r : Result FieldAt Refusal) → FieldFixed r → FieldInside s at r → LineReady s a r
ready_static s a at (Ok f) h w = (w.0, w.1, ready_fixed a f.name h.0, ready_fixed a f.value h.1)
ready_static s a at (Err r) h w = tt

-- ---- the step

pub record Next (k : Reader) (s l m : List ℕ) (room : ℕ) (c : Cursor) (y : Line) : Type 0 where
  pub answer : y ≡ line_of k s room (length l) c
  pub bytes : m ≡ out_of k s c l y

module _ (k : Reader) (s l : List ℕ) (room : ℕ) (c : Cursor) (y : Line) where
  pub next_refused : (r : Refusal) → cursor_at k s c ≡ refused r → y ≡ ended_of (Err r) c → Next k s l l room c y
  unfolding line_of
  next_refused r h e = record { answer = rw (e, h); bytes = rw e }

  module _ (d : Cursor) (h : cursor_at k s c ≡ done d) where
    pub next_ended : length s ≤ d.at → y ≡ ended_of (Ok tt) d → Next k s l l room c y
    unfolding line_of
    next_ended over e = record { answer = rw (e, h, le-leb (length s) d.at over); bytes = rw e }

    pub next_placed : d.at < length s → (x : Answer Read) → x ≡ line_with k d.base s d.at
        → y ≡ field_step (most_of k) room (length l) d x → (m : List ℕ) → m ≡ stored_by d l y (bytes_of x) → Next k s l m room c y
    unfolding line_of bytes_at
    next_placed more x q e m w =
        record {
          answer = e ∙ rw (q, h, lt-leb (length s) d.at more);
          bytes = w ∙ rw (h, q, same_used k s c d h);
        }
