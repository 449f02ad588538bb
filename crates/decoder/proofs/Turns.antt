-- The loop over the lines of a section: where it stands, and what is left gives what the whole gives. Assumes nothing.
use mathlib.Core.Path.{◌≡◌, refl, sym, ap, ◌∙◌}
use mathlib.Core.Bool.{Bool, true, false}
use mathlib.Core.List.{List}
use Prim.Native.Nat.{ℕ, zero, suc, ◌+◌, ◌-◌, ◌≤◌, ◌<◌}
use native.Mathlib.Omega.{arith}
use lib.ListN.{length, set, length-set}
use lib.Seq.{sets}
use Rattle.std.specs.Prelude.{Result, Err}
use Rattle.answers.specs.Answer.{done, refused}
use Rattle.answers.specs.declared.Refusal.{Refusal}
use Rattle.decoder.specs.Section.{Reader, start, cursor_at, ended_of, line_of, bytes_at, out_of, section_of, read_from, read_all}
use Rattle.section_steps.specs.declared.Cursor.{Cursor}
use Rattle.section_steps.specs.declared.Field.{Field}
use Rattle.section_steps.specs.Section.{Line, line_told, decoded_of}
use Rattle.section_steps.specs.declared.Line.{Line as CodeLine}
use Rattle.section_steps.specs.declared.Line.TheVariants as code
use Rattle.section_steps.proofs.Going.{Goes, line_goes}
use Rattle.section_steps.proofs.Stepping.{has_started, stays_past, same_at, same_count, same_used}

-- ---- the steps from a cursor on, by how the first one ends

module _ {R : Type 0} (make : Field → R) (k : Reader) (n : ℕ) (s : List ℕ) (c : Cursor) (fs : List R) (out : List ℕ) (l : Line)
    (e : line_of k s (length fs) (length out) c ≡ l) where
  pub read_ended : 0 < n → l.done ≡ true → read_from make k n s c fs out ≡ section_of l.decoded fs out
  unfolding read_from
  read_ended z d = go n z
    where
      go : (n : ℕ) → 0 < n → read_from make k n s c fs out ≡ section_of l.decoded fs out
      go zero z = absurd (omega arith)
      go (suc n) z = rw (e, d)

  pub read_more : 0 < n → l.done ≡ false
      → read_from make k n s c fs out ≡ read_from make k (n - 1) s l.next (set fs c.count (make l.field)) (sets out c.used (bytes_at k s c))
  unfolding read_from
  read_more z d = go n z
    where
      go : (n : ℕ) → 0 < n
          → read_from make k n s c fs out ≡ read_from make k (n - 1) s l.next (set fs c.count (make l.field)) (sets out c.used (bytes_at k s c))
      go zero z = absurd (omega arith)
      go (suc n) z =
          let h : suc n - 1 ≡ n = omega arith in
          rw (e, d, h)

-- from a cursor whose prefix gives d, as from d
module _ {R : Type 0} (make : Field → R) (k : Reader) (n : ℕ) (s : List ℕ) (c d : Cursor) (h : cursor_at k s c ≡ done d) where
  pub read_past : (fs : List R) (out : List ℕ) → read_from make k (suc n) s d fs out ≡ read_from make k (suc n) s c fs out
  unfolding read_from line_of bytes_at
  read_past fs out = rw (stays_past k s c d h d (has_started k s c d h), h, same_count k s c d h, same_used k s c d h)

pub read_unread : {R : Type 0} (make : Field → R) (k : Reader) (n : ℕ) (s : List ℕ) (c : Cursor) (r : Refusal) → cursor_at k s c ≡ refused r
    → (fs : List R) (out : List ℕ) → section_of (ended_of (Err r) c).decoded fs out ≡ read_from make k (suc n) s c fs out
unfolding read_from line_of
read_unread make k n s c r e fs out = rw e

-- ---- where the loop stands; ys and zs are the list and the buffer before

pub record Turn {R : Type 0} (make : Field → R) (k : Reader) (s : List ℕ) (ys : List R) (zs : List ℕ) : Type 0 where
  pub c : Cursor
  pub fs : List R
  pub os : List ℕ
  pub fuel : ℕ
  pub many : length fs ≡ length ys
  pub long : length os ≡ length zs
  pub here : c.started ≡ false → c.at ≡ 0
  pub some : 0 < fuel
  pub enough : length s < fuel + c.at
  pub same : read_from make k fuel s c fs os ≡ read_all make k s ys zs

module _ {R : Type 0} (make : Field → R) (k : Reader) (s : List ℕ) (ys : List R) (zs : List ℕ) where
  abbrev pub first : Turn make k s ys zs
  first =
      record {
        c = start;
        fs = ys;
        os = zs;
        fuel = suc (length s);
        many = refl;
        long = refl;
        here = λ e. refl;
        some = omega arith;
        enough = omega arith;
        same = refl;
      }

  -- a cursor past the prefix goes on as the one before it does
  abbrev pub first_past : (d : Cursor) → cursor_at k s start ≡ done d → Turn make k s ys zs
  first_past d h =
      record {
        c = d;
        fs = ys;
        os = zs;
        fuel = suc (length s);
        many = refl;
        long = refl;
        here = λ e. let on = has_started k s start d h in let z : ◌≡◌ {A = ℕ} 0 1 = cc in absurd (omega arith);
        some = omega arith;
        enough = omega arith;
        same = read_past make k (length s) s start d h ys zs;
      }

  module _ (t : Turn make k s ys zs) (l : Line) (os' : List ℕ) (e : l ≡ line_of k s (length ys) (length t.os) t.c)
      (e' : os' ≡ out_of k s t.c t.os l) where
    pub line : line_of k s (length t.fs) (length t.os) t.c ≡ l
    line = rw t.many (sym e)

    pub went : l.done ≡ false → Goes k s (length ys) t.c l
    went d = rw (← e) at (line_goes k s (length ys) (length t.os) t.c (rw e at d))

    pub ended : l.done ≡ true → section_of l.decoded t.fs os' ≡ read_all make k s ys zs
    ended d =
        let q : os' ≡ t.os = e' ∙ rw d in
        ap (section_of l.decoded t.fs) q ∙ sym (read_ended make k t.fuel s t.c t.fs t.os l line t.some d) ∙ t.same

    pub within : l.done ≡ false → t.c.count < length t.fs
    within d = omega (arith, (went d).more, t.many)

    -- a step goes forward
    pub moves : l.done ≡ false → t.c.at < l.next.at
    moves d = go t.c.started refl
      where
        g : Goes k s (length ys) t.c l
        g = went d

        go : (b : Bool) → t.c.started ≡ b → t.c.at < l.next.at
        go true q = omega (arith, g.ends.past, same_at k s t.c g.cursor g.stands q)
        go false q = omega (arith, g.ends.past, t.here q)

    pub started : l.done ≡ false → l.next.started ≡ true
    started d = let g = went d in g.started ∙ has_started k s t.c g.cursor g.stands

    abbrev pub next : l.done ≡ false → length os' ≡ length t.os → Turn make k s ys zs
    next d n =
        record {
          c = l.next;
          fs = set t.fs t.c.count (make l.field);
          os = os';
          fuel = t.fuel - 1;
          many = simp length-set t.many;
          long = n ∙ t.long;
          here = λ q. let on = started d in let z : ◌≡◌ {A = ℕ} 0 1 = cc in absurd (omega arith);
          some = omega (arith, t.enough, moves d, (went d).ends.within);
          enough = omega (arith, t.enough, t.some, moves d);
          same =
              let q : os' ≡ sets t.os t.c.used (bytes_at k s t.c) = e' ∙ rw d in
              ap (read_from make k (t.fuel - 1) s l.next (set t.fs t.c.count (make l.field))) q
              ∙ sym (read_more make k t.fuel s t.c t.fs t.os l line t.some d)
              ∙ t.same;
        }

    pub next_less : (d : l.done ≡ false) (n : length os' ≡ length t.os) → (next d n).fuel < t.fuel
    next_less d n = omega (arith, t.some)

-- ---- the same by the code's own variables

pub record Stands {R : Type 0} (make : Field → R) (k : Reader) (s : List ℕ) (ys : List R) (zs : List ℕ) (room : ℕ) (c : Cursor) (fs : List R) (os : List ℕ) : Type 0 where
  pub turn : Turn make k s ys zs
  pub is_c : turn.c ≡ c
  pub is_fs : turn.fs ≡ fs
  pub is_os : turn.os ≡ os
  pub is_room : room ≡ length ys

module _ {R : Type 0} {make : Field → R} {k : Reader} {s : List ℕ} {ys : List R} {zs : List ℕ} {room : ℕ} {c : Cursor} {fs : List R} {os : List ℕ}
    (g : Stands make k s ys zs room c fs os) (l : Line) (os' : List ℕ) (e : l ≡ line_of k s room (length os) c) (e' : os' ≡ out_of k s c os l) where
  at_turn : l ≡ line_of k s (length ys) (length g.turn.os) g.turn.c
  at_turn = e ∙ rw (g.is_room, ← g.is_os, ← g.is_c)

  out_turn : os' ≡ out_of k s g.turn.c g.turn.os l
  out_turn = e' ∙ rw (← g.is_os, ← g.is_c)

  pub stands_ended : l.done ≡ true → section_of l.decoded fs os' ≡ read_all make k s ys zs
  stands_ended d = rw (← g.is_fs) (ended make k s ys zs g.turn l os' at_turn out_turn d)

  module _ (d : l.done ≡ false) where
    pub stands_within : c.count < length fs
    stands_within = rw (← g.is_c, ← g.is_fs) (within make k s ys zs g.turn l os' at_turn out_turn d)

    pub stands_moves : (c.at < l.next.at) × (l.next.at ≤ length s)
    stands_moves =
        (rw (← g.is_c) (moves make k s ys zs g.turn l os' at_turn out_turn d), (went make k s ys zs g.turn l os' at_turn out_turn d).ends.within)

    pub stands_started : l.next.started ≡ true
    stands_started = started make k s ys zs g.turn l os' at_turn out_turn d

    pub stands_next : length os' ≡ length os → Stands make k s ys zs room l.next (set fs c.count (make l.field)) os'
    stands_next n =
        record {
          turn = next make k s ys zs g.turn l os' at_turn out_turn d (n ∙ ap length (sym g.is_os));
          is_c = refl;
          is_fs = rw (g.is_fs, g.is_c);
          is_os = refl;
          is_room = g.is_room;
        }

-- ---- the same by a step as the code has it

module _ {R : Type 0} {make : Field → R} {k : Reader} {s : List ℕ} {ys : List R} {zs : List ℕ} {room : ℕ} {c : Cursor} {fs : List R} {os : List ℕ}
    (g : Stands make k s ys zs room c fs os) (x : CodeLine) (os' : List ℕ) (e : line_told x ≡ line_of k s room (length os) c)
    (e' : os' ≡ out_of k s c os (line_told x)) where
  pub told_ended : (y : Result Unit Refusal) (d : Cursor) → x ≡ code.Ended y d → section_of (decoded_of y d) fs os' ≡ read_all make k s ys zs
  told_ended y d q =
      let h : (line_told x).done ≡ true = rw q in
      rw q at (stands_ended g (line_told x) os' e e' h)

  module _ (f : Field) (d : Cursor) (q : x ≡ code.Found f d) where
    goes_on : (line_told x).done ≡ false
    goes_on = rw q

    pub told_within : c.count < length fs
    told_within = stands_within g (line_told x) os' e e' goes_on

    pub told_moves : (c.at < d.at) × (d.at ≤ length s)
    told_moves = rw q at (stands_moves g (line_told x) os' e e' goes_on)

    pub told_started : d.started ≡ true
    told_started = rw q at (stands_started g (line_told x) os' e e' goes_on)

    pub told_next : length os' ≡ length os → Stands make k s ys zs room d (set fs c.count (make f)) os'
    told_next n = rw q at (stands_next g (line_told x) os' e e' goes_on n)
