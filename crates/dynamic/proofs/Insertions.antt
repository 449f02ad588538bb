-- An insert to the last field is an insert in the model, and keeps the rules; and its answer by the tests. Assumes nothing.
use mathlib.Core.Path.{◌≡◌, refl}
use mathlib.Core.Bool.{Bool, true, false, cond}
use mathlib.Core.List.{List}
use mathlib.Core.Option.{Option, some, none}
use Prim.Native.Nat.{ℕ}
use lib.Dec.{leb}
use lib.ListN.{length}
use Rattle.std.specs.Prelude.{Err}
use Rattle.answers.specs.declared.Refusal.{Refusal}
use Rattle.answers.specs.declared.Refusal.TheVariants.{NoSection}
use Rattle.arena.specs.Ring.{long_enough}
use Rattle.entries.specs.declared.Room.{Room}
use Rattle.entries.proofs.Chain.{and_left, and_right}
use Rattle.field.specs.Field.{size_of}
use Rattle.model.specs.Drop as drops
use Rattle.model.specs.Insert as model
use Rattle.model.specs.Section as sections
use Rattle.model.specs.Table.{Open, blocked_count}
use Rattle.ring.specs.Ring.{room_for, making}
use Rattle.ring.proofs.Making.{room_after, room_for_some, room_for_none}
use Rattle.blocked.specs.Waiting.{waiting_of}
use Rattle.blocked.proofs.Blocked.{waiting_count}
use Rattle.dynamic.specs.Calls.{admitting_with, inserting, not_inserted, made, made_or, insert_open, insert, bytes_after}
use Rattle.dynamic.specs.Promise.{Inserts}
use Rattle.dynamic.specs.Record.{Shape, view, sound, usable, lowest_used}
use Rattle.dynamic.specs.declared.Inserting.{Inserting}
use Rattle.dynamic.specs.declared.Table.{Table}
use Rattle.dynamic.proofs.Finding.{open_here}
use Rattle.dynamic.proofs.Free.{same_making}
use Rattle.dynamic.proofs.Made.{new, Answers, unmade_answers, refused_answers, made_answers}
use Rattle.dynamic.proofs.Sound.{Sound, facts}
use Rattle.dynamic.proofs.Steps.{open_with_refused}
use Rattle.dynamic.proofs.Unmade.{unmade}

-- ---- the answer by the tests

module _ (t : Table) (a n v : List ℕ) where
  pub insert_refused : (why : Refusal) → admitting_with t a true ≡ Err why → inserting t (Err why) ≡ insert t a n v
  unfolding insert
  insert_refused why e = open_with_refused t (λ (w : Refusal). inserting t (Err w)) _ why a e

  pub insert_opened : sound t ≡ true → long_enough a ≡ true → t.active ≡ true → insert_open t a n v ≡ insert t a n v
  unfolding insert
  insert_opened rules long active = rw (rules, long, active)

  -- as many are blocked as may be
  pub enter_blocked : leb t.most t.waiting.total ≡ true → not_inserted t a n v ≡ insert_open t a n v
  enter_blocked h = rw h

  module _ (under : leb t.most t.waiting.total ≡ false) (r : Room) (e : r ≡ room_for t.ring (lowest_used t) (length n) (length v)) where
    pub enter_no_room : r.made ≡ false → not_inserted t a n v ≡ insert_open t a n v
    enter_no_room h = rw (← e, under, h)

    pub enter_room : r.made ≡ true → made t r a n v ≡ insert_open t a n v
    enter_room h = rw (← e, under, h)

-- ---- in the model

module _ (t : Table) (a n v : List ℕ) (shape : Shape t) (u : usable t a ≡ true) where
  rules : sound t ≡ true
  rules = and_left (sound t) _ u

  long : long_enough a ≡ true
  long = and_right (sound t) _ u

  s : Sound t
  s = facts t rules

  module _ (active : t.active ≡ true) where
    not_made : Answers t a n v (not_inserted t a n v) (model.not_inserted (view t a) (open_here t) n)
    not_made = unmade_answers t a n v _ _ long (unmade t a n v rules active shape.uses)

    room_answers : (o : Option ℕ) → making t.ring (lowest_used t) (size_of (new t a n v)) ≡ o
        → Answers t a n v (made_or t (room_for t.ring (lowest_used t) (length n) (length v)) a n v)
        (model.made_or (view t a) (open_here t) (new t a n v) o)
    room_answers none q = rw (room_for_none t.ring s.ring (lowest_used t) (length n) (length v) q) not_made
    room_answers (some k) q =
        rw (room_for_some t.ring s.ring (lowest_used t) (length n) (length v) k q)
        (made_answers t a n v s shape long k q active (room_after t.ring k) refl)

    open_answers : Answers t a n v (insert_open t a n v)
        (cond (leb t.most (blocked_count (waiting_of t.waiting)))
        (model.not_inserted (view t a) (open_here t) n)
        (model.made_or (view t a) (open_here t) (new t a n v) (drops.making (view t a) (size_of (new t a n v)))))
    open_answers =
        rw (waiting_count t.waiting s.waiting, same_making t s a (size_of (new t a n v))) (go (leb t.most t.waiting.total))
      where
        go : (b : Bool) → Answers t a n v
            (cond b (not_inserted t a n v) (made_or t (room_for t.ring (lowest_used t) (length n) (length v)) a n v))
            (cond b (model.not_inserted (view t a) (open_here t) n)
            (model.made_or (view t a) (open_here t) (new t a n v) (making t.ring (lowest_used t) (size_of (new t a n v)))))
        go true = not_made
        go false = room_answers (making t.ring (lowest_used t) (size_of (new t a n v))) refl

  insert_answers : Answers t a n v (insert t a n v) (model.insert (view t a) (new t a n v))
  unfolding insert model.insert view
  insert_answers = rw (rules, long) (go t.active refl)
    where
      go : (b : Bool) → t.active ≡ b
          → Answers t a n v (cond b (insert_open t a n v) (inserting t (Err NoSection)))
          (sections.in_section (view t a) (cond b (some (open_here t)) none) (λ (o : Open).
          cond (leb t.most (blocked_count (waiting_of t.waiting)))
          (model.not_inserted (view t a) o n)
          (model.made_or (view t a) o (new t a n v) (drops.making (view t a) (size_of (new t a n v))))))
      go true h = open_answers h
      go false h = refused_answers t a n v NoSection rules long

pub inserts : (t : Table) (a b n v : List ℕ) (r : Inserting) → Shape t → r ≡ insert t a n v → b ≡ bytes_after t r.table a n v
    → Inserts t a b n v r
inserts t a b n v r shape e f =
    record {
      next = e;
      bytes = f;
      model = λ u. rw (f, e) (insert_answers t a n v shape u).model;
      kept = λ u. rw (f, e) (insert_answers t a n v shape u).kept;
    }
