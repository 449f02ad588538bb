-- A put: what it is in the model by what its push did, and that the rules are kept. Assumes nothing.
use mathlib.Core.Path.{◌≡◌, refl, sym, ap, ◌∙◌}
use mathlib.Core.Bool.{Bool, true, false, cond}
use mathlib.Core.List.{List, ◌++◌}
use mathlib.Core.Option.{Option, some, none}
use Prim.Native.Nat.{ℕ, ◌≤◌, ◌<◌}
use native.Mathlib.Omega.{arith}
use lib.Dec.{leb, ltb, eqb}
use borrow.Author.Tests.{le-ltb, lt-ltb, ltb-true, ltb-false, leb-true, leb-false, ne_eqb}
use Rattle.std.specs.Prelude.{Ok, Err}
use Rattle.answers.specs.Answer.{done}
use Rattle.answers.specs.Table.{Done, ok}
use Rattle.answers.specs.declared.Refusal.{Refusal}
use Rattle.answers.specs.declared.Refusal.TheVariants.{MaxTableSizeReached, SectionOpen}
use Rattle.arena.specs.Ring.{long_enough, ring_write}
use Rattle.entries.proofs.Chain.{and_left, and_right}
use Rattle.field.specs.Field.{Field, size_of}
use Rattle.model.specs.Drop as drops
use Rattle.model.specs.Table as model
use Rattle.ring.specs.Ring.{largest_count, free_below, field_from, placed_bytes, making, Pushes}
use Rattle.ring.specs.declared.Push.{Push}
use Rattle.ring.specs.declared.Push.TheVariants.{Made, TooLarge, NoRoom, Full}
use Rattle.ring.specs.declared.Pushed.{Pushed}
use Rattle.ring.specs.declared.Ring.{Ring}
use Rattle.ring.specs.declared.Source.TheVariants.{Given}
use Rattle.ring.proofs.Growing.{Grown}
use Rattle.ring.proofs.Keeping.{Arrays, kept, count_fields}
use Rattle.ring.proofs.Making.{makes}
use Rattle.ring.proofs.Pushing.{Usable, Stays, push_too_large, push_no_room, push_full, push_made, push_grown}
use Rattle.dynamic.specs.Calls.{with_ring, answer, no, admitting_with, push_reply, put_by, put, bytes_after}
use Rattle.dynamic.specs.Promise.{Puts}
use Rattle.dynamic.specs.Record.{view, sound, usable, lowest_used}
use Rattle.dynamic.specs.declared.Replied.{Replied}
use Rattle.dynamic.specs.declared.Table.{Table}
use Rattle.dynamic.proofs.Free.{same_making, still_above}
use Rattle.dynamic.proofs.Setting.{step_of}
use Rattle.dynamic.proofs.Sound.{Sound, facts, is_sound}
use Rattle.dynamic.proofs.Staying.{closed_stays}
use Rattle.dynamic.proofs.Steps.{closed_with_refused}

-- ---- in the model, for a closed table

module _ (u : model.Table) (f : Field) (off : u.section ≡ none) where
  closes : (x : model.Step Done) (o : Option model.Open) → o ≡ none → drops.closed u o x ≡ x
  closes x o e = rw e

  model_too_large : u.capacity < size_of f
      → drops.put u f ≡ cond (eqb u.capacity 0) (record { next = u; answer = done ok }) (model.refuse u MaxTableSizeReached)
  unfolding drops.put
  model_too_large h = closes _ u.section off ∙ rw (lt-ltb u.capacity (size_of f) h)

  model_fits : size_of f ≤ u.capacity → drops.put u f ≡ drops.put_after u f (drops.making u (size_of f))
  unfolding drops.put
  model_fits h =
      closes _ u.section off ∙ rw (ne_eqb u.capacity 0 (λ e. omega arith), le-ltb u.capacity (size_of f) h)

module _ (t : Table) (a n v : List ℕ) where
  abbrev new : Field
  new = record { name = n; value = v }

  -- the strings stay where nothing was inserted
  same_bytes : a ≡ bytes_after t t a n v
  same_bytes = rw (le-ltb t.ring.inserted t.ring.inserted (omega arith))

  -- ---- refusals

  pub puts_refused : (why : Refusal) → admitting_with t a false ≡ Err why → Puts t a a (put t a n v) (no t why) n v
  unfolding put drops.put view
  puts_refused why e =
      record {
        next = closed_with_refused t (no t) _ why a e;
        bytes = same_bytes;
        model = λ u. go t.active refl (and_left (sound t) _ u) (and_right (sound t) _ u) e;
        kept = λ u. u;
      }
    where
      go : (on : Bool) → t.active ≡ on → sound t ≡ true → long_enough a ≡ true → admitting_with t a false ≡ Err why
          → step_of (no t why) a ≡ drops.put (view t a) new
      go true o h l e =
          let w : why ≡ SectionOpen = (let x = rw (l, h, o) at e in cc) in
          rw (w, o)
      go false o h l e = let x = rw (l, h, o) at e in let z : ◌≡◌ {A = ℕ} 0 1 = cc in absurd (omega arith)

  -- ---- in a closed table that keeps its rules

  module _ (s : Sound t) (off : t.active ≡ false) where
    abbrev called : model.Step Done
    called = drops.put (view t a) new

    none_open : (view t a).section ≡ none
    unfolding view
    none_open = rw off

    put_too_large : t.ring.capacity < size_of new → step_of (answer t (push_reply t.ring.capacity TooLarge)) a ≡ called
    unfolding view push_reply
    put_too_large h = go (eqb t.ring.capacity 0) ∙ sym (model_too_large (view t a) new none_open h)
      where
        go : (b : Bool) → step_of (answer t (cond b (Ok tt) (Err MaxTableSizeReached))) a
            ≡ cond b (record { next = view t a; answer = done ok }) (model.refuse (view t a) MaxTableSizeReached)
        go true = refl
        go false = refl

    put_fits : size_of new ≤ t.ring.capacity → called ≡ drops.put_after (view t a) new (making t.ring (lowest_used t) (size_of new))
    unfolding view
    put_fits h =
        model_fits (view t a) new none_open h ∙ ap (drops.put_after (view t a) new) (same_making t s a (size_of new))

    put_no_room : size_of new ≤ t.ring.capacity → making t.ring (lowest_used t) (size_of new) ≡ none
        → step_of (answer t (push_reply t.ring.capacity NoRoom)) a ≡ called
    unfolding push_reply
    put_no_room h q = sym (put_fits h ∙ ap (drops.put_after (view t a) new) q)

    counted : model.inserted_of (view t a) ≡ t.ring.inserted
    unfolding view
    counted = omega (arith, count_fields t.ring a, (kept t.ring s.ring).rules.order)

    module _ (k : ℕ) (q : making t.ring (lowest_used t) (size_of new) ≡ some k) where
      put_some : called ≡ drops.put_after (view t a) new (some k)
      put_some = put_fits (makes t.ring (lowest_used t) (size_of new) k q).fits ∙ ap (drops.put_after (view t a) new) q

      put_full : largest_count ≤ t.ring.inserted → step_of (answer t (push_reply t.ring.capacity Full)) a ≡ called
      unfolding push_reply
      put_full h =
          let over : ltb (model.inserted_of (view t a)) largest_count ≡ false = le-ltb (model.inserted_of (view t a)) largest_count (rw counted h) in
          sym (put_some ∙ rw over)

      put_made : t.ring.inserted < largest_count → (next : Ring) (b : List ℕ) → Grown t.ring a k new next b
          → step_of (answer (with_ring next t) (push_reply t.ring.capacity Made)) b ≡ called
      unfolding view push_reply
      put_made h next b g =
          let under : ltb (model.inserted_of (view t a)) largest_count ≡ true = lt-ltb (model.inserted_of (view t a)) largest_count (rw counted h) in
          let grows : view (with_ring next t) b ≡ drops.with_field new (drops.without k (view t a)) = rw (g.fields, g.dropped, g.capacity) in
          rw grows (sym (put_some ∙ rw under))

  -- ---- by what the push did

  record Did (b : List ℕ) (p : Pushed) : Type 0 where
    bytes : b ≡ bytes_after t (with_ring p.ring t) a n v
    model : step_of (put_by t p) b ≡ drops.put (view t a) new
    rules : usable (with_ring p.ring t) b ≡ true

  module _ (h : usable t a ≡ true) (off : t.active ≡ false) (arrays : Arrays t.ring) (b : List ℕ) (p : Pushed)
      (w : Pushes t.ring a b (lowest_used t) Given n v p) where
    is : Sound t
    is = facts t (and_left (sound t) _ h)

    enough : Usable t.ring a Given
    enough = record { rules = is.ring; long = and_right (sound t) _ h; there = refl }

    stayed : (x : Push) → Stays t.ring a b p x → step_of (answer t (push_reply t.ring.capacity x)) a ≡ drops.put (view t a) new → Did b p
    stayed x y m =
        record {
          bytes = rw (y.same, y.bytes) same_bytes;
          model = rw (y.answer, y.same, y.bytes) m;
          rules = rw (y.same, y.bytes) h;
        }

    grew : (k : ℕ) → making t.ring (lowest_used t) (size_of new) ≡ some k → t.ring.inserted < largest_count → Did b p
    unfolding field_from placed_bytes
    grew k q more =
        let g : Grown t.ring a k new p.ring b = push_grown enough w k q more arrays in
        let made : p.push ≡ Made = push_made enough w k q more in
        let written : b ≡ ring_write a t.ring.head (n ++ v) = rw made at w.bytes in
        let free : k ≤ free_below t.ring (lowest_used t) = (makes t.ring (lowest_used t) (size_of new) k q).fewest.allowed in
        let stays = closed_stays t is p.ring (omega (arith, g.inserted)) (λ x z. omega (arith, g.dropped, still_above t is k x free z)) g.rules off in
        record {
          bytes = rw (lt-ltb t.ring.inserted p.ring.inserted (omega (arith, g.inserted))) written;
          model = rw made (put_made is off k q more p.ring b g);
          rules = rw (is_sound _ stays, g.long);
        }

    did : Did b p
    unfolding field_from
    did = go (making t.ring (lowest_used t) (size_of new)) refl
      where
        some_go : (k : ℕ) → making t.ring (lowest_used t) (size_of new) ≡ some k → (c : Bool) → ltb t.ring.inserted largest_count ≡ c → Did b p
        some_go k q true e = grew k q (ltb-true _ _ e)
        some_go k q false e =
            let full = ltb-false t.ring.inserted largest_count e in
            stayed Full (push_full enough w k q full) (put_full is off k q full)

        none_go : making t.ring (lowest_used t) (size_of new) ≡ none → (c : Bool) → leb (size_of new) t.ring.capacity ≡ c → Did b p
        none_go q true e =
            let fits = leb-true (size_of new) t.ring.capacity e in
            stayed NoRoom (push_no_room enough w fits (rw e at q)) (put_no_room is off fits q)
        none_go q false e =
            let large = leb-false (size_of new) t.ring.capacity e in
            stayed TooLarge (push_too_large enough w large) (put_too_large is off large)

        go : (o : Option ℕ) → making t.ring (lowest_used t) (size_of new) ≡ o → Did b p
        go (some k) q = some_go k q _ refl
        go none q = none_go q _ refl

    exact : put_by t p ≡ put t a n v
    unfolding put
    exact = rw (h, ← w.next, off)

    pub puts_pushed : {r : Replied} → r ≡ put_by t p → Puts t a b (put t a n v) r n v
    puts_pushed e =
        record {
          next = e ∙ exact;
          bytes = rw e did.bytes;
          model = λ _. rw e did.model;
          kept = λ _. rw e did.rules;
        }
