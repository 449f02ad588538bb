-- An instruction on the entries of a closed table that keeps its rules is the model's. Assumes nothing.
use mathlib.Core.Path.{◌≡◌, refl, sym, ap, subst, ◌∙◌}
use mathlib.Core.Bool.{Bool, true, false, cond}
use mathlib.Core.List.{List, [], ◌∷◌, map}
use mathlib.Core.Option.{Option, some, none}
use Prim.Native.Nat.{ℕ, zero, suc, ◌-◌, ◌<◌}
use native.Mathlib.Omega.{arith}
use lib.ListN.{length, get_or}
use borrow.Author.Tests.{lt-ltb}
use Rattle.std.specs.Prelude.{Ok}
use Rattle.answers.specs.Answer.{Answer, done, refused}
use Rattle.answers.specs.Table.{Done, ok, replied}
use Rattle.answers.specs.declared.Refusal.{Refusal}
use Rattle.answers.specs.declared.Refusal.TheVariants.{ShrinkBlocked}
use Rattle.dynamic.specs.Calls.{with_ring, answer, no, put_by, capacity_answer, set_capacity}
use Rattle.dynamic.specs.Promise.{outcome, Keeps}
use Rattle.dynamic.specs.Record.{view, sound, usable, lowest_used}
use Rattle.dynamic.specs.declared.Replied.{Replied}
use Rattle.dynamic.specs.declared.Table.{Table}
use Rattle.dynamic.proofs.Putting.{puts_pushed}
use Rattle.dynamic.proofs.Setting.{sets_capacity, capacity_refused, capacity_blocked, capacity_cut}
use Rattle.dynamic.proofs.Sound.{facts}
use Rattle.entries.specs.Entry.{no_entry, field_of}
use Rattle.entries.proofs.Chain.{and_left, and_right}
use Rattle.instructions.specs.Instruction.{Instruction, duplicate, capacity, literal, name_ref}
use Rattle.model.specs.Drop as model-table
use Rattle.model.specs.Table as model
use Rattle.ring.specs.Ring.{live, entry_in, field_from, source_live, pushing, bytes_after, placed_bytes, cutting, Pushes, Cut}
use Rattle.ring.specs.declared.Ring.{Ring}
use Rattle.ring.specs.declared.Source.{Source}
use Rattle.ring.specs.declared.Source.TheVariants.{Given, NameOf, CopyOf}
use Rattle.ring.proofs.Keeping.{Arrays, kept, count_fields, length_live}
use Rattle.ring.proofs.Pushing.{Usable}
use Rattle.running.specs.Run.{Took}
use Rattle.running.proofs.Run.{Shows}
use Rattle.static_table.specs.Static.{no_field}
use Rattle.vas.specs.Vas.{relative_at}
use Rattle.vas.proofs.Positions.{named_below}
use Rattle.encoder_stream.specs.Entries.{static_name, kept as stays, naming, Held, holding, pushed, cut_unless, position_in, applied, took_in, entry_in as entryNamed, put_in, field_in, applied_in}
use Rattle.encoder_stream.proofs.Sources.{as_given, arrays_kept, arrays_cut}

-- what the entries and the arena stand for in a table
abbrev pub viewed : Table → Held → model.Table
viewed t x = view (with_ring x.ring t) x.arena

pub record Good (t : Table) (x : Held) : Type 0 where
  pub usable : usable (with_ring x.ring t) x.arena ≡ true
  pub arrays : Arrays x.ring

-- what a step shows
pub record Step (t : Table) (y : Took Held) (z : Took model.Table) : Type 0 where
  pub state : viewed t y.state ≡ z.state
  pub answer : y.answer ≡ z.answer
  pub good : Good t y.state

get_d_mapped : {A B : Type 0} (f : A → B) (l : List A) (n : ℕ) (a : A) (b : B) → n < length l → get_or (map f l) n b ≡ f (get_or l n a)
get_d_mapped f [] n a b h = absurd (omega arith)
get_d_mapped f (x ∷ l) zero a b h = refl
get_d_mapped f (x ∷ l) (suc n) a b h = get_d_mapped f l n a b (omega arith)

-- how many were inserted
pub counted_in : (t : Table) (a : List ℕ) → usable t a ≡ true → model.inserted_of (view t a) ≡ t.ring.inserted
unfolding view
counted_in t a h =
    let rules = (facts t (and_left (sound t) _ h)).ring in
    omega (arith, count_fields t.ring a, (kept t.ring rules).rules.order)

module _ (t : Table) (off : t.active ≡ false) (low : ℕ) (is : low ≡ lowest_used t) where
  low_with : (r : Ring) → low ≡ lowest_used (with_ring r t)
  unfolding lowest_used
  low_with r = is

  module _ (x : Held) (g : Good t x) where
    abbrev u : Table
    u = with_ring x.ring t

    refusing : (r : Refusal) → Step t (stays x r) (stays (viewed t x) r)
    refusing r = record { state = refl; answer = refl; good = g }

    pushes : (s : Source) (n v : List ℕ) → source_live x.ring s ≡ true
        → Step t (pushed low x s n v)
        (put_in (viewed t x) (field_from x.ring x.arena s n v).name (field_from x.ring x.arena s n v).value)
    unfolding pushed
    pushes s n v there =
        let f = field_from x.ring x.arena s n v in
        let p = pushing x.ring x.arena low s n v in
        let b = bytes_after p.push x.arena (placed_bytes x.ring x.arena s n v) in
        let enough : Usable x.ring x.arena s =
        record { rules = (facts u (and_left (sound u) _ g.usable)).ring; long = and_right (sound u) _ g.usable; there = there } in
        let w : Pushes x.ring x.arena b low s n v p = record { next = refl; bytes = refl } in
        let v' : Pushes x.ring x.arena b (lowest_used u) Given f.name f.value p =
        subst (λ (k : ℕ). Pushes x.ring x.arena b k Given f.name f.value p) (low_with x.ring)
        (as_given x.ring x.arena low s n v enough b p w) in
        let did = puts_pushed u x.arena f.name f.value g.usable off g.arrays b p v' {r = put_by u p} refl in
        let shown = did.model g.usable in
        record {
          state = ap (λ (z : model.Step Done). z.next) shown;
          answer = ap (λ (z : model.Step Done). z.answer) shown;
          good = record { usable = did.kept g.usable; arrays = arrays_kept x.ring x.arena low s n v g.arrays };
        }

    -- ---- a live entry, by its index

    pub counted : model.inserted_of (viewed t x) ≡ x.ring.inserted
    counted = counted_in u x.arena g.usable

    same_entry : (i : ℕ) → position_in x i ≡ entryNamed (viewed t x) i
    unfolding view
    same_entry i = ap (λ (m : ℕ). relative_at m x.ring.dropped i) (sym counted)

    -- the field at a position
    field_there : (p : ℕ) → p < x.ring.inserted - x.ring.dropped
        → field_of x.arena (entry_in x.ring p) ≡ field_in (viewed t x) p
    unfolding view
    field_there p h = sym (get_d_mapped (field_of x.arena) (live x.ring) p no_entry no_field (rw (length_live x.ring) h))

    naming_step : {A : Type 0} (n : Answer A) (f : A → Took Held) (h : A → Took model.Table)
        → ((a : A) → n ≡ done a → Step t (f a) (h a)) → Step t (naming x n f) (naming (viewed t x) n h)
    naming_step (done a) f h w = w a refl
    naming_step (refused r) f h w = refusing r

    -- ---- a capacity

    module _ (c : ℕ) where
      rules : sound u ≡ true
      rules = and_left (sound u) _ g.usable

      keeps : Keeps u (set_capacity u c) (set_capacity u c) (λ m. model-table.set_capacity m c)
      keeps = sets_capacity u g.arrays c refl

      shown : (y : Replied) → y ≡ set_capacity u c
          → outcome y.table x.arena (replied y.reply) ≡ model-table.set_capacity (viewed t x) c
      shown y e = ap (λ (z : Replied). outcome z.table x.arena (replied z.reply)) e ∙ keeps.model rules x.arena

      -- what the call on the table does is what is done to the entries
      steps : (y : Replied) (r : Ring) → y ≡ set_capacity u c → y.table ≡ with_ring r t → Arrays r
          → Step t (record { state = holding r x.arena; answer = replied y.reply }) (took_in (model-table.set_capacity (viewed t x) c))
      steps y r e q w =
          let sounds : sound (with_ring r t) ≡ true = ap sound (sym q ∙ ap (λ (z : Replied). z.table) e) ∙ keeps.kept rules in
          record {
            state = ap (λ (z : Table). view z x.arena) (sym q) ∙ ap (λ (z : model.Step Done). z.next) (shown y e);
            answer = ap (λ (z : model.Step Done). z.answer) (shown y e);
            good = record { usable = rw (sounds, and_right (sound u) _ g.usable); arrays = w };
          }

      cut : Cut
      cut = cutting x.ring low c

      cut_is : cut ≡ cutting x.ring (lowest_used u) c
      unfolding cut
      cut_is = ap (λ (k : ℕ). cutting x.ring k c) (low_with x.ring)

      cuts : Step t (cut_unless low x c (capacity_answer c)) (took_in (model-table.set_capacity (viewed t x) c))
      unfolding cut
      cuts = go (capacity_answer c) refl
        where
          made : none ≡ capacity_answer c → (b : Bool) → cut.made ≡ b
              → Step t
              (cond b (record { state = holding cut.ring x.arena; answer = done ok }) (stays x ShrinkBlocked))
              (took_in (model-table.set_capacity (viewed t x) c))
          made e true q =
              steps (answer (with_ring cut.ring u) (Ok tt)) cut.ring (capacity_cut u c rules off cut cut_is e q) refl
              (arrays_cut x.ring low c g.arrays)
          made e false q = steps (no u ShrinkBlocked) x.ring (capacity_blocked u c rules off cut cut_is e q) refl g.arrays

          go : (o : Option Refusal) → capacity_answer c ≡ o → Step t (cut_unless low x c o) (took_in (model-table.set_capacity (viewed t x) c))
          go (some w) e = steps (no u w) x.ring (capacity_refused u c rules off w (sym e)) refl g.arrays
          go none e = made (sym e) cut.made refl

    -- ---- every instruction

    steps_on : (i : Instruction) → Step t (applied low x i) (applied_in (viewed t x) i)
    unfolding applied applied_in field_from
    steps_on (duplicate i) =
        rw (← same_entry i)
        (naming_step (position_in x i) _ _
        (λ p e. let near = named_below x.ring.inserted x.ring.dropped (x.ring.inserted - i) p e in
        rw (← field_there p near) (pushes (CopyOf p) [] [] (lt-ltb _ _ near))))
    steps_on (capacity c) = cuts c
    steps_on (literal n v) = pushes Given n v refl
    steps_on (name_ref true i v) = naming_step (static_name i) _ _ (λ n e. pushes Given n v refl)
    steps_on (name_ref false i v) =
        rw (← same_entry i)
        (naming_step (position_in x i) _ _
        (λ p e. let near = named_below x.ring.inserted x.ring.dropped (x.ring.inserted - i) p e in
        rw (← field_there p near) (pushes (NameOf p) [] v (lt-ltb _ _ near))))

  pub shows : Shows (viewed t) (Good t) (applied low) applied_in
  shows =
      record {
        state = λ x g i. (steps_on x g i).state;
        answer = λ x g i. (steps_on x g i).answer;
        good = λ x g i. (steps_on x g i).good;
      }
