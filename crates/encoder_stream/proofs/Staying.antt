-- "A refusal changes nothing": an instruction that is refused leaves the entries and the arena. Assumes nothing.
use mathlib.Core.Path.{◌≡◌, refl}
use mathlib.Core.Bool.{Bool, true, false, cond}
use mathlib.Core.List.{List, []}
use mathlib.Core.Option.{Option, some, none}
use Prim.Native.Nat.{ℕ, ◌-◌}
use native.Mathlib.Omega.{arith}
use lib.Dec.{ltb}
use lib.ListN.{length}
use Rattle.answers.specs.Answer.{Answer, done, refused}
use Rattle.answers.specs.Table.{Done, ok, replied}
use Rattle.answers.specs.declared.Refusal.{Refusal}
use Rattle.answers.specs.declared.Refusal.TheVariants.{ShrinkBlocked}
use Rattle.dynamic.specs.Calls.{capacity_answer, push_reply}
use Rattle.field.specs.Field.{Field, size_of}
use Rattle.instructions.specs.Instruction.{Instruction, duplicate, capacity, literal, name_ref}
use Rattle.ring.specs.Ring.{largest_count, room_in, field_from, pushable, pushed_by, pushed as pushedTo, pushing, bytes_after, placed_bytes, cutting, Cut}
use Rattle.ring.specs.declared.Push.TheVariants.{Made, TooLarge, NoRoom, Full, BadCall}
use Rattle.ring.specs.declared.Pushed.{Pushed}
use Rattle.ring.specs.declared.Source.{Source}
use Rattle.ring.specs.declared.Source.TheVariants.{Given, NameOf, CopyOf}
use Rattle.running.specs.Run.{Took}
use Rattle.encoder_stream.specs.Entries.{static_name, kept, naming, Held, pushed, cut_by, cut_unless, position_in, applied}

-- a refusal where there is none
no_refusal : {A : Type 0} (r : Refusal) → ◌≡◌ {A = Answer Done} (done ok) (refused r) → A
no_refusal r h = let z : ◌≡◌ {A = ℕ} 0 1 = cc in absurd (omega arith)

module _ (low : ℕ) (x : Held) where
  -- only a push that is made changes the entries
  module _ (s : Source) (n v : List ℕ) where
    abbrev f : Field
    f = field_from x.ring x.arena s n v

    abbrev by_tests : Bool → Bool → Bool → Bool → Pushed
    by_tests can over made few =
        cond can
        (cond over
        (pushedTo x.ring TooLarge)
        (cond made
        (cond few
        (pushedTo (pushed_by x.ring (room_in x.ring low (x.ring.capacity - size_of f)) (length f.name) (length f.value)) Made)
        (pushedTo x.ring Full))
        (pushedTo x.ring NoRoom)))
        (pushedTo x.ring BadCall)

    abbrev took_by : Pushed → Took Held
    took_by p =
        record {
          state = record { ring = p.ring; arena = bytes_after p.push x.arena (placed_bytes x.ring x.arena s n v) };
          answer = replied (push_reply x.ring.capacity p.push);
        }

    pub pushed_stays : (r : Refusal) → (pushed low x s n v).answer ≡ refused r → (pushed low x s n v).state ≡ x
    unfolding pushed pushing field_from push_reply
    pushed_stays r h =
        go
        (pushable x.ring x.arena s)
        (ltb x.ring.capacity (size_of f))
        (room_in x.ring low (x.ring.capacity - size_of f)).made
        (ltb x.ring.inserted largest_count)
        h
      where
        go : (can over made few : Bool) → (took_by (by_tests can over made few)).answer ≡ refused r → (took_by (by_tests can over made few)).state ≡ x
        go false over made few h = refl
        go true true made few h = refl
        go true false false few h = refl
        go true false true false h = refl
        go true false true true h = no_refusal r h

  cut_stays : (c : Cut) (r : Refusal) → (cut_by x c).answer ≡ refused r → (cut_by x c).state ≡ x
  cut_stays c r h = go c.made h
    where
      go : (b : Bool) → (cond b (record { state = record { ring = c.ring; arena = x.arena }; answer = done ok }) (kept x ShrinkBlocked)).answer ≡ refused r
          → (cond b (record { state = record { ring = c.ring; arena = x.arena }; answer = done ok }) (kept x ShrinkBlocked)).state ≡ x
      go true h = no_refusal r h
      go false h = refl

  capacity_stays : (c : ℕ) (o : Option Refusal) (r : Refusal) → (cut_unless low x c o).answer ≡ refused r → (cut_unless low x c o).state ≡ x
  capacity_stays c (some w) r h = refl
  capacity_stays c none r h = cut_stays (cutting x.ring low c) r h

  naming_stays : {A : Type 0} (n : Answer A) (go : A → Took Held) (r : Refusal)
      → ((a : A) → (go a).answer ≡ refused r → (go a).state ≡ x) → (naming x n go).answer ≡ refused r → (naming x n go).state ≡ x
  naming_stays (done a) go r w h = w a h
  naming_stays (refused q) go r w h = refl

  pub refused_stays : (i : Instruction) (r : Refusal) → (applied low x i).answer ≡ refused r → (applied low x i).state ≡ x
  unfolding applied
  refused_stays (duplicate i) r h = naming_stays (position_in x i) _ r (λ p. pushed_stays (CopyOf p) [] [] r) h
  refused_stays (capacity c) r h = capacity_stays c (capacity_answer c) r h
  refused_stays (literal n v) r h = pushed_stays Given n v r h
  refused_stays (name_ref true i v) r h = naming_stays (static_name i) _ r (λ n. pushed_stays Given n v r) h
  refused_stays (name_ref false i v) r h = naming_stays (position_in x i) _ r (λ p. pushed_stays (NameOf p) [] v r) h
