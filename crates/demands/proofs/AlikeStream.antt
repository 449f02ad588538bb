-- A call on the encoder stream, on two arenas that agree on the live strings. Assumes nothing.
use mathlib.Core.Path.{◌≡◌, refl, sym, ap, ◌∙◌}
use mathlib.Core.Bool.{Bool, true, false, ◌&&◌, cond}
use mathlib.Core.List.{List, []}
use mathlib.Core.Option.{Option, some, none}
use Prim.Native.Nat.{ℕ}
use lib.Dec.{leb}
use lib.ListN.{length}
use Rattle.answers.specs.Answer.{Answer, done, refused}
use Rattle.answers.specs.Table.{ok, replied}
use Rattle.answers.specs.declared.Refusal.{Refusal}
use Rattle.answers.specs.declared.Refusal.TheVariants.{SectionOpen, ShrinkBlocked, BadCall}
use Rattle.arena.specs.Ring.{long_enough}
use Rattle.dynamic.specs.Calls.{with_ring, capacity_answer, push_reply}
use Rattle.dynamic.specs.Record.{view, sound, usable, lowest_used}
use Rattle.dynamic.specs.declared.Table.{Table}
use Rattle.encoder_stream.specs.Entries.{Held, holding, kept, naming, static_name, pushed, cut_unless, position_in, applied, applied_in}
use Rattle.encoder_stream.specs.Stream as stream
use Rattle.encoder_stream.proofs.Modelled.{viewed, Good, shows}
use Rattle.entries.proofs.Chain.{and_right}
use Rattle.instructions.specs.Instruction.{Instruction, duplicate, capacity, literal, name_ref, instruction_at}
use Rattle.model.specs.Table as model
use Rattle.ring.specs.Ring.{fields_of, cutting}
use Rattle.ring.specs.declared.Pushed.{Pushed}
use Rattle.ring.specs.declared.Ring.{Ring}
use Rattle.ring.specs.declared.Source.{Source}
use Rattle.ring.specs.declared.Source.TheVariants.{Given, NameOf, CopyOf}
use Rattle.ring.proofs.Keeping.{Arrays}
use Rattle.running.specs.Run.{Took, Ended, ends, run_all}
use Rattle.running.proofs.Run.{seen, Shows, run_shown, run_good}
use Rattle.demands.proofs.Arenas.{same_push}

-- ---- one instruction: the ring that it makes and its answer are the same in every arena that is long enough

record SameRing (x y : Took Held) : Type 0 where
  ring : x.state.ring ≡ y.state.ring
  answer : x.answer ≡ y.answer

module _ (low : ℕ) (r : Ring) (a b : List ℕ) (long : long_enough a ≡ long_enough b) where
  pushed_same : (s : Source) (n v : List ℕ) → SameRing (pushed low (holding r a) s n v) (pushed low (holding r b) s n v)
  unfolding pushed
  pushed_same s n v =
      let e = same_push r a b low s n v long in
      record {
        ring = ap (λ (p : Pushed). p.ring) e;
        answer = ap (λ (p : Pushed). replied (push_reply r.capacity p.push)) e;
      }

  cut_same : (c : ℕ) (o : Option Refusal) → SameRing (cut_unless low (holding r a) c o) (cut_unless low (holding r b) c o)
  cut_same c (some w) = record { ring = refl; answer = refl }
  cut_same c none = go (cutting r low c).made
    where
      cut : List ℕ → Bool → Took Held
      cut d made =
          cond made (record { state = holding (cutting r low c).ring d; answer = done ok }) (kept (holding r d) ShrinkBlocked)

      go : (made : Bool) → SameRing (cut a made) (cut b made)
      go true = record { ring = refl; answer = refl }
      go false = record { ring = refl; answer = refl }

  naming_same : {A : Type 0} (n : Answer A) (f g : A → Took Held) → ((x : A) → SameRing (f x) (g x))
      → SameRing (naming (holding r a) n f) (naming (holding r b) n g)
  naming_same (done x) f g w = w x
  naming_same (refused w) f g h = record { ring = refl; answer = refl }

  applied_same : (i : Instruction) → SameRing (applied low (holding r a) i) (applied low (holding r b) i)
  unfolding applied
  applied_same (duplicate i) = naming_same (position_in (holding r a) i) _ _ (λ p. pushed_same (CopyOf p) [] [])
  applied_same (capacity c) = cut_same c (capacity_answer c)
  applied_same (literal n v) = pushed_same Given n v
  applied_same (name_ref true i v) = naming_same (static_name i) _ _ (λ n. pushed_same Given n v)
  applied_same (name_ref false i v) = naming_same (position_in (holding r a) i) _ _ (λ p. pushed_same (NameOf p) [] v)

-- ---- a whole call

abbrev ring_of : Held → Ring
ring_of x = x.ring

-- where two calls end
pub record AlikeEnd (x y : Ended Held) : Type 0 where
  -- the ring, the bytes consumed and the answer
  pub told : seen ring_of x ≡ seen ring_of y
  pub long : long_enough x.state.arena ≡ long_enough y.state.arena
  pub strings : fields_of x.state.ring x.state.arena ≡ fields_of y.state.ring y.state.arena

module _ (t : Table) (arrays : Arrays t.ring) (a b s : List ℕ) (long : long_enough a ≡ long_enough b)
    (same : fields_of t.ring a ≡ fields_of t.ring b) where
  module _ (h : usable t a ≡ true) (off : t.active ≡ false) where
    abbrev low : ℕ
    low = lowest_used t

    -- the ring alone, with the first arena
    abbrev on_ring : Ring → Instruction → Took Ring
    on_ring r i = record { state = (applied low (holding r a) i).state.ring; answer = (applied low (holding r a) i).answer }

    long_of : (x : Held) → Good t x → long_enough x.arena ≡ long_enough a
    long_of x g = and_right (sound (with_ring x.ring t)) _ g.usable ∙ sym (and_right (sound t) _ h)

    shows_ring : Shows ring_of (Good t) (applied low) on_ring
    shows_ring =
        record {
          state = λ x g i. (applied_same low x.ring x.arena a (long_of x g) i).ring;
          answer = λ x g i. (applied_same low x.ring x.arena a (long_of x g) i).answer;
          good = (shows t off low refl).good;
        }

    abbrev ended : List ℕ → Ended Held
    ended c = run_all instruction_at (applied low) s (stream.held_by t c)

    first : Good t (stream.held_by t a)
    first = record { usable = h; arrays = arrays }

    second : Good t (stream.held_by t b)
    second = record { usable = ap (λ (l : Bool). sound t && l) (sym long) ∙ h; arrays = arrays }

    ring_seen : (c : List ℕ) → Good t (stream.held_by t c) → seen ring_of (ended c) ≡ run_all instruction_at on_ring s t.ring
    ring_seen c g = run_shown ring_of (Good t) (applied low) on_ring shows_ring instruction_at s (length s) 0 (stream.held_by t c) g

    model_seen : (c : List ℕ) → Good t (stream.held_by t c)
        → seen (viewed t) (ended c) ≡ run_all instruction_at applied_in s (viewed t (stream.held_by t c))
    model_seen c g =
        run_shown (viewed t) (Good t) (applied low) applied_in (shows t off low refl) instruction_at s (length s) 0 (stream.held_by t c) g

    good_end : (c : List ℕ) → Good t (stream.held_by t c) → Good t (ended c).state
    good_end c g =
        run_good (viewed t) (Good t) (applied low) applied_in (shows t off low refl) instruction_at s (length s) 0 (stream.held_by t c) g

    view_same : viewed t (stream.held_by t a) ≡ viewed t (stream.held_by t b)
    unfolding view
    view_same = rw same

    fields_seen : seen (viewed t) (ended a) ≡ seen (viewed t) (ended b)
        → fields_of (ended a).state.ring (ended a).state.arena ≡ fields_of (ended b).state.ring (ended b).state.arena
    unfolding view
    fields_seen e = ap (λ (z : Ended model.Table). z.state.fields) e

    run_alike : AlikeEnd (ended a) (ended b)
    run_alike =
        record {
          told = ring_seen a first ∙ sym (ring_seen b second);
          long = long_of (ended a).state (good_end a first) ∙ sym (long_of (ended b).state (good_end b second));
          strings = fields_seen
              (model_seen a first ∙ ap (run_all instruction_at applied_in s) view_same ∙ sym (model_seen b second));
        }

  stays : (w : Answer _) → AlikeEnd (ends (stream.held_by t a) 0 w) (ends (stream.held_by t b) 0 w)
  stays w = record { told = refl; long = long; strings = same }

  pub receiving_alike : (room : ℕ) → AlikeEnd (stream.receiving t a s room) (stream.receiving t b s room)
  unfolding stream.receiving
  receiving_alike room = rw (← long) (go (usable t a) (leb stream.increment_room room) t.active refl refl)
    where
      end : Bool → Bool → Bool → List ℕ → Ended Held
      end can fits on c =
          cond (can && fits)
          (cond on (ends (stream.held_by t c) 0 (refused SectionOpen)) (run_all instruction_at (applied (lowest_used t)) s (stream.held_by t c)))
          (ends (stream.held_by t c) 0 (refused BadCall))

      go : (can fits on : Bool) → usable t a ≡ can → t.active ≡ on → AlikeEnd (end can fits on a) (end can fits on b)
      go true true true h e = stays (refused SectionOpen)
      go true true false h e = run_alike h e
      go true false on h e = stays (refused BadCall)
      go false fits on h e = stays (refused BadCall)
