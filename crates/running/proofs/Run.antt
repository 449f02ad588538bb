-- Laws of a call on a stream: each way through one turn, and that a view of the state commutes with it. Assumes nothing.
use mathlib.Core.Path.{◌≡◌, refl, ap, ◌∙◌}
use mathlib.Core.Bool.{Bool, true, false, cond}
use mathlib.Core.List.{List}
use mathlib.Core.Option.{Option, some, none}
use Prim.Native.Nat.{ℕ, zero, suc, ◌-◌, ◌≤◌, ◌<◌}
use native.Mathlib.Omega.{arith}
use lib.Dec.{leb}
use lib.ListN.{length}
use borrow.Author.Tests.{le-leb, lt-leb}
use Rattle.answers.specs.Answer.{Answer, done, refused}
use Rattle.answers.specs.Table.{Done, ok}
use Rattle.answers.specs.declared.Refusal.{Refusal}
use Rattle.running.specs.Run.{Whole, Took, Ended, ends, after_taking, after_reading, run}

-- ---- one turn

module _ {S I : Type 0} (read : List ℕ → ℕ → Answer (Option (Whole I))) (take : S → I → Took S) (s : List ℕ) (at : ℕ) (x : S) where
  -- nothing is left
  pub run_over : (k : ℕ) → length s ≤ at → run read take k s at x ≡ ends x at (done ok)
  unfolding run
  run_over zero h = refl
  run_over (suc k) h = rw (le-leb _ _ h)

  module _ (k : ℕ) (h : at < length s) (f : 0 < k) where
    pub run_cut : read s at ≡ done none → run read take k s at x ≡ ends x at (done ok)
    unfolding run
    run_cut e = go k f
      where
        go : (k : ℕ) → 0 < k → run read take k s at x ≡ ends x at (done ok)
        go zero z = absurd (omega arith)
        go (suc k) z = rw (lt-leb _ _ h, e)

    pub run_bad : (r : Refusal) → read s at ≡ refused r → run read take k s at x ≡ ends x at (refused r)
    unfolding run
    run_bad r e = go k f
      where
        go : (k : ℕ) → 0 < k → run read take k s at x ≡ ends x at (refused r)
        go zero z = absurd (omega arith)
        go (suc k) z = rw (lt-leb _ _ h, e)

    module _ (i : Whole I) (e : read s at ≡ done (some i)) where
      pub run_refused : (r : Refusal) → (take x i.instruction).answer ≡ refused r → run read take k s at x ≡ ends x at (refused r)
      unfolding run
      run_refused r w = go k f
        where
          go : (k : ℕ) → 0 < k → run read take k s at x ≡ ends x at (refused r)
          go zero z = absurd (omega arith)
          go (suc k) z = rw (lt-leb _ _ h, e, w)

      pub run_on : (d : Done) → (take x i.instruction).answer ≡ done d
          → run read take k s at x ≡ run read take (k - 1) s i.next (take x i.instruction).state
      unfolding run
      run_on d w = go k f
        where
          go : (k : ℕ) → 0 < k → run read take k s at x ≡ run read take (k - 1) s i.next (take x i.instruction).state
          go zero z = absurd (omega arith)
          go (suc k) z =
              let less : suc k - 1 ≡ k = omega arith in
              rw (less, lt-leb _ _ h, e, w)

-- ---- a view of the state

-- where a call ends, seen through a view
abbrev pub seen : {S T : Type 0} → (S → T) → Ended S → Ended T
seen f e = ends (f e.state) e.consumed e.answer

-- the view shows what taking does in good states, and these stay good
pub record Shows {S T I : Type 0} (f : S → T) (Good : S → Type 0) (take : S → I → Took S) (then : T → I → Took T) : Type 0 where
  pub state : (x : S) → Good x → (i : I) → f (take x i).state ≡ (then (f x) i).state
  pub answer : (x : S) → Good x → (i : I) → (take x i).answer ≡ (then (f x) i).answer
  pub good : (x : S) → Good x → (i : I) → Good (take x i).state

module _ {S T I : Type 0} (f : S → T) (Good : S → Type 0) (take : S → I → Took S) (then : T → I → Took T)
    (w : Shows f Good take then) (read : List ℕ → ℕ → Answer (Option (Whole I))) (s : List ℕ) where
  abbrev whole : ℕ → S → Ended S
  whole at x = ends x at (done ok)

  pub run_shown : (k at : ℕ) (x : S) → Good x → seen f (run read take k s at x) ≡ run read then k s at (f x)
  unfolding run
  run_shown zero at x g = refl
  run_shown (suc k) at x g = turn (leb (length s) at) (read s at) (λ e y z. run_shown k e y z)
    where
      taken : (i : Whole I) → ((e : ℕ) (y : S) → Good y → seen f (run read take k s e y) ≡ run read then k s e (f y))
          → (a : Answer Done) → (take x i.instruction).answer ≡ a
          → seen f (after_taking x at (take x i.instruction).state a (run read take k s i.next))
          ≡ after_taking (f x) at (then (f x) i.instruction).state a (run read then k s i.next)
      taken i more (done d) e =
          more i.next (take x i.instruction).state (w.good x g i.instruction)
          ∙ ap (run read then k s i.next) (w.state x g i.instruction)
      taken i more (refused r) e = refl

      turn : (over : Bool) (a : Answer (Option (Whole I)))
          → ((e : ℕ) (y : S) → Good y → seen f (run read take k s e y) ≡ run read then k s e (f y))
          → seen f
          (cond over
          (whole at x)
          (after_reading x at a
          (λ i. after_taking x at (take x i.instruction).state (take x i.instruction).answer (run read take k s i.next))))
          ≡ cond over
          (ends (f x) at (done ok))
          (after_reading (f x) at a
          (λ i. after_taking (f x) at (then (f x) i.instruction).state (then (f x) i.instruction).answer (run read then k s i.next)))
      turn true a more = refl
      turn false (done (some i)) more =
          taken i more (take x i.instruction).answer refl
          ∙ ap (λ (z : Answer Done). after_taking (f x) at (then (f x) i.instruction).state z (run read then k s i.next)) (w.answer x g i.instruction)
      turn false (done none) more = refl
      turn false (refused r) more = refl

  -- and the end is good
  pub run_good : (k at : ℕ) (x : S) → Good x → Good (run read take k s at x).state
  unfolding run
  run_good zero at x g = g
  run_good (suc k) at x g = turn (leb (length s) at) (read s at) (λ e y z. run_good k e y z)
    where
      taken : (i : Whole I) → ((e : ℕ) (y : S) → Good y → Good (run read take k s e y).state) → (a : Answer Done)
          → Good (after_taking x at (take x i.instruction).state a (run read take k s i.next)).state
      taken i more (done d) = more i.next (take x i.instruction).state (w.good x g i.instruction)
      taken i more (refused r) = g

      turn : (over : Bool) (a : Answer (Option (Whole I))) → ((e : ℕ) (y : S) → Good y → Good (run read take k s e y).state)
          → Good
          (cond over
          (whole at x)
          (after_reading x at a
          (λ i. after_taking x at (take x i.instruction).state (take x i.instruction).answer (run read take k s i.next)))).state
      turn true a more = g
      turn false (done (some i)) more = taken i more (take x i.instruction).answer
      turn false (done none) more = g
      turn false (refused r) more = g
