-- Any machine whose steps commute ends in one state over two orders of a batch, and gives each report one answer. Assumes nothing.
use mathlib.Core.Path.{◌≡◌, refl, sym, ap, ◌∙◌, subst}
use mathlib.Core.Bool.{Bool, true, cond, false≢true}
use mathlib.Core.List.{List, [], ◌∷◌}
use Prim.Native.Nat.{ℕ, ◌+◌}
use native.Mathlib.Omega.{arith}
use Rattle.answers.specs.Answer.{Answer, done}
use Rattle.answers.specs.Table.{Done, ok}
use Rattle.decoder_stream.specs.Reports.{Report, acknowledgement, cancellation, increment}
use Rattle.running.specs.Run.{Took}
use Rattle.reorder.specs.Reports.{only, of, is_increment, amount, total, Reordered}
use Rattle.reorder.specs.Swaps.{Swaps, same, keep, swap, then, Independent}
use Rattle.reorder.specs.Batch.{Answered, after, answers_to, ran, itself, IncrementsDone, SameRuns}
use Rattle.reorder.proofs.Trace.{two}
use Rattle.reorder.proofs.Reorder.{by_swaps}

-- neighbours related by I may change places: a state that is `Fine b` bears further increments by b in all, and `next` and `said` are a step there
pub record Commutes {S : Type 0} (take : S → Report → Took S) (Fine : ℕ → S → Type 0) (I : Report → Report → Type 0)
    (next : S → Report → S) (said : S → Report → Answer Done) : Type 0 where
  pub plain : (x : Report) (b : ℕ) (s : S) → Fine (amount x + b) s → take s x ≡ record { state = next s x; answer = said s x }
  pub spend : (x : Report) (b : ℕ) (s : S) → Fine (amount x + b) s → Fine b (next s x)
  pub turn : (x y : Report) → I x y → I y x
  pub states : (x y : Report) (b : ℕ) (s : S) → I x y → Fine (amount x + (amount y + b)) s → next (next s x) y ≡ next (next s y) x
  pub answers : (x y : Report) (b : ℕ) (s : S) → I x y → Fine (amount x + (amount y + b)) s → said (next s y) x ≡ said s x
  pub increments : (n b : ℕ) (s : S) → Fine (n + b) s → said s (increment n) ≡ done ok

pub total_swaps : {I : Report → Report → Type 0} {xs ys : List Report} → Swaps I xs ys → total xs ≡ total ys
total_swaps (same xs) = refl
total_swaps (keep x w) = ap (λ (n : ℕ). amount x + n) (total_swaps w)
total_swaps (swap x y xs i) = omega arith
total_swaps (then v w) = total_swaps v ∙ total_swaps w

module _ {S : Type 0} (take : S → Report → Took S) (Fine : ℕ → S → Type 0) (I : Report → Report → Type 0)
    (next : S → Report → S) (said : S → Report → Answer Done) (law : Commutes take Fine I next said) where
  pub fine_next : (x : Report) (b : ℕ) (s : S) → Fine (amount x + b) s → Fine b (take s x).state
  fine_next x b s f = rw (law.plain x b s f) (law.spend x b s f)

  -- two steps
  module _ (x y : Report) (b : ℕ) (s : S) (f : Fine (amount x + (amount y + b)) s) where
    turned : Fine (amount y + (amount x + b)) s
    turned = let e : amount x + (amount y + b) ≡ amount y + (amount x + b) = omega arith in subst (λ (n : ℕ). Fine n s) e f

    then_y : take (take s x).state y ≡ record { state = next (next s x) y; answer = said (next s x) y }
    then_y = rw (law.plain x (amount y + b) s f) (law.plain y b (next s x) (law.spend x (amount y + b) s f))

  module _ (x y : Report) (b : ℕ) (s : S) (i : I x y) (f : Fine (amount x + (amount y + b)) s) where
    back : Fine (amount y + (amount x + b)) s
    back = turned x y b s f

    one_state : (take (take s x).state y).state ≡ (take (take s y).state x).state
    one_state = rw (then_y x y b s f, then_y y x b s back) (law.states x y b s i f)

    first_answer : (take s x).answer ≡ (take (take s y).state x).answer
    first_answer = rw (law.plain x (amount y + b) s f, then_y y x b s back) (sym (law.answers x y b s i f))

    second_answer : (take (take s x).state y).answer ≡ (take s y).answer
    second_answer = rw (then_y x y b s f, law.plain y (amount x + b) s back) (law.answers y x b s (law.turn x y i) back)

  same_state : {xs ys : List Report} → Swaps I xs ys → (s : S) → Fine (total xs) s → after take s xs ≡ after take s ys
  same_state (same xs) s f = refl
  same_state (keep x {xs} w) s f = same_state w (take s x).state (fine_next x (total xs) s f)
  same_state (swap x y xs i) s f = ap (λ (u : S). after take u xs) (one_state x y (total xs) s i f)
  same_state (then v w) s f = same_state v s f ∙ same_state w s (subst (λ (n : ℕ). Fine n s) (total_swaps v) f)

  -- the test p passes for no two reports that may change places
  module _ (p : Report → Bool) (un : (x y : Report) → I x y → p x ≡ true → p y ≡ true → ⊥) where
    abbrev passing : S → List Report → List Answered
    passing s xs = only (λ (a : Answered). p a.report) (answers_to itself take s xs)

    same_answers : {xs ys : List Report} → Swaps I xs ys → (s : S) → Fine (total xs) s → passing s xs ≡ passing s ys
    same_answers (same xs) s f = refl
    same_answers (keep x {xs} w) s f =
        ap (λ (l : List Answered). cond (p x) (record { report = x; answer = (take s x).answer } ∷ l) l)
        (same_answers w (take s x).state (fine_next x (total xs) s f))
    same_answers (swap x y xs i) s f =
        let b = total xs in
        rw (one_state x y b s i f, ← first_answer x y b s i f, second_answer x y b s i f)
        (two (p x) (p y) (record { report = x; answer = (take s x).answer }) (record { report = y; answer = (take s y).answer })
        (passing (take (take s y).state x).state xs) (λ h k. absurd (un x y i h k)))
    same_answers (then v w) s f = same_answers v s f ∙ same_answers w s (subst (λ (n : ℕ). Fine n s) (total_swaps v) f)

  increments_done : (xs : List Report) (s : S) → Fine (total xs) s → IncrementsDone (answers_to itself take s xs)
  increments_done [] s f = tt
  increments_done (x ∷ xs) s f = (go x f, increments_done xs (take s x).state (fine_next x (total xs) s f))
    where
      go : (x : Report) → Fine (amount x + total xs) s → is_increment x ≡ true → (take s x).answer ≡ done ok
      go (acknowledgement t) f h = absurd (false≢true h)
      go (cancellation t) f h = absurd (false≢true h)
      go (increment n) f h = rw (law.plain (increment n) (total xs) s f) (law.increments n (total xs) s f)

  -- the theorem for any machine: a reordering that swaps reach, where no two reports of one stream change places
  pub swapped_runs : ((x y : Report) → I x y → Independent x y) → {xs ys : List Report} → Swaps I xs ys → (s : S) → Fine (total xs) s
      → SameRuns (ran itself take s xs) (ran itself take s ys)
  swapped_runs un {xs} {ys} w s f =
      record {
        states = same_state w s f;
        streams = λ t. same_answers (of t) (λ x y i. un x y i t) w s f;
        increments_first = increments_done xs s f;
        increments_second = increments_done ys s (subst (λ (n : ℕ). Fine n s) (total_swaps w) f);
      }

-- where reports that are not of one stream may change places, any order does that keeps each stream's own
pub reordered_runs : {S : Type 0} (take : S → Report → Took S) (Fine : ℕ → S → Type 0) (next : S → Report → S) (said : S → Report → Answer Done)
    → Commutes take Fine Independent next said → {xs ys : List Report} → Reordered xs ys → (s : S) → Fine (total xs) s
    → SameRuns (ran itself take s xs) (ran itself take s ys)
reordered_runs take Fine next said law r s f = swapped_runs take Fine Independent next said law (λ x y i. i) (by_swaps r) s f
