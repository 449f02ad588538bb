-- What reports leave of the queue: each takes its stream's oldest section. Assumes nothing.
use mathlib.Core.Path.{◌≡◌, refl, sym, ap, ◌∙◌, subst, fun_ext}
use mathlib.Core.Bool.{Bool, true, false, cond}
use mathlib.Core.List.{List, [], ◌∷◌}
use mathlib.Core.Option.{Option, some, none}
use Prim.Native.Nat.{ℕ, zero, suc, ◌-◌, ◌≤◌, ◌<◌}
use native.Mathlib.Omega.{arith}
use lib.Dec.{eqb, ltb}
use lib.ListN.{length, drop}
use borrow.Author.Tests.{eqb-true, eqb-false, lt-ltb, ltb-true, ltb-false}
use Rattle.model.specs.Bounds.{queue_places}
use Rattle.model.specs.Report.{before_section, without_oldest}
use Rattle.model.specs.Table.{Section}
use Rattle.tracking.specs.Queue.{sections_of, releasing}
use Rattle.tracking.specs.declared.Queue.{Queue}
use Rattle.tracking.proofs.Sections.{released_is, not_released}
use Rattle.reorder.specs.Reports.{only}
use Rattle.reorder.specs.Batch.{less, unreported, from}

-- ---- one report: the queue without the stream's oldest section, or as it was

abbrev pub without : ℕ → List Section → List Section
without s [] = []
without s (x ∷ q) = cond (from s x) q (x ∷ without s q)

abbrev or_all : Option (List Section) → List Section → List Section
or_all (some p) q = p
or_all none q = q

module _ (s : ℕ) where
  is_without : (q : List Section) → or_all (without_oldest s q) q ≡ without s q
  is_without [] = refl
  is_without (x ∷ q) = go (eqb x.stream s) (is_without q)
    where
      behind : (o : Option (List Section)) → or_all (before_section x o) (x ∷ q) ≡ x ∷ or_all o q
      behind (some p) = refl
      behind none = refl

      go : (b : Bool) → or_all (without_oldest s q) q ≡ without s q
          → or_all (cond b (some q) (before_section x (without_oldest s q))) (x ∷ q) ≡ cond b q (x ∷ without s q)
      go true h = refl
      go false h = behind (without_oldest s q) ∙ ap (λ (p : List Section). x ∷ p) h

  -- on the record
  pub released_without : (q : Queue) → q.queued ≤ queue_places → length q.places ≡ queue_places
      → sections_of (releasing q s).queue ≡ without s (sections_of q)
  released_without q h long = go (releasing q s).made refl ∙ is_without (sections_of q)
    where
      go : (b : Bool) → (releasing q s).made ≡ b → sections_of (releasing q s).queue ≡ or_all (without_oldest s (sections_of q)) (sections_of q)
      go true e = rw (released_is q h long s, e)
      go false e = rw (released_is q h long s, e) (ap sections_of (not_released q h long s e))

-- ---- increments of reports: one more of stream s

abbrev pub more : ℕ → (ℕ → ℕ) → ℕ → ℕ
more s r t = cond (eqb t s) (suc (r t)) (r t)

less_more_same : (s u : ℕ) (r : ℕ → ℕ) → u ≡ s → (t : ℕ) → less u (more s r) t ≡ r t
less_more_same s u r e t = go (eqb u t) (eqb t s) refl refl
  where
    go : (a b : Bool) → eqb u t ≡ a → eqb t s ≡ b → less u (more s r) t ≡ r t
    go true true ea eb = rw (ea, eb) (omega arith)
    go true false ea eb = absurd (eqb-false t s eb (sym (eqb-true u t ea) ∙ e))
    go false true ea eb = absurd (eqb-false u t ea (e ∙ sym (eqb-true t s eb)))
    go false false ea eb = rw (ea, eb)

less_more_other : (s u : ℕ) (r : ℕ → ℕ) → (u ≡ s → ⊥) → (t : ℕ) → less u (more s r) t ≡ more s (less u r) t
less_more_other s u r ne t = go (eqb u t) (eqb t s) refl refl
  where
    go : (a b : Bool) → eqb u t ≡ a → eqb t s ≡ b → less u (more s r) t ≡ more s (less u r) t
    go true true ea eb = absurd (ne (eqb-true u t ea ∙ eqb-true t s eb))
    go true false ea eb = rw (ea, eb)
    go false true ea eb = rw (ea, eb)
    go false false ea eb = rw (ea, eb)

-- ---- many reports

-- no report: nothing goes
pub unreported_none : (q : List Section) → unreported (λ (s : ℕ). 0) q ≡ q
unreported_none [] = refl
unreported_none (x ∷ q) = ap (λ (l : List Section). x ∷ l) (unreported_none q)

-- a report of stream s more: the oldest section of s goes before all else
pub unreported_more : (s : ℕ) (q : List Section) (r : ℕ → ℕ) → unreported (more s r) q ≡ unreported r (without s q)
unreported_more s [] r = refl
unreported_more s (x ∷ q) r = go (eqb x.stream s) refl (unreported_more s q)
  where
    u : ℕ
    u = x.stream

    go : (a : Bool) → eqb u s ≡ a → ((r : ℕ → ℕ) → unreported (more s r) q ≡ unreported r (without s q))
        → unreported (more s r) (x ∷ q) ≡ unreported r (without s (x ∷ q))
    go true e ih =
        let w : unreported (less u (more s r)) q ≡ unreported r q =
        ap (λ (f : ℕ → ℕ). unreported f q) (fun_ext (less_more_same s u r (eqb-true u s e))) in
        rw (e, lt-ltb 0 (suc (r u)) (omega arith), w)
    go false e ih =
        let w : unreported (less u (more s r)) q ≡ unreported (less u r) (without s q) =
        ap (λ (f : ℕ → ℕ). unreported f q) (fun_ext (less_more_other s u r (eqb-false u s e))) ∙ ih (less u r) in
        rw (e, w, ih r)

drop_one : {A : Type 0} (n : ℕ) (x : A) (l : List A) → 0 < n → drop n (x ∷ l) ≡ drop (n - 1) l
drop_one zero x l h = absurd (omega arith)
drop_one (suc n) x l h = let e : suc n - 1 ≡ n = omega arith in rw e

drop_none : {A : Type 0} (n : ℕ) → drop {A = A} n [] ≡ []
drop_none zero = refl
drop_none (suc n) = refl

-- of each stream the oldest are gone, as many as there are reports
pub unreported_each : (s : ℕ) (q : List Section) (r : ℕ → ℕ) → only (from s) (unreported r q) ≡ drop (r s) (only (from s) q)
unreported_each s [] r = sym (drop_none (r s))
unreported_each s (x ∷ q) r = go (ltb 0 (r x.stream)) (eqb x.stream s) refl refl (unreported_each s q)
  where
    u : ℕ
    u = x.stream

    go : (a b : Bool) → ltb 0 (r u) ≡ a → eqb u s ≡ b → ((r : ℕ → ℕ) → only (from s) (unreported r q) ≡ drop (r s) (only (from s) q))
        → only (from s) (cond a (unreported (less u r) q) (x ∷ unreported r q)) ≡ drop (r s) (cond b (x ∷ only (from s) q) (only (from s) q))
    go true true ea eb ih =
        let h : 0 < r s = subst (λ (n : ℕ). 0 < r n) (eqb-true u s eb) (ltb-true 0 (r u) ea) in
        rw (ih (less u r), eb) (sym (drop_one (r s) x (only (from s) q) h))
    go true false ea eb ih = rw (ih (less u r), eb)
    go false true ea eb ih =
        let z : r s ≡ 0 = sym (ap r (eqb-true u s eb)) ∙ (let l = ltb-false 0 (r u) ea in omega arith) in
        rw (eb, ih r, z)
    go false false ea eb ih = rw (eb, ih r)
