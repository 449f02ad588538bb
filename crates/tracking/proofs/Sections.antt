-- The queue in its array and in the model: pushing and releasing are the same in both, keep bounds and the rule, and releases of two streams
-- commute to the last place. Assumes nothing.
use mathlib.Core.Path.{◌≡◌, refl, sym, ap, ◌∙◌}
use mathlib.Core.Bool.{Bool, true, false, cond}
use mathlib.Core.List.{List, [], ◌∷◌, ◌++◌, map, append_assoc, map-append}
use mathlib.Core.Logic.{◌≢◌}
use mathlib.Core.Option.{some, none}
use Prim.Native.Nat.{ℕ, suc, ◌+◌, ◌-◌, ◌≤◌, ◌<◌}
use native.Mathlib.Numerals.{add-one}
use native.Mathlib.Omega.{arith}
use lib.Dec.{ltb, eqb, leb-suc-suc}
use lib.ListN.{length, take, drop, set, length-append, length-drop, length-set, length-map, take-append-drop}
use lib.Seq.{length-take-le, take_at, drop_at, take-append-le, drop-append-le, take-suc-set}
use borrow.Author.Tests.{lt-ltb, le-ltb, ltb-true, ltb-false, eq-eqb, ne_eqb}
use Rattle.model.specs.Bounds.{queue_places}
use Rattle.model.specs.Report.{before_section, without_oldest}
use Rattle.model.specs.Table as model
use Rattle.tracking.specs.declared.Queue.{Queue}
use Rattle.tracking.specs.declared.Section.{Section}
use Rattle.tracking.specs.Queue.{
  Queued,
  section_of,
  sections_of,
  section_live,
  all_sections_live,
  pushing,
  no_section,
  oldest_of,
  closed_up,
  releasing,
}
use Rattle.blocked.proofs.Lists.{and_left, and_right}
use Rattle.blocked.proofs.First.{is_or_not}
use Rattle.tracking.proofs.Moving.{nothing, released}

-- ---- lists of sections: whether a stream has one, and the sections without its oldest

abbrev has : ℕ → List Section → Bool
has s [] = false
has s (v ∷ l) = cond (eqb v.stream s) true (has s l)

abbrev without : ℕ → List Section → List Section
without s [] = []
without s (v ∷ l) = cond (eqb v.stream s) l (v ∷ without s l)

abbrev stream_of : Section → ℕ
stream_of v = v.stream

module _ (s : ℕ) where
  its : (v : Section) → v.stream ≡ s → eqb v.stream s ≡ true
  its v e = eq-eqb v.stream s e

  not_its : (v : Section) → (v.stream ≡ s → ⊥) → eqb v.stream s ≡ false
  not_its v e = ne_eqb v.stream s e

  has_is : (l : List Section) → ltb (oldest_of s l) (length l) ≡ has s l
  has_is [] = refl
  has_is (v ∷ l) =
      is_or_not stream_of s v
      (λ e. rw (its v e) (lt-ltb 0 (suc (length l)) (omega arith)))
      (λ e. rw (not_its v e, leb-suc-suc) (has_is l))

  without_is : (l : List Section) → take (oldest_of s l) l ++ drop (suc (oldest_of s l)) l ≡ without s l
  without_is [] = refl
  without_is (v ∷ l) =
      is_or_not stream_of s v (λ e. rw (its v e)) (λ e. rw (not_its v e) (ap (λ (m : List Section). v ∷ m) (without_is l)))

  without_none : (l : List Section) → has s l ≡ false → without s l ≡ l
  without_none [] h = refl
  without_none (v ∷ l) h =
      is_or_not stream_of s v
      (λ e. let f = rw (its v e) at h in let z : ◌≡◌ {A = ℕ} 0 1 = cc in absurd (omega arith))
      (λ e. rw (not_its v e) (ap (λ (m : List Section). v ∷ m) (without_none l (rw (not_its v e) at h))))

  length_without : (l : List Section) → has s l ≡ true → suc (length (without s l)) ≡ length l
  length_without [] h = let z : ◌≡◌ {A = ℕ} 0 1 = cc in absurd (omega arith)
  length_without (v ∷ l) h =
      is_or_not stream_of s v (λ e. rw (its v e)) (λ e. rw (not_its v e) (ap suc (length_without l (rw (not_its v e) at h))))

  length_without_le : (l : List Section) → length (without s l) ≤ length l
  length_without_le l = go (has s l) refl
    where
      go : (b : Bool) → has s l ≡ b → length (without s l) ≤ length l
      go true e = omega (arith, length_without l e)
      go false e = rw (without_none l e) (omega arith)

  without_live : (d i : ℕ) (l : List Section) → all_sections_live d i l ≡ true → all_sections_live d i (without s l) ≡ true
  without_live d i [] h = refl
  without_live d i (v ∷ l) h =
      let rest = and_right (section_live d i v) _ h in
      is_or_not stream_of s v
      (λ e. rw (its v e) rest)
      (λ e. rw (not_its v e, and_left (section_live d i v) _ h) (without_live d i l rest))

  in_model : (l : List Section) → without_oldest s (map section_of l) ≡ cond (has s l) (some (map section_of (without s l))) none
  in_model [] = refl
  in_model (v ∷ l) =
      is_or_not stream_of s v
      (λ e. rw (its v e))
      (λ e. rw (not_its v e, in_model l) (behind (has s l) (section_of v) (map section_of (without s l))))
    where
      behind : (b : Bool) (u : model.Section) (m : List model.Section)
          → before_section u (cond b (some m) none) ≡ cond b (some (u ∷ m)) none
      behind true u m = refl
      behind false u m = refl

module _ (s t : ℕ) (other : s ≢ t) where
  has_still : (l : List Section) → has s (without t l) ≡ has s l
  has_still [] = refl
  has_still (v ∷ l) =
      is_or_not stream_of t v
      (λ e. rw (its t v e, not_its s v (λ f. other (sym f ∙ e))))
      (λ e. rw (not_its t v e, has_still l))

  without_comm : (l : List Section) → without s (without t l) ≡ without t (without s l)
  without_comm [] = refl
  without_comm (v ∷ l) =
      is_or_not stream_of t v
      (λ e. let f = not_its s v (λ f. other (sym f ∙ e)) in rw (its t v e, f, its t v e))
      (λ e.
      is_or_not stream_of s v
      (λ f. rw (not_its t v e, its s v f))
      (λ f. rw (not_its t v e, not_its s v f, not_its t v e) (ap (λ (m : List Section). v ∷ m) (without_comm l))))

-- ---- the queue as its sections and the places behind them

abbrev packed : List Section → List Section → Queue
packed l z = record { queued = length l; places = l ++ z }

is_packed : (q : Queue) → q.queued ≤ length q.places → q ≡ packed (take q.queued q.places) (drop q.queued q.places)
is_packed q h = rw (length-take-le q.queued q.places h, take-append-drop)

closed_packed : {A : Type 0} (empty : A) (l z : List A) (i : ℕ) → i < length l
    → closed_up empty (l ++ z) (length l) i ≡ take i l ++ drop (suc i) l ++ (empty ∷ z)
closed_packed empty l z i h =
    let n : length (drop (suc i) l) ≡ length l - 1 - i = rw length-drop (omega arith) in
    rw (take-append-le i l z (omega arith), drop-append-le (suc i) l z h, take_at (drop (suc i) l) z (length l - 1 - i) n, drop_at l z (length l) refl, append_assoc)

abbrev cleared : Bool → List Section → List Section
cleared b z = cond b (no_section ∷ z) z

cleared_comm : (a b : Bool) (z : List Section) → cleared a (cleared b z) ≡ cleared b (cleared a z)
cleared_comm true true z = refl
cleared_comm true false z = refl
cleared_comm false true z = refl
cleared_comm false false z = refl

releasing_packed : (s : ℕ) (l z : List Section) → length l ≤ queue_places
    → releasing (packed l z) s ≡ record { made = has s l; queue = packed (without s l) (cleared (has s l) z) }
releasing_packed s l z h = go (has s l) refl
  where
    oldest : oldest_of s l ≡ oldest_of s (take (length l) (l ++ z))
    oldest = ap (oldest_of s) (sym (take_at l z (length l) refl))

    go : (b : Bool) → has s l ≡ b
        → releasing (packed l z) s ≡ record { made = b; queue = packed (without s l) (cleared b z) }
    go true e =
        let i : oldest_of s l < length l = ltb-true (oldest_of s l) (length l) (has_is s l ∙ e) in
        let n : length l - 1 ≡ length (without s l) = omega (arith, length_without s l e) in
        released (packed l z) s h (oldest_of s l) oldest i ∙ rw (closed_packed no_section l z (oldest_of s l) i, without_is, n)
    go false e =
        let i : length l ≤ oldest_of s l = ltb-false (oldest_of s l) (length l) (has_is s l ∙ e) in
        nothing (packed l z) s h (oldest_of s l) oldest i ∙ rw (without_none s l e)

length_packed : (s : ℕ) (l z : List Section) → length (without s l ++ cleared (has s l) z) ≡ length (l ++ z)
length_packed s l z = rw (length-append (without s l), length-append l) (go (has s l) refl)
  where
    go : (b : Bool) → has s l ≡ b → length (without s l) + length (cleared b z) ≡ length l + length z
    go true e = omega (arith, length_without s l e)
    go false e = rw (without_none s l e)

-- ---- releasing

-- the queued sections, in their places
abbrev queued_in : Queue → List Section
queued_in q = take q.queued q.places

queued_packed : (l z : List Section) → queued_in (packed l z) ≡ l
queued_packed l z = take_at l z (length l) refl

module _ (q : Queue) (h : q.queued ≤ queue_places) (long : length q.places ≡ queue_places) where
  pub length_sections : length (sections_of q) ≡ q.queued
  length_sections = rw length-map (length-take-le q.queued q.places (omega arith))

  few : length (queued_in q) ≤ queue_places
  few = rw (length-take-le q.queued q.places (omega arith)) h

  behind : List Section
  behind = drop q.queued q.places

  module _ (s : ℕ) where
    releasing_is : releasing q s ≡ record { made = has s (queued_in q); queue = packed (without s (queued_in q)) (cleared (has s (queued_in q)) behind) }
    unfolding behind
    releasing_is =
        ap (λ (r : Queue). releasing r s) (is_packed q (omega arith)) ∙ releasing_packed s (queued_in q) behind few

    pub released_is : without_oldest s (sections_of q) ≡ cond (releasing q s).made (some (sections_of (releasing q s).queue)) none
    released_is = rw (releasing_is, queued_packed (without s (queued_in q)) (cleared (has s (queued_in q)) behind)) (in_model s (queued_in q))

    pub released_some : (releasing q s).made ≡ true → some (sections_of (releasing q s).queue) ≡ without_oldest s (sections_of q)
    released_some e = sym (rw e at released_is)

    pub released_none : (releasing q s).made ≡ false → without_oldest s (sections_of q) ≡ none
    released_none e = rw e at released_is

    -- where nothing is released the queue stays
    pub not_released : (releasing q s).made ≡ false → (releasing q s).queue ≡ q
    unfolding behind
    not_released e =
        let none : has s (queued_in q) ≡ false = sym (ap (λ (r : Queued). r.made) releasing_is) ∙ e in
        ap (λ (r : Queued). r.queue) releasing_is ∙ rw (none, without_none s (queued_in q) none) (sym (is_packed q (omega arith)))

    pub released_places : length (releasing q s).queue.places ≡ queue_places
    unfolding behind
    released_places =
        rw releasing_is (length_packed s (queued_in q) behind ∙ ap length (take-append-drop q.queued q.places) ∙ long)

    pub released_queued : (releasing q s).queue.queued ≤ queue_places
    released_queued = rw releasing_is (omega (arith, length_without_le s (queued_in q), few))

    pub released_live : (d i : ℕ) → all_sections_live d i (take q.queued q.places) ≡ true
        → all_sections_live d i (take (releasing q s).queue.queued (releasing q s).queue.places) ≡ true
    released_live d i live = rw (releasing_is, queued_packed) (without_live s d i (queued_in q) live)

  releasing_twice : (s t : ℕ) → s ≢ t → releasing (releasing q s).queue t ≡ record {
    made = has t (queued_in q);
    queue = packed (without t (without s (queued_in q))) (cleared (has t (queued_in q)) (cleared (has s (queued_in q)) behind));
  }
  releasing_twice s t other =
      let l = queued_in q in
      let less : length (without s l) ≤ queue_places = omega (arith, length_without_le s l, few) in
      ap (λ (r : Queued). releasing r.queue t) (releasing_is s)
      ∙ releasing_packed t (without s l) (cleared (has s l) behind) less
      ∙ rw (has_still t s (λ e. other (sym e)) l)

  module _ (s t : ℕ) (other : s ≢ t) where
    pub releases_commute : (releasing (releasing q s).queue t).queue ≡ (releasing (releasing q t).queue s).queue
    releases_commute =
        rw (releasing_twice s t other, releasing_twice t s (λ e. other (sym e)), without_comm s t other, cleared_comm (has t (queued_in q)))

    pub release_made : (releasing (releasing q s).queue t).made ≡ (releasing q t).made
    release_made = rw (releasing_twice s t other, releasing_is t)

-- ---- pushing

sections_snoc : (d i : ℕ) (l : List Section) (v : Section) → all_sections_live d i l ≡ true → section_live d i v ≡ true
    → all_sections_live d i (l ++ (v ∷ [])) ≡ true
sections_snoc d i [] v h g = rw g
sections_snoc d i (u ∷ l) v h g =
    rw (and_left (section_live d i u) _ h) (sections_snoc d i l v (and_right (section_live d i u) _ h) g)

module _ (q : Queue) (v : Section) where
  pushing_by : (P : Queued → Type 0)
      → (q.queued < queue_places → P (record { made = true; queue = record { queued = q.queued + 1; places = set q.places q.queued v } }))
      → (queue_places ≤ q.queued → P (record { made = false; queue = q }))
      → P (pushing q v)
  unfolding pushing
  pushing_by P y n = go (ltb q.queued queue_places) refl
    where
      go : (b : Bool) → ltb q.queued queue_places ≡ b
          → P (cond b (record { made = true; queue = record { queued = q.queued + 1; places = set q.places q.queued v } }) (record { made = false; queue = q }))
      go true e = y (ltb-true q.queued queue_places e)
      go false e = n (ltb-false q.queued queue_places e)

  pub pushed_made : (pushing q v).made ≡ ltb q.queued queue_places
  pushed_made =
      pushing_by (λ (r : Queued). r.made ≡ ltb q.queued queue_places)
      (λ h. sym (lt-ltb q.queued queue_places h))
      (λ h. sym (le-ltb q.queued queue_places h))

  pub pushed_places : length (pushing q v).queue.places ≡ length q.places
  pushed_places =
      pushing_by (λ (r : Queued). length r.queue.places ≡ length q.places) (λ _. length-set q.places q.queued v) (λ _. refl)

  pub pushed_queued : q.queued ≤ queue_places → (pushing q v).queue.queued ≤ queue_places
  pushed_queued h = pushing_by (λ (r : Queued). r.queue.queued ≤ queue_places) (λ g. omega arith) (λ _. h)

  module _ (long : length q.places ≡ queue_places) where
    one_more : q.queued < queue_places → take (q.queued + 1) (set q.places q.queued v) ≡ take q.queued q.places ++ (v ∷ [])
    one_more h = rw add-one (take-suc-set q.places q.queued v (omega arith))

    pub pushed_sections : (pushing q v).made ≡ true → sections_of (pushing q v).queue ≡ sections_of q ++ (section_of v ∷ [])
    pushed_sections =
        pushing_by (λ (r : Queued). r.made ≡ true → sections_of r.queue ≡ sections_of q ++ (section_of v ∷ []))
        (λ h e. rw (one_more h) (map-append section_of (take q.queued q.places) (v ∷ [])))
        (λ h e. let z : ◌≡◌ {A = ℕ} 0 1 = cc in absurd (omega arith))

    pub pushed_live : (d i : ℕ) → all_sections_live d i (take q.queued q.places) ≡ true → section_live d i v ≡ true
        → all_sections_live d i (take (pushing q v).queue.queued (pushing q v).queue.places) ≡ true
    pushed_live d i live new =
        pushing_by (λ (r : Queued). all_sections_live d i (take r.queue.queued r.queue.places) ≡ true)
        (λ h. rw (one_more h) (sections_snoc d i (take q.queued q.places) v live new))
        (λ _. live)
