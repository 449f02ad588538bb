-- What `release` stores: the places closed up; and `releasing` by its cases. Assumes nothing.
use mathlib.Core.Path.{◌≡◌, ◌∙◌}
use mathlib.Core.Bool.{true, false}
use mathlib.Core.List.{List, ◌∷◌, ◌++◌}
use Prim.Native.Nat.{ℕ, suc, ◌+◌, ◌-◌, ◌≤◌, ◌<◌}
use native.Mathlib.Numerals.{add-one}
use native.Mathlib.Omega.{arith}
use lib.ListN.{length, get_or, take, drop, set, length-drop}
use lib.Seq.{paste, drop-cons, take-take, length_paste_head, set_at}
use borrow.Author.Tests.{lt-ltb, le-ltb, le-leb, lt-leb}
use Rattle.std.proofs.lemmas.List.{append_assoc}
use Rattle.model.specs.Bounds.{queue_places}
use Rattle.tracking.specs.declared.Queue.{Queue}
use Rattle.tracking.specs.Queue.{no_section, oldest_of, closed_up, releasing}

-- what follows moved up, and the last place cleared
pub closes : {A : Type 0} (empty : A) (l : List A) (n i k : ℕ) → i < n → n ≤ length l → k ≡ n - (i + 1)
    → set (paste l i (take (n - (i + 1)) (drop (i + 1) l)) k) (n - 1) empty ≡ closed_up empty l n i
closes empty l n i k h room whole =
    let w : n - (i + 1) ≡ n - 1 - i = omega arith in
    let to : i + (n - 1 - i) ≡ n - 1 = omega arith in
    let last : suc (n - 1) ≡ n = omega arith in
    let rest : drop (n - 1) l ≡ get_or l (n - 1) empty ∷ drop n l = rw last at (drop-cons l (n - 1) empty (omega arith)) in
    let head : length (take i l ++ take (n - 1 - i) (drop (suc i) l)) ≡ n - 1 =
    length_paste_head l i (drop (suc i) l) (n - 1 - i) (omega arith) (rw length-drop (omega arith)) ∙ to in
    let all : take (n - 1 - i) (take (n - 1 - i) (drop (suc i) l)) ≡ take (n - 1 - i) (drop (suc i) l) = take-take (n - 1 - i) (n - 1 - i) _ (omega arith) in
    rw (whole, w, add-one, all, to, rest, set_at (take i l ++ take (n - 1 - i) (drop (suc i) l)) (get_or l (n - 1) empty) (drop n l) empty (n - 1) head, append_assoc)

module _ (q : Queue) (s : ℕ) where
  pub too_long : queue_places < q.queued → releasing q s ≡ record { made = false; queue = q }
  unfolding releasing
  too_long h = rw (lt-leb q.queued queue_places h)

  module _ (h : q.queued ≤ queue_places) (i : ℕ) (e : i ≡ oldest_of s (take q.queued q.places)) where
    pub nothing : q.queued ≤ i → releasing q s ≡ record { made = false; queue = q }
    unfolding releasing
    nothing g = rw (le-leb q.queued queue_places h, ← e, le-ltb i q.queued g)

    pub released : i < q.queued
        → releasing q s ≡ record { made = true; queue = record { queued = q.queued - 1; places = closed_up no_section q.places q.queued i } }
    unfolding releasing
    released g = rw (le-leb q.queued queue_places h, ← e, lt-ltb i q.queued g)
