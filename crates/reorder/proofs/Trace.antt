-- Lists whose every projection agrees are joined by swaps of neighbours that share no projection. Assumes nothing.
use mathlib.Core.Path.{◌≡◌, refl, sym, ap, ◌∙◌, subst}
use mathlib.Core.Bool.{Bool, true, false, cond}
use mathlib.Core.List.{List, [], ◌∷◌, nil≢cons, cons≢nil, head-eq_of_cons-eq, tail-eq_of_cons-eq}
use Rattle.reorder.specs.Reports.{only}
use Rattle.reorder.specs.Swaps.{Swaps, same, keep, swap, then}

-- swaps under a relation are swaps under a wider one
pub widen : {R : Type 0} {I J : R → R → Type 0} → ((x y : R) → I x y → J x y) → {xs ys : List R} → Swaps I xs ys → Swaps J xs ys
widen f (same xs) = same xs
widen f (keep x w) = keep x (widen f w)
widen f (swap x y xs i) = swap x y xs (f x y i)
widen f (then v w) = then (widen f v) (widen f w)

pub only_true : {A : Type 0} (p : A → Bool) (x : A) (xs : List A) → p x ≡ true → only p (x ∷ xs) ≡ x ∷ only p xs
only_true p x xs e = rw e

pub only_false : {A : Type 0} (p : A → Bool) (x : A) (xs : List A) → p x ≡ false → only p (x ∷ xs) ≡ only p xs
only_false p x xs e = rw e

-- a test is true or false
pub either : {X : Type 0} (b : Bool) → (b ≡ true → X) → (b ≡ false → X) → X
either true f g = f refl
either false f g = g refl

-- two elements that do not pass one test, or are equal, change places under it
pub two : {A : Type 0} (a b : Bool) (x y : A) (r : List A) → (a ≡ true → b ≡ true → x ≡ y)
    → cond a (x ∷ cond b (y ∷ r) r) (cond b (y ∷ r) r) ≡ cond b (y ∷ cond a (x ∷ r) r) (cond a (x ∷ r) r)
two true true x y r h = rw (h refl refl)
two true false x y r h = refl
two false true x y r h = refl
two false false x y r h = refl

pub cancel_front : {A : Type 0} (b : Bool) (y : A) (l r : List A) → cond b (y ∷ l) l ≡ cond b (y ∷ r) r → l ≡ r
cancel_front true y l r h = tail-eq_of_cons-eq h
cancel_front false y l r h = h

module _ {R C : Type 0} (dec : (x y : R) → Dec (x ≡ y)) (has : C → R → Bool) where
  -- no channel has both
  abbrev pub Apart : R → R → Type 0
  Apart x y = (c : C) → has c x ≡ true → has c y ≡ true → ⊥

  -- y stands in xs behind elements apart from it, and `rest` is xs without it
  data Front (y : R) : List R → List R → Type 0 where
    here : (xs : List R) → Front y (y ∷ xs) xs
    there : (x : R) {xs rest : List R} → Apart x y → Front y xs rest → Front y (x ∷ xs) (x ∷ rest)

  to_front : {y : R} {xs rest : List R} → Front y xs rest → Swaps Apart xs (y ∷ rest)
  to_front {y} (here xs) = same (y ∷ xs)
  to_front {y} (there x {rest = rest} a f) = then (keep x (to_front f)) (swap x y rest a)

  -- what swaps keep
  pub kept : {xs ys : List R} → Swaps Apart xs ys → (c : C) → only (has c) xs ≡ only (has c) ys
  kept (same xs) c = refl
  kept (keep x {xs} {ys} w) c = ap (λ (l : List R). cond (has c x) (x ∷ l) l) (kept w c)
  kept (swap x y xs a) c = two (has c x) (has c y) x y (only (has c) xs) (λ p q. absurd (a c p q))
  kept (then v w) c = kept v c ∙ kept w c

  find : (y : R) (c₀ : C) → has c₀ y ≡ true → (xs : List R)
      → ((c : C) → has c y ≡ true → (zs : List R) × (only (has c) xs ≡ y ∷ zs)) → (rest : List R) × Front y xs rest
  find y c₀ h₀ [] h = absurd (nil≢cons (h c₀ h₀).1)
  find y c₀ h₀ (x ∷ xs) h = go (dec x y) (find y c₀ h₀ xs)
    where
      go : Dec (x ≡ y) → (((c : C) → has c y ≡ true → (zs : List R) × (only (has c) xs ≡ y ∷ zs)) → (rest : List R) × Front y xs rest)
          → (rest : List R) × Front y (x ∷ xs) rest
      go (yes e) more = (xs, subst (λ (z : R). Front y (z ∷ xs) xs) (sym e) (here xs))
      go (no ne) more =
          let apart : Apart x y = λ c hx hy. ne (head-eq_of_cons-eq (sym (only_true (has c) x xs hx) ∙ (h c hy).1)) in
          let m = more (λ c hy.
          either (has c x) (λ hx. absurd (apart c hx hy)) (λ hx. ((h c hy).0, sym (only_false (has c) x xs hx) ∙ (h c hy).1))) in
          (x ∷ m.0, there x apart m.1)

  module _ (cover : (x : R) → (c : C) × (has c x ≡ true)) where
    empty : (xs : List R) → ((c : C) → only (has c) xs ≡ []) → xs ≡ []
    empty [] h = refl
    empty (x ∷ xs) h = let c = cover x in absurd (cons≢nil (sym (only_true (has c.0) x xs c.1) ∙ h c.0))

    -- where every channel of xs and ys agrees, swaps of neighbours that are apart lead from xs to ys
    pub reach : (xs ys : List R) → ((c : C) → only (has c) xs ≡ only (has c) ys) → Swaps Apart xs ys
    reach xs [] h = subst (λ (l : List R). Swaps Apart l []) (sym (empty xs h)) (same [])
    reach xs (y ∷ ys) h =
        let c = cover y in
        let f = find y c.0 c.1 xs (λ d hd. (only (has d) ys, h d ∙ only_true (has d) y ys hd)) in
        let w = to_front f.1 in
        then w (keep y (reach f.0 ys (λ d. cancel_front (has d y) y (only (has d) f.0) (only (has d) ys) (sym (kept w d) ∙ h d))))
