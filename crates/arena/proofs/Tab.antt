-- Laws of a list given by its elements: its length, its elements, and its parts. Assumes nothing.
use mathlib.Core.Path.{◌≡◌, refl, sym, ap, ◌∙◌}
use mathlib.Core.List.{List, ◌∷◌, ◌++◌}
use Prim.Native.Nat.{ℕ, zero, suc, ◌+◌, ◌<◌}
use native.Mathlib.Nat.{zero-add, suc-add}
use native.Mathlib.Omega.{arith}
use lib.ListN.{length, get_or, drop}
use lib.Seq.{drop_at}
use Rattle.arena.specs.Tab.{tab}

module _ {A : Type 0} where
  pub length_tab : (n : ℕ) (f : ℕ → A) → length (tab n f) ≡ n
  length_tab zero f = refl
  length_tab (suc n) f = ap suc (length_tab n (λ (i : ℕ). f (suc i)))

  pub get_d_tab : (n : ℕ) (f : ℕ → A) (i : ℕ) (d : A) → i < n → get_or (tab n f) i d ≡ f i
  get_d_tab zero f i d h = absurd (omega arith)
  get_d_tab (suc n) f zero d h = refl
  get_d_tab (suc n) f (suc i) d h = get_d_tab n (λ (i : ℕ). f (suc i)) i d (omega arith)

  pub tab_ext : (n : ℕ) (f g : ℕ → A) → ((i : ℕ) → i < n → f i ≡ g i) → tab n f ≡ tab n g
  tab_ext zero f g h = refl
  tab_ext (suc n) f g h =
      let first : f zero ≡ g zero = h zero (omega arith) in
      let rest : tab n (λ (i : ℕ). f (suc i)) ≡ tab n (λ (i : ℕ). g (suc i)) = tab_ext n _ _ (λ i l. h (suc i) (omega arith)) in
      cc

  pub tab_add : (m n : ℕ) (f : ℕ → A) → tab (m + n) f ≡ tab m f ++ tab n (λ (i : ℕ). f (m + i))
  tab_add zero n f = rw zero-add (tab_ext n f (λ (i : ℕ). f (zero + i)) (λ i l. ap f (sym (zero-add i))))
  tab_add (suc m) n f =
      let g : ℕ → A = λ (i : ℕ). f (suc i) in
      let shift : tab n (λ (i : ℕ). g (m + i)) ≡ tab n (λ (i : ℕ). f (suc m + i)) = tab_ext n _ _ (λ i l. ap f (sym (suc-add m i))) in
      rw suc-add (ap (λ (l : List A). f zero ∷ l) (tab_add m n g ∙ ap (λ (l : List A). tab m g ++ l) shift))

  pub drop_tab : (k n : ℕ) (f : ℕ → A) → drop k (tab (k + n) f) ≡ tab n (λ (i : ℕ). f (k + i))
  drop_tab k n f = rw tab_add (drop_at (tab k f) _ k (length_tab k f))
