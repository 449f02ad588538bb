-- A step that was done went on from what an earlier one found. Assumes nothing.
use mathlib.Core.Path.{◌≡◌, refl}
use Prim.Native.Nat.{ℕ}
use native.Mathlib.Omega.{arith}
use Rattle.answers.specs.Answer.{Answer, done, refused, and_then}

pub then_done : {A B : Type 0} (x : Answer A) (f : A → Answer B) (b : B) → and_then x f ≡ done b
    → (a : A) × (x ≡ done a) × (f a ≡ done b)
then_done (done a) f b h = (a, refl, h)
then_done (refused r) f b h = let z : ◌≡◌ {A = ℕ} 0 1 = cc in absurd (omega arith)
