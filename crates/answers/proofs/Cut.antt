-- What a reader of a single instruction answers, from what its parts found: the value, cut, or a refusal. Assumes nothing.
use mathlib.Core.Path.{◌≡◌}
use mathlib.Core.Bool.{true, false}
use mathlib.Core.Option.{some, none}
use Rattle.answers.specs.Answer.{Answer, done, refused, and_then, ends_early, cut_short}
use Rattle.answers.specs.declared.Refusal.{Refusal}

module _ {A B : Type 0} (x : Answer A) (f : A → Answer B) where
  pub cut_whole : (a : A) (b : B) → x ≡ done a → f a ≡ done b → done (some b) ≡ cut_short (and_then x f)
  cut_whole a b h e = rw (h, e)

  pub cut_past : (a : A) (r : Refusal) → x ≡ done a → f a ≡ refused r → ends_early r ≡ false → refused r ≡ cut_short (and_then x f)
  cut_past a r h e q = rw (h, e, q)

  pub cut_early : (r : Refusal) → x ≡ refused r → ends_early r ≡ true → done none ≡ cut_short (and_then x f)
  cut_early r h e = rw (h, e)

  pub cut_refused : (r : Refusal) → x ≡ refused r → ends_early r ≡ false → refused r ≡ cut_short (and_then x f)
  cut_refused r h e = rw (h, e)
