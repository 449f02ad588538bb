-- No second answer of a reader into a list that is given back. Assumes nothing.
use mathlib.Core.Path.{◌≡◌, sym, ap, ◌∙◌}
use mathlib.Core.List.{List, ◌++◌}
use Prim.Native.Nat.{ℕ}
use lib.ListN.{take, drop, take-append-drop}
use Rattle.decoder.specs.Section as section
use Rattle.listed.specs.Lent.{Lists}
use Rattle.listed.specs.declared.Listed.{Listed}
use Rattle.section_steps.specs.declared.Field.{Field as Record}
use Rattle.demands.proofs.OneAnswer.{one_exact, one_section}

-- what is returned, all its records with it, and the buffer
pub one_listed : (k : section.Reader) (s out : List ℕ) (fill : Record) (n : ℕ) (r r' : Listed) (m m' : List ℕ)
    → Lists k s fill n out r m → Lists k s fill n out r' m' → (r ≡ r') × (m ≡ m')
one_listed k s out fill n r r' m m' w w' =
    let same = one_section r.decoded r'.decoded (take n r.fields) (take n r'.fields) m m' w.0 w'.0 in
    let fields : r.fields ≡ r'.fields =
    sym (take-append-drop n r.fields) ∙ ap (λ (l : List Record). l ++ drop n r.fields) same.1 ∙ ap (λ (l : List Record). take n r'.fields ++ l) (one_exact w.1 w'.1) ∙ take-append-drop n r'.fields in
    (λ i. record { decoded = same.0 i; fields = fields i }, same.2)
