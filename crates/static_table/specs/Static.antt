-- The static table: its bytes laid end to end, an entry by its index, and the lowest index of a field or a name.
use Rattle.std.specs.Prelude.{Some, None, Option as Maybe, Bool, cond, List, [], ◌∷◌, ◌++◌, ℕ, suc, ltb, length, get_or, take}
use Rattle.std.proofs.Math.Option.{Option, some, none}
use Rattle.answers.specs.Answer.{Answer, done, refused}
use Rattle.answers.specs.declared.Refusal.TheVariants.{InvalidStaticIndex}
use Rattle.byte_writing.specs.Stretch.{stretch_of}
use Rattle.field.specs.Field.{Field, same, equal}
use Rattle.static_table.specs.AppendixA.{appendix_a}
-- where an entry stands in the bytes
use Rattle.static_table.specs.declared.Place.{Place}

-- "ninety-nine names and values laid end to end as bytes"
abbrev pub laid : List Field → List ℕ
laid [] = []
laid (f ∷ l) = f.name ++ (f.value ++ laid l)

abbrev pub no_field : Field
no_field = record { name = []; value = [] }

abbrev pub place_of : List Field → ℕ → Place
place_of l i =
    record {
      start = length (laid (take i l));
      name = length (get_or l i no_field).name;
      value = length (get_or l i no_field).value;
    }

-- "4 InvalidStaticIndex: 99 or more"
unfoldable pub entry_at : ℕ → Answer Place
entry_at i = cond (ltb i (length appendix_a)) (done (place_of appendix_a i)) (refused InvalidStaticIndex)

-- "a search gives the lowest index": counted from i, the first field that passes the test
abbrev pub lowest : (Field → Bool) → ℕ → List Field → Option ℕ
lowest test i [] = none
lowest test i (f ∷ l) = cond (test f) (some i) (lowest test (suc i) l)

unfoldable pub lowest_field : List ℕ → List ℕ → Option ℕ
lowest_field n v = lowest (equal (record { name = n; value = v })) 0 appendix_a

unfoldable pub lowest_name : List ℕ → Option ℕ
lowest_name n = lowest (λ f. same n f.name) 0 appendix_a

abbrev pub found : Maybe ℕ → Option ℕ
found (Some i) = some i
found None = none

-- some bytes of the table, if all of them lie inside
unfoldable pub cut_of : ℕ → ℕ → Answer (List ℕ)
cut_of start n = stretch_of (laid appendix_a) start n
