-- The blocked sections by their largest reference in their array, and what they are in the model.
use Rattle.std.specs.Prelude.{Some, None, Option, Bool, true, false, ◌&&◌, cond, List, [], ◌∷◌, ◌++◌, map, ℕ, ◌+◌, ◌-◌, leb, ltb, eqb, length, get_or, take, set, replicate}
use Rattle.model.specs.Bounds.{blocked_values, blocked_sections}
use Rattle.model.specs.Table.{Blocked}
use Rattle.blocked.specs.declared.Value.{Value}
use Rattle.blocked.specs.declared.Waiting.{Waiting}
use Rattle.blocked.specs.Search.{first_of}

abbrev pub no_value : Value
no_value = record { largest = 0; sections = 0 }

abbrev pub blocked_of : Value → Blocked
blocked_of v = record { largest = v.largest; sections = v.sections }

abbrev pub values_of : Waiting → List Value
values_of w = take w.distinct w.values

-- in the model
abbrev pub waiting_of : Waiting → List Blocked
waiting_of w = map blocked_of (values_of w)

abbrev pub sum_of : List Value → ℕ
sum_of [] = 0
sum_of (v ∷ l) = v.sections + sum_of l

-- the rule: "64 distinct blocked values, 65,535 blocked sections"
unfoldable pub keeps_count : Waiting → Bool
keeps_count w =
    leb w.distinct blocked_values && (eqb (sum_of (values_of w)) w.total && leb w.total blocked_sections)

abbrev pub value_at : ℕ → List Value → ℕ
value_at x l = first_of (λ (v : Value). v.largest) x l

-- the blocked sections with one more, or as they were where a bound would be passed
pub record Counted : Type 0 where
  pub fits : Bool
  pub waiting : Waiting

abbrev pub counted : Waiting → Option Waiting → Counted
counted w (Some next) = record { fits = true; waiting = next }
counted w None = record { fits = false; waiting = w }

abbrev pub counted_at : Waiting → ℕ → ℕ → Counted
counted_at w x i =
    cond (ltb i w.distinct)
    (record {
      fits = true;
      waiting = record {
        total = w.total + 1;
        distinct = w.distinct;
        values = set w.values i (record { largest = x; sections = (get_or w.values i no_value).sections + 1 });
      };
    })
    (cond (ltb w.distinct blocked_values)
    (record {
      fits = true;
      waiting = record {
        total = w.total + 1;
        distinct = w.distinct + 1;
        values = set w.values w.distinct (record { largest = x; sections = 1 });
      };
    })
    (record { fits = false; waiting = w }))

-- of a record that keeps its rule, one more where no bound is passed
unfoldable pub blocking : Waiting → ℕ → Counted
unfolding keeps_count
blocking w x =
    cond (keeps_count w && ltb w.total blocked_sections) (counted_at w x (value_at x (values_of w))) (record { fits = false; waiting = w })

-- the values above a count, in their order
abbrev pub kept : ℕ → List Value → List Value
kept k [] = []
kept k (v ∷ l) = cond (leb v.largest k) (kept k l) (v ∷ kept k l)

abbrev pub let_go_of : ℕ → List Value → Waiting
let_go_of k l =
    record {
      total = sum_of (kept k l);
      distinct = length (kept k l);
      values = kept k l ++ replicate (blocked_values - length (kept k l)) no_value;
    }

-- of a record that keeps its rule
unfoldable pub let_go : Waiting → ℕ → Waiting
unfolding keeps_count
let_go w k = cond (keeps_count w) (let_go_of k (values_of w)) w
