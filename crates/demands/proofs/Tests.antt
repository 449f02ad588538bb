-- What holds whichever way a test goes. Assumes nothing.
use mathlib.Core.Path.{◌≡◌, refl}
use mathlib.Core.Bool.{Bool, true, false, cond}
use Rattle.answers.specs.declared.Refusal.TheVariants.{SectionOpen, NoSection, BadCall}
use Rattle.dynamic.specs.Calls as calls
use Rattle.dynamic.specs.Record.{sound}
use Rattle.dynamic.specs.declared.Replied.{Replied}
use Rattle.dynamic.specs.declared.Table.{Table}

pub either : {A : Type 0} (P : A → Type 0) (b : Bool) (x y : A) → P x → P y → P (cond b x y)
either P true x y p q = p
either P false x y p q = q

-- 22, then 18 or 19, leave the record
module _ (P : Table → Type 0) (t : Table) (p : P t) (r : Replied) where
  pub when_closed_lem : (sound t ≡ true → P r.table) → P (calls.when_closed t r).table
  when_closed_lem f = go (sound t) t.active f
    where
      go : (b on : Bool) → (b ≡ true → P r.table) → P (cond b (cond on (calls.no t SectionOpen) r) (calls.no t BadCall)).table
      go true true f = p
      go true false f = f refl
      go false on f = p

  pub when_open_lem : (sound t ≡ true → P r.table) → P (calls.when_open t r).table
  when_open_lem f = go (sound t) t.active f
    where
      go : (b on : Bool) → (b ≡ true → P r.table) → P (cond b (cond on r (calls.no t NoSection)) (calls.no t BadCall)).table
      go true true f = f refl
      go true false f = p
      go false on f = p
