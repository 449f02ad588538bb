-- What every call does first: 22 for a record that breaks its rules, then 18 or 19; and the promise of a call from what it does after that.
-- Assumes nothing.
use mathlib.Core.Path.{◌≡◌, refl, sym, ap, ◌∙◌}
use mathlib.Core.Bool.{Bool, true, false, cond, beq, ◌&&◌}
use mathlib.Core.List.{List}
use mathlib.Core.Option.{Option, some, none}
use Prim.Native.Nat.{ℕ}
use native.Mathlib.Omega.{arith}
use Rattle.std.specs.Prelude.{Result, Ok, Err, Option as Maybe, Some, None, is_some}
use Rattle.std.specs.Option.{ok_or}
use Rattle.answers.specs.Table.{Done, replied}
use Rattle.arena.specs.Ring.{long_enough}
use Rattle.answers.specs.declared.Refusal.{Refusal}
use Rattle.answers.specs.declared.Refusal.TheVariants.{SectionOpen, NoSection, BadCall}
use Rattle.model.specs.Drop.{closed}
use Rattle.model.specs.Section.{in_section}
use Rattle.model.specs.Table as model
use Rattle.dynamic.specs.Calls.{no, admitting, admitting_with, when_closed, when_open}
use Rattle.dynamic.specs.Promise.{outcome, Keeps}
use Rattle.dynamic.specs.Record.{Checked, uses_here, view, sound, usable, lowest_used, checked, checking}
use Rattle.dynamic.specs.declared.Replied.{Replied}
use Rattle.dynamic.specs.declared.Table.{Table}

-- ---- 22, then 18 or 19, then the step

module _ (t : Table) (x : Replied) where
  pub closed_broken : sound t ≡ false → no t BadCall ≡ when_closed t x
  closed_broken h = rw h

  pub closed_open : sound t ≡ true → t.active ≡ true → no t SectionOpen ≡ when_closed t x
  closed_open h a = rw (h, a)

  pub closed_step : sound t ≡ true → t.active ≡ false → x ≡ when_closed t x
  closed_step h a = rw (h, a)

  pub open_broken : sound t ≡ false → no t BadCall ≡ when_open t x
  open_broken h = rw h

  pub open_closed : sound t ≡ true → t.active ≡ false → no t NoSection ≡ when_open t x
  open_closed h a = rw (h, a)

  pub open_step : sound t ≡ true → t.active ≡ true → x ≡ when_open t x
  open_step h a = rw (h, a)

-- ---- the same, from what `admitted` answers

-- an answer that is done is none that refuses
abbrev kind : Result ℕ Refusal → ℕ
kind (Ok low) = 0
kind (Err r) = 1

clash : {A : Type 0} → ◌≡◌ {A = ℕ} 0 1 → A
clash z = absurd (omega (arith, z))

-- what an option that is turned into a result was
module _ {A : Type 0} (o : Maybe A) (e : Refusal) (r : Result A Refusal) (told : r ≡ ok_or o e) where
  pub or_ok : (x : A) → r ≡ Ok x → o ≡ Some x
  or_ok x h = go o (sym told ∙ h)
    where
      go : (o : Maybe A) → ok_or o e ≡ Ok x → o ≡ Some x
      go (Some y) h = cc
      go None h = let z : ◌≡◌ {A = ℕ} 0 1 = cc in absurd (omega arith)

  pub or_err : (w : Refusal) → r ≡ Err w → (o ≡ None) × (w ≡ e)
  or_err w h = go o (sym told ∙ h)
    where
      go : (o : Maybe A) → ok_or o e ≡ Err w → (o ≡ None) × (w ≡ e)
      go (Some y) h = let z : ◌≡◌ {A = ℕ} 0 1 = cc in absurd (omega arith)
      go None h = (refl, cc)

-- ---- what `admitted` answers, by its tests

module _ (t : Table) (x : Maybe ℕ) (told : checked x ≡ checking t) where
  pub unsound : x ≡ None → sound t ≡ false
  unfolding checking
  unsound e = go (sound t) (rw e at told)
    where
      go : (k : Bool)
          → ◌≡◌ {A = Checked} (record { sound = false; low = 0 })
          (cond k (record { sound = true; low = lowest_used t }) (record { sound = false; low = 0 }))
          → k ≡ false
      go true h = ap (λ (c : Checked). c.sound) (sym h)
      go false h = refl

  pub none_broken : is_some x ≡ false → sound t ≡ false
  none_broken h = go x refl h
    where
      go : (y : Maybe ℕ) → x ≡ y → is_some y ≡ false → sound t ≡ false
      go (Some low) e h = let z : ◌≡◌ {A = ℕ} 0 1 = cc in absurd (omega arith)
      go None e h = unsound e

  pub broken : (w : Bool) → x ≡ None → Err BadCall ≡ admitting t w
  broken w e = rw (unsound e)

  module _ (low : ℕ) (e : x ≡ Some low) where
    kept : (sound t ≡ true) × (low ≡ lowest_used t)
    unfolding checking
    kept = go (sound t) (rw e at told)
      where
        go : (k : Bool)
            → ◌≡◌ {A = Checked} (record { sound = true; low = low })
            (cond k (record { sound = true; low = lowest_used t }) (record { sound = false; low = 0 }))
            → (k ≡ true) × (low ≡ lowest_used t)
        go true h = (refl, ap (λ (c : Checked). c.low) h)
        go false h = let z : ◌≡◌ {A = Bool} true false = ap (λ (c : Checked). c.sound) h in let y : ◌≡◌ {A = ℕ} 0 1 = cc in absurd (omega arith)

    pub kept_rules : sound t ≡ true
    kept_rules = kept.0

    pub kept_lowest : low ≡ lowest_used t
    kept_lowest = kept.1

    pub as_wanted : (w : Bool) → beq t.active w ≡ true → Ok low ≡ admitting t w
    as_wanted w h = rw (kept.0, ← kept.1) (go t.active w h)
      where
        go : (on w : Bool) → beq on w ≡ true → Ok low ≡ cond on (cond w (Ok low) (Err SectionOpen)) (cond w (Err NoSection) (Ok low))
        go true true h = refl
        go true false h = let z : ◌≡◌ {A = ℕ} 0 1 = cc in absurd (omega arith)
        go false true h = let z : ◌≡◌ {A = ℕ} 0 1 = cc in absurd (omega arith)
        go false false h = refl

    by : Bool → Bool → Result ℕ Refusal
    by on w = cond on (cond w (Ok low) (Err SectionOpen)) (cond w (Err NoSection) (Ok low))

    admitting_is : (w : Bool) → by t.active w ≡ admitting t w
    unfolding by
    admitting_is w = rw (kept.0, ← kept.1)

    pub is_open : (w : Bool) → beq t.active w ≡ false → t.active ≡ true → Err SectionOpen ≡ admitting t w
    unfolding by
    is_open w h on = go t.active w h on ∙ admitting_is w
      where
        go : (on w : Bool) → beq on w ≡ false → on ≡ true → Err SectionOpen ≡ by on w
        go true true h o = let z : ◌≡◌ {A = ℕ} 0 1 = cc in absurd (omega arith)
        go true false h o = refl
        go false w h o = let z : ◌≡◌ {A = ℕ} 0 1 = cc in absurd (omega arith)

    pub is_closed : (w : Bool) → beq t.active w ≡ false → t.active ≡ false → Err NoSection ≡ admitting t w
    unfolding by
    is_closed w h off = go t.active w h off ∙ admitting_is w
      where
        go : (on w : Bool) → beq on w ≡ false → on ≡ false → Err NoSection ≡ by on w
        go true w h o = let z : ◌≡◌ {A = ℕ} 0 1 = cc in absurd (omega arith)
        go false true h o = refl
        go false false h o = let z : ◌≡◌ {A = ℕ} 0 1 = cc in absurd (omega arith)

pub some_sound : (t : Table) (x : Maybe ℕ) → checked x ≡ checking t → is_some x ≡ true → sound t ≡ true
some_sound t (Some low) told h = kept_rules t (Some low) told low refl
some_sound t None told h = let z : ◌≡◌ {A = ℕ} 0 1 = cc in absurd (omega arith)

-- ---- what a call knows from it

-- what is known where a call goes on
pub record Admitted (t : Table) (w : Bool) (low : ℕ) : Type 0 where
  pub rules : sound t ≡ true
  pub active : t.active ≡ w
  pub lowest : low ≡ lowest_used t

module _ (t : Table) where
  ok_is : (m low : ℕ) → ◌≡◌ {A = Result ℕ Refusal} (Ok m) (Ok low) → low ≡ m
  ok_is m low e = cc

  pub admitted_ok : (w : Bool) (low : ℕ) → admitting t w ≡ Ok low → Admitted t w low
  admitted_ok w low e = go (sound t) refl t.active refl w e
    where
      go : (k : Bool) → sound t ≡ k → (on : Bool) → t.active ≡ on → (w : Bool)
          → cond k (cond on (cond w (Ok (lowest_used t)) (Err SectionOpen)) (cond w (Err NoSection) (Ok (lowest_used t)))) (Err BadCall) ≡ Ok low
          → Admitted t w low
      go true h true o true e = record { rules = h; active = o; lowest = ok_is (lowest_used t) low e }
      go true h false o false e = record { rules = h; active = o; lowest = ok_is (lowest_used t) low e }
      go true h true o false e = clash (sym (ap kind e))
      go true h false o true e = clash (sym (ap kind e))
      go false h on o w e = clash (sym (ap kind e))

  pub admitted_with_ok : (a : List ℕ) (w : Bool) (low : ℕ) → admitting_with t a w ≡ Ok low → (long_enough a ≡ true) × Admitted t w low
  admitted_with_ok a w low e = go (long_enough a) refl e
    where
      go : (b : Bool) → long_enough a ≡ b → cond b (admitting t w) (Err BadCall) ≡ Ok low → (long_enough a ≡ true) × Admitted t w low
      go true h e = (h, admitted_ok w low e)
      go false h e = clash (sym (ap kind e))

  -- a refusal, put into what a call answers: f is the call's answer for one
  module _ {A : Type 0} (f : Refusal → A) (x : A) (why : Refusal) where
    abbrev refusal : Result ℕ Refusal → Refusal
    refusal (Ok low) = why
    refusal (Err r) = r

    pub closed_refused : admitting t false ≡ Err why → f why ≡ cond (sound t) (cond t.active (f SectionOpen) x) (f BadCall)
    closed_refused e = go (sound t) t.active e
      where
        go : (k on : Bool) → cond k (cond on (Err SectionOpen) (Ok (lowest_used t))) (Err BadCall) ≡ Err why
            → f why ≡ cond k (cond on (f SectionOpen) x) (f BadCall)
        go true true e = ap f (sym (ap refusal e))
        go true false e = clash (ap kind e)
        go false on e = ap f (sym (ap refusal e))

    pub open_refused : admitting t true ≡ Err why → f why ≡ cond (sound t) (cond t.active x (f NoSection)) (f BadCall)
    open_refused e = go (sound t) t.active e
      where
        go : (k on : Bool) → cond k (cond on (Ok (lowest_used t)) (Err NoSection)) (Err BadCall) ≡ Err why
            → f why ≡ cond k (cond on x (f NoSection)) (f BadCall)
        go true true e = clash (ap kind e)
        go true false e = ap f (sym (ap refusal e))
        go false on e = ap f (sym (ap refusal e))

    module _ (a : List ℕ) where
      pub closed_with_refused : admitting_with t a false ≡ Err why → f why ≡ cond (usable t a) (cond t.active (f SectionOpen) x) (f BadCall)
      closed_with_refused e = go (sound t) (long_enough a) t.active e
        where
          go : (k l on : Bool) → cond l (cond k (cond on (Err SectionOpen) (Ok (lowest_used t))) (Err BadCall)) (Err BadCall) ≡ Err why
              → f why ≡ cond (k && l) (cond on (f SectionOpen) x) (f BadCall)
          go true true true e = ap f (sym (ap refusal e))
          go true true false e = clash (ap kind e)
          go true false on e = ap f (sym (ap refusal e))
          go false true on e = ap f (sym (ap refusal e))
          go false false on e = ap f (sym (ap refusal e))

      pub open_with_refused : admitting_with t a true ≡ Err why → f why ≡ cond (usable t a) (cond t.active x (f NoSection)) (f BadCall)
      open_with_refused e = go (sound t) (long_enough a) t.active e
        where
          go : (k l on : Bool) → cond l (cond k (cond on (Ok (lowest_used t)) (Err NoSection)) (Err BadCall)) (Err BadCall) ≡ Err why
              → f why ≡ cond (k && l) (cond on x (f NoSection)) (f BadCall)
          go true true true e = clash (ap kind e)
          go true true false e = ap f (sym (ap refusal e))
          go true false on e = ap f (sym (ap refusal e))
          go false true on e = ap f (sym (ap refusal e))
          go false false on e = ap f (sym (ap refusal e))

-- ---- the promise

-- equal outcomes are equal in the model
shown : (a : List ℕ) {x y : Replied} → x ≡ y
    → outcome x.table a (replied x.reply) ≡ outcome y.table a (replied y.reply)
shown a e = ap (λ (z : Replied). outcome z.table a (replied z.reply)) e

-- what an open section is in the model
pub open_section : (t : Table) (a : List ℕ) → t.active ≡ true
    → (view t a).section ≡ some (record { stream = t.section.stream; base = t.base; uses = uses_here t.section })
unfolding view
open_section t a h = rw h

pub no_section_lem : (t : Table) (a : List ℕ) → t.active ≡ false → (view t a).section ≡ none
unfolding view
no_section_lem t a h = rw h

-- a call that an open section refuses
module _ (t : Table) (x : Replied) (s : model.Table → model.Step Done)
    (model-says : sound t ≡ true → t.active ≡ false → (a : List ℕ) → outcome x.table a (replied x.reply) ≡ s (view t a))
    (keeps : sound t ≡ true → t.active ≡ false → sound x.table ≡ true) where
  closed_model : (b : Bool) → t.active ≡ b → sound t ≡ true → (a : List ℕ)
      → outcome (when_closed t x).table a (replied (when_closed t x).reply) ≡ closed (view t a) (view t a).section (s (view t a))
  closed_model true h k a =
      sym (shown a (closed_open t x k h)) ∙ sym (ap (λ (o : Option model.Open). closed (view t a) o (s (view t a))) (open_section t a h))
  closed_model false h k a =
      sym (shown a (closed_step t x k h)) ∙ model-says k h a
      ∙ sym (ap (λ (o : Option model.Open). closed (view t a) o (s (view t a))) (no_section_lem t a h))

  closed_kept : (b : Bool) → t.active ≡ b → sound t ≡ true → sound (when_closed t x).table ≡ true
  closed_kept true h k = sym (ap (λ (y : Replied). sound y.table) (closed_open t x k h)) ∙ k
  closed_kept false h k = sym (ap (λ (y : Replied). sound y.table) (closed_step t x k h)) ∙ keeps k h

  pub keeps_closed : (r : Replied) → r ≡ when_closed t x → Keeps t (when_closed t x) r (λ m. closed m m.section (s m))
  keeps_closed r e =
      record {
        next = e;
        model = λ k a. shown a e ∙ closed_model t.active refl k a;
        kept = λ k. ap (λ (y : Replied). sound y.table) e ∙ closed_kept t.active refl k;
      }

-- a call that needs an open section
module _ (t : Table) (x : Replied) (s : model.Table → model.Open → model.Step Done)
    (model-says : sound t ≡ true → t.active ≡ true → (a : List ℕ)
    → outcome x.table a (replied x.reply)
    ≡ s (view t a) (record { stream = t.section.stream; base = t.base; uses = uses_here t.section }))
    (keeps : sound t ≡ true → t.active ≡ true → sound x.table ≡ true) where
  open_model : (b : Bool) → t.active ≡ b → sound t ≡ true → (a : List ℕ)
      → outcome (when_open t x).table a (replied (when_open t x).reply) ≡ in_section (view t a) (view t a).section (s (view t a))
  open_model true h k a =
      sym (shown a (open_step t x k h)) ∙ model-says k h a
      ∙ sym (ap (λ (o : Option model.Open). in_section (view t a) o (s (view t a))) (open_section t a h))
  open_model false h k a =
      sym (shown a (open_closed t x k h)) ∙ sym (ap (λ (o : Option model.Open). in_section (view t a) o (s (view t a))) (no_section_lem t a h))

  open_kept : (b : Bool) → t.active ≡ b → sound t ≡ true → sound (when_open t x).table ≡ true
  open_kept true h k = sym (ap (λ (y : Replied). sound y.table) (open_step t x k h)) ∙ keeps k h
  open_kept false h k = sym (ap (λ (y : Replied). sound y.table) (open_closed t x k h)) ∙ k

  pub keeps_open : (r : Replied) → r ≡ when_open t x → Keeps t (when_open t x) r (λ m. in_section m m.section (s m))
  keeps_open r e =
      record {
        next = e;
        model = λ k a. shown a e ∙ open_model t.active refl k a;
        kept = λ k. ap (λ (y : Replied). sound y.table) e ∙ open_kept t.active refl k;
      }
