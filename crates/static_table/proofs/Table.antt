-- Each entry's bytes stand where the arrays say: for any list of fields, and so for Appendix A. Assumes nothing.
use mathlib.Core.Path.{◌≡◌, refl, sym, ap, ◌∙◌}
use mathlib.Core.Bool.{Bool, true, false, ◌&&◌, cond}
use mathlib.Core.List.{List, [], ◌∷◌, ◌++◌}
use Prim.Native.Nat.{ℕ, zero, suc, ◌+◌, ◌-◌, ◌≤◌, ◌<◌}
use native.Mathlib.Omega.{arith}
use lib.Dec.{ltb, leb, eqb}
use lib.ListN.{length, get_or, take, drop, length-append, get_or-map}
use lib.Seq.{drop-append-add, drop-drop, drop_at, take_at}
use borrow.Author.Tests.{ltb-true, leb-true, lt-ltb, le-ltb}
use Rattle.byte_writing.proofs.Stretch.{cut}
use Rattle.std.specs.Cmp.Lexicographic.{pointwise}
use Rattle.field.specs.Field.{Field, same}
use Rattle.field.proofs.Same.{same_pointwise}
use Rattle.answers.specs.Answer.{done, refused}
use Rattle.answers.specs.declared.Refusal.TheVariants.{InvalidStaticIndex}
use Rattle.static_table.specs.AppendixA.{appendix_a}
use Rattle.static_table.specs.Arrays.{starts_from, name_lengths, value_lengths}
use Rattle.static_table.specs.Static.{laid, no_field, place_of, entry_at}
use Rattle.static_table.specs.declared.Arrays.{Arrays}
use Rattle.static_table.specs.declared.Place.{Place}

-- ---- any list of fields

starts_at : (l : List Field) (s i : ℕ) → i < length l → get_or (starts_from s l) i 0 ≡ s + length (laid (take i l))
starts_at [] s i h = absurd (omega arith)
starts_at (f ∷ l) s zero h = omega arith
starts_at (f ∷ l) s (suc i) h =
    let r = starts_at l (s + length f.name + length f.value) i (omega arith) in
    r ∙ omega (arith, length-append f.name (f.value ++ laid (take i l)), length-append f.value (laid (take i l)))

names_at : (l : List Field) (i : ℕ) → get_or (name_lengths l) i 0 ≡ length (get_or l i no_field).name
names_at l i = get_or-map (λ f. length f.name) l i no_field

values_at : (l : List Field) (i : ℕ) → get_or (value_lengths l) i 0 ≡ length (get_or l i no_field).value
values_at l i = get_or-map (λ f. length f.value) l i no_field

ends_inside : (l : List Field) (i : ℕ) → i < length l
    → (place_of l i).start + (place_of l i).name + (place_of l i).value ≤ length (laid l)
ends_inside [] i h = absurd (omega arith)
ends_inside (f ∷ l) zero h = omega (arith, length-append f.name (f.value ++ laid l), length-append f.value (laid l))
ends_inside (f ∷ l) (suc i) h =
    let r = ends_inside l i (omega arith) in
    omega (
      arith,
      length-append f.name (f.value ++ laid l),
      length-append f.value (laid l),
      length-append f.name (f.value ++ laid (take i l)),
      length-append f.value (laid (take i l)),
    )

stands : (l : List Field) (i : ℕ) → i < length l
    → drop (place_of l i).start (laid l) ≡ (get_or l i no_field).name ++ ((get_or l i no_field).value ++ laid (drop (suc i) l))
stands [] i h = absurd (omega arith)
stands (f ∷ l) zero h = refl
stands (f ∷ l) (suc i) h =
    rw (length-append, length-append, drop-append-add, drop-append-add) (stands l i (omega arith))

name_stands : (l : List Field) (i : ℕ) → i < length l → cut (laid l) (place_of l i).start (place_of l i).name ≡ (get_or l i no_field).name
name_stands l i h = ap (take (place_of l i).name) (stands l i h) ∙ take_at _ _ _ refl

value_stands : (l : List Field) (i : ℕ) → i < length l
    → cut (laid l) ((place_of l i).start + (place_of l i).name) (place_of l i).value ≡ (get_or l i no_field).value
value_stands l i h =
    let p = place_of l i in
    let f = get_or l i no_field in
    let rest = laid (drop (suc i) l) in
    let e : drop (p.start + p.name) (laid l) ≡ f.value ++ rest =
    sym (drop-drop p.name p.start (laid l)) ∙ ap (drop p.name) (stands l i h) ∙ drop_at f.name (f.value ++ rest) p.name refl in
    ap (take p.value) e ∙ take_at f.value rest p.value refl

-- ---- Appendix A, by tests that are computed over the whole of it

pub entries : length appendix_a ≡ 99
unfolding appendix_a
entries = refl

pub size : length (laid appendix_a) ≡ 2026
unfolding appendix_a
size = refl

every : (Field → Bool) → List Field → Bool
every test [] = true
every test (f ∷ l) = test f && every test l

pub both : (a b : Bool) → (a && b) ≡ true → (a ≡ true) × (b ≡ true)
both true b h = (refl, h)
both false b h = let z : ◌≡◌ {A = ℕ} 0 1 = cc in absurd (omega arith)

-- a test that every field passes is a rule at each
at : (test : Field → Bool) (l : List Field) → every test l ≡ true → (i : ℕ) → i < length l → test (get_or l i no_field) ≡ true
unfolding every
at test [] t i h = absurd (omega arith)
at test (f ∷ l) t zero h = (both (test f) (every test l) t).0
at test (f ∷ l) t (suc i) h = at test l (both (test f) (every test l) t).1 i (omega arith)

short : Field → Bool
short f = leb (length f.name) 32 && leb (length f.value) 53

all_short : every short appendix_a ≡ true
unfolding appendix_a every short
all_short = refl

-- what `==` says of a text and a stretch
pub same_between : (text b : List ℕ) (start len : ℕ) → pointwise eqb text (take (start + len - start) (drop start b)) ≡ same text (cut b start len)
same_between text b start len = let e : start + len - start ≡ len = omega arith in rw e (same_pointwise text (cut b start len))

-- ---- what the arrays give

module _ (a : Arrays) (i x y : ℕ) (low : i < 99) (ex : x ≡ get_or a.starts i 0) (ey : y ≡ get_or a.names i 0) where
  within : i < length appendix_a
  within = omega (arith, entries)

  start_is : x ≡ (place_of appendix_a i).start
  start_is = ex ∙ rw a.starts_laid (starts_at appendix_a 0 i within ∙ omega arith)

  name_is : y ≡ (place_of appendix_a i).name
  name_is = ey ∙ rw a.names_laid (names_at appendix_a i)

  pub name_inside : x + y ≤ length a.bytes
  name_inside = omega (arith, start_is, name_is, ends_inside appendix_a i within, ap length a.bytes_laid)

  pub name_cut : cut a.bytes x y ≡ (get_or appendix_a i no_field).name
  name_cut = rw (a.bytes_laid, start_is, name_is) (name_stands appendix_a i within)

  module _ (z : ℕ) (ez : z ≡ get_or a.values i 0) where
    value_is : z ≡ (place_of appendix_a i).value
    value_is = ez ∙ rw a.values_laid (values_at appendix_a i)

    pub value_inside : x + y + z ≤ length a.bytes
    value_inside = omega (arith, start_is, name_is, value_is, ends_inside appendix_a i within, ap length a.bytes_laid)

    pub value_cut : cut a.bytes (x + y) z ≡ (get_or appendix_a i no_field).value
    value_cut = rw (a.bytes_laid, start_is, name_is, value_is) (value_stands appendix_a i within)

    pub entry_done : done (record { start = x; name = y; value = z }) ≡ entry_at i
    unfolding entry_at
    entry_done = rw (lt-ltb _ _ within, start_is, name_is, value_is)

-- the arrays of Appendix A are such
abbrev pub arrays : Arrays
arrays =
    record {
      bytes = laid appendix_a;
      starts = starts_from 0 appendix_a;
      names = name_lengths appendix_a;
      values = value_lengths appendix_a;
      bytes_laid = refl;
      starts_laid = refl;
      names_laid = refl;
      values_laid = refl;
    }

pub entry_refused : (i : ℕ) → 99 ≤ i → refused InvalidStaticIndex ≡ entry_at i
unfolding entry_at
entry_refused i h = rw (le-ltb i (length appendix_a) (omega (arith, entries)))

-- ---- what an entry's place tells

pub record Placed (i : ℕ) (p : Place) : Type 0 where
  pub low : i < 99
  pub inside : p.start + p.name + p.value ≤ length (laid appendix_a)
  pub name_short : p.name ≤ 32
  pub value_short : p.value ≤ 53
  pub name_bytes : take p.name (drop p.start (laid appendix_a)) ≡ (get_or appendix_a i no_field).name
  pub value_bytes_lem : take p.value (drop (p.start + p.name) (laid appendix_a)) ≡ (get_or appendix_a i no_field).value

pub place_placed : (i : ℕ) → i < 99 → Placed i (place_of appendix_a i)
unfolding short
place_placed i low =
    let h : i < length appendix_a = omega (arith, entries) in
    let f = get_or appendix_a i no_field in
    let s = both (leb (length f.name) 32) (leb (length f.value) 53) (at short appendix_a all_short i h) in
    record {
      low = low;
      inside = ends_inside appendix_a i h;
      name_short = leb-true _ _ s.0;
      value_short = leb-true _ _ s.1;
      name_bytes = name_stands appendix_a i h;
      value_bytes_lem = value_stands appendix_a i h;
    }

pub entry_placed : (i : ℕ) (p : Place) → entry_at i ≡ done p → Placed i p
unfolding entry_at
entry_placed i p h = go (ltb i (length appendix_a)) refl h
  where
    go : (t : Bool) → ltb i (length appendix_a) ≡ t → cond t (done (place_of appendix_a i)) (refused InvalidStaticIndex) ≡ done p → Placed i p
    go true e h =
        let q : place_of appendix_a i ≡ p = cc in
        rw q at (place_placed i (omega (arith, ltb-true i (length appendix_a) e, entries)))
    go false e h = let z : ◌≡◌ {A = ℕ} 0 1 = cc in absurd (omega arith)
