-- Laws of a chain of entries: its end, its rules and its size over parts of the list, and how far an entry is from the end. Assumes nothing.
use mathlib.Core.Path.{◌≡◌, refl, sym, ap, ◌∙◌}
use mathlib.Core.Bool.{Bool, true, false, ◌&&◌, and_assoc}
use mathlib.Core.List.{List, [], ◌∷◌, ◌++◌}
use Prim.Native.Nat.{ℕ, zero, suc, ◌+◌, ◌*◌, ◌%◌, ◌≤◌, ◌<◌}
use native.Mathlib.Nat.{zero-add}
use native.Mathlib.Omega.{arith}
use lib.Dec.{eqb}
use lib.ListN.{length, take, drop, take-append-drop}
use Rattle.arena.specs.Ring.{ring}
use Rattle.field.specs.Field.{overhead}
use Rattle.entries.specs.Entry.{Entry, bytes_of, size_of, end_of}
use Rattle.entries.specs.Rules.{chained}

pub and_left : (a b : Bool) → (a && b) ≡ true → a ≡ true
and_left true b h = refl
and_left false b h = h

pub and_right : (a b : Bool) → (a && b) ≡ true → b ≡ true
and_right true b h = h
and_right false b h = let z : ◌≡◌ {A = ℕ} 0 1 = cc in absurd (omega arith)

pub end_of_append : (p : ℕ) (l m : List Entry) → end_of p (l ++ m) ≡ end_of (end_of p l) m
end_of_append p [] m = refl
end_of_append p (e ∷ l) m = end_of_append ((p + bytes_of e) % ring) l m

pub chained_append : (p : ℕ) (l m : List Entry) → chained p (l ++ m) ≡ (chained p l && chained (end_of p l) m)
chained_append p [] m = refl
chained_append p (e ∷ l) m = rw (chained_append ((p + bytes_of e) % ring) l m) (sym (and_assoc (eqb e.start p) _ _))

pub size_of_append : (l m : List Entry) → size_of (l ++ m) ≡ size_of l + size_of m
size_of_append [] m = sym (zero-add _)
size_of_append (e ∷ l) m = rw (size_of_append l m) (omega arith)

-- after the first k the rest is chained from where they end
pub chained_drop : (k p : ℕ) (l : List Entry) → chained p l ≡ true → chained (end_of p (take k l)) (drop k l) ≡ true
chained_drop k p l h =
    and_right (chained p (take k l)) _ (sym (chained_append p (take k l) (drop k l)) ∙ (rw take-append-drop h))

pub end_of_drop : (k p : ℕ) (l : List Entry) → end_of (end_of p (take k l)) (drop k l) ≡ end_of p l
end_of_drop k p l = sym (end_of_append p (take k l) (drop k l)) ∙ rw take-append-drop

pub end_of_low : (p : ℕ) (l : List Entry) → p < ring → end_of p l < ring
end_of_low p [] h = h
end_of_low p (e ∷ l) h = end_of_low ((p + bytes_of e) % ring) l (omega arith)

-- the bytes of all entries
abbrev pub bytes_in : List Entry → ℕ
bytes_in [] = 0
bytes_in (e ∷ l) = bytes_of e + bytes_in l

pub size_is_bytes : (l : List Entry) → size_of l ≡ bytes_in l + overhead * length l
size_is_bytes [] = refl
size_is_bytes (e ∷ l) = omega (arith, size_is_bytes l)

pub bytes_drop : (k : ℕ) (l : List Entry) → bytes_in (drop k l) ≤ bytes_in l
bytes_drop zero [] = omega arith
bytes_drop zero (e ∷ l) = omega arith
bytes_drop (suc k) [] = omega arith
bytes_drop (suc k) (e ∷ l) = omega (arith, bytes_drop k l)

-- the end is as many bytes further on
pub end_of_bytes : (p : ℕ) (e : Entry) (l : List Entry) → end_of p (e ∷ l) ≡ (p + bytes_in (e ∷ l)) % ring
end_of_bytes p e [] = ap (λ (i : ℕ). i % ring) (omega arith)
end_of_bytes p e (f ∷ l) = end_of_bytes ((p + bytes_of e) % ring) f l ∙ omega arith
