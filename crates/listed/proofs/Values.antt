-- The records that were lent came back before those that were kept. Assumes nothing.
use mathlib.Core.Path.{◌≡◌, ap, subst, ◌∙◌}
use mathlib.Core.List.{List, ◌++◌}
use Prim.Native.Nat.{ℕ, ◌≤◌}
use native.Mathlib.Nat.{min-le_right}
use lib.ListN.{length, take, drop, replicate, length-replicate}
use lib.Seq.{take-append_seam, drop-append_seam}
use Rattle.std.proofs.lemmas.List.{take-replicate, drop-replicate}
use Rattle.section_steps.specs.declared.Field.{Field}
use Rattle.section_steps.specs.declared.Decoded.{Decoded}
use Rattle.decoder.specs.Section.{Reader, section_of, read_all}
use Rattle.listed.specs.Lent.{records, lent_of, Lists}

-- so many of the records are lent, and the others are kept
pub at_most : (room : ℕ) → lent_of room ≤ records
at_most room = min-le_right room records

pub lent_part : (f : Field) (room : ℕ) → take (lent_of room) (replicate records f) ≡ replicate (lent_of room) f
lent_part f room = take-replicate (lent_of room) records f (at_most room)

pub part_many : (f : Field) (room : ℕ) → length (take (lent_of room) (replicate records f)) ≡ lent_of room
part_many f room = ap (λ (l : List Field). length l) (lent_part f room) ∙ length-replicate (lent_of room) f

-- the list that came back has as many records as were lent
module _ (f : Field) (room : ℕ) (fs : List Field) (many : length fs ≡ lent_of room) where
  pub lists : (k : Reader) (s : List ℕ) (d : Decoded) (out last : List ℕ)
      → section_of d fs last ≡ read_all (λ g. g) k s (take (lent_of room) (replicate records f)) out
      → Lists k s f (lent_of room) out (record { decoded = d; fields = fs ++ drop (lent_of room) (replicate records f) }) last
  lists k s d out last e = (
    ap (λ (l : List Field). section_of d l last) (subst (λ (n : ℕ). take n (fs ++ drop (lent_of room) (replicate records f)) ≡ fs) many (take-append_seam fs (drop (lent_of room) (replicate records f))))
        ∙ e ∙ ap (λ (l : List Field). read_all (λ g. g) k s l out) (lent_part f room),
    subst (λ (n : ℕ). drop n (fs ++ drop (lent_of room) (replicate records f)) ≡ drop (lent_of room) (replicate records f)) many (drop-append_seam fs (drop (lent_of room) (replicate records f)))
        ∙ drop-replicate (lent_of room) records f,
  )
