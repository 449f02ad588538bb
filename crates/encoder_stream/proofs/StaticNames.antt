-- The name of a static entry, copied to a buffer. Assumes nothing.
use mathlib.Core.Path.{◌≡◌, refl, ap, ◌∙◌}
use mathlib.Core.Bool.{Bool, true, false, cond}
use mathlib.Core.List.{List, ◌++◌}
use Prim.Native.Nat.{ℕ, ◌≤◌}
use native.Mathlib.Nat.{zero-add}
use native.Mathlib.Omega.{arith}
use lib.Dec.{ltb}
use lib.ListN.{length, get_or, take, drop}
use lib.Seq.{sets, length-sets, take_at}
use borrow.Author.Tests.{lt-ltb}
use Rattle.std.specs.Prelude.{Result, Ok, Err}
use Rattle.answers.specs.Answer.{answered, done, refused}
use Rattle.answers.specs.Write.{Writes}
use Rattle.answers.specs.declared.Refusal.{Refusal}
use Rattle.answers.specs.declared.Refusal.TheVariants.{InvalidStaticIndex}
use Rattle.answers.proofs.Write.{writes_sets}
use Rattle.static_table.specs.AppendixA.{appendix_a}
use Rattle.static_table.specs.Static.{no_field, place_of, laid, entry_at, cut_of}
use Rattle.static_table.specs.declared.Place.{Place}
use Rattle.static_table.proofs.Copied.{cut_done}
use Rattle.static_table.proofs.Table.{entries, Placed, entry_placed}
use Rattle.byte_writing.proofs.Stretch.{cut, cut_length}
use Rattle.encoder_stream.specs.Entries.{static_name}
use Rattle.encoder_stream.proofs.Front.{sets_front}

pub static_refused : (i : ℕ) (w : Refusal) → entry_at i ≡ refused w → static_name i ≡ refused w
unfolding entry_at static_name
static_refused i w h = go (ltb i (length appendix_a)) h
  where
    go : (b : Bool) → cond b (done (place_of appendix_a i)) (refused InvalidStaticIndex) ≡ refused w
        → cond b (done (get_or appendix_a i no_field).name) (refused InvalidStaticIndex) ≡ refused w
    go true h = let z : ◌≡◌ {A = ℕ} 0 1 = cc in absurd (omega arith)
    go false h = let e : InvalidStaticIndex ≡ w = cc in rw e

-- a buffer of 32 bytes takes every name
module _ (i : ℕ) (p : Place) (h : entry_at i ≡ done p) (l m : List ℕ) (r : Result ℕ Refusal) (long : length l ≡ 32)
    (w : Writes (cut_of p.start p.name) l 0 r m) where
  abbrev f : Placed i p
  f = entry_placed i p h

  abbrev name : List ℕ
  name = cut (laid appendix_a) p.start p.name

  sized : length name ≡ p.name
  sized = cut_length (laid appendix_a) p.start p.name (omega (arith, f.inside))

  done_cut : cut_of p.start p.name ≡ done name
  done_cut = cut_done p.start p.name (omega (arith, f.inside))

  stored : m ≡ sets l 0 name
  stored =
      let v : Writes (done name) l 0 r m = rw done_cut at w in
      (writes_sets name l 0 r m (omega (arith, sized, f.name_short)) v).1

  -- the copy is made, and ends behind the name
  pub copied_is : r ≡ Ok p.name
  copied_is = go r refl (told ∙ ap done sized)
    where
      told : answered r ≡ done (length name)
      told = rw zero-add at (writes_sets name l 0 r m (omega (arith, sized, f.name_short)) (rw done_cut at w)).0

      go : (x : Result ℕ Refusal) → r ≡ x → answered x ≡ done p.name → r ≡ Ok p.name
      go (Ok n) e h = let same : n ≡ p.name = cc in rw (e, same)
      go (Err q) e h = let z : ◌≡◌ {A = ℕ} 0 1 = cc in absurd (omega arith)

  pub copied_long : p.name ≤ length m
  copied_long = let same : length m ≡ length l = rw stored (length-sets l 0 name) in omega (arith, f.name_short)

  pub copied_name : static_name i ≡ done (take p.name m)
  unfolding static_name
  copied_name =
      let low : ltb i (length appendix_a) ≡ true = lt-ltb i (length appendix_a) (omega (arith, f.low, entries)) in
      let room : length name ≤ length l = omega (arith, sized, f.name_short) in
      let whole : m ≡ name ++ drop (length name) l = stored ∙ sets_front name l room in
      let front : take p.name m ≡ name = rw whole (take_at name (drop (length name) l) p.name sized) in
      rw (low, front, f.name_bytes)
