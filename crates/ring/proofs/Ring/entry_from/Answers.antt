-- `ring::Ring::entry_from`: by the source; a live entry is read off its slot. Assumes nothing.
use mathlib.Core.Path.{sym, ap, ◌∙◌}
use Rattle.entries.specs.Entry.{Entry}
use Rattle.entries.proofs.Between.{between_at}
use Rattle.ring.proofs.Sources.{name_live, copy_live}
use Rattle.ring.proofs.Ring.entry_from.Goals as goal

pub returns-in-NameOf : goal.returns-in-NameOf
returns-in-NameOf c =
    let v = c.args.value in
    rw c.in-NameOf.is
    (ap (λ (e : Entry). record { start = e.start; name = e.name; value = v })
    (c.entry_at-e.ensures ∙ sym (between_at _ _ _ _ _ _ (name_live _ _ _ c.in-NameOf.is c.requires))))

pub returns-in-CopyOf : goal.returns-in-CopyOf
returns-in-CopyOf c =
    rw c.in-CopyOf.is (c.entry_at.ensures ∙ sym (between_at _ _ _ _ _ _ (copy_live _ _ _ c.in-CopyOf.is c.requires)))
