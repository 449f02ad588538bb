-- `ring::Ring::room`: an entry above the capacity has none; `fewest` tells for the others. Assumes nothing.
use mathlib.Core.Path.{sym, ◌∙◌}
use Rattle.ring.specs.Ring.{room_for}
use Rattle.ring.proofs.Ring.room.Goals as goal

pub returns-then-not-fits : goal.returns-then-not-fits
unfolding room_for
returns-then-not-fits c = rw (sym c.fits.ensures ∙ c.if-not-fits.true)

pub returns : goal.returns
unfolding room_for
returns c = rw (sym c.fits.ensures ∙ c.if-not-fits.false) c.fewest.ensures
