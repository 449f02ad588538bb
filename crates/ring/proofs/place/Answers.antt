-- `ring::place`: by the source, the calls that put the strings to the head. Assumes nothing.
use Rattle.ring.proofs.Placing.{written}
use Rattle.ring.proofs.place.Goals as goal

pub returns-in-Given : goal.returns-in-Given
returns-in-Given c =
    written _ _ _ _ _ _ c.requires.0 _ c.in-Given.is c.write.ensures _
    c.write-in-Given.ensures
