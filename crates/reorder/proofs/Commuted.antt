-- That reports which are not of one stream commute, as the theorem on orders takes it. Assumes nothing.
use mathlib.Core.Path.{refl}
use Rattle.decoder_stream.specs.Reports.{takes}
use Rattle.reorder.specs.Swaps.{Independent}
use Rattle.reorder.proofs.Runs.{Commutes}
use Rattle.reorder.proofs.Commuting.{Fine, next, said, plain, spend, states, answers}

pub commutes : Commutes takes Fine Independent next said
commutes =
    record {
      plain = plain;
      spend = spend;
      turn = λ x y i s p q. i s q p;
      states = λ x y b t i f. states t f.ready x y i;
      answers = λ x y b t i f. answers t f.ready x y i;
      increments = λ n b t f. refl;
    }
