-- `int_writing::power`: the law of a shift of one. Assumes nothing.
use Rattle.int_writing.proofs.Powers.{one_shifted}
use Rattle.int_writing.proofs.power.Goals as goal

pub returns : goal.returns
returns c = one_shifted c.args.k c.requires
