-- `dynamic::Table::commit`: the arrays of a record that comes by value have all their places. Assumes nothing.
use borrow.Author.Rules.{rules}
use Rattle.dynamic.specs.Record.{Shape}
use Rattle.dynamic.proofs.Table.commit.Goals.{Start}
use Rattle.dynamic.proofs.Table.commit.Goals as goal

shape : (z : Start) → Shape z.args.self
shape z =
    record {
      uses = z.well_formed.0.1.1.1.1.1.1.1.1.1.0.1.1.1.1.1.0.1.0.1;
      starts = search rules;
      names = search rules;
      values = search rules;
      places = z.well_formed.0.1.1.1.1.1.1.0.1.1.1.0.1.0.1;
      blocked = z.well_formed.0.1.1.1.1.1.0.1.1.1.1.0.1.0.1;
    }

pub returns : goal.returns
returns c = c.enqueue-reply.ensures c.admitted-admitted.ensures (shape (goal.at.returns c).Start)
