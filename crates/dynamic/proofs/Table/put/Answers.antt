-- `dynamic::Table::put`: the arrays of a record that comes by value have all their places. Assumes nothing.
use borrow.Author.Rules.{rules}
use Rattle.dynamic.specs.Record.{Shape}
use Rattle.dynamic.proofs.Table.put.Goals.{Start}
use Rattle.dynamic.proofs.Table.put.Goals as goal

shape : (z : Start) → Shape z.args.self
shape z =
    record {
      uses = z.well_formed.0.1.1.1.1.1.1.1.1.1.0.1.1.1.1.1.0.1.0.1;
      starts = search rules;
      names = search rules;
      values = search rules;
      places = z.well_formed.0.1.1.1.1.1.1.0.1.1.1.0.1.0.1;
      blocked = z.well_formed.0.1.1.1.1.1.0.1.1.1.1.0.1.0.1;
    }

pub returns : goal.returns
returns c = c.put_in-reply.ensures c.args.self c.admitted_with-admitted.ensures (shape (goal.at.returns c).Start)
