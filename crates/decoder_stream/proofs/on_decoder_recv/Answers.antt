-- `decoder_stream::on_decoder_recv`: a broken record, an open section, or the reports. Assumes nothing.
use mathlib.Core.Path.{◌≡◌, ap, ◌∙◌}
use mathlib.Core.Bool.{true, not}
use Rattle.dynamic.specs.Record.{sound}
use Rattle.dynamic.proofs.Steps.{none_broken, some_sound}
use Rattle.decoder_stream.proofs.Receiving.{receives_broken, receives_open, receives_run}
use Rattle.decoder_stream.proofs.on_decoder_recv.Goals.{Else-is_none}
use Rattle.decoder_stream.proofs.on_decoder_recv.Goals as goal

pub returns-then-is_none : goal.returns-then-is_none
returns-then-is_none c =
    receives_broken c.args.table c.args.s.now _ (none_broken _ _ c.checked.ensures (c.is_none.ensures ∙ ap not c.if-is_none.true)) c.ended.ensures

-- the record keeps its rules
rules_kept : (c : Else-is_none) → sound c.args.table ≡ true
rules_kept c = some_sound _ _ c.checked.ensures (c.is_none.ensures ∙ ap not c.if-is_none.false)

pub returns-then-table : goal.returns-then-table
returns-then-table c =
    receives_open c.args.table c.args.s.now _ (rules_kept (goal.at.returns-then-table c).Else-is_none) c.if-table.true c.ended-then-table.ensures

pub receive_all-requires : goal.receive_all-requires
receive_all-requires c = (rules_kept (goal.at.receive_all-requires c).Else-is_none, c.if-table.false)

pub returns : goal.returns
returns c =
    receives_run c.args.table c.args.s.now _ (
    record {
      rules = rules_kept (goal.at.returns c).Else-is_none;
      closed = c.if-table.false;
      places = c.well_formed.0.1.1.1.1.1.1.0.1.1.1.0.1.0.1;
      values = c.well_formed.0.1.1.1.1.1.0.1.1.1.1.0.1.0.1;
    })
    c.receive_all.ensures
