use Rattle.std.proofs.Common.{◌+◌, add-one, sym, ◌∙◌}
use Rattle.lsv_dialogue.proofs.BatchLemmas.{batch_ended_by, batch_next, none_of}
use Rattle.lsv_dialogue.proofs.put.batch_of.Goals as goal

pub returns-then-is_some : goal.returns-then-is_some
returns-then-is_some c =
    batch_ended_by c.args.messages.now c.messages.message-index c.message-item.result c.add_frame.new.batch c.messages-test.true c.message-item.is (sym c.is_some.ensures ∙ c.if-is_some.true) (c.in_ok-add_frame.ensures _ c.messages.invariant.stands)

pub messages-preserved : goal.messages-preserved
messages-preserved c = record {
  stands =
      batch_next c.args.messages.now c.messages.message-index (c.messages.message-index + 1) c.message-item.result c.add_frame.new.batch c.messages-test.true c.message-item.is (add-one c.messages.message-index)
      (c.in_ok-add_frame.ensures _ c.messages.invariant.stands);
  going = none_of c.add_frame.new.batch.too_long (sym c.is_some.ensures ∙ c.if-is_some.false);
}
