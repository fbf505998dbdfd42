use Rattle.std.proofs.Common.{◌≡◌, None, take}
use Rattle.lsv_dialogue.specs.Stands.{IsBatch}
use Rattle.lsv_dialogue.proofs.put.batch_of.Given as goal

abbrev pub invariant-messages : goal.invariant-messages
invariant-messages l = record {
  stands : IsBatch (take l.message-index l.messages) l.batch;
  going : l.batch.too_long ≡ None;
}
