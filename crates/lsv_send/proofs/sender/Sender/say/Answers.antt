use Rattle.lsv_send.specs.Talks.{start_at}
use Rattle.lsv_send.proofs.Batches.{done_either, told_all_said, told_none_said}
use Rattle.lsv_send.proofs.sender.Sender.say.Goals as goal

pub returns-in-Opening-clause-told : goal.returns-in-Opening-clause-told
returns-in-Opening-clause-told g c = λ d source begun events is t. told_none_said (start_at source (g.D.Disk.view begun)) c.args.self.now _ events c.new.result c.new.ensures t

pub returns-in-Waiting-clause-told : goal.returns-in-Waiting-clause-told
returns-in-Waiting-clause-told g c = λ d source begun events is t. told_none_said (start_at source (g.D.Disk.view begun)) c.args.self.now _ events c.new-in-Waiting.result c.new-in-Waiting.ensures t

pub returns-in-Closing-clause-told : goal.returns-in-Closing-clause-told
returns-in-Closing-clause-told g c = λ d source begun events is t.
    told_all_said (start_at source (g.D.Disk.view begun)) c.args.self.now _ events c.new-in-Closing.result c.new-in-Closing.ensures (done_either c.args.self.now.place c.in-Closing.is) t
