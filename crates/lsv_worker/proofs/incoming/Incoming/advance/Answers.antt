use Rattle.std.proofs.Common.{subst, []}
use Rattle.lsv_worker.specs.Incoming.{Puts, with_piece}
use Rattle.lsv_worker.specs.declared.incoming.Incoming.{Incoming}
use Rattle.lsv_worker.proofs.Cutting.{no_piece}
use Rattle.lsv_worker.proofs.incoming.Incoming.advance.Goals as goal

pub returns-clause-puts : goal.returns-clause-puts
returns-clause-puts g c =
    subst (λ (l : Incoming). Puts c.args.conn c.args.self.now l (g.I.Inbox.jobs c.args.inbox.now) (g.I.Inbox.jobs c.put_all.new.inbox)) (no_piece c.put_all.new.self c.put_all.new.at)
    (subst (λ (l : Incoming). Puts c.args.conn l (with_piece c.put_all.new.self [] c.put_all.new.at) (g.I.Inbox.jobs c.args.inbox.now) (g.I.Inbox.jobs c.put_all.new.inbox)) (no_piece c.args.self.now 0) c.put_all.ensures.puts)
