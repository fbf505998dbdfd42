use Rattle.std.proofs.Common.{refl}
use Rattle.lsv_worker.proofs.Linking.{link_puts}
use Rattle.lsv_worker.proofs.Ruling.{remains_so}
use Rattle.lsv_worker.proofs.Owning.{own_puts}
use Rattle.lsv_worker.proofs.link.Link.advance.Goals as goal

pub returns-clause-step : goal.returns-clause-step
returns-clause-step g c = λ phase port. link_puts phase c.args.self.now c.advance.new.self port (g.I.Inbox.jobs c.args.inbox.now) (g.I.Inbox.jobs c.advance.new.inbox) c.advance.ensures.puts c.advance.ensures.keeps

pub returns-clause-remains : goal.returns-clause-remains
returns-clause-remains g c = remains_so c.args.self.now (record c.args.self.now { incoming = c.advance.new.self }) refl refl (λ e. e) c.advance.ensures.keeps (λ ne. refl)

pub returns-clause-own : goal.returns-clause-own
returns-clause-own g c = own_puts c.advance.ensures.puts
