use Rattle.std.proofs.Common.{ap}
use Rattle.lsv_worker.specs.Worker.{Setting, setting}
use Rattle.lsv_worker.specs.declared.link.Phase.TheVariants.{Failed}
use Rattle.lsv_worker.specs.declared.worker.Worker.{Worker}
use Rattle.lsv_worker.proofs.Going.{at_after, goes_after, same_set}
use Rattle.lsv_worker.proofs.Notes.{failed_stands}
use Rattle.lsv_worker.proofs.worker.Worker.turn_failed.Goals as goal

pub pass-requires : goal.pass-requires
pass-requires g c =
    let mid : Worker = record c.args.self.now { phase = Failed } in
    record {
      fit = record { first = c.requires.fit.first; some = c.requires.fit.some; few = c.requires.fit.few; room = c.requires.fit.room; lanes = c.requires.fit.lanes; workers = c.requires.fit.workers; open_few = c.requires.fit.open_few };
      lanes = c.requires.lanes;
      at = λ told. at_after c.args.self.now mid (g.P.Port.state c.args.port.now) (g.P.Port.state c.args.port.now) (λ jobs replies h. failed_stands (setting c.args.self.now) c.args.self.now.links.items (g.P.Port.state c.args.port.now) jobs replies c.requires.going (c.requires.failed told) h) (c.requires.at told);
    }

pub returns-clause-goes : goal.returns-clause-goes
returns-clause-goes g c = λ told.
    let mid : Worker = record c.args.self.now { phase = Failed } in
    goes_after c.args.self.now mid c.pass.new.self (g.P.Port.state c.args.port.now) (g.P.Port.state c.args.port.now) (g.P.Port.state c.pass.new.port) (g.I.Inbox.jobs c.args.inbox.now) (g.I.Inbox.jobs c.pass.new.inbox)
    (λ jobs replies h. failed_stands (setting c.args.self.now) c.args.self.now.links.items (g.P.Port.state c.args.port.now) jobs replies c.requires.going (c.requires.failed told) h) (c.pass.ensures.goes told)

pub returns-clause-worker : goal.returns-clause-worker
returns-clause-worker g c =
    let mid : Worker = record c.args.self.now { phase = Failed } in
    let same = same_set mid c.pass.new.self c.pass.ensures.set in
    record { number = same.number; lanes = same.lanes; next = same.next }

pub returns-clause-phase : goal.returns-clause-phase
returns-clause-phase g c = ap (λ (s : Setting). s.phase) c.pass.ensures.set

pub returns-clause-served : goal.returns-clause-served
returns-clause-served g c = λ told.
    let served = c.pass.ensures.served told in
    record { owed = served.owed; held = served.held; limits = served.limits; written = served.written; rules = served.rules }
