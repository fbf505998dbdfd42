use Rattle.std.proofs.Common.{sym, ap, ◌∙◌}
use Rattle.lsv_worker.specs.Worker.{Setting}
use Rattle.lsv_worker.proofs.FrameLemmas.{port_then}
use Rattle.lsv_worker.proofs.Passing.{held_late, rules_late}
use Rattle.lsv_worker.proofs.Reading.{most_late, spared_late, unread_then}
use Rattle.lsv_worker.proofs.Going.{at_after, goes_after, same_set, same_then}
use Rattle.lsv_worker.proofs.Owning.{own_by}
use Rattle.lsv_worker.proofs.worker.Worker.on.Goals as goal

pub pass-requires : goal.pass-requires
pass-requires g c = record {
  fit = c.note.ensures.fit;
  lanes = c.requires.lanes ∙ sym c.note.ensures.worker.lanes;
  at = λ told. let b = c.requires.at told in at_after c.args.self.now c.note.new.self b.0 (g.P.Port.state c.note.new.port) (λ jobs replies h. c.note.ensures.notes told b.0 jobs replies b.1 h) b.2;
}

pub returns-clause-goes : goal.returns-clause-goes
returns-clause-goes g c = λ told before is.
    goes_after c.args.self.now c.note.new.self c.pass.new.self before (g.P.Port.state c.note.new.port) (g.P.Port.state c.pass.new.port) (g.I.Inbox.jobs c.args.inbox.now) (g.I.Inbox.jobs c.pass.new.inbox) (λ jobs replies h. c.note.ensures.notes told before jobs replies is h) (c.pass.ensures.goes told)

pub returns-clause-worker : goal.returns-clause-worker
returns-clause-worker g c = same_then c.args.self.now c.note.new.self c.pass.new.self c.note.ensures.worker (same_set c.note.new.self c.pass.new.self c.pass.ensures.set)

pub returns-clause-phase : goal.returns-clause-phase
returns-clause-phase g c = ap (λ (s : Setting). s.phase) c.pass.ensures.set ∙ c.note.ensures.phase

pub returns-clause-served : goal.returns-clause-served
returns-clause-served g c = λ told.
    let quiet = c.note.ensures.quiet told in
    let served = c.pass.ensures.served told in
    record {
      owed = served.owed;
      held = λ l has. held_late c.pass.new.self l (g.P.Port.state c.args.port.now) (g.P.Port.state c.note.new.port) (g.P.Port.state c.pass.new.port) (g.I.Inbox.refused c.args.inbox.now) (g.I.Inbox.refused c.pass.new.inbox) quiet.unread (served.held l has);
      limits = record {
        reads = λ l. most_late 16 ((g.P.Port.state c.args.port.now).link l) ((g.P.Port.state c.note.new.port).link l) ((g.P.Port.state c.pass.new.port).link l) (quiet.unread l) (served.limits.reads l);
        output_full = λ going. spared_late c.pass.new.self.links.items (g.P.Port.state c.args.port.now) (g.P.Port.state c.note.new.port) (g.P.Port.state c.pass.new.port) quiet.unread (served.limits.output_full going);
        unread = λ none. unread_then (g.P.Port.state c.args.port.now) (g.P.Port.state c.note.new.port) (g.P.Port.state c.pass.new.port) quiet.unread (served.limits.unread none);
      };
      written = served.written;
      rules = rules_late c.pass.new.self.phase c.args.self.now.links.items c.note.new.self.links.items c.pass.new.self.links.items (g.P.Port.state c.args.port.now) (g.P.Port.state c.note.new.port) (g.P.Port.state c.pass.new.port) c.note.ensures.noted quiet.unread quiet.unwritten served.rules;
    }

pub returns-clause-keeps : goal.returns-clause-keeps
returns-clause-keeps g c = record { port = port_then c.note.ensures.port c.pass.ensures.keeps.port; inbox = c.pass.ensures.keeps.inbox }

pub returns-clause-own : goal.returns-clause-own
returns-clause-own g c = own_by c.args.self.now.number c.note.new.self.number c.note.ensures.worker.number c.pass.ensures.own
