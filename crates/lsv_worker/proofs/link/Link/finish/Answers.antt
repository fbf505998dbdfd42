use Rattle.std.proofs.Common.{refl, sym, ◌∙◌}
use Rattle.lsv_worker.specs.declared.link.Link.{Link}
use Rattle.lsv_worker.proofs.Linking.{link_ends, link_then}
use Rattle.lsv_worker.proofs.Ruling.{remains_so, remains_then}
use Rattle.lsv_worker.proofs.link.Link.finish.Goals as goal

pub returns-clause-step : goal.returns-clause-step
returns-clause-step g c = λ phase port lets.
    let mid : Link = record c.args.self.now { incoming = c.end.new.self } in
    link_then phase c.args.self.now mid c.advance.new.self port port port (g.I.Inbox.jobs c.args.inbox.now) (g.I.Inbox.jobs c.args.inbox.now) (g.I.Inbox.jobs c.advance.new.inbox)
    (link_ends phase c.args.self.now c.end.new.self port (g.I.Inbox.jobs c.args.inbox.now) lets c.end.ensures.goes c.end.ensures.left c.end.ensures.keeps) (c.advance.ensures.step phase port)

pub returns-clause-remains : goal.returns-clause-remains
returns-clause-remains g c =
    let mid : Link = record c.args.self.now { incoming = c.end.new.self } in
    remains_then c.args.self.now mid c.advance.new.self (remains_so c.args.self.now mid refl refl (λ e. e) c.end.ensures.keeps (λ ne. refl)) c.advance.ensures.remains

pub advance-requires : goal.advance-requires
advance-requires g c = record { lanes = c.requires.lanes ∙ sym c.end.ensures.keeps.lanes }
