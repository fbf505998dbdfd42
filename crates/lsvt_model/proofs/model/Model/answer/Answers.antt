use Rattle.lsvt_model.specs.Views.{machine_of, state_in}
use Rattle.lsvt_model.proofs.Outcomes.{if_ok}
use Rattle.lsvt_model.proofs.WorkLemmas.{answer_gives}
use Rattle.lsvt_model.proofs.model.Model.answer.Goals as goal

pub returns : goal.returns
returns g c =
    if_ok c.work.result
    (λ t h. answer_gives c.args.set (g.E.EventLines.line_of c.args.events.now) c.args.now c.args.conn (state_in c.args.self.now.connections.items c.args.conn) c.args.asked (machine_of c.args.self.now) c.in_ok-line.line t
    (machine_of c.work.new.self) c.in_ok-line.ensures (rw c.state-state.ensures at h))
    c.work.ensures
