use Rattle.std.proofs.Common.{◌≡◌, ◌<◌, ◌++◌, false, length, arith, sym, ap, subst, ◌∙◌}
use Rattle.lsv_port.specs.Port.{IsOpen}
use Rattle.lsv_worker.specs.Links.{LinkStep, Remains}
use Rattle.lsv_worker.specs.Worker.{IsTable}
use Rattle.lsv_worker.specs.declared.link.Link.{Link}
use Rattle.lsv_worker.specs.declared.link.Phase.{Phase}
use Rattle.lsv_worker.specs.declared.link.Phase.TheVariants.{Stopped}
use Rattle.lsv_worker.proofs.FrameLemmas.{port_here, port_then}
use Rattle.lsv_worker.proofs.Reading.{quiet_here, quiet_then}
use Rattle.lsv_worker.proofs.Passing.{remain_here, remain_set}
use Rattle.lsv_worker.proofs.Tables.{below_set, open_at, steps_none, steps_one}
use Rattle.lsv_worker.proofs.worker.close_all.Goals as goal

pub loop-link-init : goal.loop-link-init
loop-link-init g c = record {
  steps = λ told set jobs is. steps_none set c.args.links.now (g.P.Port.state c.args.port.now) jobs;
  closed = λ i d under. absurd (omega arith);
  remains = remain_here c.args.links.now;
  quiet = λ told. quiet_here (g.P.Port.state c.args.port.now);
  port = port_here g.P.Port.tells g.P.Port.state g.P.Port.ledger c.args.port.now;
}

pub stop-requires : goal.stop-requires
stop-requires g c =
    let here : c.loop-link.link-index < length c.loop-link.links = omega arith in
    record {
      is_open = λ told live.
          let at : IsTable Stopped c.args.links.now (g.P.Port.state c.args.port.now) = c.requires.at told in
          let steps = c.loop-link.invariant.steps told at.set at.jobs at.phase_is in
          subst (λ (l : Link). IsOpen (g.P.Port.state c.loop-link.port) l.number) c.link-item.is (open_at at.set c.loop-link.links (g.P.Port.state c.loop-link.port) (λ lane. at.jobs lane ++ steps.added lane) at.replies c.loop-link.link-index c.link-item.result here c.link-item.is (steps.goes at.jobs at.replies at.stands) (ap (λ (l : Link). l.live) c.link-item.is ∙ live));
    }

pub loop-link-preserved : goal.loop-link-preserved
loop-link-preserved g c =
    let here : c.loop-link.link-index < length c.loop-link.links = omega arith in
    record {
      steps = λ told set jobs is. steps_one set c.args.links.now c.loop-link.links c.loop-link.link-index c.link-item.result c.stop.new.self (g.P.Port.state c.args.port.now) (g.P.Port.state c.loop-link.port) (g.P.Port.state c.stop.new.port) jobs jobs jobs here c.link-item.is
          (c.loop-link.invariant.steps told set jobs is)
          (subst (λ (p : Phase). LinkStep p c.link-item.result c.stop.new.self (g.P.Port.state c.loop-link.port) (g.P.Port.state c.stop.new.port) jobs jobs) (sym is) (subst (λ (l : Link). LinkStep Stopped l c.stop.new.self (g.P.Port.state c.loop-link.port) (g.P.Port.state c.stop.new.port) jobs jobs) (sym c.link-item.is) (c.stop.ensures.step told jobs)));
      closed = below_set (λ l. l.live ≡ false) c.loop-link.links c.loop-link.link-index c.stop.new.self here c.stop.ensures.live c.loop-link.invariant.closed;
      remains = remain_set c.args.links.now c.loop-link.links c.loop-link.link-index c.link-item.result c.stop.new.self here c.link-item.is (subst (λ (l : Link). Remains l c.stop.new.self) (sym c.link-item.is) c.stop.ensures.remains) c.loop-link.invariant.remains;
      quiet = λ told. quiet_then (g.P.Port.state c.args.port.now) (g.P.Port.state c.loop-link.port) (g.P.Port.state c.stop.new.port) (c.loop-link.invariant.quiet told) (c.stop.ensures.quiet told);
      port = port_then c.loop-link.invariant.port c.stop.ensures.port;
    }
