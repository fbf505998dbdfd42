use Rattle.std.proofs.Common.{◌≡◌, ◌≢◌, ◌<◌, [], length, arith, ◌++◌, sym, ap, subst, ◌∙◌, refl, rules}
use Rattle.lsv_port.specs.Port.{IsOpen}
use Rattle.lsv_worker.specs.Links.{LinkStep, Remains}
use Rattle.lsv_worker.specs.Worker.{IsReadOut, IsTable}
use Rattle.lsv_worker.specs.declared.link.Link.{Link}
use Rattle.lsv_worker.specs.declared.link.Phase.{Phase}
use Rattle.lsv_worker.specs.declared.outgoing.Sending.TheVariants.{Open}
use Rattle.lsv_worker.proofs.FrameLemmas.{both_then, inbox_here, port_here}
use Rattle.lsv_worker.proofs.Linking.{most_none}
use Rattle.lsv_worker.proofs.Passing.{lanes_remain, later_set, passed_on, quiet_in, remain_here, remain_set}
use Rattle.lsv_worker.proofs.Reading.{below_on, reads_on, rest_on, spared_all, unread_here, unread_on}
use Rattle.lsv_worker.proofs.Tables.{below_set, calm_all, lanes_at, open_at, steps_none, steps_one}
use Rattle.lsv_worker.proofs.Owning.{own_by, own_none, own_then, worker_at, workers_remain}
use Rattle.lsv_worker.proofs.worker.pass_all.Goals as goal

pub loop-link-init : goal.loop-link-init
loop-link-init g c = record {
  steps = λ told set is. steps_none set c.args.links.now (g.P.Port.state c.args.port.now) (g.I.Inbox.jobs c.args.inbox.now);
  passed = λ told j d under. absurd (omega arith);
  remains = remain_here c.args.links.now;
  later = λ j d above. refl;
  stopped = λ is m. refl;
  unblocked = λ reads i d within. absurd (omega arith);
  reads = λ told m. most_none 16 ((g.P.Port.state c.args.port.now).link m) ((g.P.Port.state c.args.port.now).link m) refl;
  rest = λ told j d above within. refl;
  output_full = λ told going j d under. absurd (omega arith);
  unread = λ told quiet. unread_here (g.P.Port.state c.args.port.now);
  own = λ n are. own_none n (g.I.Inbox.jobs c.args.inbox.now);
  keeps = record {
    port = port_here g.P.Port.tells g.P.Port.state g.P.Port.ledger c.args.port.now;
    inbox = inbox_here g.I.Inbox.lanes g.I.Inbox.refused g.I.Inbox.is_same c.args.inbox.now (g.met.I.Inbox.same_here c.args.inbox.now);
  };
}

pub service-requires : goal.service-requires
service-requires g c =
    let here : c.loop-link.link-index < length c.loop-link.links = omega arith in
    record {
      lanes = c.loop-link.invariant.keeps.inbox.lanes_stay
          ∙ sym (lanes_at (g.I.Inbox.lanes c.args.inbox.now) c.loop-link.links c.loop-link.link-index c.link-item.result here c.link-item.is (lanes_remain (g.I.Inbox.lanes c.args.inbox.now) c.args.links.now c.loop-link.links c.loop-link.invariant.remains c.requires.lanes)) ∙ ap (λ (l : Link). l.incoming.route.lanes) c.link-item.is;
      is_open = λ told live.
          let at : IsTable c.args.phase c.args.links.now (g.P.Port.state c.args.port.now) = c.requires.at told in
          let steps = c.loop-link.invariant.steps told at.set at.phase_is in
          subst (λ (l : Link). IsOpen (g.P.Port.state c.loop-link.port) l.number) c.link-item.is (open_at at.set c.loop-link.links (g.P.Port.state c.loop-link.port) (λ lane. at.jobs lane ++ steps.added lane) at.replies c.loop-link.link-index c.link-item.result here c.link-item.is (steps.goes at.jobs at.replies at.stands) (ap (λ (l : Link). l.live) c.link-item.is ∙ live));
      mute = λ told.
          let at : IsTable c.args.phase c.args.links.now (g.P.Port.state c.args.port.now) = c.requires.at told in
          let steps = c.loop-link.invariant.steps told at.set at.phase_is in
          subst (λ (l : Link). l.outgoing.sending ≢ Open → l.outgoing.unsent ≡ []) c.link-item.is
          (quiet_in at.set c.loop-link.links (g.P.Port.state c.loop-link.port) (λ lane. at.jobs lane ++ steps.added lane) at.replies c.loop-link.link-index c.link-item.result here c.link-item.is (steps.goes at.jobs at.replies at.stands));
    }

pub loop-link-preserved : goal.loop-link-preserved
loop-link-preserved g c =
    let here : c.loop-link.link-index < length c.loop-link.links = omega arith in
    record {
      steps = λ told set is. steps_one set c.args.links.now c.loop-link.links c.loop-link.link-index c.link-item.result c.service.new.self (g.P.Port.state c.args.port.now) (g.P.Port.state c.loop-link.port) (g.P.Port.state c.service.new.port) (g.I.Inbox.jobs c.args.inbox.now) (g.I.Inbox.jobs c.loop-link.inbox) (g.I.Inbox.jobs c.service.new.inbox) here c.link-item.is
          (c.loop-link.invariant.steps told set is)
          (subst (λ (p : Phase). LinkStep p c.link-item.result c.service.new.self (g.P.Port.state c.loop-link.port) (g.P.Port.state c.service.new.port) (g.I.Inbox.jobs c.loop-link.inbox) (g.I.Inbox.jobs c.service.new.inbox)) (sym is) (subst (λ (l : Link). LinkStep c.args.phase l c.service.new.self (g.P.Port.state c.loop-link.port) (g.P.Port.state c.service.new.port) (g.I.Inbox.jobs c.loop-link.inbox) (g.I.Inbox.jobs c.service.new.inbox)) (sym c.link-item.is) (c.service.ensures.step told)));
      passed = λ told.
          let at : IsTable c.args.phase c.args.links.now (g.P.Port.state c.args.port.now) = c.requires.at told in
          let steps = c.loop-link.invariant.steps told at.set at.phase_is in
          passed_on at.set c.args.phase c.args.links.now c.loop-link.links c.loop-link.link-index c.link-item.result c.service.new.self (g.P.Port.state c.args.port.now) (g.P.Port.state c.loop-link.port) (g.P.Port.state c.service.new.port) (λ lane. at.jobs lane ++ steps.added lane) at.replies
          (g.I.Inbox.refused c.args.inbox.now) (g.I.Inbox.refused c.loop-link.inbox) (g.I.Inbox.refused c.service.new.inbox) here (steps.goes at.jobs at.replies at.stands) (c.service.ensures.step told).alone (c.loop-link.invariant.rest told) c.loop-link.invariant.later
          c.loop-link.invariant.keeps.inbox.counts c.service.ensures.keeps.inbox.counts (c.service.ensures.passed told) (c.loop-link.invariant.passed told);
      remains = remain_set c.args.links.now c.loop-link.links c.loop-link.link-index c.link-item.result c.service.new.self here c.link-item.is (subst (λ (l : Link). Remains l c.service.new.self) (sym c.link-item.is) c.service.ensures.remains) c.loop-link.invariant.remains;
      later = later_set c.args.links.now c.loop-link.links c.loop-link.link-index c.service.new.self c.loop-link.invariant.later;
      stopped = λ is m. c.service.ensures.stopped is m ∙ c.loop-link.invariant.stopped is m;
      unblocked = λ reads. below_set IsReadOut c.loop-link.links c.loop-link.link-index c.service.new.self here (c.service.ensures.unblocked reads) (c.loop-link.invariant.unblocked reads);
      reads = λ told. reads_on c.loop-link.links c.loop-link.link-index c.link-item.result (g.P.Port.state c.args.port.now) (g.P.Port.state c.loop-link.port) (g.P.Port.state c.service.new.port) here (c.service.ensures.step told).alone (c.loop-link.invariant.rest told) (c.loop-link.invariant.reads told) (c.service.ensures.limits told).most;
      rest = λ told.
          let at : IsTable c.args.phase c.args.links.now (g.P.Port.state c.args.port.now) = c.requires.at told in
          let steps = c.loop-link.invariant.steps told at.set at.phase_is in
          rest_on at.set c.loop-link.links c.loop-link.link-index c.link-item.result c.service.new.self (g.P.Port.state c.args.port.now) (g.P.Port.state c.loop-link.port) (g.P.Port.state c.service.new.port) (λ lane. at.jobs lane ++ steps.added lane) at.replies here (steps.goes at.jobs at.replies at.stands) (c.service.ensures.step told).alone (c.loop-link.invariant.rest told);
      output_full = λ told going.
          let at : IsTable c.args.phase c.args.links.now (g.P.Port.state c.args.port.now) = c.requires.at told in
          let steps = c.loop-link.invariant.steps told at.set at.phase_is in
          below_on at.set c.loop-link.links c.loop-link.link-index c.link-item.result c.service.new.self (g.P.Port.state c.args.port.now) (g.P.Port.state c.loop-link.port) (g.P.Port.state c.service.new.port) (λ lane. at.jobs lane ++ steps.added lane) at.replies here (steps.goes at.jobs at.replies at.stands) (c.service.ensures.step told).alone (c.service.ensures.step told).number
          ((c.service.ensures.limits told).output_full going) (c.loop-link.invariant.rest told) (c.loop-link.invariant.output_full told going);
      unread = λ told quiet. unread_on _ (g.P.Port.state c.args.port.now) (g.P.Port.state c.loop-link.port) (g.P.Port.state c.service.new.port) (c.service.ensures.step told).alone (c.loop-link.invariant.unread told quiet) ((c.service.ensures.limits told).unread quiet);
      own = λ n are.
          let is = worker_at n c.loop-link.links c.loop-link.link-index c.link-item.result here c.link-item.is (workers_remain n c.args.links.now c.loop-link.links c.loop-link.invariant.remains are) in
          own_then (c.loop-link.invariant.own n are) (own_by n _ (ap (λ (l : Link). l.conn.worker) (sym c.link-item.is) ∙ is) c.service.ensures.own);
      keeps = both_then g.met.I.Inbox.same_through c.loop-link.invariant.keeps c.service.ensures.keeps;
    }

pub returns-clause-unblocked : goal.returns-clause-unblocked
returns-clause-unblocked g c = λ reads. calm_all _ (λ i d within. c.loop-link.invariant.unblocked reads i d (omega arith))

pub returns-clause-limits : goal.returns-clause-limits
returns-clause-limits g c = λ told. record {
  reads = c.loop-link.invariant.reads told;
  output_full = λ going. spared_all _ (g.P.Port.state c.args.port.now) (g.P.Port.state c.loop-link.port) (λ i d within. c.loop-link.invariant.output_full told going i d (omega arith));
  unread = c.loop-link.invariant.unread told;
}

pub returns-clause-passed : goal.returns-clause-passed
returns-clause-passed g c = λ told. record { size = search rules; each = λ i d within. c.loop-link.invariant.passed told i d (omega arith) }
