use Rattle.std.proofs.Common.{All, subst}
use Rattle.lsv_threads.specs.Idling.{went_through}
use Rattle.lsv_threads.specs.Threads.{IsStarted}
use Rattle.lsv_threads.proofs.running.turn_all.Goals as goal

pub finish_idle-requires : goal.finish_idle-requires
finish_idle-requires g c =
    let i = c.run_lanes.new.meanwhile in
    let go = c.run_lanes.ensures.goes in
    record { started = subst (λ x. All (IsStarted g.T.Endpoint x c.args.outs.now) i.threads.items) go.same_inboxes (subst (λ y. All (IsStarted g.T.Endpoint i.inboxes.now y) i.threads.items) go.same_outs c.run_lanes.ensures.ready) }

pub returns-clause-went : goal.returns-clause-went
returns-clause-went g c = went_through g.T.Endpoint c.args.inboxes.now c.args.outs.now _ _ _ c.run_lanes.ensures.goes.went c.finish_idle.ensures.went
