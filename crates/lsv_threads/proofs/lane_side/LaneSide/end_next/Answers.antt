use Rattle.std.proofs.Common.{refl}
use Rattle.lsv_queue.proofs.Places.{there}
use Rattle.lsv_threads.proofs.Rowing.{pass_is, set_same}
use Rattle.lsv_threads.proofs.Turning.{from_ended, from_same}
use Rattle.lsv_threads.proofs.lane_side.LaneSide.end_next.Goals as goal

pub returns-in-Ok-clause-from : goal.returns-in-Ok-clause-from
returns-in-Ok-clause-from g c = λ first from.
    from_ended g.L.Lane c.args.outs.now c.args.self.now _ refl c.index_mut.result.now c.end.new.pass refl refl refl refl refl
    (there c.args.self.now.given.items c.args.self.now.ended c.index_mut.result.now c.requires.left c.index_mut.ensures.value) c.end.ensures.queue c.in-Ok.ensures.end first from

pub returns-in-Err-clause-from : goal.returns-in-Err-clause-from
returns-in-Err-clause-from g c = λ first from.
    from_same g.L.Lane c.args.outs.now first c.args.self.now _ refl refl refl refl refl
    (set_same c.args.self.now.given.items c.args.self.now.ended c.index_mut.result.now c.end.new.pass c.index_mut.ensures.value (pass_is c.index_mut.result.now c.end.new.pass c.end.ensures.queue c.in-Err.ensures.end)) from
