use Rattle.std.proofs.Common.{◌<◌, length, arith}
use Rattle.lsv_worker.proofs.Passing.{held_on, paused_on}
use Rattle.lsv_worker.proofs.worker.collect.Goals as goal

pub loop-link-preserved : goal.loop-link-preserved
loop-link-preserved c =
    let here : c.loop-link.link-index < length c.args.links.now = omega arith in
    record {
      held = held_on c.args.links.now c.loop-link.held.items c.hold.new.held.items c.loop-link.link-index c.link-item.result here c.link-item.is c.hold.ensures.unblocked c.hold.ensures.blocked_by c.loop-link.invariant.held;
      blocked_by = paused_on c.args.links.now c.loop-link.held.items c.hold.new.held.items c.loop-link.link-index c.link-item.result here c.link-item.is c.hold.ensures.unblocked c.hold.ensures.blocked_by c.loop-link.invariant.blocked_by;
      room = omega (arith, c.loop-link.invariant.room, c.hold.ensures.few);
      capacity = omega (arith, c.loop-link.invariant.capacity, c.hold.ensures.room);
    }
