use Rattle.std.proofs.Common.{◌+◌, ◌<◌, length, arith, sym, ap, ◌∙◌}
use Rattle.lsv_base.specs.Moments.{moments_left}
use Rattle.lsv_base.proofs.MomentsLeft.{moments_left-drop}
use Rattle.lsv_base.proofs.mem_clock.MemClockClock.now.Goals as goal

pub returns-then-self-moments-clause-left : goal.returns-then-self-moments-clause-left
returns-then-self-moments-clause-left c =
    let clock = c.self.inside in
    let below : clock.place + 1 < length clock.moments = grind arith in
    sym (ap moments_left (sym c.self.view_is) ∙ moments_left-drop clock.moments clock.place below)
