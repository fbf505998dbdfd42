use Rattle.std.proofs.Common.{◌≤◌, false, length, arith}
use Rattle.std.proofs.Math.Decide.{dec_le}
use Rattle.std.proofs.Math.ListN.{get_or-eq_default}
use mathlib.Core.Logic.{dite}
use Rattle.lsv_threads.proofs.closing.any_stopped.Goals as goal

pub returns : goal.returns
returns c = λ e w. dite (dec_le (length c.args.stops.now) w)
    (λ (high : length c.args.stops.now ≤ w). get_or-eq_default c.args.stops.now false high)
    (λ low. c.loop-stopped.invariant w (omega (arith, low, c.loop-stopped-test.false)))
