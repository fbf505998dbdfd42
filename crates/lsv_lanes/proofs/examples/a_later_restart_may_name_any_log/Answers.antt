use Rattle.std.proofs.Common.{refl}
use Rattle.lsv_machine.specs.Examples.{restarts}
use Rattle.lsv_lanes.proofs.examples.a_later_restart_may_name_any_log.Goals as goal

pub returns : goal.returns
returns c = record {
  lane = refl;
  asks = (record { log = 1; point = 1 }, refl, refl);
  later = λ (b, is, asks). absurd (let e = asks.1 in cc);
  first = ((restarts 2).body, refl, (record { log = 1; point = 1 }, refl, refl));
  after_hello = refl;
}
