use Rattle.std.proofs.Common.{refl}
use Rattle.lsv_machine.proofs.Starters.{failed_run, would_start}
use Rattle.lsv_machine.proofs.examples.a_promise_can_be_lost.Goals as goal

pub returns : goal.returns
returns c = record { start = would_start; run = failed_run; promised = refl; lost = refl }
