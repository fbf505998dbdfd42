use Rattle.std.proofs.Common.{subst}
use Rattle.sudo_logsrvd.specs.declared.need.Need.{Need}
use Rattle.sudo_logsrvd.specs.Needs.{Suffices}
use Rattle.sudo_logsrvd.proofs.run.Goals as goal

-- words of a relay ask for no server
pub run_relay-requires-after_bounds : goal.run_relay-requires-after_bounds
run_relay-requires-after_bounds g c κs within = λ o asks. subst (λ (n : Need). Suffices o n) c.in-Ok-Relay.field-0-is (c.in-Ok-Relay.ensures.suffices o asks)

-- a server has the lanes that its words ask for
pub run_lanes-requires-clause-lanes : goal.run_lanes-requires-clause-lanes
run_lanes-requires-clause-lanes g c κs within = λ o asks. (subst (λ (n : Need). Suffices o n) c.in-Ok-Server.field-0-is (c.in-Ok-Server.ensures.suffices o asks)).0

-- words of one disk ask for no server
pub run_lanes-requires-in-Ok-Disk-clause-lanes : goal.run_lanes-requires-in-Ok-Disk-clause-lanes
run_lanes-requires-in-Ok-Disk-clause-lanes g c κs within = λ o asks. absurd (subst (λ (n : Need). Suffices o n) c.in-Ok-Disk.field-0-is (c.in-Ok-Disk.ensures.suffices o asks))
