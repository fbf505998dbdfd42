use Rattle.std.proofs.Common.{◌≡◌, ◌≤◌, ℕ}
use Rattle.lsv_gen.specs.Load.{conversation}
use Rattle.lsv_port.specs.Memory.Value.{port_state}
use Rattle.lsv_load.proofs.run.are_read.Given as goal

abbrev pub invariant-loop-before : goal.invariant-loop-before
invariant-loop-before l = (i : ℕ) → 1 ≤ i → i ≤ l.before → ((port_state l.fn.port).link i).input ≡ conversation i
