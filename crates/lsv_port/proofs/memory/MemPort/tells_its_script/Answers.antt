use Rattle.std.proofs.Common.{subst}
use Rattle.lsv_port.specs.Memory.Value.{PortValue, port_state, TellsScript}
use Rattle.lsv_port.proofs.PortLemmas.{run_tells}
use Rattle.lsv_port.proofs.memory.MemPort.tells_its_script.Goals as goal

pub returns : goal.returns
returns c = subst (λ (p : PortValue). TellsScript p.script (port_state p)) c.self.view_is (run_tells c.self.inside.run c.self.invariant)
