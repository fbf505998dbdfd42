-- What the command that the words ask for needs.
use Rattle.std.specs.Prelude.{◌≡◌, ◌≤◌, ℕ}
use Rattle.lsv_args.specs.Reading.{Options}
use Rattle.sudo_logsrvd.specs.declared.need.Need.{Need}
use Rattle.sudo_logsrvd.specs.declared.need.Need.TheVariants.{Relay, Server, Disk}

-- this suffices for a server of these lanes, and its ports are as many as the workers
abbrev pub Suffices : Options → Need → Type 0
Suffices o Relay = ⊥
Suffices o (Server lanes workers) = (o.lanes ≤ lanes) × (o.workers ≡ workers)
Suffices o Disk = ⊥

-- its ports are from 1 to 64
abbrev pub HasFewPorts : Need → Type 0
HasFewPorts Relay = Unit {0}
HasFewPorts (Server lanes workers) = (1 ≤ workers) × (workers ≤ 64)
HasFewPorts Disk = Unit {0}
