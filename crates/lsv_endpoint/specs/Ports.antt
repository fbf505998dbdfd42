-- The port of an endpoint, as it is seen.
use Rattle.std.specs.Prelude.{◌≡◌, ℕ, false, []}
use Rattle.lsv_port.specs.Ledger.{PortLedger}
use Rattle.lsv_port.specs.Port.{PortState}
use Rattle.lsv_links.specs.Views.{IsIdle, PortView}

-- what is known of a port, by what tells its state and its ledger
abbrev pub view_by : {P : Type 0} (state : P → PortState) (ledger : P → PortLedger) → P → PortView
view_by state ledger port = record { state = state port; ledger = ledger port }

-- a port that has not opened a link yet, has not told Stop, and has not failed
pub record IsUnopened (port : PortState) : Type 0 where
  pub opened : port.opened ≡ []
  pub idle : IsIdle port
  pub whole : (l : ℕ) → (port.link l).failed ≡ false
