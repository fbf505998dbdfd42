-- A port of which nothing is told.
use Rattle.std.specs.Prelude.{[], false}
use Rattle.lsv_port.specs.Port.{fresh_link}
use Rattle.lsv_links.specs.Views.{PortView}

-- a port without links
abbrev pub no_port : PortView
no_port = record {
  state = record { opened = []; link = λ l. fresh_link (λ m. false); stopped = false; failed = false };
  ledger = record { script = []; listens = []; turned = false; deaf = 0; turns = 0; links = λ l. 0 };
}
