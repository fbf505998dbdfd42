-- What is known of a port that tells nothing.
use Rattle.std.specs.Prelude.{ℕ, false, []}
use Rattle.lsv_port.specs.Ledger.{PortLedger}
use Rattle.lsv_port.specs.Port.{LinkState, PortState}

-- a link of which nothing is known
abbrev pub untold_link : LinkState
untold_link = record { is_open = false; input = []; output = []; ended = false; owed = false; full = false; failed = false; reads = []; beside = λ l. false; dialled = false; late = false }

-- a port of which no link is known
abbrev pub untold_port : PortState
untold_port = record { opened = []; link = λ l. untold_link; stopped = false; failed = false }

-- so often a turn, and so often a link, failed; what it was asked to listen on isn't noted, nor that a turn was made
abbrev pub ledger_of : ℕ → ℕ → PortLedger
ledger_of turns links = record { script = []; listens = []; turned = false; deaf = 0; turns = turns; links = λ l. links }
