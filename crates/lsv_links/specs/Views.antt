-- What is known of a port, and what of it failed meanwhile.
use Rattle.std.specs.Prelude.{◌≡◌, ◌≢◌, ◌≤◌, ℕ, Bool, true, false, List, [], ◌∷◌, length}
use Rattle.std.specs.List.{AllByRecursion}
use Rattle.lsv_defs.specs.Causes.{HasRisen}
use Rattle.lsv_port.specs.Ledger.{PortLedger}
use Rattle.lsv_port.specs.Port.{PortState}

-- what is known of a port: its links, and its ledger
pub record PortView : Type 0 where
  pub state : PortState
  pub ledger : PortLedger

-- no link is open, Stop wasn't told, and the port didn't fail as a whole
pub record IsIdle (port : PortState) : Type 0 where
  pub none_open : (l : ℕ) → (port.link l).is_open ≡ false
  pub going : port.stopped ≡ false
  pub well : port.failed ≡ false

-- a call on this link failed meanwhile
abbrev pub LinkFailed : ℕ → PortView → PortView → Type 0
LinkFailed l old new = HasRisen (old.ledger.links l) (new.ledger.links l)

-- the port's listening or a turn of it failed meanwhile
abbrev pub PortFailed : PortView → PortView → Type 0
PortFailed old new = HasRisen old.ledger.turns new.ledger.turns

-- ---- How many links are open

-- none of these numbers is this one
abbrev pub IsNoneOf : ℕ → List ℕ → Type 0
IsNoneOf n ms = AllByRecursion (λ m. m ≢ n) ms

-- these numbers differ
abbrev pub AreDifferent : List ℕ → Type 0
AreDifferent [] = Unit {0}
AreDifferent (n ∷ ns) = IsNoneOf n ns × AreDifferent ns

-- 128 links were open, or more
pub record IsCrowded (open_then : ℕ → Bool) : Type 0 where
  pub those : List ℕ
  pub many : 128 ≤ length those
  pub differ : AreDifferent those
  pub were_open : AllByRecursion (λ l. open_then l ≡ true) those
