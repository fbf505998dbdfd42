-- What stays of a port from call to call, whether it tells its content or not, and why a call failed.
use Rattle.std.specs.Prelude.{◌≡◌, ◌⊎◌, ℕ, ◌≤◌, Bool, true, List, [], ◌∷◌, ◌++◌, Option}
use Rattle.lsv_defs.specs.Causes.{HasRisen}
use Rattle.lsv_port.specs.declared.step.Step.{Step}

-- what a port is asked to listen on: an address, and after how many links, opened and closed, it tells Stop
pub record Listening : Type 0 where
  pub address : List ℕ
  pub stop_after : Option ℕ

-- what a port was asked to listen on, and whether it had made a turn by then
pub record Noted : Type 0 where
  pub asked : Listening
  pub turned : Bool

-- what stays of a port from call to call
pub record PortLedger : Type 0 where
  -- the steps that it takes, if they are fixed beforehand
  pub script : List Step
  -- what it was asked to listen on, in order
  pub listens : List Noted
  -- whether it made a turn, or a turn of it failed
  pub turned : Bool
  -- how often listening failed
  pub deaf : ℕ
  -- how often listening and turns failed
  pub turns : ℕ
  -- how often the reads and writes of each link failed
  pub links : ℕ → ℕ

-- it is the same port still, it was asked to listen on nothing more, and no count fell; that of failed listening didn't rise
pub record Continues (old new : PortLedger) : Type 0 where
  pub script : new.script ≡ old.script
  pub listens : new.listens ≡ old.listens
  pub turned : old.turned ≡ true → new.turned ≡ true
  pub deaf : new.deaf ≡ old.deaf
  pub turns : old.turns ≤ new.turns
  pub links : (l : ℕ) → old.links l ≤ new.links l

-- the later ones begin with the earlier ones
pub record AreMore (old new : List Noted) : Type 0 where
  pub more : List Noted
  pub are : new ≡ old ++ more

-- it is the same port still, it may have been asked to listen on more, and no count fell
pub record GoesOn (old new : PortLedger) : Type 0 where
  pub script : new.script ≡ old.script
  pub listens : AreMore old.listens new.listens
  pub turned : old.turned ≡ true → new.turned ≡ true
  pub deaf : old.deaf ≤ new.deaf
  pub turns : old.turns ≤ new.turns
  pub links : (l : ℕ) → old.links l ≤ new.links l

-- it was asked to listen on this, by when it had made a turn only if it had by the old ledger; or it failed before it was noted
abbrev pub WasAsked : Listening → (failed : Type 0) → PortLedger → PortLedger → Type 0
WasAsked asked failed old new = (new.listens ≡ old.listens ++ record { asked = asked; turned = old.turned } ∷ []) ⊎ ((new.listens ≡ old.listens) × failed)

-- if it couldn't listen, its count of turns rose
pub record HasListenCause (failed : Type 0) (old new : PortLedger) : Type 0 where
  pub goes_on : GoesOn old new
  pub risen : failed → HasRisen old.turns new.turns

-- if a turn failed, the port's count of turns rose
pub record HasTurnCause (failed : Type 0) (old new : PortLedger) : Type 0 where
  pub continues : Continues old new
  pub risen : failed → HasRisen old.turns new.turns

-- if the call on this link failed, the link's count rose
pub record HasLinkCause (l : ℕ) (failed : Type 0) (old new : PortLedger) : Type 0 where
  pub continues : Continues old new
  pub risen : failed → HasRisen (old.links l) (new.links l)
