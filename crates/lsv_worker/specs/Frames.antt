-- What calls leave unchanged of their port and their inbox, and whose jobs they put.
use Rattle.std.specs.Prelude.{◌≡◌, ◌++◌, ℕ, ◌≤◌, List}
use Rattle.lsv_port.specs.Ledger.{Continues, PortLedger}
use Rattle.lsv_port.specs.Port.{PortState}
use Rattle.lsv_session.specs.declared.job.Job.{Job}
use Rattle.lsv_links.specs.Turns.{AreOf}
use Rattle.lsv_worker.specs.Links.{HasBlame}

-- it is the same port still, no count of its failures fell, and if a link failed meanwhile, its count rose
pub record PortKeeps {P : Type 0} (tells : Type 0) (state : P → PortState) (ledger : P → PortLedger) (old new : P) : Type 0 where
  pub continues : Continues (ledger old) (ledger new)
  pub blame : tells → HasBlame (state old) (ledger old) (state new) (ledger new)

-- it is the same inbox still, of the same lanes, and no lane's count of refused puts fell
pub record InboxKeeps {I : Type 0} (lanes : I → ℕ) (refused : I → ℕ → ℕ) (is_same : I → I → Type 0) (old new : I) : Type 0 where
  pub lanes_stay : lanes new ≡ lanes old
  pub counts : (m : ℕ) → refused old m ≤ refused new m
  pub same : is_same old new

-- a call keeps its port and its inbox
pub record BothKeep {P I : Type 0} (tells : Type 0) (state : P → PortState) (ledger : P → PortLedger) (old new : P) (lanes : I → ℕ) (refused : I → ℕ → ℕ) (is_same : I → I → Type 0) (inbox_old inbox_new : I) : Type 0 where
  pub port : PortKeeps tells state ledger old new
  pub inbox : InboxKeeps lanes refused is_same inbox_old inbox_new

-- a call puts more jobs to each lane, after those that it had: none but jobs of this worker's connections
pub record PutsOwn (worker : ℕ) (before after : ℕ → List Job) : Type 0 where
  pub more : ℕ → List Job
  pub put : (lane : ℕ) → after lane ≡ before lane ++ more lane
  pub are_own : (lane : ℕ) → AreOf worker (more lane)
