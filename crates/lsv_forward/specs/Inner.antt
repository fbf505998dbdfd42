-- What only the proofs need of a run.
use Rattle.std.specs.Prelude.{◌≡◌, ◌⊎◌, ℕ, Bool, true, false, List, Option, None, IfSome, IsSome}
use Rattle.lsv_disk.specs.View.{DiskView}
use Rattle.lsv_iolog.specs.declared.fault.ViewFault.TheVariants as logs
use Rattle.lsv_link.specs.declared.connection.Connection.{Connection}
use Rattle.lsv_link.specs.Link.{LinkCounts, LinkState}
use Rattle.lsv_relay.specs.declared.fault.RelayFault.{RelayFault}
use Rattle.lsv_relay.specs.declared.fault.RelayFault.TheVariants as relays
use Rattle.lsv_kept.specs.Kept.{IsAsBefore}
use Rattle.lsv_forward.specs.Carried.{AtEach, IsCarried, IsEnded, IsOutOfMemory, is_memory}
use Rattle.lsv_forward.specs.Logs.{IsAs, Joins, WasAs}
use Rattle.lsv_forward.specs.declared.outcome.Outcome.{Outcome}
use Rattle.lsv_forward.specs.declared.outcome.Outcome.TheVariants.{Passed, Unopened, Untried}

-- the log of a number was handled, for a host
pub record Handles {D : Type 0} (view : D → DiskView) (host : List ℕ) (disk_tells link_tells : Type 0) (n : ℕ) (outcome : Outcome) (old new : DiskView) (link link' : LinkState) (counts counts' : LinkCounts) : Type 0 where
  pub conn : Option Connection
  pub was : WasAs disk_tells n outcome conn old.reads
  pub is : IsAs disk_tells n outcome old new
  pub host_is : link_tells → IfSome conn (λ c. c.host ≡ host)
  pub conns : link_tells → Joins conn link link'
  pub went : IsCarried disk_tells link_tells view counts counts' old new n (λ answer. IsEnded answer outcome) conn

-- and it was connected to only if each connection was made before. It is untried only if one wasn't
pub record HandlesNext {D : Type 0} (view : D → DiskView) (host : List ℕ) (disk_tells link_tells : Type 0) (n : ℕ) (reached : Bool) (outcome : Outcome) (old new : DiskView) (link link' : LinkState) (counts counts' : LinkCounts) : Type 0 where
  pub one : Handles view host disk_tells link_tells n outcome old new link link' counts counts'
  pub tried : IsSome one.conn → reached ≡ true
  pub untried : outcome ≡ Untried → reached ≡ false

-- memory ran out while the log of a number was handled
pub record HandlesPart {D : Type 0} (view : D → DiskView) (host : List ℕ) (disk_tells link_tells : Type 0) (n : ℕ) (old new : DiskView) (link link' : LinkState) (counts counts' : LinkCounts) : Type 0 where
  pub conn : Option Connection
  pub host_is : link_tells → IfSome conn (λ c. c.host ≡ host)
  pub conns : link_tells → Joins conn link link'
  pub went : IsCarried disk_tells link_tells view counts counts' old new n IsOutOfMemory conn

-- the log of a number was judged, and nobody connected to
pub record Judges (disk_tells : Type 0) (n : ℕ) (outcome : Outcome) (old new : DiskView) : Type 0 where
  pub was : WasAs disk_tells n outcome None old.reads
  pub is : IsAs disk_tells n outcome old new
  pub rests : disk_tells → AtEach (IsAsBefore n old) old new

-- the log is absent or not complete
abbrev pub is_passed : RelayFault → Bool
is_passed (relays.Log logs.Absent) = true
is_passed relays.Incomplete = true
is_passed _ = false

-- this becomes of a log that this fault kept from being opened
abbrev pub IsUnopened : RelayFault → Outcome → Type 0
IsUnopened fault outcome = (is_memory fault ≡ false) × (((is_passed fault ≡ true) × (outcome ≡ Passed)) ⊎ ((is_passed fault ≡ false) × (outcome ≡ Unopened fault)))
