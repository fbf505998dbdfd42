-- A run over the logs of a store.
use Rattle.std.specs.Prelude.{◌≡◌, ◌<◌, ℕ, suc, List, [], ◌∷◌, length, Option, Some, None, IfSome}
use Rattle.lsv_disk.specs.declared.file.FileId.{FileId}
use Rattle.lsv_disk.specs.Throughout.{OnlyReads, Throughout}
use Rattle.lsv_disk.specs.View.{DiskView}
use Rattle.lsv_link.specs.Link.{LinkCounts, LinkState, after_close}
use Rattle.lsv_link.specs.declared.connection.Connection.{Connection}
use Rattle.lsv_kept.specs.Kept.{IsAsBefore, IsOfRelay}
use Rattle.lsv_forward.specs.Carried.{AreCarried, AtEach, IsCarried, IsOutOfMemory}
use Rattle.lsv_forward.specs.Logs.{AreAs, AreJoined, AreTo, AreTried, Handled, Joins, WereAs, left_in}
use Rattle.lsv_forward.specs.Numbers.{HasNumbersCause, last_number}
use Rattle.lsv_forward.specs.declared.fault.ForwardFault.{ForwardFault}
use Rattle.lsv_forward.specs.declared.fault.ForwardFault.TheVariants.{Numbers, NoMem}
use Rattle.lsv_forward.specs.declared.outcome.Outcome.{Outcome}
use Rattle.lsv_forward.specs.declared.outcome.Outcome.TheVariants.{Passed, Marked, Relayed, Pending, Untried, Unopened, Failed}

-- the file is one of what is kept of the relaying of a log
abbrev pub IsOfRelays : FileId → Type 0
IsOfRelays file = (n : ℕ) × IsOfRelay n file

-- the run took all logs of the store, for a host, and this number of them is left: what became of each, the connections that were made, by rising number, and what went over them
pub record Forwards {D : Type 0} (view : D → DiskView) (host : List ℕ) (disk_tells link_tells : Type 0) (old new : DiskView) (link link' : LinkState) (counts counts' : LinkCounts) (left : ℕ) : Type 0 where
  -- the last log stands first
  pub logs : List Handled
  pub last : disk_tells → last_number old.reads ≡ Some (length logs)
  pub were : WereAs disk_tells logs old.reads
  pub are : AreAs disk_tells logs old new
  pub left_is : left ≡ left_in logs
  pub tried : AreTried logs
  pub hosts : link_tells → AreTo host logs
  pub conns : link_tells → AreJoined logs (after_close link) link'
  pub went : AreCarried disk_tells link_tells view counts counts' old new logs
  -- of other logs a crash leaves what one left before
  pub above : disk_tells → (n : ℕ) → length logs < n → AtEach (IsAsBefore n old) old new

-- memory ran out: so far the logs were handled as in a run to its end, then one may have been handled in part, and no further one
pub record Stops {D : Type 0} (view : D → DiskView) (host : List ℕ) (disk_tells link_tells : Type 0) (old new : DiskView) (link link' : LinkState) (counts counts' : LinkCounts) : Type 0 where
  pub logs : List Handled
  pub were : WereAs disk_tells logs old.reads
  pub are : AreAs disk_tells logs old new
  pub tried : AreTried logs
  pub went : AreCarried disk_tells link_tells view counts counts' old new logs
  -- the connection of the last one, if one was made
  pub conn : Option Connection
  pub part : IsCarried disk_tells link_tells view counts counts' old new (suc (length logs)) IsOutOfMemory conn
  pub hosts : link_tells → AreTo host logs × IfSome conn (λ c. c.host ≡ host)
  pub conns : link_tells → (mid : LinkState) × AreJoined logs (after_close link) mid × Joins conn mid link'
  pub above : disk_tells → (n : ℕ) → suc (length logs) < n → AtEach (IsAsBefore n old) old new

-- a log with this outcome wasn't connected to
abbrev pub IsUnsent : Outcome → Type 0
IsUnsent Passed = Unit {0}
IsUnsent Marked = Unit {0}
IsUnsent Relayed = ⊥
IsUnsent (Pending cause) = ⊥
IsUnsent Untried = Unit {0}
IsUnsent (Unopened fault) = Unit {0}
IsUnsent (Failed fault) = ⊥

-- none of these logs was connected to
abbrev pub AreUnsent : List Handled → Type 0
AreUnsent [] = Unit {0}
AreUnsent (log ∷ before) = IsUnsent log.outcome × AreUnsent before

-- files of relaying alone were touched, at each moment
abbrev pub TouchesRelays : DiskView → DiskView → Type 0
TouchesRelays old new = Throughout IsOfRelays (λ image. Unit {0}) old new

-- no connection is open
abbrev pub IsClosed : LinkState → Type 0
IsClosed link = link.now ≡ None

-- how the run ended early: the numbers couldn't be read, for this cause, nobody was connected to, and nothing was written; or memory ran out
abbrev pub HasRunCause : {D : Type 0} → (view : D → DiskView) (host : List ℕ) (disk_tells link_tells : Type 0) (old new : DiskView) (link link' : LinkState) (counts counts' : LinkCounts) → ForwardFault → Type 0
HasRunCause view host disk_tells link_tells old new link link' counts counts' (Numbers fault) = HasNumbersCause disk_tells old new fault × (link' ≡ link) × (disk_tells → OnlyReads old new)
HasRunCause view host disk_tells link_tells old new link link' counts counts' NoMem = Stops view host disk_tells link_tells old new link link' counts counts'
