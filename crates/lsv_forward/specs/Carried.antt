-- What went over the connections of a run.
use Rattle.std.specs.Prelude.{◌≡◌, ◌≤◌, ℕ, suc, Bool, true, false, List, [], ◌∷◌, length, Option, Some, None, Result, Ok, Err}
use Rattle.lsv_disk.specs.View.{DiskView, Image, IsCrashImage}
use Rattle.lsv_iolog.specs.Recovered.{SameFiles}
use Rattle.lsv_kept.specs.Kept.{IsAsBefore, Keeps}
use Rattle.lsv_kept.specs.Value.{is_done}
use Rattle.lsv_link.specs.Link.{Continues, LinkCounts}
use Rattle.lsv_link.specs.declared.connection.Connection.{Connection}
use Rattle.lsv_relay.specs.Complete.{IsTimed}
use Rattle.lsv_relay.specs.Ends as relayings
use Rattle.lsv_relay.specs.Talks.{IsDurable}
use Rattle.lsv_relay.specs.Value.{RelayView, aim_of, is_broken, state_of}
use Rattle.lsv_relay.specs.declared.fault.RelayFault.{RelayFault}
use Rattle.lsv_relay.specs.declared.run.RelayEnd.{RelayEnd}
use Rattle.lsv_relay.specs.declared.run.RelayEnd.TheVariants as ends
use Rattle.lsv_relay.specs.declared.fault.RelayFault.TheVariants as relays
use Rattle.lsv_forward.specs.Logs.{Handled}
use Rattle.lsv_forward.specs.declared.outcome.Outcome.{Outcome}
use Rattle.lsv_forward.specs.declared.outcome.Outcome.TheVariants.{Relayed, Pending, Failed}

-- memory ran out
abbrev pub is_memory : RelayFault → Bool
is_memory relays.NoMem = true
is_memory _ = false

-- this becomes of a log whose connection ended so
abbrev pub IsEnded : Result RelayEnd RelayFault → Outcome → Type 0
IsEnded (Ok ends.Done) outcome = outcome ≡ Relayed
IsEnded (Ok (ends.Pending cause)) outcome = outcome ≡ Pending cause
IsEnded (Err fault) outcome = (is_memory fault ≡ false) × (outcome ≡ Failed fault)

-- a connection of a log: the disk and the relay when it began, and when it ended, and the link's counts before and after
pub record Carriage (D : Type 0) : Type 0 where
  pub began : D
  pub from : RelayView
  pub relay : RelayView
  pub disk : D
  pub before : LinkCounts
  pub after : LinkCounts

-- it was answered so, and it ended so
abbrev pub Went : {D : Type 0} → (disk_tells link_tells : Type 0) (view : D → DiskView) → Carriage D → Result RelayEnd RelayFault → Connection → Type 0
Went disk_tells link_tells view c answer conn = relayings.Went disk_tells link_tells view c.began c.from answer c.relay c.disk c.before c.after conn

-- ---- At each moment

-- each crash image of each moment between these disks has this
abbrev pub AtEach : (Image → Type 0) → (old new : DiskView) → Type 0
AtEach P old new = (k : ℕ) (image : Image) → old.moment ≤ k → k ≤ new.moment → new.crash_images_at k image → P image

-- up to a connection a crash leaves of the relaying of log n what one left before the run. During it a crash leaves what one left then, and after it what one left at its end
pub record InTurn (n : ℕ) (old began disk new : DiskView) : Type 0 where
  pub begins : old.moment ≤ began.moment
  pub ends : began.moment ≤ disk.moment
  pub rests : disk.moment ≤ new.moment
  pub before : (k : ℕ) (image : Image) → old.moment ≤ k → k ≤ began.moment → new.crash_images_at k image → IsAsBefore n old image
  pub during : (k : ℕ) (image : Image) → began.moment ≤ k → k ≤ disk.moment → new.crash_images_at k image → disk.crash_images_at k image
  pub after : AtEach (IsAsBefore n disk) disk new
  -- and so does one after the run
  pub now : (image : Image) → IsCrashImage new image → IsAsBefore n disk image

-- what the relay keeps stands on the disk: no fault came, or one that left the relay whole and the log not relayed
abbrev pub IsSure : Result RelayEnd RelayFault → RelayView → Type 0
IsSure (Ok end) relay = Unit {0}
IsSure (Err fault) relay = (is_broken relay ≡ false) × (is_done (state_of relay) ≡ false)

-- ---- A log and its connection

-- log n was sent over the connection, and it ended with such an answer. Before the run its files read as at both ends of the connection, and kept what was kept when it began. The link's counts went from these to those meanwhile
pub record Carries {D : Type 0} (disk_tells link_tells : Type 0) (view : D → DiskView) (from to : LinkCounts) (old new : DiskView) (n : ℕ) (Answers : Result RelayEnd RelayFault → Type 0) (conn : Connection) : Type 0 where
  pub carriage : Carriage D
  pub number : carriage.from.number ≡ n
  -- what is kept is of the host of the connection
  pub host_is : link_tells → (aim_of carriage.from).host ≡ conn.host
  -- the relaying had the log's elapsed time
  pub timed : disk_tells → IsTimed n (aim_of carriage.from).total old.reads
  pub kept : disk_tells → Keeps n (aim_of carriage.from) old.reads (state_of carriage.from)
  pub same_began : disk_tells → SameFiles n old.reads (view carriage.began).reads
  pub same_ended : disk_tells → SameFiles n old.reads (view carriage.disk).reads
  pub earlier : Continues from carriage.before
  pub later : Continues carriage.after to
  pub answer : Result RelayEnd RelayFault
  pub is : Answers answer
  pub went : Went disk_tells link_tells view carriage answer conn
  -- what was kept before the run stands up to the connection, and what was kept at its end stands after it
  pub turn : disk_tells → InTurn n old (view carriage.began) (view carriage.disk) new
  -- that is what the relay keeps
  pub left : disk_tells → IsSure answer carriage.relay → IsDurable n (aim_of carriage.from) (state_of carriage.relay) new

-- log n was sent over its connection, if one was made; else a crash leaves at each moment what one left before the run
abbrev pub IsCarried : {D : Type 0} → (disk_tells link_tells : Type 0) (view : D → DiskView) (from to : LinkCounts) (old new : DiskView) (n : ℕ) (Answers : Result RelayEnd RelayFault → Type 0) → Option Connection → Type 0
IsCarried disk_tells link_tells view from to old new n Answers None = disk_tells → AtEach (IsAsBefore n old) old new
IsCarried disk_tells link_tells view from to old new n Answers (Some conn) = Carries disk_tells link_tells view from to old new n Answers conn

-- each log was sent over its connection, if one was made, and its outcome says how that ended; the last log stands first
abbrev pub AreCarried : {D : Type 0} → (disk_tells link_tells : Type 0) (view : D → DiskView) (from to : LinkCounts) (old new : DiskView) → List Handled → Type 0
AreCarried disk_tells link_tells view from to old new [] = Unit {0}
AreCarried disk_tells link_tells view from to old new (log ∷ before) =
    IsCarried disk_tells link_tells view from to old new (suc (length before)) (λ answer. IsEnded answer log.outcome) log.conn × AreCarried disk_tells link_tells view from to old new before

-- memory ran out
abbrev pub IsOutOfMemory : Result RelayEnd RelayFault → Type 0
IsOutOfMemory (Ok end) = ⊥
IsOutOfMemory (Err fault) = is_memory fault ≡ true
