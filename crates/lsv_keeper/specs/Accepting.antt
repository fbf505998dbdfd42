-- What a request with an event line does besides; and how far an accept that opens a log comes.
use Rattle.std.specs.Prelude.{if◌then◌else◌, ◌≡◌, ◌≤◌, ◌<◌, ◌+◌, ◌⊎◌, ℕ, Bool, true, false, List, [], ◌∷◌, Option, Some, None, Ok, Contains}
use Rattle.lsv_base.specs.declared.time.TimeSpec.{TimeSpec}
use Rattle.lsv_disk.specs.Throughout.{Jointly}
use Rattle.lsv_disk.specs.View.{DiskView, Image, IsCrashImage}
use Rattle.lsv_disk.specs.declared.file.Owner.{Owner}
use Rattle.lsv_disk.specs.declared.file.Owner.TheVariants as owners
use Rattle.lsv_bundle.specs.declared.fault.BundleFault.{BundleFault}
use Rattle.lsv_bundle.specs.declared.fault.BundleFault.TheVariants as bundle_faults
use Rattle.lsv_info.specs.Layout.{head_text}
use Rattle.lsv_info.specs.declared.times.Head.{Head}
use Rattle.lsv_iolog.specs.Moments.{IsEither}
use Rattle.lsv_iolog.specs.Recovered.{Replays}
use Rattle.lsv_iolog.specs.Value.{made}
use Rattle.lsv_iolog.specs.declared.fault.LogFault.{LogFault}
use Rattle.lsv_iolog.specs.declared.fault.LogFault.TheVariants as log_faults
use Rattle.lsv_request.specs.declared.refusal.Refusal.{Refusal}
use Rattle.lsv_request.specs.declared.refusal.Refusal.TheVariants.{DeviceFault, LogFull, NumbersSpent, OutOfMemory}
use Rattle.lsv_request.specs.declared.request.Accept.{Accept}
use Rattle.lsv_request.specs.declared.request.Request.{Request}
use Rattle.lsv_request.specs.declared.request.Request.TheVariants as request
use Rattle.lsv_seq.specs.declared.fault.DrawFault.{DrawFault}
use Rattle.lsv_seq.specs.declared.fault.DrawFault.TheVariants as draw_faults
use Rattle.lsv_session.specs.declared.connection.ConnId.{ConnId}
use Rattle.lsv_session.specs.declared.connection.ConnState.{ConnState}
use Rattle.lsv_session.specs.declared.connection.ConnState.TheVariants.{Running}
use Rattle.lsv_machine.specs.Answers.{Answer, Shut, say}
use Rattle.lsv_machine.specs.Failures.{BreaksOff, FailsAt, LeavesLog, LosesLine, MayDraw, exit_in}
use Rattle.lsv_machine.specs.History.{Ledger, asked, reads_log}
use Rattle.lsv_machine.specs.Machine.{IsOfLane, Machine, Settings, is_running, log_of, with_owner, with_state}
use Rattle.lsv_machine.specs.Work.{Done, adds_line, before_line, ends, fits_file, has_line, last_number, line_fits, lined, makes, opens, refused, silently, work}
use Rattle.lsv_keeper.specs.declared.report.Next.{Next}
use Rattle.lsv_keeper.specs.declared.report.Next.TheVariants as next
use Rattle.lsv_keeper.specs.declared.outcome.Outcome.{Outcome}
use Rattle.lsv_keeper.specs.declared.outcome.Outcome.TheVariants as outcome
use Rattle.lsv_keeper.specs.Represents.{Represents}
use Rattle.lsv_keeper.specs.Rows.{AllRose, Beside, OwnerRose}
use Rattle.lsv_keeper.specs.Value.{KeeperView, event_line, settings_of}

-- ---- A request with an event line

-- it enters no state in which it writes a log
abbrev pub EntersNoLog : Next → Type 0
EntersNoLog next.Stays = Unit {0}
EntersNoLog (next.Enters state) = log_of state ≡ None
EntersNoLog next.Ends = Unit {0}

-- a connection that doesn't stay as it was writes no log
abbrev pub IdleUnless : Next → ConnState → Type 0
IdleUnless next.Stays s = Unit {0}
IdleUnless (next.Enters state) s = log_of s ≡ None
IdleUnless next.Ends s = log_of s ≡ None

-- what is done besides the line
abbrev pub done_by : Next → ConnId → Machine → Done
done_by next.Stays k m = silently m
done_by (next.Enters state) k m = silently (with_state k state m)
done_by next.Ends k m = ends k (say k Shut ∷ []) m

-- in a session a request with an event line is an event alone
abbrev pub unless_running : ConnState → Next → Next
unless_running s after = if is_running s then next.Stays else after

-- the outcome after it
abbrev pub outcome_after : Next → Outcome
outcome_after next.Stays = outcome.Nothing
outcome_after (next.Enters state) = outcome.Nothing
outcome_after next.Ends = outcome.Shut

-- a request leaves this line, and then this is done; it opens and reads no log
pub record IsEventOf (set : Settings) (now : TimeSpec) (k : ConnId) (s : ConnState) (what : Request) (line : List ℕ) (after : Next) (m : Machine) : Type 0 where
  pub line_is : set.line_of now k what (log_of s) ≡ line
  pub has_one : has_line set what ≡ true
  pub opens_none : opens s what ≡ false
  pub does : (n : ℕ) → work k s what n m ≡ done_by after k m
  pub first : (n : ℕ) → before_line s what n m ≡ m
  pub idle : IdleUnless after s
  pub lets_go : (failed : List Owner) (left : Machine) → LeavesLog failed (log_of s) None m left → LeavesLog failed (log_of s) (exit_in (Ok what)) m left
  pub loses_line : (failed : List Owner) (left : Machine) → LeavesLog failed (log_of s) None m left → LosesLine set failed s what m left
  pub notes_none : (n : ℕ) (l : Ledger) → asked n k (Ok what) [] false l ≡ l
  pub reads_none : (n : ℕ) (shut : Bool) (answers : List Answer) → reads_log n shut (Ok what) answers ≡ false

-- ---- A line that isn't added

-- why a line wasn't added, as the connection is answered
abbrev pub line_refusal : BundleFault → Refusal
line_refusal (bundle_faults.Full part) = LogFull
line_refusal bundle_faults.NoMem = OutOfMemory
line_refusal bundle_faults.Disk = DeviceFault
line_refusal bundle_faults.Broken = DeviceFault
line_refusal (bundle_faults.Damaged part) = DeviceFault

-- whether the event log failed before
abbrev pub failed_before : BundleFault → Bool
failed_before bundle_faults.Broken = true
failed_before bundle_faults.Disk = false
failed_before (bundle_faults.Damaged part) = false
failed_before (bundle_faults.Full part) = false
failed_before bundle_faults.NoMem = false

-- ---- A draw

-- why no number was drawn, as the connection is answered
abbrev pub draw_refusal : DrawFault → Refusal
draw_refusal (draw_faults.Spent last) = NumbersSpent
draw_refusal draw_faults.Disk = DeviceFault
draw_refusal (draw_faults.Changed kept now) = DeviceFault

-- no number was drawn: they are spent, or the number file failed
abbrev pub DrawsNone : KeeperView → Machine → Refusal → KeeperView → DiskView → DiskView → Type 0
DrawsNone v m why v' old new =
    ((why ≡ NumbersSpent) × ((n : ℕ) × MayDraw (settings_of v) m n × (last_number < n)) × Represents v' new m)
    ⊎ ((why ≡ DeviceFault) × OwnerRose (owners.Numbers v.lane) old new × Represents v' new (record m { failed_draws = m.failed_draws + 1 }))

-- ---- A log that is made

-- why a log wasn't made, as the connection is answered
abbrev pub create_refusal : LogFault → Refusal
create_refusal (log_faults.Full part) = LogFull
create_refusal log_faults.NoMem = OutOfMemory
create_refusal log_faults.Disk = DeviceFault
create_refusal log_faults.Absent = DeviceFault
create_refusal (log_faults.Damaged part) = DeviceFault
create_refusal log_faults.Complete = DeviceFault
create_refusal (log_faults.NoPoint point) = DeviceFault
create_refusal log_faults.Broken = DeviceFault
create_refusal (log_faults.TooLong point) = DeviceFault

-- the accept of a head by which a log is opened
abbrev pub accept_of : Head → Accept
accept_of head = record { head = head; expect_iobufs = true }

-- in each of these images the log is absent, or has this head and no record
abbrev pub AllMade : ℕ → List ℕ → (Image → Type 0) → Type 0
AllMade i head images = (image : Image) → images image → IsEither i None (Some (made head)) image

-- a log above the machine's last number was being made: at each moment it is absent or made, and so at the end
pub record Making (i : ℕ) (head : List ℕ) (v : KeeperView) (m : Machine) (old new : DiskView) : Type 0 where
  pub of_lane : IsOfLane v.lane v.lanes i
  pub above : m.last < i
  pub moments : Jointly (AllMade i head) old new
  pub now : AllMade i head (IsCrashImage new)

abbrev pub MakingIf : Option ℕ → List ℕ → KeeperView → Machine → DiskView → DiskView → Type 0
MakingIf None head v m old new = Unit {0}
MakingIf (Some i) head v m old new = Making i head v m old new

-- what is done where an accept that opens a log is refused for this reason: as the table says, or an owner failed that it uses
abbrev pub StopsFor : Settings → TimeSpec → ConnId → ConnState → Accept → List Owner → Machine → Machine → Refusal → Type 0
StopsFor set now k s accept failed m left OutOfMemory = Unit {0}
StopsFor set now k s accept failed m left DeviceFault = (o : Owner) × Contains failed o × FailsAt set failed s (request.Accept accept) o m left
StopsFor set now k s accept failed m left NumbersSpent = (n : ℕ) × MayDraw set m n × (lined set now k s (request.Accept accept) n m (work k s (request.Accept accept) n m) ≡ refused k NumbersSpent left)
StopsFor set now k s accept failed m left LogFull = (n : ℕ) × MayDraw set m n × (lined set now k s (request.Accept accept) n m (work k s (request.Accept accept) n m) ≡ refused k LogFull left)
StopsFor set now k s accept failed m left _ = ⊥

-- an accept that opens a log stopped short: however far it came, the machine may have broken off there
pub record Stopped (v : KeeperView) (now : TimeSpec) (k : ConnId) (s : ConnState) (head : Head) (m : Machine) (why : Refusal) (v' : KeeperView) (old new : DiskView) : Type 0 where
  pub failed : List Owner
  pub left : Machine
  pub breaks : BreaksOff (settings_of v) failed s (Ok (request.Accept (accept_of head))) m left
  pub reason : StopsFor (settings_of v) now k s (accept_of head) failed m left why
  pub rose : AllRose failed old new
  pub states : left.states ≡ m.states
  pub represents : Represents v' new left
  pub log : Option ℕ
  pub beside : Beside v.lane v.lanes log old new
  pub making : MakingIf log (head_text head) v m old new

-- a log of this number was made, with its event line, and the connection writes it
pub record Begun (v : KeeperView) (now : TimeSpec) (k : ConnId) (n : ℕ) (head : Head) (m : Machine) (v' : KeeperView) (old new : DiskView) : Type 0 where
  pub drawn : MayDraw (settings_of v) m n
  pub within : n ≤ last_number
  pub fits : fits_file (head_text head) ≡ true
  pub line_fits_in : line_fits (event_line v.kind now k (request.Accept (accept_of head)) (Some n)) m ≡ true
  pub represents : Represents v' new (with_state k (Running (Some n)) (with_owner n (Some k) (adds_line k (event_line v.kind now k (request.Accept (accept_of head)) (Some n)) (makes n (head_text head) m))))
  pub beside : Beside v.lane v.lanes (Some n) old new
  pub making : Making n (head_text head) v m old new
  pub there : (image : Image) → IsCrashImage new image → Replays image n (Some (made (head_text head)))
