-- Open logs by number, and what becomes of one where a record comes or where it is flushed.
use Rattle.std.specs.Prelude.{ℕ, ◌≡◌, ◌⊎◌, ◌≤◌, ◌<◌, ◌+◌, ◌^◌, ◌==◌, nat_eq, slice_get, true, false, if◌then◌else◌, List, [], ◌∷◌, ◌++◌, Option, Some, None, Result, OnOk}
use Rattle.std.specs.HashMap as hash
use Rattle.std.specs.Prelude.{FitsSigned}
use Rattle.std.specs.Int.{w32}
use Rattle.lsv_msg.specs.declared.messages.ClientMessage.{ClientMessage}
use Rattle.lsv_msg.specs.declared.messages.ClientMessage.TheVariants as client
use Rattle.lsv_disk.specs.Throughout.{Throughout}
use Rattle.lsv_disk.specs.View.{DiskView}
use Rattle.lsv_disk.specs.declared.file.FileId.{FileId}
use Rattle.lsv_defs.specs.Causes.{HasRisen}
use Rattle.lsv_iolog.specs.Moments.{CallsOfLog, IsEither}
use Rattle.lsv_iolog.specs.Recovered.{IsOfLog}
use Rattle.lsv_iolog.specs.Represents.{Represents, Stages}
use Rattle.lsv_iolog.specs.Room.{IsFullOf, IsRoomFor}
use Rattle.lsv_iolog.specs.Value.{IoLogView, LogValue, bare, flushed, is_complete}
use Rattle.lsv_iolog.specs.declared.fault.LogFault.{LogFault}
use Rattle.lsv_iolog.specs.declared.fault.LogFault.TheVariants as faults
use Rattle.lsv_mask.specs.Masking.{Seen, covered, seen}
use Rattle.lsv_record.specs.Records.{delay_of, shape_of}
use Rattle.lsv_request.specs.declared.refusal.Refusal.{Refusal}
use Rattle.lsv_request.specs.declared.refusal.Refusal.TheVariants as refusals
use Rattle.lsv_record.specs.declared.records.Record.{Record}
use Rattle.lsv_keeper.specs.declared.logs.Appended.{Appended}
use Rattle.lsv_keeper.specs.declared.logs.Appended.TheVariants as appended
use Rattle.lsv_keeper.specs.declared.logs.OpenLog.{OpenLog}
use Rattle.lsv_keeper.specs.declared.logs.OpenLogs.{OpenLogs}

-- the open log of a number
abbrev pub open_logs : OpenLogs → ℕ → Option OpenLog
open_logs logs n = hash.get nat_eq logs.map n

-- the log of a number is open, and stands at this place
abbrev pub IsAt : ℕ → ℕ → OpenLogs → Type 0
IsAt n place logs = (its : OpenLog) × (slice_get logs.map.entries place ≡ Some (n, its))

-- for how many further open logs there is room
abbrev pub spare_logs : OpenLogs → ℕ
spare_logs logs = hash.spare logs.map

-- the open logs where this number has this one, or none
abbrev pub with_open : ℕ → Option OpenLog → (ℕ → Option OpenLog) → ℕ → Option OpenLog
with_open n its logs = λ i. if i == n then its else logs i

-- if it succeeds, there is room for one log more. The same logs are open, and no room is lost
pub record MakesRoom {T E : Type 0} (result : Result T E) (old new : OpenLogs) : Type 0 where
  pub same : open_logs new ≡ open_logs old
  pub ok : OnOk result (1 ≤ spare_logs new)
  pub kept : spare_logs old ≤ spare_logs new

-- the log of a number is taken out, if it is open. No room is lost
pub record TakesOut (n : ℕ) (its : Option OpenLog) (old new : OpenLogs) : Type 0 where
  pub taken : its ≡ open_logs old n
  pub rest : open_logs new ≡ with_open n None (open_logs old)
  pub room : spare_logs old ≤ spare_logs new

-- ---- A record

-- a record is covered as the mask of these texts says, and the mask then stands after it; without texts it may stay where it stands
pub record Covers (texts : List (List ℕ)) (old : Seen) (r stored : Record) (new : Seen) : Type 0 where
  pub covered : (records : List Record) → old ≡ seen texts records → stored ≡ covered texts records r
  pub behind : (records : List Record) → old ≡ seen texts records → (new ≡ seen texts (records ++ stored ∷ [])) ⊎ ((texts ≡ []) × (new ≡ old))
  pub shape : shape_of stored ≡ shape_of r

-- an open log took a record: it is staged as it is covered
pub record TakesRecord (texts : List (List ℕ)) (old : OpenLog) (r : Record) (new : OpenLog) : Type 0 where
  pub going : is_complete old.log ≡ false
  pub stored : Record
  pub covers : Covers texts old.mask r stored new.mask
  pub stages : Stages old.log stored new.log
  pub room : IsRoomFor old.log.bundle stored

-- why a log refuses a record
abbrev pub IsAppendFault : IoLogView → Record → LogFault → Type 0
IsAppendFault log r (faults.TooLong point) = 2 ^ 63 ≤ log.elapsed + delay_of r
IsAppendFault log r (faults.Full part) = (log.elapsed + delay_of r < 2 ^ 63) × IsFullOf log.bundle r part
IsAppendFault log r faults.Broken = log.is_broken ≡ true
IsAppendFault log r faults.NoMem = Unit {0}
IsAppendFault log r faults.Absent = ⊥
IsAppendFault log r (faults.Damaged part) = ⊥
IsAppendFault log r faults.Complete = ⊥
IsAppendFault log r (faults.NoPoint point) = ⊥
IsAppendFault log r faults.Disk = ⊥

-- how a connection is refused for a fault of its log
abbrev pub log_refusal : LogFault → Refusal
log_refusal (faults.TooLong point) = refusals.LogFull
log_refusal (faults.Full part) = refusals.LogFull
log_refusal faults.NoMem = refusals.OutOfMemory
log_refusal faults.Broken = refusals.DeviceFault
log_refusal faults.Disk = refusals.DeviceFault
log_refusal faults.Absent = refusals.DeviceFault
log_refusal (faults.Damaged part) = refusals.DeviceFault
log_refusal faults.Complete = refusals.DeviceFault
log_refusal (faults.NoPoint point) = refusals.DeviceFault

-- an open log refused a record: it is as it was, but for its mask
pub record RefusesRecord (texts : List (List ℕ)) (old : OpenLog) (r : Record) (fault : LogFault) (new : OpenLog) : Type 0 where
  pub going : is_complete old.log ≡ false
  pub stored : Record
  pub covers : Covers texts old.mask r stored new.mask
  pub same : new.log ≡ old.log
  pub why : IsAppendFault old.log stored fault

-- what a record does to the open log of a number: it is staged; or refused, and then the log is still open; or no log is open there that isn't complete
abbrev pub Appends : ℕ → List (List ℕ) → Record → Appended → (old new : ℕ → Option OpenLog) → Type 0
Appends n texts r appended.Staged old new = (its : OpenLog) × (after : OpenLog) × (old n ≡ Some its) × TakesRecord texts its r after × (new ≡ with_open n (Some after) old)
Appends n texts r (appended.Refused fault) old new = (its : OpenLog) × (left : OpenLog) × (old n ≡ Some its) × RefusesRecord texts its r fault left × (new ≡ with_open n (Some left) old)
Appends n texts r appended.NotOpen old new = ((its : OpenLog) → old n ≡ Some its → is_complete its.log ≡ true) × (new ≡ old)

-- ---- A flush

-- the log that a number has is flushed, to this point; or it failed, and isn't open any more
abbrev pub FlushLeaves : ℕ → OpenLog → LogValue → Option ℕ → (old new : ℕ → Option OpenLog) → (before after : DiskView) → Type 0
FlushLeaves n its value (Some point) old new before after =
    (point ≡ its.log.elapsed) × ((log : IoLogView) × (log.number ≡ its.log.number) × Represents log (bare (flushed value)) after × (new ≡ with_open n (Some (record its { log = log })) old))
FlushLeaves n its value None old new before after =
    (new ≡ with_open n None old) × ((file : FileId) × IsOfLog its.log.number file × HasRisen (before.faults file) (after.faults file))

-- the same, and what it leaves at each moment
pub record Flushes (n : ℕ) (its : OpenLog) (value : LogValue) (point : Option ℕ) (old new : ℕ → Option OpenLog) (before after : DiskView) : Type 0 where
  pub moments : Throughout (IsOfLog its.log.number) (IsEither its.log.number (Some value.stored) (Some (flushed value))) before after
  pub calls : CallsOfLog its.log.number 1 2 before after
  pub monotone : (file : FileId) → before.faults file ≤ after.faults file
  pub leaves : FlushLeaves n its value point old new before after

-- ---- What is sent

-- the numbers of a window are of 32 bits, with a sign
abbrev pub IsWindowFit : ClientMessage → Type 0
IsWindowFit (client.Winsize m) = FitsSigned w32 m.rows × FitsSigned w32 m.cols
IsWindowFit m = Unit {0}
