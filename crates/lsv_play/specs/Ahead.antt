-- Records that are read ahead of a log: they are shown after it was looked at again.
use Rattle.std.specs.Prelude.{◌≡◌, ◌≢◌, ℕ, Bool, true, false, List, ◌++◌, Result, Ok, Err}
use Rattle.lsv_bundle.specs.declared.body.Body.{Body}
use Rattle.lsv_disk.specs.View.{DiskView, Image}
use Rattle.lsv_disk.specs.declared.file.Part.{Part}
use Rattle.lsv_iolog.specs.Faults.{IsNextFault}
use Rattle.lsv_iolog.specs.Reading.{HasCuts, IsBehind, IsFaultBehind, ViewState}
use Rattle.lsv_iolog.specs.declared.fault.ViewFault.TheVariants as views
use Rattle.lsv_record.specs.declared.laid.Laid.{Laid}
use Rattle.lsv_record.specs.declared.records.Record.{Record}
use Rattle.lsv_play.specs.Playing.{AreAll, IsSoundSoFar, PlaysRecords, laid_at}
use Rattle.lsv_play.specs.Schedule.{play}
use Rattle.lsv_play.specs.declared.ahead.Next.{Next}
use Rattle.lsv_play.specs.declared.ahead.Next.TheVariants.{More, End, Fault}
use Rattle.lsv_play.specs.declared.ahead.Piece.{Piece}
use Rattle.lsv_play.specs.declared.fault.PlayFault.{PlayFault}
use Rattle.lsv_play.specs.declared.fault.PlayFault.TheVariants as faults
use Rattle.lsv_play.specs.declared.options.Options.{Options}
use Rattle.lsv_play.specs.declared.screen.Item.{Item}

-- a log that has as many cuts as when it was opened was read through these records
pub record IsReached (view : ViewState) (records : List Record) (disk : DiskView) : Type 0 where
  pub behind : IsBehind view records disk
  pub sound : IsSoundSoFar (laid_at view.number view.body disk.reads) view.body records
  pub cuts : HasCuts view.number view.body.extra disk.reads

-- what comes after these records: more, perhaps; the log's end; or a fault
abbrev pub ComesNext : Laid → Body → List Record → Next → Type 0
ComesNext l body records More = Unit {0}
ComesNext l body records End = AreAll l body records
ComesNext l body records (Fault fault) = IsNextFault fault × ((part : Part) → fault ≡ views.Damaged part → IsFaultBehind l body records part)

-- a piece was read after these records
pub record IsPiece (view : ViewState) (disk : DiskView) (records : List Record) (piece : Piece) : Type 0 where
  pub reached : IsReached view (records ++ piece.records) disk
  pub next : ComesNext (laid_at view.number view.body disk.reads) view.body (records ++ piece.records) piece.next

-- after the records a read failed
abbrev pub HasReadFault : {E : Type 0} → Result Piece E → Type 0
HasReadFault (Ok piece) = piece.next ≡ Fault views.Disk
HasReadFault (Err fault) = ⊥

-- the log's last entry counts another number of cuts than when it was opened
abbrev pub WasCut : ViewState → Image → Type 0
WasCut view image = (cuts : ℕ) × HasCuts view.number cuts image × (cuts ≢ view.body.extra)

-- the faults of a look: the log was cut, or it is absent, or a read failed
abbrev pub IsLookFault : PlayFault → Type 0
IsLookFault faults.Resumed = Unit {0}
IsLookFault faults.Absent = Unit {0}
IsLookFault faults.Disk = Unit {0}
IsLookFault (faults.Damaged part) = ⊥
IsLookFault faults.Screen = ⊥
IsLookFault faults.NoMem = ⊥

-- what is shown of the next piece after these records, by the answer: the log ends with it, or it may go on, or it is shown up to a fault
abbrev pub PlaysOn : Options → (old new : ViewState) (was now : DiskView) (before : List Record) → Result Bool PlayFault → List Item → Type 0
PlaysOn o old new was now before (Ok true) put = let end : Result (Unit {0}) PlayFault = Ok tt in PlaysRecords o (laid_at old.number old.body was.reads) old.body end (play o before ++ put)
PlaysOn o old new was now before (Ok false) put = (more : List Record) × IsReached new (before ++ more) now × (put ≡ play o more)
PlaysOn o old new was now before (Err fault) put = let end : Result (Unit {0}) PlayFault = Err fault in PlaysRecords o (laid_at old.number old.body was.reads) old.body end (play o before ++ put)
