-- What is kept in memory of a finding: all but the records, of which the count and the elapsed time are kept.
use Rattle.std.specs.Prelude.{◌≡◌, ℕ, List, length, Option, Some, None, Result, Ok, Err}
use Rattle.lsv_disk.specs.declared.file.Part.{Part}
use Rattle.lsv_disk.specs.View.{Image}
use Rattle.lsv_bundle.specs.declared.body.Body.{Body}
use Rattle.lsv_iolog.specs.declared.fault.ViewFault.{ViewFault}
use Rattle.lsv_iolog.specs.declared.fault.ViewFault.TheVariants as views
use Rattle.lsv_iolog.specs.Reading.{IsSoundBehind}
use Rattle.lsv_play.specs.Playing.{AreAll, AreBeforeFault}
use Rattle.lsv_record.specs.declared.laid.Laid.{Laid}
use Rattle.lsv_record.specs.declared.records.Record.{Record}
use Rattle.lsv_record.specs.Records.{elapsed}
use Rattle.lsv_finding.specs.Findings.{Finding, IsFinding, Nowhere, Unlisted, Closed, Broken, Sound}
use Rattle.lsv_finding.specs.declared.checked.CheckFault.{CheckFault}
use Rattle.lsv_finding.specs.declared.checked.CheckFault.TheVariants as faults
use Rattle.lsv_finding.specs.declared.checked.Checked.{Checked}
use Rattle.lsv_finding.specs.declared.checked.Checked.TheVariants as kept
use Rattle.lsv_finding.specs.declared.records.Run.{Run}

-- what is kept of a finding
abbrev pub kept_of : Finding → Checked
kept_of Nowhere = kept.Nowhere
kept_of (Unlisted part) = kept.Unlisted part
kept_of (Closed part) = kept.Closed part
kept_of (Broken head body records part) = kept.Broken head body (length records) (elapsed records) part
kept_of (Sound head body log exit) = kept.Sound head body exit

-- this is kept of what is found of the log of this number
pub record IsFoundAs (image : Image) (n : ℕ) (kept : Checked) : Type 0 where
  pub finding : Finding
  pub is : IsFinding image n finding
  pub kept_is : kept ≡ kept_of finding

-- ---- For private clauses

-- the records of a log come to this: all of them, or those before the part at fault
abbrev pub EndsAt : Laid → Body → Option Part → List Record → Type 0
EndsAt l body None records = AreAll l body records × IsSoundBehind l body records
EndsAt l body (Some part) records = AreBeforeFault l body part records

-- records were read to the end, or to the first fault, and this is their count and elapsed time
pub record RunsTo (l : Laid) (body : Body) (run : Run) : Type 0 where
  pub records : List Record
  pub count : run.count ≡ length records
  pub time : run.elapsed ≡ elapsed records
  pub ends : EndsAt l body run.part records

-- what records come to after which a log gave no further one, for this reason
abbrev pub stopped : ℕ → ℕ → ViewFault → Result Run CheckFault
stopped count time (views.Damaged part) = Ok (record { count = count; elapsed = time; part = Some part })
stopped count time views.Disk = Err faults.Disk
stopped count time views.NoMem = Err faults.NoMem
stopped count time views.Absent = Err faults.Disk
