-- How a run of the program ended.
use Rattle.std.specs.Prelude.{◌≡◌, ◌⊎◌, ℕ, Result, Ok, Err}
use Rattle.lsv_dialogue.specs.declared.ends.Cause.TheVariants as causes
use Rattle.lsv_dialogue.specs.declared.ends.End.{End}
use Rattle.lsv_dialogue.specs.declared.ends.End.TheVariants as ends
use Rattle.lsv_dialogue.specs.declared.ends.TalkFault.{TalkFault}
use Rattle.lsv_dialogue.specs.declared.ends.TalkFault.TheVariants as talks
use Rattle.lsv_iolog.specs.declared.fault.LogFault.{LogFault}
use Rattle.lsv_iolog.specs.declared.fault.LogFault.TheVariants as logs
use Rattle.lsv_iolog.specs.Faults.{of_view}
use Rattle.lsv_link.specs.Link.{Continues, LinkCounts}
use Rattle.lsv_defs.specs.Causes.{HasRisen}
use Rattle.lsv_send.specs.declared.fault.SendFault.{SendFault}
use Rattle.lsv_send.specs.declared.fault.SendFault.TheVariants as faults
use Rattle.lsv_send.specs.declared.status.SendStatus.{SendStatus}
use Rattle.lsv_send.specs.declared.status.SendStatus.TheVariants.{Sent, Usage, Log, WriteFault, Refused, NoMem}

-- the exit status of the program
abbrev pub number_of : SendStatus → ℕ
number_of Sent = 0
number_of Usage = 2
number_of (Log fault) = 4
number_of WriteFault = 6
number_of (Refused cause) = 8
number_of NoMem = 9

-- how a run ends whose log is at fault
abbrev pub of_log : LogFault → SendStatus
of_log logs.NoMem = NoMem
of_log logs.Absent = Log logs.Absent
of_log (logs.Damaged part) = Log (logs.Damaged part)
of_log logs.Complete = Log logs.Complete
of_log (logs.NoPoint point) = Log (logs.NoPoint point)
of_log logs.Disk = Log logs.Disk
of_log logs.Broken = Log logs.Broken
of_log (logs.Full part) = Log (logs.Full part)
of_log (logs.TooLong point) = Log (logs.TooLong point)

-- how a run ends whose sender stops for this
abbrev pub of_fault : SendFault → SendStatus
of_fault (faults.Log fault) = of_log (of_view fault)
of_fault faults.Sink = WriteFault
of_fault faults.NoMem = NoMem

-- how a run ends whose conversation ended so
abbrev pub of_talk : Result End (TalkFault SendFault) → SendStatus
of_talk (Ok ends.Over) = Sent
of_talk (Ok (ends.Stopped cause)) = Refused cause
of_talk (Err talks.NoMem) = NoMem
of_talk (Err (talks.Speaker fault)) = of_fault fault

-- what a link's counts say of a run
pub record HasLinkCause (status : SendStatus) (before after : LinkCounts) : Type 0 where
  -- none fell
  pub continues : Continues before after
  -- that of the faults rose, if the run ended as Unreached or Failed
  pub unreached : status ≡ Refused causes.Unreached → HasRisen before.faults after.faults
  pub failed : status ≡ Refused causes.Failed → HasRisen before.faults after.faults
  -- one of those of waiting in vain rose, if it ended as NotYet
  pub waited : status ≡ Refused causes.NotYet → HasRisen before.full after.full ⊎ HasRisen before.waits after.waits
