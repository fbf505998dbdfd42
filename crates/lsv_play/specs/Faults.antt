-- A fault of a log that is read, as one of its playing.
use Rattle.lsv_iolog.specs.declared.fault.ViewFault.{ViewFault}
use Rattle.lsv_iolog.specs.declared.fault.ViewFault.TheVariants as views
use Rattle.lsv_play.specs.declared.fault.PlayFault.{PlayFault}
use Rattle.lsv_play.specs.declared.fault.PlayFault.TheVariants.{Absent, Damaged, Disk, NoMem}

-- the same fault
abbrev pub of_log : ViewFault → PlayFault
of_log views.Absent = Absent
of_log (views.Damaged part) = Damaged part
of_log views.Disk = Disk
of_log views.NoMem = NoMem
