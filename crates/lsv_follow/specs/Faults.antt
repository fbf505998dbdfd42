-- A fault of a log that is read, as one of following it.
use Rattle.lsv_iolog.specs.declared.fault.ViewFault.{ViewFault}
use Rattle.lsv_iolog.specs.declared.fault.ViewFault.TheVariants as views
use Rattle.lsv_play.specs.Faults as play_faults
use Rattle.lsv_play.specs.declared.fault.PlayFault.TheVariants as plays
use Rattle.lsv_follow.specs.declared.end.FollowEnd.{FollowEnd}
use Rattle.lsv_follow.specs.declared.end.FollowEnd.TheVariants as ends
use Rattle.lsv_follow.specs.declared.fault.FollowFault.{FollowFault}
use Rattle.lsv_follow.specs.declared.fault.FollowFault.TheVariants.{Resumed, Log, NoMem}

-- out of memory is a fault of its own; each other fault stays as it is
abbrev pub of_log : ViewFault → FollowFault
of_log views.Absent = Log views.Absent
of_log (views.Damaged part) = Log (views.Damaged part)
of_log views.Disk = Log views.Disk
of_log views.NoMem = NoMem

-- the faults of a look: the log was cut, is absent or damaged, or a device call failed, or memory ran out
abbrev pub IsLookFault : FollowFault → Type 0
IsLookFault (Resumed seen now) = Unit {0}
IsLookFault (Log views.Absent) = Unit {0}
IsLookFault (Log (views.Damaged part)) = Unit {0}
IsLookFault (Log views.Disk) = Unit {0}
IsLookFault (Log views.NoMem) = ⊥
IsLookFault NoMem = Unit {0}

-- the faults of a check: the log was cut, or it is absent, or a device call failed
abbrev pub IsCheckFault : FollowFault → Type 0
IsCheckFault (Resumed seen now) = Unit {0}
IsCheckFault (Log views.Absent) = Unit {0}
IsCheckFault (Log (views.Damaged part)) = ⊥
IsCheckFault (Log views.Disk) = Unit {0}
IsCheckFault (Log views.NoMem) = ⊥
IsCheckFault NoMem = ⊥

-- a log isn't opened, as in play
abbrev pub of_opening : ViewFault → FollowEnd
of_opening fault = ends.Fault (play_faults.of_log fault)

-- a look failed: the log was cut, or is gone, or else as in play
abbrev pub of_look : FollowFault → FollowEnd
of_look (Resumed seen now) = ends.Resumed seen now
of_look (Log views.Absent) = ends.Removed
of_look (Log (views.Damaged part)) = ends.Fault (plays.Damaged part)
of_look (Log views.Disk) = ends.Fault plays.Disk
of_look (Log views.NoMem) = ends.Fault plays.NoMem
of_look NoMem = ends.Fault plays.NoMem
