-- How a run ended, as the program reports it.
use Rattle.std.specs.Prelude.{ℕ, List, [], ◌++◌, codes, decimal, Result, Ok, Err}
use Rattle.lsv_replay.specs.declared.fault.ListFault.{ListFault}
use Rattle.lsv_replay.specs.declared.fault.ListFault.TheVariants as lists
use Rattle.lsv_follow.specs.declared.end.FollowEnd.{FollowEnd}
use Rattle.lsv_follow.specs.declared.end.FollowEnd.TheVariants as follows
use Rattle.lsv_play.specs.declared.fault.PlayFault.{PlayFault}
use Rattle.lsv_play.specs.declared.fault.PlayFault.TheVariants as plays
use Rattle.lsv_replay.specs.declared.status.ReplayStatus.{ReplayStatus}
use Rattle.lsv_replay.specs.declared.status.ReplayStatus.TheVariants.{Shown, Usage, BadExpression, Damaged, ReadFault, WriteFault, Resumed, Removed, Absent, NoMem, Quiet}

-- the exit status of the program
abbrev pub number_of : ReplayStatus → ℕ
number_of Shown = 0
number_of Usage = 2
number_of (BadExpression at) = 3
number_of (Damaged part) = 4
number_of ReadFault = 5
number_of WriteFault = 6
number_of Resumed = 7
number_of Removed = 8
number_of Absent = 8
number_of NoMem = 9
number_of Quiet = 10

-- what the program prints after its name
abbrev pub text_of : ReplayStatus → List ℕ
text_of Shown = []
text_of Usage = codes "usage"
text_of (BadExpression at) = codes "bad expression at word " ++ decimal at
text_of (Damaged part) = codes "log damaged"
text_of ReadFault = codes "read fault"
text_of WriteFault = codes "write fault"
text_of Resumed = codes "log resumed"
text_of Removed = codes "log removed"
text_of Absent = codes "no such log"
text_of NoMem = codes "out of memory"
text_of Quiet = codes "log quiet"

-- how a run ends in which a log was played
abbrev pub of_playing : {T : Type 0} → Result T PlayFault → ReplayStatus
of_playing (Ok end) = Shown
of_playing (Err plays.Absent) = Absent
of_playing (Err (plays.Damaged part)) = Damaged part
of_playing (Err plays.Resumed) = Resumed
of_playing (Err plays.Disk) = ReadFault
of_playing (Err plays.Screen) = WriteFault
of_playing (Err plays.NoMem) = NoMem

-- how a run ends in which a log was followed
abbrev pub of_following : {T : Type 0} → Result T FollowEnd → ReplayStatus
of_following (Ok end) = Shown
of_following (Err (follows.Resumed seen now)) = Resumed
of_following (Err follows.Removed) = Removed
of_following (Err follows.Quiet) = Quiet
of_following {T} (Err (follows.Fault fault)) = let answer : Result T PlayFault = Err fault in of_playing answer

-- how a run ends in which the logs were listed
abbrev pub of_listing : {T : Type 0} → Result T ListFault → ReplayStatus
of_listing (Ok end) = Shown
of_listing (Err (lists.Damaged part)) = Damaged part
of_listing (Err lists.Disk) = ReadFault
of_listing (Err lists.Screen) = WriteFault
of_listing (Err lists.NoMem) = NoMem
