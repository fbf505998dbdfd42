-- For private clauses: which statuses come of which task.
use Rattle.std.specs.Prelude.{◌≡◌, ℕ, Some}
use Rattle.lsv_base.specs.LogNo.{log_no_in}
use Rattle.lsv_replay_args.specs.Request.{Asked, Follow, Play, Search}
use Rattle.lsv_search.specs.Places.{IsFirstBad}
use Rattle.lsv_replay.specs.Replay.{IsSoundTask}
use Rattle.lsv_replay.specs.declared.status.ReplayStatus.{ReplayStatus}
use Rattle.lsv_replay.specs.declared.status.ReplayStatus.TheVariants.{Shown, Usage, BadExpression, Damaged, ReadFault, WriteFault, Resumed, Removed, Absent, NoMem, Quiet}

-- a log that is to be played or followed may be absent
abbrev pub MayBeAbsent : Asked → Type 0
MayBeAbsent (Play dir manner id) = Unit {0}
MayBeAbsent (Follow dir manner id) = Unit {0}
MayBeAbsent (Search dir words) = ⊥

-- words that were to be a search are none, and this is the first at fault
abbrev pub IsBadSearch : Asked → ℕ → Type 0
IsBadSearch (Play dir manner id) at = ⊥
IsBadSearch (Follow dir manner id) at = ⊥
IsBadSearch (Search dir words) at = IsFirstBad words at

-- a log with a number is played or followed
abbrev pub IsOfNumber : Asked → Type 0
IsOfNumber (Play dir manner id) = (n : ℕ) × (log_no_in id ≡ Some n)
IsOfNumber (Follow dir manner id) = (n : ℕ) × (log_no_in id ≡ Some n)
IsOfNumber (Search dir words) = ⊥

-- a log with a number is followed
abbrev pub IsFollowed : Asked → Type 0
IsFollowed (Play dir manner id) = ⊥
IsFollowed (Follow dir manner id) = (n : ℕ) × (log_no_in id ≡ Some n)
IsFollowed (Search dir words) = ⊥

-- a log is to be followed
abbrev pub IsToFollow : Asked → Type 0
IsToFollow (Play dir manner id) = ⊥
IsToFollow (Follow dir manner id) = Unit {0}
IsToFollow (Search dir words) = ⊥

-- the statuses of what is asked for
abbrev pub IsOfTask : Asked → ReplayStatus → Type 0
IsOfTask asked Shown = IsSoundTask asked
IsOfTask asked Usage = ⊥
IsOfTask asked (BadExpression at) = IsBadSearch asked at
IsOfTask asked (Damaged part) = IsSoundTask asked
IsOfTask asked ReadFault = IsSoundTask asked
IsOfTask asked WriteFault = IsSoundTask asked
IsOfTask asked Resumed = IsOfNumber asked
IsOfTask asked Removed = IsFollowed asked
IsOfTask asked Absent = MayBeAbsent asked
IsOfTask asked NoMem = Unit {0}
IsOfTask asked Quiet = IsFollowed asked
