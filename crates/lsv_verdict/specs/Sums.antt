-- How many logs there are of each kind.
use Rattle.std.specs.Prelude.{nat_lt, List, fold, Option, Some, None, if◌then◌else◌}
use Rattle.lsv_base.specs.Script.{one_more}
use Rattle.lsv_verdict.specs.Verdicts.{class_of}
use Rattle.lsv_verdict.specs.declared.status.CheckStatus.{CheckStatus}
use Rattle.lsv_verdict.specs.declared.status.CheckStatus.TheVariants as statuses
use Rattle.lsv_verdict.specs.declared.sums.Sums.{Sums}
use Rattle.lsv_verdict.specs.declared.verdict.Class.{Class}
use Rattle.lsv_verdict.specs.declared.verdict.Class.TheVariants.{Complete, Incomplete, Damaged, Unread, Absent}
use Rattle.lsv_verdict.specs.declared.verdict.Verdict.{Verdict}

-- none yet
abbrev pub no_sums : Sums
no_sums = record { complete = 0; incomplete = 0; damaged = 0; unread = 0; absent = 0 }

-- with one more of a kind
abbrev pub with_class : Sums → Class → Sums
with_class sums Complete = record sums { complete = one_more sums.complete }
with_class sums Incomplete = record sums { incomplete = one_more sums.incomplete }
with_class sums Damaged = record sums { damaged = one_more sums.damaged }
with_class sums Unread = record sums { unread = one_more sums.unread }
with_class sums Absent = record sums { absent = one_more sums.absent }

-- with one number more, which may be passed over
abbrev pub counted : Sums → Option Verdict → Sums
counted sums None = sums
counted sums (Some v) = with_class sums (class_of v)

-- how many there are of each kind
abbrev pub sums_of : List (Option Verdict) → Sums
sums_of verdicts = fold counted no_sums verdicts

-- how a run ends with these sums: a read that failed counts before damage
abbrev pub status_of : Sums → CheckStatus
status_of sums = if nat_lt 0 sums.unread then statuses.ReadFault else if nat_lt 0 sums.damaged then statuses.Damaged else statuses.Sound
