-- What a message is to who sent a log.
use Rattle.std.specs.Prelude.{ℕ, nat_lt, ◌-◌, ◌^◌, if◌then◌else◌, length, List, Option, Some, None}
use Rattle.lsv_base.specs.Time.{nanos_of}
use Rattle.lsv_msg.specs.declared.messages.ServerMessage.{ServerMessage}
use Rattle.lsv_msg.specs.declared.messages.ServerMessage.TheVariants as server
use Rattle.lsv_dialogue.specs.declared.ends.TheConstants.{LONGEST_ID}
use Rattle.lsv_dialogue.specs.declared.ends.Judged.{Judged}
use Rattle.lsv_dialogue.specs.declared.ends.Judged.TheVariants as judged

-- an identifier may be too long
abbrev pub judged_id : List ℕ → Judged
judged_id id = if nat_lt LONGEST_ID (length id) then judged.LongId (length id) else judged.Takes

-- a commit point is strange if it is no valid time, or above what was sent
abbrev pub judged_point : (sent : ℕ) → Option ℕ → Judged
judged_point sent None = judged.Strange (2 ^ 63 - 1)
judged_point sent (Some point) = if nat_lt sent point then judged.Strange point else judged.Takes

-- what a message is, if what was sent ends at this time, in nanoseconds
abbrev pub judged_at : (sent : ℕ) → ServerMessage → Judged
judged_at sent (server.Hello m) = judged.Takes
judged_at sent (server.CommitPoint time) = judged_point sent (nanos_of time)
judged_at sent (server.LogId id) = judged_id id
judged_at sent (server.Error text) = judged.Takes
judged_at sent (server.Abort text) = judged.Takes
