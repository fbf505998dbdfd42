-- What the speaker of the script makes of a message, and what it wants.
use Rattle.std.specs.Prelude.{ℕ, length, nat_lt, Bool, true, false, Option, Some, None, if◌then◌else◌}
use Rattle.lsv_msg.specs.declared.messages.ServerMessage.{ServerMessage}
use Rattle.lsv_msg.specs.declared.messages.ServerMessage.TheVariants as server
use Rattle.lsv_dialogue.specs.declared.ends.Judged.{Judged}
use Rattle.lsv_dialogue.specs.declared.ends.Judged.TheVariants as judged
use Rattle.lsv_dialogue.specs.declared.ends.Wants.{Wants}
use Rattle.lsv_dialogue.specs.declared.ends.Wants.TheVariants as wants
use Rattle.lsvt_rows_relay.specs.declared.scripted.Scripted.{Scripted}

-- an identifier above eight bytes is too long, and all else is taken
abbrev pub judged_of : ServerMessage → Judged
judged_of (server.Hello m) = judged.Takes
judged_of (server.CommitPoint t) = judged.Takes
judged_of (server.LogId id) = if nat_lt 8 (length id) then judged.LongId (length id) else judged.Takes
judged_of (server.Error text) = judged.Takes
judged_of (server.Abort text) = judged.Takes

-- it is content after this number of messages, if at all
abbrev pub content : (last : Wants) (heard : ℕ) → Option ℕ → Wants
content last heard None = wants.More
content last heard (Some count) = if nat_lt heard count then wants.More else last

-- if it said something last, it wants more
abbrev pub wanted : Scripted → Wants
wanted s = if s.busy then wants.More else content s.wish s.heard s.after
