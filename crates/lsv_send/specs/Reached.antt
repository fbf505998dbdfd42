-- Whether the last commit point came after the last message that was said.
use Rattle.std.specs.Prelude.{ℕ, ◌||◌, Bool, false, List, [], ◌∷◌}
use Rattle.lsv_base.specs.Time.{nanos_of}
use Rattle.lsv_dialogue.specs.Events.{Event, Event.Heard, Event.Late, Event.Said}
use Rattle.lsv_msg.specs.declared.messages.ServerMessage.{ServerMessage}
use Rattle.lsv_msg.specs.declared.messages.ServerMessage.TheVariants as server
use Rattle.std.specs.Prelude.{◌==◌, Option, Some, None}

-- the commit point is this elapsed time
abbrev pub is_point : ℕ → Option ℕ → Bool
is_point sent None = false
is_point sent (Some point) = point == sent

-- the message is a commit point at this elapsed time
abbrev pub commits : ℕ → ServerMessage → Bool
commits time (server.CommitPoint t) = is_point time (nanos_of t)
commits time (server.Hello m) = false
commits time (server.LogId id) = false
commits time (server.Error text) = false
commits time (server.Abort text) = false

-- whether a commit point at this elapsed time was heard in time after the last message that was said; or, if none was said, whether it was so before
abbrev pub reached_by : ℕ → (before : Bool) → List Event → Bool
reached_by time before [] = before
reached_by time before (Said m ∷ events) = reached_by time false events
reached_by time before (Heard m ∷ events) = reached_by time (before || commits time m) events
reached_by time before (Late m ∷ events) = reached_by time before events
