-- What counts as progress of a conversation.
use Rattle.std.specs.Prelude.{ℕ, suc, ◌+◌, max, Bool, true, false, not, nat_le, if◌then◌else◌, List, [], ◌∷◌, Option, Some, None}
use Rattle.lsv_base.specs.Time.{nanos_of}
use Rattle.lsv_msg.specs.declared.messages.ServerMessage.{ServerMessage}
use Rattle.lsv_msg.specs.declared.messages.ServerMessage.TheVariants as server
use Rattle.lsv_dialogue.specs.Events.{Event, Event.Heard, Event.Said, Event.Late}

-- how far the server came: whether it sent an identifier, and one more than its greatest commit point, in nanoseconds, or 0
pub record Reach : Type 0 where
  pub known : Bool
  pub top : ℕ

-- at the beginning
abbrev pub no_reach : Reach
no_reach = record { known = false; top = 0 }

-- whether a commit point is above all before
abbrev pub is_above : (top : ℕ) → Option ℕ → Bool
is_above top None = false
is_above top (Some point) = nat_le top point

-- whether a message is progress: the first identifier, or a commit point above all before
abbrev pub is_progress : Reach → ServerMessage → Bool
is_progress reach (server.Hello m) = false
is_progress reach (server.CommitPoint t) = is_above reach.top (nanos_of t)
is_progress reach (server.LogId id) = not reach.known
is_progress reach (server.Error text) = false
is_progress reach (server.Abort text) = false

-- the top after a commit point
abbrev pub top_after : ℕ → Option ℕ → ℕ
top_after top None = top
top_after top (Some point) = max top (suc point)

-- how far the server is after a message
abbrev pub reach_after : ServerMessage → Reach → Reach
reach_after (server.Hello m) reach = reach
reach_after (server.CommitPoint t) reach = record reach { top = top_after reach.top (nanos_of t) }
reach_after (server.LogId id) reach = record reach { known = true }
reach_after (server.Error text) reach = reach
reach_after (server.Abort text) reach = reach

-- and after what was heard in time of these events
abbrev pub reach_of : Reach → List Event → Reach
reach_of reach [] = reach
reach_of reach (Heard m ∷ events) = reach_of (reach_after m reach) events
reach_of reach (Said m ∷ events) = reach_of reach events
reach_of reach (Late m ∷ events) = reach_of reach events

-- one, if it is so
abbrev pub one_if : Bool → ℕ
one_if b = if b then 1 else 0

-- how often these events are progress: a message was said, or one that is progress was heard in time
abbrev pub progress : Reach → List Event → ℕ
progress reach [] = 0
progress reach (Heard m ∷ events) = one_if (is_progress reach m) + progress (reach_after m reach) events
progress reach (Said m ∷ events) = suc (progress reach events)
progress reach (Late m ∷ events) = progress reach events
