-- A relay's value, as contracts see it.
use Rattle.std.specs.Prelude.{◌≡◌, Bool, true, not, ◌&&◌, if◌then◌else◌}
use Rattle.lsv_dialogue.specs.Judging.{judged_at}
use Rattle.lsv_dialogue.specs.declared.ends.Judged.{Judged}
use Rattle.lsv_dialogue.specs.declared.ends.Wants.{Wants}
use Rattle.lsv_dialogue.specs.declared.ends.Wants.TheVariants as wants
use Rattle.lsv_kept.specs.Aim.{AimView}
use Rattle.lsv_kept.specs.declared.state.State.{State}
use Rattle.lsv_msg.specs.declared.messages.ServerMessage.{ServerMessage}
use Rattle.lsv_relay.specs.Talk.{Talk}
use Rattle.lsv_relay.specs.declared.relay.Core.{Core}
use Rattle.lsv_relay.specs.declared.relay.Place.{Place}
use Rattle.lsv_relay.specs.declared.relay.Place.TheVariants as places
use Rattle.lsv_transcript.specs.Transcript.{is_id}

-- the number of the log, what is kept of its relaying, how far its connection is, and where the transcript stands
abbrev pub RelayView : Type 0
RelayView = Core

-- what is kept
abbrev pub state_of : RelayView → State
state_of relay = relay.keeping.state

-- a call that keeps something failed, and the relay wasn't opened again
abbrev pub is_broken : RelayView → Bool
is_broken relay = relay.keeping.broken

-- the aim of the relaying: the host, and the elapsed time of the log
abbrev pub aim_of : RelayView → AimView
aim_of relay = relay.keeping.aim

-- how far the connection is
abbrev pub talk_of : RelayView → Talk
talk_of relay = record {
  state = relay.keeping.state;
  known = relay.meter.known;
  asked = relay.meter.asked;
  sent = relay.meter.sent;
  ended = relay.meter.ended;
  whole = relay.meter.whole;
}

-- nothing more may be sent before a further message: an identifier is waited for, or all was sent
abbrev pub IsQuietAt : (waits : Bool) → Place → Type 0
IsQuietAt waits places.Idle = ⊥
IsQuietAt waits (places.Starts view) = ⊥
IsQuietAt waits (places.Sends view) = waits ≡ true
IsQuietAt waits places.Over = Unit {0}

abbrev pub IsQuiet : RelayView → Type 0
IsQuiet relay = IsQuietAt relay.meter.waits relay.at

-- the opening was handed out
abbrev pub IsStarted : Place → Type 0
IsStarted places.Idle = ⊥
IsStarted (places.Starts view) = ⊥
IsStarted (places.Sends view) = Unit {0}
IsStarted places.Over = Unit {0}

-- the log was opened, and nothing was handed out
abbrev pub IsUnbegun : Place → Type 0
IsUnbegun places.Idle = ⊥
IsUnbegun (places.Starts view) = Unit {0}
IsUnbegun (places.Sends view) = ⊥
IsUnbegun places.Over = ⊥

-- whether what follows the opening waits, after this message
abbrev pub waits_after : ServerMessage → Bool → Bool
waits_after m waits = waits && not (is_id m)

-- what a message is to a relay
abbrev pub judges : RelayView → ServerMessage → Judged
judges relay m = judged_at relay.meter.sent m

-- what a relay wants: once the other server has the whole time, that the connection ends
abbrev pub wants_of : RelayView → Wants
wants_of relay = if relay.meter.whole then wants.End else wants.More
