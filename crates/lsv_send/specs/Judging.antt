-- What a sender makes of the server's messages, and what it may say at a place.
use Rattle.std.specs.Prelude.{ℕ, ◌||◌, not, Bool, true, false}
use Rattle.lsv_msg.specs.declared.messages.ServerMessage.{ServerMessage}
use Rattle.lsv_transcript.specs.Transcript.{is_id}
use Rattle.lsv_send.specs.Reached.{commits}
use Rattle.lsv_send.specs.declared.sender.Place.{Place}
use Rattle.lsv_send.specs.declared.sender.Place.TheVariants as places
use Rattle.lsv_send.specs.declared.sender.Sender.{Sender}

-- the sender after a message
abbrev pub hears : ServerMessage → Sender → Sender
hears m s = record s { known = s.known || is_id m; reached = s.reached || commits s.sent m }

-- the sender after a message that came when not all that it said was put: a commit point isn't the one that is waited for
abbrev pub hears_late : ServerMessage → Sender → Sender
hears_late m s = record s { known = s.known || is_id m }

-- all was handed out, by an earlier answer
abbrev pub is_done : Place → Bool
is_done places.Opening = false
is_done places.Waiting = false
is_done places.Records = false
is_done places.Closing = false
is_done places.Over = true

-- nothing more may be said before a further message
abbrev pub is_silent : Place → (known : Bool) → Bool
is_silent places.Opening known = false
is_silent places.Waiting known = not known
is_silent places.Records known = false
is_silent places.Closing known = false
is_silent places.Over known = true
