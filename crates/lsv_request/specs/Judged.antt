-- What is judged of a message after the session's state, each apart: its time, and then what it brings.
use Rattle.std.specs.Prelude.{ℕ, ℤ, pos, negsuc, List, Option, Some, None, Result, Ok, Err, Bool, true, false, not, ◌||◌, nat_le, option_and_then, is_some, length}
use Rattle.lsv_base.specs.LogNo.{log_no_in}
use Rattle.lsv_base.specs.Time.{nanos_of}
use Rattle.lsv_base.specs.declared.time.TimeSpec.{TimeSpec}
use Rattle.lsv_msg.specs.declared.messages.ClientMessage.{ClientMessage}
use Rattle.lsv_msg.specs.declared.messages.ClientMessage.TheVariants as client
use Rattle.lsv_request.specs.declared.refusal.Refusal.{Refusal}
use Rattle.lsv_request.specs.declared.refusal.Refusal.TheVariants.{BadTime, BadSizeOrSignal, MessageTooLarge, NoSuchLog}
use Rattle.lsv_request.specs.Requests.{is_signal}

-- a time that is there and valid
abbrev pub is_timed : Option TimeSpec → Bool
is_timed time = is_some (option_and_then nanos_of time)

-- the time of a message is valid: an exit's may be missing, and a hello has none
abbrev pub has_good_time : ClientMessage → Bool
has_good_time (client.Hello m) = true
has_good_time (client.Accept m) = is_timed m.submit_time
has_good_time (client.Reject m) = is_timed m.submit_time
has_good_time (client.Alert m) = is_timed m.alert_time
has_good_time (client.Restart m) = is_timed m.resume_point
has_good_time (client.Exit m) = not (is_some m.run_time) || is_timed m.run_time
has_good_time (client.Ttyin m) = is_timed m.delay
has_good_time (client.Ttyout m) = is_timed m.delay
has_good_time (client.Stdin m) = is_timed m.delay
has_good_time (client.Stdout m) = is_timed m.delay
has_good_time (client.Stderr m) = is_timed m.delay
has_good_time (client.Winsize m) = is_timed m.delay
has_good_time (client.Suspend m) = is_timed m.delay

-- the refusal of what fails its test
abbrev pub unless : Bool → Refusal → Option Refusal
unless true why = None
unless false why = Some why

-- why a message's time is refused
abbrev pub time_refusal : ClientMessage → Option Refusal
time_refusal m = unless (has_good_time m) BadTime

abbrev pub is_negative : ℤ → Bool
is_negative (pos n) = false
is_negative (negsuc n) = true

-- no more data than a message can bring
abbrev pub is_little : List ℕ → Bool
is_little bytes = nat_le (length bytes) 2097152

-- why what a message brings is refused: a window's size, a signal's name, too much data, or an identifier that isn't a log's
abbrev pub content_refusal : ClientMessage → Option Refusal
content_refusal (client.Winsize m) = unless (not (is_negative m.rows || is_negative m.cols)) BadSizeOrSignal
content_refusal (client.Suspend m) = unless (is_signal m.signal) BadSizeOrSignal
content_refusal (client.Ttyin m) = unless (is_little m.bytes) MessageTooLarge
content_refusal (client.Ttyout m) = unless (is_little m.bytes) MessageTooLarge
content_refusal (client.Stdin m) = unless (is_little m.bytes) MessageTooLarge
content_refusal (client.Stdout m) = unless (is_little m.bytes) MessageTooLarge
content_refusal (client.Stderr m) = unless (is_little m.bytes) MessageTooLarge
content_refusal (client.Restart m) = unless (is_some (log_no_in m.log_id)) NoSuchLog
content_refusal m = None

-- the first of two refusals
abbrev pub first_of : Option Refusal → Option Refusal → Option Refusal
first_of (Some why) later = Some why
first_of None later = later

-- the refusal that was answered
abbrev pub refusal_in : {A : Type 0} → Result A Refusal → Option Refusal
refusal_in (Ok a) = None
refusal_in (Err why) = Some why
