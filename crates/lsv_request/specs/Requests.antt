-- What a message of a client (sudo_logsrv.proto(5)) asks of a session, or why it is refused after the session's state: its time is judged, then
-- its size or signal, or its log's identifier.
use Rattle.std.specs.Prelude.{ℕ, ℤ, pos, List, Option, Some, None, option_and_then, is_some, Result, Ok, Err, Bool, ◌&&◌, nat_le, length, codes, if◌then◌else◌}
use Rattle.std.specs.List.{list_all}
use Rattle.lsv_base.specs.LogNo.{log_no_in}
use Rattle.lsv_base.specs.Time.{nanos_of}
use Rattle.lsv_base.specs.declared.time.TimeSpec.{TimeSpec}
use Rattle.lsv_info.specs.Info.{text_of}
use Rattle.lsv_info.specs.declared.info.Info.{Info}
use Rattle.lsv_info.specs.declared.times.Head.{Head}
use Rattle.lsv_info.specs.declared.times.Exit.{Exit}
use Rattle.lsv_record.specs.declared.records.Record.{Record}
use Rattle.lsv_record.specs.declared.records.Record.TheVariants.{Io, Winsize, Suspend}
use Rattle.lsv_record.specs.declared.records.Stream.{Stream}
use Rattle.lsv_record.specs.declared.records.Stream.TheVariants as stream
use Rattle.lsv_msg.specs.declared.messages.AcceptMessage.{AcceptMessage}
use Rattle.lsv_msg.specs.declared.messages.RejectMessage.{RejectMessage}
use Rattle.lsv_msg.specs.declared.messages.AlertMessage.{AlertMessage}
use Rattle.lsv_msg.specs.declared.messages.ExitMessage.{ExitMessage}
use Rattle.lsv_msg.specs.declared.messages.RestartMessage.{RestartMessage}
use Rattle.lsv_msg.specs.declared.messages.IoBuffer.{IoBuffer}
use Rattle.lsv_msg.specs.declared.messages.ChangeWindowSize.{ChangeWindowSize}
use Rattle.lsv_msg.specs.declared.messages.CommandSuspend.{CommandSuspend}
use Rattle.lsv_msg.specs.declared.messages.ClientMessage.{ClientMessage}
use Rattle.lsv_msg.specs.declared.messages.ClientMessage.TheVariants as client
use Rattle.lsv_request.specs.declared.refusal.Refusal.{Refusal}
use Rattle.lsv_request.specs.declared.refusal.Refusal.TheVariants.{BadTime, BadSizeOrSignal, MessageTooLarge, MissingKey, NoSuchLog}
use Rattle.lsv_request.specs.declared.request.Accept.{Accept}
use Rattle.lsv_request.specs.declared.request.Report.{Report}
use Rattle.lsv_request.specs.declared.request.Restart.{Restart}
use Rattle.lsv_request.specs.declared.request.Request.{Request}
use Rattle.lsv_request.specs.declared.request.Request.TheVariants as request

-- what is made of a part that isn't refused
abbrev pub and_then : {A B : Type 0} → Result A Refusal → (A → Result B Refusal) → Result B Refusal
and_then (Ok a) next = next a
and_then (Err why) next = Err why

-- ---- Times

-- a time that is there and valid
abbrev pub valid_time : Option TimeSpec → Result TimeSpec Refusal
valid_time None = Err BadTime
valid_time (Some time) = if is_some (nanos_of time) then Ok time else Err BadTime

-- the nanoseconds of a delay or a point that is there and valid
abbrev pub nanos_told : Option ℕ → Result ℕ Refusal
nanos_told None = Err BadTime
nanos_told (Some nanos) = Ok nanos

abbrev pub nanos_in : Option TimeSpec → Result ℕ Refusal
nanos_in time = nanos_told (option_and_then nanos_of time)

-- ---- Records

-- data of a stream, no more than a message can bring
abbrev pub data_of : Stream → IoBuffer → Result Record Refusal
data_of s buffer = and_then (nanos_in buffer.delay) (λ delay. if nat_le (length buffer.bytes) 2097152 then Ok (Io delay s buffer.bytes) else Err MessageTooLarge)

-- a size that isn't negative
abbrev pub sized : ℕ → ℤ → ℤ → Result Record Refusal
sized delay (pos rows) (pos cols) = Ok (Winsize delay rows cols)
sized delay _ _ = Err BadSizeOrSignal

-- the window's new size
abbrev pub window_of : ChangeWindowSize → Result Record Refusal
window_of window = and_then (nanos_in window.delay) (λ delay. sized delay window.rows window.cols)

-- a signal's name: 1 to 32 visible bytes of ASCII
abbrev pub is_signal : List ℕ → Bool
is_signal text = nat_le 1 (length text) && nat_le (length text) 32 && list_all (λ byte. nat_le 33 byte && nat_le byte 126) text

-- a suspension or resumption by a signal that has a name
abbrev pub suspend_of : CommandSuspend → Result Record Refusal
suspend_of suspend = and_then (nanos_in suspend.delay) (λ delay. if is_signal suspend.signal then Ok (Suspend delay suspend.signal) else Err BadSizeOrSignal)

-- ---- The start and the end of a command

-- an accepted command, of which the keys aren't judged
abbrev pub accept_of : AcceptMessage → Result Accept Refusal
accept_of m = and_then (valid_time m.submit_time) (λ submit. Ok (record { head = record { submit = submit; info = m.info_msgs }; expect_iobufs = m.expect_iobufs }))

-- the texts without which no session begins are there
abbrev pub has_keys : Info → Bool
has_keys info =
    is_some (text_of info (codes "command")) && is_some (text_of info (codes "runuser"))
    && is_some (text_of info (codes "submituser")) && is_some (text_of info (codes "submithost"))

-- the head of a session that an accept opens
abbrev pub head_of : AcceptMessage → Result Head Refusal
head_of m = and_then (accept_of m) (λ accept. if has_keys accept.head.info then Ok accept.head else Err MissingKey)

-- a rejected command
abbrev pub reject_of : RejectMessage → Result Report Refusal
reject_of m = and_then (valid_time m.submit_time) (λ time. Ok (record { time = time; reason = m.reason; info = m.info_msgs }))

-- an alert
abbrev pub alert_of : AlertMessage → Result Report Refusal
alert_of m = and_then (valid_time m.alert_time) (λ time. Ok (record { time = time; reason = m.reason; info = m.info_msgs }))

-- how long the command ran: 0 where nothing is told
abbrev pub run_of : Option TimeSpec → Result TimeSpec Refusal
run_of None = Ok (record { sec = pos 0; nsec = pos 0 })
run_of (Some run) = valid_time (Some run)

-- how the command ended
abbrev pub exit_of : ExitMessage → Result Exit Refusal
exit_of m = and_then (run_of m.run_time) (λ run. Ok (record { run = run; value = m.exit_value; dumped = m.dumped_core; signal = m.signal; error = m.error }))

-- ---- A restart

-- the log of an identifier, gone on with at a point
abbrev pub restart_at : Option ℕ → ℕ → Result Restart Refusal
restart_at None point = Err NoSuchLog
restart_at (Some log) point = Ok (record { log = log; point = point })

abbrev pub restart_of : RestartMessage → Result Restart Refusal
restart_of m = and_then (nanos_in m.resume_point) (λ point. restart_at (log_no_in m.log_id) point)

-- ---- A message

-- what a message asks, or why it is refused after the session's state
abbrev pub request_of : ClientMessage → Result Request Refusal
request_of (client.Hello m) = Ok request.Hello
request_of (client.Accept m) = and_then (accept_of m) (λ accept. Ok (request.Accept accept))
request_of (client.Reject m) = and_then (reject_of m) (λ report. Ok (request.Reject report))
request_of (client.Alert m) = and_then (alert_of m) (λ report. Ok (request.Alert report))
request_of (client.Restart m) = and_then (restart_of m) (λ restart. Ok (request.Restart restart))
request_of (client.Exit m) = and_then (exit_of m) (λ exit. Ok (request.Exit exit))
request_of (client.Ttyin m) = and_then (data_of stream.Ttyin m) (λ r. Ok (request.Record r))
request_of (client.Ttyout m) = and_then (data_of stream.Ttyout m) (λ r. Ok (request.Record r))
request_of (client.Stdin m) = and_then (data_of stream.Stdin m) (λ r. Ok (request.Record r))
request_of (client.Stdout m) = and_then (data_of stream.Stdout m) (λ r. Ok (request.Record r))
request_of (client.Stderr m) = and_then (data_of stream.Stderr m) (λ r. Ok (request.Record r))
request_of (client.Winsize m) = and_then (window_of m) (λ r. Ok (request.Record r))
request_of (client.Suspend m) = and_then (suspend_of m) (λ r. Ok (request.Record r))
