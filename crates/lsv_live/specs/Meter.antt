-- What a live relay makes of each message of a client, and of the other server.
use Rattle.std.specs.Prelude.{ℕ, ◌+◌, ◌-◌, ◌^◌, nat_lt, true, false, if◌then◌else◌, List, length, Option, Some, None, option_and_then, Result, Ok, Err}
use Rattle.lsv_base.specs.Time.{nanos_of}
use Rattle.lsv_base.specs.declared.time.TimeSpec.{TimeSpec}
use Rattle.lsv_msg.specs.declared.fault.MsgFault.{MsgFault}
use Rattle.lsv_msg.specs.Messages.{client_in, server_in, server_bytes}
use Rattle.lsv_msg.specs.declared.messages.ClientMessage.{ClientMessage}
use Rattle.lsv_msg.specs.declared.messages.ClientMessage.TheVariants as client
use Rattle.lsv_msg.specs.declared.messages.ServerMessage.{ServerMessage}
use Rattle.lsv_msg.specs.declared.messages.ServerMessage.TheVariants as server
use Rattle.lsv_session.specs.Connections.{server_hello}
use Rattle.lsv_wire.specs.Frame.{frame_of}
use Rattle.lsv_wire.specs.declared.framing.TheConstants.{FRAME_LIMIT}
use Rattle.lsv_live.specs.declared.fault.LiveFault.{LiveFault}
use Rattle.lsv_live.specs.declared.fault.LiveFault.TheVariants.{Malformed, BadTime, TooLong, Strange, Long}
use Rattle.lsv_live.specs.declared.live.Down.{Down}
use Rattle.lsv_live.specs.declared.live.Down.TheVariants.{Nothing, Put, Last}
use Rattle.lsv_live.specs.declared.meter.Meter.{Meter}

-- nothing was passed on
abbrev pub start : Meter
start = record { elapsed = 0; has_opened = false; has_left = false; has_greeted = false; has_ended = false }

-- ---- Messages of the client

-- the nanoseconds of a time that is there and valid
abbrev pub time_in : Option TimeSpec → Option ℕ
time_in time = option_and_then nanos_of time

-- after a record of this delay
abbrev pub recorded : Meter → Option ℕ → Result Meter LiveFault
recorded m None = Err BadTime
recorded m (Some delay) = if nat_lt (m.elapsed + delay) (2 ^ 63) then Ok (record m { elapsed = m.elapsed + delay }) else Err (TooLong m.elapsed)

-- after a restart at this point: before any accept, the elapsed time is the point
abbrev pub resumed : Meter → Option ℕ → Result Meter LiveFault
resumed m None = Err BadTime
resumed m (Some point) = Ok (if m.has_opened then m else record m { elapsed = point })

-- after a message of the client, or why it is refused
abbrev pub judged : Meter → ClientMessage → Result Meter LiveFault
judged m (client.Accept accept) = Ok (record m { has_opened = true })
judged m (client.Reject reject) = Ok (record m { has_left = true })
judged m (client.Exit exit) = Ok (record m { has_left = true })
judged m (client.Restart restart) = resumed m (time_in restart.resume_point)
judged m (client.Alert alert) = Ok m
judged m (client.Ttyin buffer) = recorded m (time_in buffer.delay)
judged m (client.Ttyout buffer) = recorded m (time_in buffer.delay)
judged m (client.Stdin buffer) = recorded m (time_in buffer.delay)
judged m (client.Stdout buffer) = recorded m (time_in buffer.delay)
judged m (client.Stderr buffer) = recorded m (time_in buffer.delay)
judged m (client.Winsize size) = recorded m (time_in size.delay)
judged m (client.Suspend suspend) = recorded m (time_in suspend.delay)
judged m (client.Hello hello) = Ok m

-- after the client's message of these bytes, or why it is refused
abbrev pub judge : Meter → List ℕ → Result Meter LiveFault
judge m body = elim (client_in body) [ Ok message ↦ judged m message | Err fault ↦ Err (Malformed fault) ]

-- ---- Messages of the other server

-- the client gets this message
abbrev pub put : ServerMessage → Result Down LiveFault
put message = if nat_lt FRAME_LIMIT (length (server_bytes message)) then Err (Long (length (server_bytes message))) else Ok (Put (frame_of (server_bytes message)))

-- the client gets this message, and then no other
abbrev pub last : ServerMessage → Result Down LiveFault
last message = if nat_lt FRAME_LIMIT (length (server_bytes message)) then Err (Long (length (server_bytes message))) else Ok (Last (frame_of (server_bytes message)))

-- a commit point, of this value in nanoseconds if it is a valid time: the client's elapsed time reaches it, or it is refused
abbrev pub pointed : Meter → TimeSpec → Option ℕ → Result Down LiveFault
pointed m time None = Err (Strange (2 ^ 63 - 1))
pointed m time (Some point) = if nat_lt m.elapsed point then Err (Strange point) else put (server.CommitPoint time)

-- what the client gets of a message of the other server, or why it is refused. The first hello is answered by this server's.
abbrev pub answered : Meter → ServerMessage → Result Down LiveFault
answered m (server.Hello hello) = if m.has_greeted then Ok Nothing else put server_hello
answered m (server.LogId id) = put (server.LogId id)
answered m (server.CommitPoint time) = pointed m time (nanos_of time)
answered m (server.Error text) = last (server.Error text)
answered m (server.Abort text) = last (server.Error text)

-- what the client gets of what was read of the other server, or why it is refused
abbrev pub answer_of : Meter → Result ServerMessage MsgFault → Result Down LiveFault
answer_of m (Ok message) = answered m message
answer_of m (Err fault) = Err (Malformed fault)

-- what the client gets of the other server's message of these bytes, or why it is refused
abbrev pub answer : Meter → List ℕ → Result Down LiveFault
answer m body = answer_of m (server_in body)

-- after a message of the other server
abbrev pub noted : Meter → ServerMessage → Meter
noted m (server.Hello hello) = record m { has_greeted = true }
noted m (server.LogId id) = m
noted m (server.CommitPoint time) = m
noted m (server.Error text) = record m { has_ended = true }
noted m (server.Abort text) = record m { has_ended = true }

-- after the other server's message of these bytes
abbrev pub heard_by : Meter → List ℕ → Meter
heard_by m body = elim (server_in body) [ Ok message ↦ noted m message | Err fault ↦ m ]
