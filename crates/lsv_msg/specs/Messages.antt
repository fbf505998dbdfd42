-- The messages of sudo_logsrv.proto(5): each table has the rows of the manual page, in the order of their numbers.
use Rattle.lsv_msg.specs.declared.fault.MsgFault.{MsgFault}
use Rattle.std.specs.Prelude.{ℕ, ℤ, List, [], ◌∷◌, Option, Some, None, Result, Bool, if◌then◌else◌, ◌==◌}
use Rattle.lsv_base.specs.declared.time.TimeSpec.{TimeSpec}
use Rattle.lsv_info.specs.declared.info.Entry.{Entry}
use Rattle.lsv_info.specs.declared.info.Value.{Value}
use Rattle.lsv_info.specs.declared.info.Value.TheVariants as values
use Rattle.lsv_msg.specs.declared.messages.IoBuffer.{IoBuffer}
use Rattle.lsv_msg.specs.declared.messages.ChangeWindowSize.{ChangeWindowSize}
use Rattle.lsv_msg.specs.declared.messages.CommandSuspend.{CommandSuspend}
use Rattle.lsv_msg.specs.declared.messages.AcceptMessage.{AcceptMessage}
use Rattle.lsv_msg.specs.declared.messages.RejectMessage.{RejectMessage}
use Rattle.lsv_msg.specs.declared.messages.AlertMessage.{AlertMessage}
use Rattle.lsv_msg.specs.declared.messages.ExitMessage.{ExitMessage}
use Rattle.lsv_msg.specs.declared.messages.RestartMessage.{RestartMessage}
use Rattle.lsv_msg.specs.declared.messages.ClientHello.{ClientHello}
use Rattle.lsv_msg.specs.declared.messages.ServerHello.{ServerHello}
use Rattle.lsv_msg.specs.declared.messages.ClientMessage.{ClientMessage}
use Rattle.lsv_msg.specs.declared.messages.ClientMessage.TheVariants as client
use Rattle.lsv_msg.specs.declared.messages.ServerMessage.{ServerMessage}
use Rattle.lsv_msg.specs.declared.messages.ServerMessage.TheVariants as server
use Rattle.lsv_msg.specs.Format.{Format, Member, ◌⊗◌, named, read, canon, typed, single, part, repeated, repeated_said, repeated_int64, oneof, member, message, int64, int32, flag, text}

-- ---- Messages inside others

abbrev pub time_spec : Format (Option ℤ × Option ℤ) TimeSpec
time_spec = named (λ p. record { sec = p.0; nsec = p.1 }) (λ t. (t.sec, t.nsec)) (
    single 1 int64  -- tv_sec
    ⊗ single 2 int32)  -- tv_nsec

abbrev pub io_buffer : Format (Option TimeSpec × Option (List ℕ)) IoBuffer
io_buffer = named (λ p. record { delay = p.0; bytes = p.1 }) (λ b. (b.delay, b.bytes)) (
    part 1 time_spec  -- delay
    ⊗ single 2 text)  -- data

abbrev pub change_window_size : Format (Option TimeSpec × (Option ℤ × Option ℤ)) ChangeWindowSize
change_window_size = named (λ p. record { delay = p.0; rows = p.1.0; cols = p.1.1 }) (λ w. (w.delay, (w.rows, w.cols))) (
    part 1 time_spec  -- delay
    ⊗ single 2 int32  -- rows
    ⊗ single 3 int32)  -- cols

abbrev pub command_suspend : Format (Option TimeSpec × Option (List ℕ)) CommandSuspend
command_suspend = named (λ p. record { delay = p.0; signal = p.1 }) (λ s. (s.delay, s.signal)) (
    part 1 time_spec  -- delay
    ⊗ single 2 text)  -- signal

abbrev pub string_list : Format (List (List ℕ)) (List (List ℕ))
string_list = repeated 1 text.kind

abbrev pub number_list : Format (List ℤ) (List ℤ)
number_list = repeated_int64 1

-- the value of an entry, where it is of this variant
abbrev pub has_num : Value → Option ℤ
has_num (values.Num n) = Some n
has_num _ = None

abbrev pub has_text : Value → Option (List ℕ)
has_text (values.Text bytes) = Some bytes
has_text _ = None

abbrev pub has_texts : Value → Option (List (List ℕ))
has_texts (values.Texts texts) = Some texts
has_texts _ = None

abbrev pub has_nums : Value → Option (List ℤ)
has_nums (values.Nums numbers) = Some numbers
has_nums _ = None

abbrev pub value_members : List (Member Value)
value_members =
    member 2 int64.kind values.Num has_num  -- numval
    ∷ member 3 text.kind values.Text has_text  -- strval
    ∷ member 4 (message string_list) values.Texts has_texts  -- strlistval
    ∷ member 5 (message number_list) values.Nums has_nums  -- numlistval
    ∷ []

abbrev pub entry_value : Format (Option Value) (Option Value)
entry_value = oneof value_members

-- an entry, where there is a value
abbrev pub entry_made : List ℕ × Option Value → Option Entry
entry_made p = elim p.1 [ Some v ↦ Some (record { key = p.0; value = v }) | None ↦ None ]

abbrev pub entry_parts : Option Entry → List ℕ × Option Value
entry_parts (Some e) = (e.key, Some e.value)
entry_parts None = ([], None)

-- sudo itself sends an entry without a value, for a command without a terminal: it says nothing
abbrev pub info_message : Format (Option (List ℕ) × Option Value) (Option Entry)
info_message = named entry_made entry_parts (
    single 1 text  -- key
    ⊗ entry_value)  -- value

abbrev pub accept_message : Format (Option TimeSpec × (List Entry × Option Bool)) AcceptMessage
accept_message = named (λ p. record { submit_time = p.0; info_msgs = record { entries = p.1.0 }; expect_iobufs = p.1.1 }) (λ m. (m.submit_time, (m.info_msgs.entries, m.expect_iobufs))) (
    part 1 time_spec  -- submit_time
    ⊗ repeated_said 2 info_message  -- info_msgs
    ⊗ single 3 flag)  -- expect_iobufs

abbrev pub reject_message : Format (Option TimeSpec × (Option (List ℕ) × List Entry)) RejectMessage
reject_message = named (λ p. record { submit_time = p.0; reason = p.1.0; info_msgs = record { entries = p.1.1 } }) (λ m. (m.submit_time, (m.reason, m.info_msgs.entries))) (
    part 1 time_spec  -- submit_time
    ⊗ single 2 text  -- reason
    ⊗ repeated_said 3 info_message)  -- info_msgs

abbrev pub alert_message : Format (Option TimeSpec × (Option (List ℕ) × List Entry)) AlertMessage
alert_message = named (λ p. record { alert_time = p.0; reason = p.1.0; info_msgs = record { entries = p.1.1 } }) (λ m. (m.alert_time, (m.reason, m.info_msgs.entries))) (
    part 1 time_spec  -- alert_time
    ⊗ single 2 text  -- reason
    ⊗ repeated_said 3 info_message)  -- info_msgs

abbrev pub exit_message : Format (Option TimeSpec × (Option ℤ × (Option Bool × (Option (List ℕ) × Option (List ℕ))))) ExitMessage
exit_message = named (λ p. record { run_time = p.0; exit_value = p.1.0; dumped_core = p.1.1.0; signal = p.1.1.1.0; error = p.1.1.1.1 }) (λ m. (m.run_time, (m.exit_value, (m.dumped_core, (m.signal, m.error))))) (
    part 1 time_spec  -- run_time
    ⊗ single 2 int32  -- exit_value
    ⊗ single 3 flag  -- dumped_core
    ⊗ single 4 text  -- signal
    ⊗ single 5 text)  -- error

abbrev pub restart_message : Format (Option (List ℕ) × Option TimeSpec) RestartMessage
restart_message = named (λ p. record { log_id = p.0; resume_point = p.1 }) (λ m. (m.log_id, m.resume_point)) (
    single 1 text  -- log_id
    ⊗ part 2 time_spec)  -- resume_point

abbrev pub client_hello : Format (Option (List ℕ)) ClientHello
client_hello = named (λ id. record { client_id = id }) (λ m. m.client_id) (single 1 text)

abbrev pub server_hello : Format (Option (List ℕ) × (Option (List ℕ) × (List (List ℕ) × Option Bool))) ServerHello
server_hello = named (λ p. record { server_id = p.0; redirect = p.1.0; servers = p.1.1.0; subcommands = p.1.1.1 }) (λ m. (m.server_id, (m.redirect, (m.servers, m.subcommands)))) (
    single 1 text  -- server_id
    ⊗ single 2 text  -- redirect
    ⊗ repeated 3 text.kind  -- servers
    ⊗ single 4 flag)  -- subcommands

-- ---- Messages of the client

abbrev pub has_accept : ClientMessage → Option AcceptMessage
has_accept (client.Accept m) = Some m
has_accept _ = None

abbrev pub has_reject : ClientMessage → Option RejectMessage
has_reject (client.Reject m) = Some m
has_reject _ = None

abbrev pub has_exit : ClientMessage → Option ExitMessage
has_exit (client.Exit m) = Some m
has_exit _ = None

abbrev pub has_restart : ClientMessage → Option RestartMessage
has_restart (client.Restart m) = Some m
has_restart _ = None

abbrev pub has_alert : ClientMessage → Option AlertMessage
has_alert (client.Alert m) = Some m
has_alert _ = None

abbrev pub has_ttyin : ClientMessage → Option IoBuffer
has_ttyin (client.Ttyin m) = Some m
has_ttyin _ = None

abbrev pub has_ttyout : ClientMessage → Option IoBuffer
has_ttyout (client.Ttyout m) = Some m
has_ttyout _ = None

abbrev pub has_stdin : ClientMessage → Option IoBuffer
has_stdin (client.Stdin m) = Some m
has_stdin _ = None

abbrev pub has_stdout : ClientMessage → Option IoBuffer
has_stdout (client.Stdout m) = Some m
has_stdout _ = None

abbrev pub has_stderr : ClientMessage → Option IoBuffer
has_stderr (client.Stderr m) = Some m
has_stderr _ = None

abbrev pub has_winsize : ClientMessage → Option ChangeWindowSize
has_winsize (client.Winsize m) = Some m
has_winsize _ = None

abbrev pub has_suspend : ClientMessage → Option CommandSuspend
has_suspend (client.Suspend m) = Some m
has_suspend _ = None

abbrev pub has_client_hello : ClientMessage → Option ClientHello
has_client_hello (client.Hello m) = Some m
has_client_hello _ = None

abbrev pub client_members : List (Member ClientMessage)
client_members =
    member 1 (message accept_message) client.Accept has_accept  -- accept_msg
    ∷ member 2 (message reject_message) client.Reject has_reject  -- reject_msg
    ∷ member 3 (message exit_message) client.Exit has_exit  -- exit_msg
    ∷ member 4 (message restart_message) client.Restart has_restart  -- restart_msg
    ∷ member 5 (message alert_message) client.Alert has_alert  -- alert_msg
    ∷ member 6 (message io_buffer) client.Ttyin has_ttyin  -- ttyin_buf
    ∷ member 7 (message io_buffer) client.Ttyout has_ttyout  -- ttyout_buf
    ∷ member 8 (message io_buffer) client.Stdin has_stdin  -- stdin_buf
    ∷ member 9 (message io_buffer) client.Stdout has_stdout  -- stdout_buf
    ∷ member 10 (message io_buffer) client.Stderr has_stderr  -- stderr_buf
    ∷ member 11 (message change_window_size) client.Winsize has_winsize  -- winsize_event
    ∷ member 12 (message command_suspend) client.Suspend has_suspend  -- suspend_event
    ∷ member 13 (message client_hello) client.Hello has_client_hello  -- hello_msg
    ∷ []

abbrev pub client_message : Format (Option ClientMessage) (Option ClientMessage)
client_message = oneof client_members

-- the message with that number of a record's data, where it has one
abbrev pub data_message : ℕ → IoBuffer → ClientMessage
data_message number buffer = if number == 6 then client.Ttyin buffer else if number == 7 then client.Ttyout buffer else if number == 8 then client.Stdin buffer else if number == 9 then client.Stdout buffer else client.Stderr buffer

-- the message of a client that these bytes are, or why they are none
abbrev pub client_in : List ℕ → Result ClientMessage MsgFault
client_in bytes = typed (read client_message bytes)

-- the canonical bytes of a message of a client
abbrev pub client_bytes : ClientMessage → List ℕ
client_bytes m = canon client_message (Some m)

-- ---- Messages of the server

abbrev pub has_server_hello : ServerMessage → Option ServerHello
has_server_hello (server.Hello m) = Some m
has_server_hello _ = None

abbrev pub has_commit_point : ServerMessage → Option TimeSpec
has_commit_point (server.CommitPoint t) = Some t
has_commit_point _ = None

abbrev pub has_log_id : ServerMessage → Option (List ℕ)
has_log_id (server.LogId id) = Some id
has_log_id _ = None

abbrev pub has_error : ServerMessage → Option (List ℕ)
has_error (server.Error message) = Some message
has_error _ = None

abbrev pub has_abort : ServerMessage → Option (List ℕ)
has_abort (server.Abort message) = Some message
has_abort _ = None

abbrev pub server_members : List (Member ServerMessage)
server_members =
    member 1 (message server_hello) server.Hello has_server_hello  -- hello
    ∷ member 2 (message time_spec) server.CommitPoint has_commit_point  -- commit_point
    ∷ member 3 text.kind server.LogId has_log_id  -- log_id
    ∷ member 4 text.kind server.Error has_error  -- error
    ∷ member 5 text.kind server.Abort has_abort  -- abort
    ∷ []

abbrev pub server_message : Format (Option ServerMessage) (Option ServerMessage)
server_message = oneof server_members

-- the message of a server that these bytes are, or why they are none
abbrev pub server_in : List ℕ → Result ServerMessage MsgFault
server_in bytes = typed (read server_message bytes)

-- the canonical bytes of a message of a server
abbrev pub server_bytes : ServerMessage → List ℕ
server_bytes m = canon server_message (Some m)
