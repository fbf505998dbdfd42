-- What is decoded fits, and its texts are no longer than the message that they came in.
use Rattle.std.proofs.Common.{◌≡◌, ℕ, ℤ, ◌≤◌, Bool, List, length, Option, Some, None, Result, Ok, Err, arith}
use Rattle.std.specs.Prelude.{IfSome, FitsSigned}
use Rattle.std.specs.List.{AllByRecursion}
use Rattle.std.specs.Int.{w32, w64}
use Rattle.std.proofs.lemmas.Int.{ints}
use Rattle.lsv_base.specs.declared.time.TimeSpec.{TimeSpec}
use Rattle.lsv_info.specs.Fitting.{FitsValue, FitsEntry}
use Rattle.lsv_info.specs.declared.info.Entry.{Entry}
use Rattle.lsv_info.specs.declared.info.Value.{Value}
use Rattle.lsv_info.specs.declared.info.Value.TheVariants as values
use Rattle.lsv_msg.specs.declared.fault.MsgFault.{MsgFault}
use Rattle.lsv_msg.specs.declared.messages.IoBuffer.{IoBuffer}
use Rattle.lsv_msg.specs.declared.messages.ChangeWindowSize.{ChangeWindowSize}
use Rattle.lsv_msg.specs.declared.messages.CommandSuspend.{CommandSuspend}
use Rattle.lsv_msg.specs.declared.messages.AcceptMessage.{AcceptMessage}
use Rattle.lsv_msg.specs.declared.messages.RejectMessage.{RejectMessage}
use Rattle.lsv_msg.specs.declared.messages.AlertMessage.{AlertMessage}
use Rattle.lsv_msg.specs.declared.messages.ExitMessage.{ExitMessage}
use Rattle.lsv_msg.specs.declared.messages.RestartMessage.{RestartMessage}
use Rattle.lsv_msg.specs.declared.messages.ClientHello.{ClientHello}
use Rattle.lsv_msg.specs.declared.messages.ServerHello.{ServerHello}
use Rattle.lsv_msg.specs.declared.messages.ClientMessage.{ClientMessage}
use Rattle.lsv_msg.specs.declared.messages.ClientMessage.TheVariants as client
use Rattle.lsv_msg.specs.declared.messages.ServerMessage.{ServerMessage}
use Rattle.lsv_msg.specs.declared.messages.ServerMessage.TheVariants as server
use Rattle.lsv_msg.specs.Format.{◌⊗◌, read, typed, single, part, repeated, repeated_said, message, int64, int32, flag, text}
use Rattle.lsv_msg.specs.Messages.{time_spec, io_buffer, change_window_size, command_suspend, string_list, number_list, has_num, has_text, has_texts, has_nums, entry_value, value_members, entry_made, entry_parts, info_message, accept_message, reject_message, alert_message, exit_message, restart_message, client_hello, server_hello, has_accept, has_reject, has_exit, has_restart, has_alert, has_ttyin, has_ttyout, has_stdin, has_stdout, has_stderr, has_winsize, has_suspend, has_client_hello, client_members, client_message, client_in, has_server_hello, has_commit_point, has_log_id, has_error, has_abort, server_members, server_message, server_in}
use Rattle.lsv_msg.specs.Fitting.{FitsTime, FitsSize, FitsClient, FitsServer, ValueWithin, EntryWithin, ClientWithin, ServerWithin}
use Rattle.lsv_msg.proofs.Keeping.{KindGood, Rises, Keeps, Both, AllFit, all_weaker, text_good, int64_good, int32_good, read_keeps, message_good, single_keeps, part_keeps, repeated_keeps, repeated_said_keeps, numbers_keeps, member_good, oneof_keeps, both_keeps, named_keeps}

-- ---- Rows

abbrev TextGood : ℕ → List ℕ → Type 0
TextGood n b = length b ≤ n

abbrev Long : ℕ → ℤ → Type 0
Long n z = FitsSigned w64 z

abbrev Int : ℕ → ℤ → Type 0
Int n z = FitsSigned w32 z

abbrev AnyFlag : ℕ → Bool → Type 0
AnyFlag n b = Unit {0}

abbrev TimeGood : ℕ → TimeSpec → Type 0
TimeGood n t = FitsTime t

abbrev Timed : ℕ → Option TimeSpec → Type 0
Timed n o = IfSome o FitsTime

abbrev TextsGood : ℕ → List (List ℕ) → Type 0
TextsGood n texts = AllByRecursion (λ t. length t ≤ n) texts

long_row : (k : ℕ) → Keeps (single k int64) Long
long_row k = single_keeps k int64 Long int64_good (λ n. record { sfits = omega (arith, ints) })

int_row : (k : ℕ) → Keeps (single k int32) Int
int_row k = single_keeps k int32 Int int32_good (λ n. record { sfits = omega (arith, ints) })

flag_row : (k : ℕ) → Keeps (single k flag) AnyFlag
flag_row k = single_keeps k flag AnyFlag (λ bytes f b e. tt) (λ n. tt)

text_row : (k : ℕ) → Keeps (single k text) TextGood
text_row k = single_keeps k text TextGood text_good (λ n. omega arith)

texts_row : (k : ℕ) → Keeps (repeated k text.kind) TextsGood
texts_row k = repeated_keeps k text.kind TextGood text_good

time_keeps : Keeps time_spec TimeGood
time_keeps = named_keeps (λ p. record { sec = p.0; nsec = p.1 }) (λ t. (t.sec, t.nsec)) (single 1 int64 ⊗ (single 2 int32)) (Both Long Int) TimeGood
    (both_keeps (single 1 int64) (single 2 int32) Long Int (long_row 1) (int_row 2)) (λ n p g. g)

time_rises : Rises TimeGood
time_rises n m t le g = g

time_row : (k : ℕ) → Keeps (part k time_spec) Timed
time_row k = part_keeps k time_spec TimeGood (message_good time_spec TimeGood time_keeps time_rises)

text_rises : Rises TextGood
text_rises n m b le g = omega arith

texts_rises : Rises TextsGood
texts_rises n m texts le g = all_weaker (λ t. length t ≤ n) (λ t. length t ≤ m) (λ t g. omega arith) texts g

-- ---- Entries

abbrev ValueGood : ℕ → Value → Type 0
ValueGood n v = FitsValue v × ValueWithin n v

abbrev SomeValueGood : ℕ → Option Value → Type 0
SomeValueGood n o = IfSome o (ValueGood n)

abbrev EntryGood : ℕ → Entry → Type 0
EntryGood n e = FitsEntry e × EntryWithin n e

abbrev SomeEntryGood : ℕ → Option Entry → Type 0
SomeEntryGood n o = IfSome o (EntryGood n)

abbrev EntriesGood : ℕ → List Entry → Type 0
EntriesGood n entries = AllByRecursion (EntryGood n) entries

abbrev Numbers : ℕ → List ℤ → Type 0
Numbers n numbers = AllFit numbers

value_rises : (n m : ℕ) (v : Value) → n ≤ m → ValueWithin n v → ValueWithin m v
value_rises n m (values.Num k) le g = tt
value_rises n m (values.Text b) le g = omega arith
value_rises n m (values.Texts texts) le g = texts_rises n m texts le g
value_rises n m (values.Nums numbers) le g = tt

entry_rises : (n m : ℕ) → n ≤ m → (e : Entry) → EntryGood n e → EntryGood m e
entry_rises n m le e g = (g.0, (text_rises n m e.key le g.1.0, value_rises n m e.value le g.1.1))

some_entry_rises : Rises SomeEntryGood
some_entry_rises n m None le g = tt
some_entry_rises n m (Some e) le g = entry_rises n m le e g

entries_rise : Rises EntriesGood
entries_rise n m entries le g = all_weaker (EntryGood n) (EntryGood m) (entry_rises n m le) entries g

entries_fit : (n : ℕ) (entries : List Entry) → EntriesGood n entries → AllByRecursion FitsEntry entries
entries_fit n entries g = all_weaker (EntryGood n) FitsEntry (λ e g. g.0) entries g

entries_within : (n : ℕ) (entries : List Entry) → EntriesGood n entries → AllByRecursion (EntryWithin n) entries
entries_within n entries g = all_weaker (EntryGood n) (EntryWithin n) (λ e g. g.1) entries g

strings_good : KindGood (message string_list) TextsGood
strings_good = message_good string_list TextsGood (texts_row 1) texts_rises

numbers_good : KindGood (message number_list) Numbers
numbers_good = message_good number_list Numbers (numbers_keeps 1) (λ n m a le g. g)

value_keeps : Keeps entry_value SomeValueGood
value_keeps = oneof_keeps value_members ValueGood (
  member_good 2 int64.kind values.Num has_num Long ValueGood int64_good (λ n z g. (g, tt)),
  (
    member_good 3 text.kind values.Text has_text TextGood ValueGood text_good (λ n b g. (tt, g)),
    (
      member_good 4 (message string_list) values.Texts has_texts TextsGood ValueGood strings_good (λ n ts g. (tt, g)),
      (
        member_good 5 (message number_list) values.Nums has_nums Numbers ValueGood numbers_good (λ n ns g. (g, tt)),
        tt,
      ),
    ),
  ),
)

made_good : (n : ℕ) (key : List ℕ) (v : Option Value) → TextGood n key → SomeValueGood n v → SomeEntryGood n (entry_made (key, v))
made_good n key None short g = tt
made_good n key (Some v) short g = (g.0, (short, g.1))

entry_keeps : Keeps info_message SomeEntryGood
entry_keeps = named_keeps entry_made entry_parts (single 1 text ⊗ entry_value) (Both TextGood SomeValueGood) SomeEntryGood
    (both_keeps (single 1 text) entry_value TextGood SomeValueGood (text_row 1) value_keeps) (λ n p g. made_good n p.0 p.1 g.0 g.1)

entries_row : (k : ℕ) → Keeps (repeated_said k info_message) EntriesGood
entries_row k = repeated_said_keeps k info_message EntryGood (message_good info_message SomeEntryGood entry_keeps some_entry_rises)

-- ---- Messages of the client

abbrev BufferGood : ℕ → IoBuffer → Type 0
BufferGood n m = IfSome m.delay FitsTime × (length m.bytes ≤ n)

buffer_keeps : Keeps io_buffer BufferGood
buffer_keeps = named_keeps (λ p. record { delay = p.0; bytes = p.1 }) (λ b. (b.delay, b.bytes)) (part 1 time_spec ⊗ (single 2 text)) (Both Timed TextGood) BufferGood
    (both_keeps (part 1 time_spec) (single 2 text) Timed TextGood (time_row 1) (text_row 2)) (λ n p g. g)

buffer_rises : Rises BufferGood
buffer_rises n m b le g = (g.0, text_rises n m b.bytes le g.1)

abbrev SizeGood : ℕ → ChangeWindowSize → Type 0
SizeGood n m = FitsSize m

size_keeps : Keeps change_window_size SizeGood
size_keeps = named_keeps (λ p. record { delay = p.0; rows = p.1.0; cols = p.1.1 }) (λ w. (w.delay, (w.rows, w.cols))) (part 1 time_spec ⊗ (single 2 int32 ⊗ (single 3 int32))) (Both Timed (Both Int Int)) SizeGood
    (both_keeps (part 1 time_spec) (single 2 int32 ⊗ (single 3 int32)) Timed (Both Int Int) (time_row 1) (both_keeps (single 2 int32) (single 3 int32) Int Int (int_row 2) (int_row 3))) (λ n p g. (g.0, g.1.0, g.1.1))

size_rises : Rises SizeGood
size_rises n m w le g = g

abbrev SuspendGood : ℕ → CommandSuspend → Type 0
SuspendGood n m = IfSome m.delay FitsTime × (length m.signal ≤ n)

suspend_keeps : Keeps command_suspend SuspendGood
suspend_keeps = named_keeps (λ p. record { delay = p.0; signal = p.1 }) (λ s. (s.delay, s.signal)) (part 1 time_spec ⊗ (single 2 text)) (Both Timed TextGood) SuspendGood
    (both_keeps (part 1 time_spec) (single 2 text) Timed TextGood (time_row 1) (text_row 2)) (λ n p g. g)

suspend_rises : Rises SuspendGood
suspend_rises n m s le g = (g.0, text_rises n m s.signal le g.1)

abbrev AcceptGood : ℕ → AcceptMessage → Type 0
AcceptGood n m = IfSome m.submit_time FitsTime × EntriesGood n m.info_msgs.entries

accept_keeps : Keeps accept_message AcceptGood
accept_keeps = named_keeps (λ p. record { submit_time = p.0; info_msgs = record { entries = p.1.0 }; expect_iobufs = p.1.1 }) (λ m. (m.submit_time, (m.info_msgs.entries, m.expect_iobufs)))
    (part 1 time_spec ⊗ (repeated_said 2 info_message ⊗ (single 3 flag))) (Both Timed (Both EntriesGood AnyFlag)) AcceptGood
    (both_keeps (part 1 time_spec) (repeated_said 2 info_message ⊗ (single 3 flag)) Timed (Both EntriesGood AnyFlag) (time_row 1) (both_keeps (repeated_said 2 info_message) (single 3 flag) EntriesGood AnyFlag (entries_row 2) (flag_row 3)))
    (λ n p g. (g.0, g.1.0))

accept_rises : Rises AcceptGood
accept_rises n m a le g = (g.0, entries_rise n m a.info_msgs.entries le g.1)

abbrev RejectGood : ℕ → RejectMessage → Type 0
RejectGood n m = IfSome m.submit_time FitsTime × (length m.reason ≤ n) × EntriesGood n m.info_msgs.entries

reject_keeps : Keeps reject_message RejectGood
reject_keeps = named_keeps (λ p. record { submit_time = p.0; reason = p.1.0; info_msgs = record { entries = p.1.1 } }) (λ m. (m.submit_time, (m.reason, m.info_msgs.entries)))
    (part 1 time_spec ⊗ (single 2 text ⊗ (repeated_said 3 info_message))) (Both Timed (Both TextGood EntriesGood)) RejectGood
    (both_keeps (part 1 time_spec) (single 2 text ⊗ (repeated_said 3 info_message)) Timed (Both TextGood EntriesGood) (time_row 1) (both_keeps (single 2 text) (repeated_said 3 info_message) TextGood EntriesGood (text_row 2) (entries_row 3)))
    (λ n p g. (g.0, g.1.0, g.1.1))

reject_rises : Rises RejectGood
reject_rises n m a le g = (g.0, text_rises n m a.reason le g.1, entries_rise n m a.info_msgs.entries le g.2)

abbrev AlertGood : ℕ → AlertMessage → Type 0
AlertGood n m = IfSome m.alert_time FitsTime × (length m.reason ≤ n) × EntriesGood n m.info_msgs.entries

alert_keeps : Keeps alert_message AlertGood
alert_keeps = named_keeps (λ p. record { alert_time = p.0; reason = p.1.0; info_msgs = record { entries = p.1.1 } }) (λ m. (m.alert_time, (m.reason, m.info_msgs.entries)))
    (part 1 time_spec ⊗ (single 2 text ⊗ (repeated_said 3 info_message))) (Both Timed (Both TextGood EntriesGood)) AlertGood
    (both_keeps (part 1 time_spec) (single 2 text ⊗ (repeated_said 3 info_message)) Timed (Both TextGood EntriesGood) (time_row 1) (both_keeps (single 2 text) (repeated_said 3 info_message) TextGood EntriesGood (text_row 2) (entries_row 3)))
    (λ n p g. (g.0, g.1.0, g.1.1))

alert_rises : Rises AlertGood
alert_rises n m a le g = (g.0, text_rises n m a.reason le g.1, entries_rise n m a.info_msgs.entries le g.2)

abbrev ExitGood : ℕ → ExitMessage → Type 0
ExitGood n m = IfSome m.run_time FitsTime × FitsSigned w32 m.exit_value × (length m.signal ≤ n) × (length m.error ≤ n)

exit_keeps : Keeps exit_message ExitGood
exit_keeps = named_keeps (λ p. record { run_time = p.0; exit_value = p.1.0; dumped_core = p.1.1.0; signal = p.1.1.1.0; error = p.1.1.1.1 }) (λ m. (m.run_time, (m.exit_value, (m.dumped_core, (m.signal, m.error)))))
    (part 1 time_spec ⊗ (single 2 int32 ⊗ (single 3 flag ⊗ (single 4 text ⊗ (single 5 text))))) (Both Timed (Both Int (Both AnyFlag (Both TextGood TextGood)))) ExitGood
    (both_keeps (part 1 time_spec) (single 2 int32 ⊗ (single 3 flag ⊗ (single 4 text ⊗ (single 5 text)))) Timed (Both Int (Both AnyFlag (Both TextGood TextGood))) (time_row 1)
    (both_keeps (single 2 int32) (single 3 flag ⊗ (single 4 text ⊗ (single 5 text))) Int (Both AnyFlag (Both TextGood TextGood)) (int_row 2)
    (both_keeps (single 3 flag) (single 4 text ⊗ (single 5 text)) AnyFlag (Both TextGood TextGood) (flag_row 3)
    (both_keeps (single 4 text) (single 5 text) TextGood TextGood (text_row 4) (text_row 5)))))
    (λ n p g. (g.0, g.1.0, g.1.1.1.0, g.1.1.1.1))

exit_rises : Rises ExitGood
exit_rises n m e le g = (g.0, g.1, text_rises n m e.signal le g.2, text_rises n m e.error le g.3)

abbrev RestartGood : ℕ → RestartMessage → Type 0
RestartGood n m = (length m.log_id ≤ n) × IfSome m.resume_point FitsTime

restart_keeps : Keeps restart_message RestartGood
restart_keeps = named_keeps (λ p. record { log_id = p.0; resume_point = p.1 }) (λ m. (m.log_id, m.resume_point)) (single 1 text ⊗ (part 2 time_spec)) (Both TextGood Timed) RestartGood
    (both_keeps (single 1 text) (part 2 time_spec) TextGood Timed (text_row 1) (time_row 2)) (λ n p g. g)

restart_rises : Rises RestartGood
restart_rises n m r le g = (text_rises n m r.log_id le g.0, g.1)

abbrev HelloGood : ℕ → ClientHello → Type 0
HelloGood n m = length m.client_id ≤ n

client_hello_keeps : Keeps client_hello HelloGood
client_hello_keeps = named_keeps (λ id. record { client_id = id }) (λ m. m.client_id) (single 1 text) TextGood HelloGood (text_row 1) (λ n id g. g)

client_hello_rises : Rises HelloGood
client_hello_rises n m h le g = text_rises n m h.client_id le g

abbrev ClientGood : ℕ → ClientMessage → Type 0
ClientGood n m = FitsClient m × ClientWithin n m

client_keeps : Keeps client_message (λ n o. IfSome o (ClientGood n))
client_keeps = oneof_keeps client_members ClientGood (
  member_good 1 (message accept_message) client.Accept has_accept AcceptGood ClientGood (message_good accept_message AcceptGood accept_keeps accept_rises) (λ n m g. ((g.0, entries_fit n m.info_msgs.entries g.1), entries_within n m.info_msgs.entries g.1)),
  (
    member_good 2 (message reject_message) client.Reject has_reject RejectGood ClientGood (message_good reject_message RejectGood reject_keeps reject_rises) (λ n m g. ((g.0, entries_fit n m.info_msgs.entries g.2), (g.1, entries_within n m.info_msgs.entries g.2))),
    (
      member_good 3 (message exit_message) client.Exit has_exit ExitGood ClientGood (message_good exit_message ExitGood exit_keeps exit_rises) (λ n m g. ((g.0, g.1), (g.2, g.3))),
      (
        member_good 4 (message restart_message) client.Restart has_restart RestartGood ClientGood (message_good restart_message RestartGood restart_keeps restart_rises) (λ n m g. (g.1, g.0)),
        (
          member_good 5 (message alert_message) client.Alert has_alert AlertGood ClientGood (message_good alert_message AlertGood alert_keeps alert_rises) (λ n m g. ((g.0, entries_fit n m.info_msgs.entries g.2), (g.1, entries_within n m.info_msgs.entries g.2))),
          (
            member_good 6 (message io_buffer) client.Ttyin has_ttyin BufferGood ClientGood (message_good io_buffer BufferGood buffer_keeps buffer_rises) (λ n m g. g),
            (
              member_good 7 (message io_buffer) client.Ttyout has_ttyout BufferGood ClientGood (message_good io_buffer BufferGood buffer_keeps buffer_rises) (λ n m g. g),
              (
                member_good 8 (message io_buffer) client.Stdin has_stdin BufferGood ClientGood (message_good io_buffer BufferGood buffer_keeps buffer_rises) (λ n m g. g),
                (
                  member_good 9 (message io_buffer) client.Stdout has_stdout BufferGood ClientGood (message_good io_buffer BufferGood buffer_keeps buffer_rises) (λ n m g. g),
                  (
                    member_good 10 (message io_buffer) client.Stderr has_stderr BufferGood ClientGood (message_good io_buffer BufferGood buffer_keeps buffer_rises) (λ n m g. g),
                    (
                      member_good 11 (message change_window_size) client.Winsize has_winsize SizeGood ClientGood (message_good change_window_size SizeGood size_keeps size_rises) (λ n m g. (g, tt)),
                      (
                        member_good 12 (message command_suspend) client.Suspend has_suspend SuspendGood ClientGood (message_good command_suspend SuspendGood suspend_keeps suspend_rises) (λ n m g. g),
                        (
                          member_good 13 (message client_hello) client.Hello has_client_hello HelloGood ClientGood (message_good client_hello HelloGood client_hello_keeps client_hello_rises) (λ n m g. (tt, g)),
                          tt,
                        ),
                      ),
                    ),
                  ),
                ),
              ),
            ),
          ),
        ),
      ),
    ),
  ),
)

typed_is : {A : Type 0} (reading : Result (Option A) MsgFault) (a : A) → typed reading ≡ Ok a → reading ≡ Ok (Some a)
typed_is (Ok (Some b)) a e = cc
typed_is (Ok None) a e = absurd cc
typed_is (Err fault) a e = absurd cc

pub client_fits : (bytes : List ℕ) (m : ClientMessage) → client_in bytes ≡ Ok m → FitsClient m × ClientWithin (length bytes) m
client_fits bytes m e = read_keeps client_message (λ n o. IfSome o (ClientGood n)) client_keeps bytes (Some m) (typed_is (read client_message bytes) m e)

-- ---- Messages of the server

abbrev ServerHelloGood : ℕ → ServerHello → Type 0
ServerHelloGood n m = (length m.server_id ≤ n) × (length m.redirect ≤ n) × TextsGood n m.servers

server_hello_keeps : Keeps server_hello ServerHelloGood
server_hello_keeps = named_keeps (λ p. record { server_id = p.0; redirect = p.1.0; servers = p.1.1.0; subcommands = p.1.1.1 }) (λ m. (m.server_id, (m.redirect, (m.servers, m.subcommands))))
    (single 1 text ⊗ (single 2 text ⊗ (repeated 3 text.kind ⊗ (single 4 flag)))) (Both TextGood (Both TextGood (Both TextsGood AnyFlag))) ServerHelloGood
    (both_keeps (single 1 text) (single 2 text ⊗ (repeated 3 text.kind ⊗ (single 4 flag))) TextGood (Both TextGood (Both TextsGood AnyFlag)) (text_row 1)
    (both_keeps (single 2 text) (repeated 3 text.kind ⊗ (single 4 flag)) TextGood (Both TextsGood AnyFlag) (text_row 2)
    (both_keeps (repeated 3 text.kind) (single 4 flag) TextsGood AnyFlag (texts_row 3) (flag_row 4))))
    (λ n p g. (g.0, g.1.0, g.1.1.0))

server_hello_rises : Rises ServerHelloGood
server_hello_rises n m h le g = (text_rises n m h.server_id le g.0, text_rises n m h.redirect le g.1, texts_rises n m h.servers le g.2)

abbrev ServerGood : ℕ → ServerMessage → Type 0
ServerGood n m = FitsServer m × ServerWithin n m

server_keeps : Keeps server_message (λ n o. IfSome o (ServerGood n))
server_keeps = oneof_keeps server_members ServerGood (
  member_good 1 (message server_hello) server.Hello has_server_hello ServerHelloGood ServerGood (message_good server_hello ServerHelloGood server_hello_keeps server_hello_rises) (λ n m g. (tt, (g.0, g.1, g.2))),
  (
    member_good 2 (message time_spec) server.CommitPoint has_commit_point TimeGood ServerGood (message_good time_spec TimeGood time_keeps time_rises) (λ n t g. (g, tt)),
    (
      member_good 3 text.kind server.LogId has_log_id TextGood ServerGood text_good (λ n t g. (tt, g)),
      (
        member_good 4 text.kind server.Error has_error TextGood ServerGood text_good (λ n t g. (tt, g)),
        (
          member_good 5 text.kind server.Abort has_abort TextGood ServerGood text_good (λ n t g. (tt, g)),
          tt,
        ),
      ),
    ),
  ),
)

pub server_fits : (bytes : List ℕ) (m : ServerMessage) → server_in bytes ≡ Ok m → FitsServer m × ServerWithin (length bytes) m
server_fits bytes m e = read_keeps server_message (λ n o. IfSome o (ServerGood n)) server_keeps bytes (Some m) (typed_is (read server_message bytes) m e)
