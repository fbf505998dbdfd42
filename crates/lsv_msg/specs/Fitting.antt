-- What the fields of the messages hold: an int64 has 64 bits and an int32 has 32, and texts are no longer than their message.
use Rattle.std.specs.Prelude.{ℕ, ◌≤◌, length, IfSome, FitsSigned}
use Rattle.std.specs.List.{AllByRecursion}
use Rattle.std.specs.Int.{w32, w64}
use Rattle.lsv_base.specs.declared.time.TimeSpec.{TimeSpec}
use Rattle.lsv_info.specs.declared.info.Entry.{Entry}
use Rattle.lsv_info.specs.declared.info.Value.{Value}
use Rattle.lsv_info.specs.declared.info.Value.TheVariants as values
use Rattle.lsv_info.specs.Fitting.{FitsEntry}
use Rattle.lsv_msg.specs.declared.messages.ChangeWindowSize.{ChangeWindowSize}
use Rattle.lsv_msg.specs.declared.messages.ExitMessage.{ExitMessage}
use Rattle.lsv_msg.specs.declared.messages.ClientMessage.{ClientMessage}
use Rattle.lsv_msg.specs.declared.messages.ClientMessage.TheVariants as client
use Rattle.lsv_msg.specs.declared.messages.ServerMessage.{ServerMessage}
use Rattle.lsv_msg.specs.declared.messages.ServerMessage.TheVariants as server

abbrev pub FitsTime : TimeSpec → Type 0
FitsTime t = FitsSigned w64 t.sec × FitsSigned w32 t.nsec

abbrev pub FitsSize : ChangeWindowSize → Type 0
FitsSize m = IfSome m.delay FitsTime × FitsSigned w32 m.rows × FitsSigned w32 m.cols

abbrev pub FitsExit : ExitMessage → Type 0
FitsExit m = IfSome m.run_time FitsTime × FitsSigned w32 m.exit_value

abbrev pub FitsClient : ClientMessage → Type 0
FitsClient (client.Accept m) = IfSome m.submit_time FitsTime × AllByRecursion FitsEntry m.info_msgs.entries
FitsClient (client.Reject m) = IfSome m.submit_time FitsTime × AllByRecursion FitsEntry m.info_msgs.entries
FitsClient (client.Exit m) = FitsExit m
FitsClient (client.Restart m) = IfSome m.resume_point FitsTime
FitsClient (client.Alert m) = IfSome m.alert_time FitsTime × AllByRecursion FitsEntry m.info_msgs.entries
FitsClient (client.Ttyin m) = IfSome m.delay FitsTime
FitsClient (client.Ttyout m) = IfSome m.delay FitsTime
FitsClient (client.Stdin m) = IfSome m.delay FitsTime
FitsClient (client.Stdout m) = IfSome m.delay FitsTime
FitsClient (client.Stderr m) = IfSome m.delay FitsTime
FitsClient (client.Winsize m) = FitsSize m
FitsClient (client.Suspend m) = IfSome m.delay FitsTime
FitsClient (client.Hello m) = Unit {0}

abbrev pub FitsServer : ServerMessage → Type 0
FitsServer (server.CommitPoint t) = FitsTime t
FitsServer (server.Hello m) = Unit {0}
FitsServer (server.LogId id) = Unit {0}
FitsServer (server.Error message) = Unit {0}
FitsServer (server.Abort message) = Unit {0}

-- the texts of a value have at most this many bytes
abbrev pub ValueWithin : ℕ → Value → Type 0
ValueWithin n (values.Num number) = Unit {0}
ValueWithin n (values.Text text) = length text ≤ n
ValueWithin n (values.Texts texts) = AllByRecursion (λ text. length text ≤ n) texts
ValueWithin n (values.Nums numbers) = Unit {0}

abbrev pub EntryWithin : ℕ → Entry → Type 0
EntryWithin n e = (length e.key ≤ n) × ValueWithin n e.value

-- each text of a message, a record's data too, has at most this many bytes
abbrev pub ClientWithin : ℕ → ClientMessage → Type 0
ClientWithin n (client.Accept m) = AllByRecursion (EntryWithin n) m.info_msgs.entries
ClientWithin n (client.Reject m) = (length m.reason ≤ n) × AllByRecursion (EntryWithin n) m.info_msgs.entries
ClientWithin n (client.Exit m) = (length m.signal ≤ n) × (length m.error ≤ n)
ClientWithin n (client.Restart m) = length m.log_id ≤ n
ClientWithin n (client.Alert m) = (length m.reason ≤ n) × AllByRecursion (EntryWithin n) m.info_msgs.entries
ClientWithin n (client.Ttyin m) = length m.bytes ≤ n
ClientWithin n (client.Ttyout m) = length m.bytes ≤ n
ClientWithin n (client.Stdin m) = length m.bytes ≤ n
ClientWithin n (client.Stdout m) = length m.bytes ≤ n
ClientWithin n (client.Stderr m) = length m.bytes ≤ n
ClientWithin n (client.Winsize m) = Unit {0}
ClientWithin n (client.Suspend m) = length m.signal ≤ n
ClientWithin n (client.Hello m) = length m.client_id ≤ n

abbrev pub ServerWithin : ℕ → ServerMessage → Type 0
ServerWithin n (server.CommitPoint t) = Unit {0}
ServerWithin n (server.Hello m) = (length m.server_id ≤ n) × (length m.redirect ≤ n) × AllByRecursion (λ text. length text ≤ n) m.servers
ServerWithin n (server.LogId id) = length id ≤ n
ServerWithin n (server.Error message) = length message ≤ n
ServerWithin n (server.Abort message) = length message ≤ n
