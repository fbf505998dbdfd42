-- The tables of the messages read back what they write.
use Rattle.std.proofs.Common.{◌≡◌, ℕ, ◌^◌, ◌<◌, ◌≤◌, List, [], ◌∷◌, ◌++◌, length, drop, Option, Some, None, Result, Ok, refl, ap, arith}
use Rattle.std.specs.Prelude.{FitsSigned, IfSome}
use Rattle.std.specs.List.{AllByRecursion}
use Rattle.std.specs.Int.{w32, w64}
use Rattle.lsv_wire.specs.declared.field.Field.{Field}
use Rattle.lsv_base.specs.declared.time.TimeSpec.{TimeSpec}
use Rattle.lsv_info.specs.declared.info.Entry.{Entry}
use Rattle.lsv_info.specs.declared.info.Value.{Value}
use Rattle.lsv_info.specs.declared.info.Value.TheVariants as values
use Rattle.lsv_msg.specs.declared.messages.ClientMessage.{ClientMessage}
use Rattle.lsv_msg.specs.declared.messages.ServerMessage.{ServerMessage}
use Rattle.lsv_msg.specs.declared.messages.ClientMessage.TheVariants as client
use Rattle.lsv_msg.specs.declared.messages.ServerMessage.TheVariants as server
use Rattle.lsv_msg.specs.declared.fault.MsgFault.{MsgFault}
use Rattle.lsv_msg.specs.Format.{single, part, repeated, repeated_said, message, int64, int32, flag, text, typed, ◌⊗◌}
use Rattle.lsv_msg.specs.Messages.{time_spec, io_buffer, change_window_size, command_suspend, string_list, number_list, value_members, client_members, server_members, entry_value, entry_made, entry_parts, info_message, accept_message, reject_message, alert_message, exit_message, restart_message, client_hello, server_hello, client_message, server_message, client_in, client_bytes, server_in, server_bytes}
use Rattle.lsv_info.specs.Fitting.{FitsValue, FitsEntry}
use Rattle.lsv_msg.specs.Fitting.{FitsTime, FitsSize, FitsExit, FitsClient, FitsServer}
use Rattle.lsv_msg.proofs.Back.{WrittenIsRead, IsNumber, KindBack, Lawful, Acts, Found, read_back, message_back, single_lawful, part_lawful, both_lawful, named_lawful}
use Rattle.lsv_msg.proofs.Scalars.{int64_back, text_back, int64_again, int32_again, flag_again, text_again}
use Rattle.lsv_msg.proofs.Repeats.{repeated_lawful, said_lawful, numbers_lawful}
use Rattle.lsv_msg.proofs.Oneofs.{chosen_passes, member_found}

abbrev Any : {A : Type 0} → A → Type 0
Any a = Unit {0}

abbrev Both : {A B : Type 0} → (A → Type 0) → (B → Type 0) → A × B → Type 0
Both FitsA FitsB p = FitsA p.0 × FitsB p.1

abbrev FitsTimed : Option TimeSpec → Type 0
FitsTimed o = IfSome o FitsTime

small_number : (n : ℕ) → 1 ≤ n → n ≤ 13 → IsNumber n
small_number n first last = record { first = first; last = omega arith }

int64_row : WrittenIsRead → (n : ℕ) → IsNumber n → Lawful (single n int64) n n (FitsSigned w64)
int64_row w n is = single_lawful int64 (FitsSigned w64) (int64_again w) n is

int32_row : WrittenIsRead → (n : ℕ) → IsNumber n → Lawful (single n int32) n n (FitsSigned w32)
int32_row w n is = single_lawful int32 (FitsSigned w32) (int32_again w) n is

flag_row : WrittenIsRead → (n : ℕ) → IsNumber n → Lawful (single n flag) n n Any
flag_row w n is = single_lawful flag Any (flag_again w) n is

text_row : WrittenIsRead → (n : ℕ) → IsNumber n → Lawful (single n text) n n Any
text_row w n is = single_lawful text Any (text_again w) n is

number1 : IsNumber 1
number1 = small_number 1 (omega arith) (omega arith)

number2 : IsNumber 2
number2 = small_number 2 (omega arith) (omega arith)

number3 : IsNumber 3
number3 = small_number 3 (omega arith) (omega arith)

number4 : IsNumber 4
number4 = small_number 4 (omega arith) (omega arith)

number5 : IsNumber 5
number5 = small_number 5 (omega arith) (omega arith)

number6 : IsNumber 6
number6 = small_number 6 (omega arith) (omega arith)

number7 : IsNumber 7
number7 = small_number 7 (omega arith) (omega arith)

number8 : IsNumber 8
number8 = small_number 8 (omega arith) (omega arith)

number9 : IsNumber 9
number9 = small_number 9 (omega arith) (omega arith)

number10 : IsNumber 10
number10 = small_number 10 (omega arith) (omega arith)

number11 : IsNumber 11
number11 = small_number 11 (omega arith) (omega arith)

number12 : IsNumber 12
number12 = small_number 12 (omega arith) (omega arith)

number13 : IsNumber 13
number13 = small_number 13 (omega arith) (omega arith)

pub time_lawful : WrittenIsRead → Lawful time_spec 1 2 FitsTime
time_lawful w = named_lawful (λ p. record { sec = p.0; nsec = p.1 }) (λ t. (t.sec, t.nsec)) (single 1 int64 ⊗ (single 2 int32)) 1 2 (Both (FitsSigned w64) (FitsSigned w32)) FitsTime
    (both_lawful (single 1 int64) (single 2 int32) 1 1 2 2 (FitsSigned w64) (FitsSigned w32) (int64_row w 1 number1) (int32_row w 2 number2) (omega arith) (omega arith) (omega arith))
    (λ m. refl) (λ t fits. fits)

time_row : WrittenIsRead → (n : ℕ) → IsNumber n → Lawful (part n time_spec) n n FitsTimed
time_row w n is = part_lawful time_spec FitsTime (message_back w time_spec 1 2 FitsTime (time_lawful w)) n is

texts_row : WrittenIsRead → (n : ℕ) → IsNumber n → Lawful (repeated n text.kind) n n (AllByRecursion Any)
texts_row w n is = repeated_lawful text.kind Any (text_back w) n is

pub buffer_lawful : WrittenIsRead → Lawful io_buffer 1 2 (λ m. FitsTimed m.delay)
buffer_lawful w = named_lawful (λ p. record { delay = p.0; bytes = p.1 }) (λ b. (b.delay, b.bytes)) (part 1 time_spec ⊗ (single 2 text)) 1 2 (Both FitsTimed Any) (λ m. FitsTimed m.delay)
    (both_lawful (part 1 time_spec) (single 2 text) 1 1 2 2 FitsTimed Any (time_row w 1 number1) (text_row w 2 number2) (omega arith) (omega arith) (omega arith))
    (λ m. refl) (λ m fits. (fits, tt))

pub size_lawful : WrittenIsRead → Lawful change_window_size 1 3 FitsSize
size_lawful w = named_lawful (λ p. record { delay = p.0; rows = p.1.0; cols = p.1.1 }) (λ w. (w.delay, (w.rows, w.cols))) (part 1 time_spec ⊗ (single 2 int32 ⊗ (single 3 int32))) 1 3 (Both FitsTimed (Both (FitsSigned w32) (FitsSigned w32))) FitsSize
    (both_lawful (part 1 time_spec) (single 2 int32 ⊗ (single 3 int32)) 1 1 2 3 FitsTimed (Both (FitsSigned w32) (FitsSigned w32)) (time_row w 1 number1) (both_lawful (single 2 int32) (single 3 int32) 2 2 3 3 (FitsSigned w32) (FitsSigned w32) (int32_row w 2 number2) (int32_row w 3 number3) (omega arith) (omega arith) (omega arith)) (omega arith) (omega arith) (omega arith))
    (λ m. refl) (λ m fits. (fits.0, (fits.1, fits.2)))

pub suspend_lawful : WrittenIsRead → Lawful command_suspend 1 2 (λ m. FitsTimed m.delay)
suspend_lawful w = named_lawful (λ p. record { delay = p.0; signal = p.1 }) (λ s. (s.delay, s.signal)) (part 1 time_spec ⊗ (single 2 text)) 1 2 (Both FitsTimed Any) (λ m. FitsTimed m.delay)
    (both_lawful (part 1 time_spec) (single 2 text) 1 1 2 2 FitsTimed Any (time_row w 1 number1) (text_row w 2 number2) (omega arith) (omega arith) (omega arith))
    (λ m. refl) (λ m fits. (fits, tt))

any_all : {A : Type 0} (items : List A) → AllByRecursion Any items
any_all [] = tt
any_all (a ∷ items) = (tt, any_all items)

texts_back : WrittenIsRead → KindBack (message string_list) Any
texts_back w bytes rest at number items fits n small is = message_back w string_list 1 1 (AllByRecursion Any) (texts_row w 1 number1) bytes rest at number items (any_all items) n small is

nums_back : WrittenIsRead → KindBack (message number_list) (AllByRecursion (FitsSigned w64))
nums_back w = message_back w number_list 1 1 (AllByRecursion (FitsSigned w64)) (numbers_lawful w 1 number1)

abbrev FitsSomeValue : Option Value → Type 0
FitsSomeValue o = IfSome o FitsValue

value_back : {U : Type 0} → WrittenIsRead → (larger : ℕ → U → Field → Result U MsgFault) (put : Option Value → U) (bytes rest : List ℕ) (at : ℕ) (o : Option Value) → FitsSomeValue o → length bytes < 2 ^ 64
    → Acts (entry_value.take bytes) 2 5 larger put → drop at bytes ≡ entry_value.write o ++ rest → Found entry_value larger put bytes rest at o
value_back w larger put bytes rest at None fits small acts is = record { state = None; next = at; behind = is; whole = refl; same = refl }
value_back w larger put bytes rest at (Some (values.Num a)) fits small acts is =
    member_found value_members int64.kind (FitsSigned w64) (int64_back w) 2 2 5 number2 (omega arith) (omega arith) (values.Num a) larger put bytes rest at a fits small acts is (λ value e. rw e refl)
value_back w larger put bytes rest at (Some (values.Text a)) fits small acts is =
    member_found value_members text.kind Any (text_back w) 3 2 5 number3 (omega arith) (omega arith) (values.Text a) larger put bytes rest at a fits small acts is (λ value e. rw e refl)
value_back w larger put bytes rest at (Some (values.Texts a)) fits small acts is =
    member_found value_members (message string_list) Any (texts_back w) 4 2 5 number4 (omega arith) (omega arith) (values.Texts a) larger put bytes rest at a fits small acts is (λ value e. rw e refl)
value_back w larger put bytes rest at (Some (values.Nums a)) fits small acts is =
    member_found value_members (message number_list) (AllByRecursion (FitsSigned w64)) (nums_back w) 5 2 5 number5 (omega arith) (omega arith) (values.Nums a) larger put bytes rest at a fits small acts is (λ value e. rw e refl)

value_lawful : WrittenIsRead → Lawful entry_value 2 5 FitsSomeValue
value_lawful w = record {
  back = value_back w;
  passes = λ bytes key s f other. chosen_passes value_members 2 5 ((omega arith, omega arith), ((omega arith, omega arith), ((omega arith, omega arith), ((omega arith, omega arith), tt)))) bytes s f other;
}

-- an entry that has a value
abbrev FitsSaid : Option Entry → Type 0
FitsSaid (Some e) = FitsEntry e
FitsSaid None = Unit {0}

made_again : (o : Option Entry) → entry_made (entry_parts o) ≡ o
made_again (Some e) = refl
made_again None = refl

parts_fit : (o : Option Entry) → FitsSaid o → Any (entry_parts o).0 × FitsSomeValue (entry_parts o).1
parts_fit (Some e) fits = (tt, fits)
parts_fit None fits = (tt, tt)

entry_lawful : WrittenIsRead → Lawful info_message 1 5 FitsSaid
entry_lawful w = named_lawful entry_made entry_parts (single 1 text ⊗ entry_value) 1 5 (Both Any FitsSomeValue) FitsSaid
    (both_lawful (single 1 text) entry_value 1 1 2 5 Any FitsSomeValue (text_row w 1 number1) (value_lawful w) (omega arith) (omega arith) (omega arith))
    made_again parts_fit

entries_row : WrittenIsRead → (n : ℕ) → IsNumber n → Lawful (repeated_said n info_message) n n (AllByRecursion FitsEntry)
entries_row w n is = said_lawful info_message FitsEntry FitsSaid (message_back w info_message 1 5 FitsSaid (entry_lawful w)) (λ e fits. fits) n is

pub accept_lawful : WrittenIsRead → Lawful accept_message 1 3 (λ m. FitsTimed m.submit_time × AllByRecursion FitsEntry m.info_msgs.entries)
accept_lawful w = named_lawful (λ p. record { submit_time = p.0; info_msgs = record { entries = p.1.0 }; expect_iobufs = p.1.1 }) (λ m. (m.submit_time, (m.info_msgs.entries, m.expect_iobufs))) (part 1 time_spec ⊗ (repeated_said 2 info_message ⊗ (single 3 flag))) 1 3 (Both FitsTimed (Both (AllByRecursion FitsEntry) Any)) (λ m. FitsTimed m.submit_time × AllByRecursion FitsEntry m.info_msgs.entries)
    (both_lawful (part 1 time_spec) (repeated_said 2 info_message ⊗ (single 3 flag)) 1 1 2 3 FitsTimed (Both (AllByRecursion FitsEntry) Any) (time_row w 1 number1) (both_lawful (repeated_said 2 info_message) (single 3 flag) 2 2 3 3 (AllByRecursion FitsEntry) Any (entries_row w 2 number2) (flag_row w 3 number3) (omega arith) (omega arith) (omega arith)) (omega arith) (omega arith) (omega arith))
    (λ m. refl) (λ m fits. (fits.0, (fits.1, tt)))

pub reject_lawful : WrittenIsRead → Lawful reject_message 1 3 (λ m. FitsTimed m.submit_time × AllByRecursion FitsEntry m.info_msgs.entries)
reject_lawful w = named_lawful (λ p. record { submit_time = p.0; reason = p.1.0; info_msgs = record { entries = p.1.1 } }) (λ m. (m.submit_time, (m.reason, m.info_msgs.entries))) (part 1 time_spec ⊗ (single 2 text ⊗ (repeated_said 3 info_message))) 1 3 (Both FitsTimed (Both Any (AllByRecursion FitsEntry))) (λ m. FitsTimed m.submit_time × AllByRecursion FitsEntry m.info_msgs.entries)
    (both_lawful (part 1 time_spec) (single 2 text ⊗ (repeated_said 3 info_message)) 1 1 2 3 FitsTimed (Both Any (AllByRecursion FitsEntry)) (time_row w 1 number1) (both_lawful (single 2 text) (repeated_said 3 info_message) 2 2 3 3 Any (AllByRecursion FitsEntry) (text_row w 2 number2) (entries_row w 3 number3) (omega arith) (omega arith) (omega arith)) (omega arith) (omega arith) (omega arith))
    (λ m. refl) (λ m fits. (fits.0, (tt, fits.1)))

pub alert_lawful : WrittenIsRead → Lawful alert_message 1 3 (λ m. FitsTimed m.alert_time × AllByRecursion FitsEntry m.info_msgs.entries)
alert_lawful w = named_lawful (λ p. record { alert_time = p.0; reason = p.1.0; info_msgs = record { entries = p.1.1 } }) (λ m. (m.alert_time, (m.reason, m.info_msgs.entries))) (part 1 time_spec ⊗ (single 2 text ⊗ (repeated_said 3 info_message))) 1 3 (Both FitsTimed (Both Any (AllByRecursion FitsEntry))) (λ m. FitsTimed m.alert_time × AllByRecursion FitsEntry m.info_msgs.entries)
    (both_lawful (part 1 time_spec) (single 2 text ⊗ (repeated_said 3 info_message)) 1 1 2 3 FitsTimed (Both Any (AllByRecursion FitsEntry)) (time_row w 1 number1) (both_lawful (single 2 text) (repeated_said 3 info_message) 2 2 3 3 Any (AllByRecursion FitsEntry) (text_row w 2 number2) (entries_row w 3 number3) (omega arith) (omega arith) (omega arith)) (omega arith) (omega arith) (omega arith))
    (λ m. refl) (λ m fits. (fits.0, (tt, fits.1)))

pub exit_lawful : WrittenIsRead → Lawful exit_message 1 5 FitsExit
exit_lawful w = named_lawful (λ p. record { run_time = p.0; exit_value = p.1.0; dumped_core = p.1.1.0; signal = p.1.1.1.0; error = p.1.1.1.1 }) (λ m. (m.run_time, (m.exit_value, (m.dumped_core, (m.signal, m.error))))) (part 1 time_spec ⊗ (single 2 int32 ⊗ (single 3 flag ⊗ (single 4 text ⊗ (single 5 text))))) 1 5 (Both FitsTimed (Both (FitsSigned w32) (Both Any (Both Any Any)))) FitsExit
    (both_lawful (part 1 time_spec) (single 2 int32 ⊗ (single 3 flag ⊗ (single 4 text ⊗ (single 5 text)))) 1 1 2 5 FitsTimed (Both (FitsSigned w32) (Both Any (Both Any Any))) (time_row w 1 number1) (both_lawful (single 2 int32) (single 3 flag ⊗ (single 4 text ⊗ (single 5 text))) 2 2 3 5 (FitsSigned w32) (Both Any (Both Any Any)) (int32_row w 2 number2) (both_lawful (single 3 flag) (single 4 text ⊗ (single 5 text)) 3 3 4 5 Any (Both Any Any) (flag_row w 3 number3) (both_lawful (single 4 text) (single 5 text) 4 4 5 5 Any Any (text_row w 4 number4) (text_row w 5 number5) (omega arith) (omega arith) (omega arith)) (omega arith) (omega arith) (omega arith)) (omega arith) (omega arith) (omega arith)) (omega arith) (omega arith) (omega arith))
    (λ m. refl) (λ m fits. (fits.0, (fits.1, (tt, (tt, tt)))))

pub restart_lawful : WrittenIsRead → Lawful restart_message 1 2 (λ m. FitsTimed m.resume_point)
restart_lawful w = named_lawful (λ p. record { log_id = p.0; resume_point = p.1 }) (λ m. (m.log_id, m.resume_point)) (single 1 text ⊗ (part 2 time_spec)) 1 2 (Both Any FitsTimed) (λ m. FitsTimed m.resume_point)
    (both_lawful (single 1 text) (part 2 time_spec) 1 1 2 2 Any FitsTimed (text_row w 1 number1) (time_row w 2 number2) (omega arith) (omega arith) (omega arith))
    (λ m. refl) (λ m fits. (tt, fits))

pub client_hello_lawful : WrittenIsRead → Lawful client_hello 1 1 Any
client_hello_lawful w = named_lawful (λ id. record { client_id = id }) (λ m. m.client_id) (single 1 text) 1 1 Any Any
    (text_row w 1 number1)
    (λ m. refl) (λ m fits. tt)

pub server_hello_lawful : WrittenIsRead → Lawful server_hello 1 4 Any
server_hello_lawful w = named_lawful (λ p. record { server_id = p.0; redirect = p.1.0; servers = p.1.1.0; subcommands = p.1.1.1 }) (λ m. (m.server_id, (m.redirect, (m.servers, m.subcommands)))) (single 1 text ⊗ (single 2 text ⊗ (repeated 3 text.kind ⊗ (single 4 flag)))) 1 4 (Both Any (Both Any (Both (AllByRecursion Any) Any))) Any
    (both_lawful (single 1 text) (single 2 text ⊗ (repeated 3 text.kind ⊗ (single 4 flag))) 1 1 2 4 Any (Both Any (Both (AllByRecursion Any) Any)) (text_row w 1 number1) (both_lawful (single 2 text) (repeated 3 text.kind ⊗ (single 4 flag)) 2 2 3 4 Any (Both (AllByRecursion Any) Any) (text_row w 2 number2) (both_lawful (repeated 3 text.kind) (single 4 flag) 3 3 4 4 (AllByRecursion Any) Any (texts_row w 3 number3) (flag_row w 4 number4) (omega arith) (omega arith) (omega arith)) (omega arith) (omega arith) (omega arith)) (omega arith) (omega arith) (omega arith))
    (λ m. refl) (λ m fits. (tt, (tt, (any_all m.servers, tt))))

abbrev SomeFitsClient : Option ClientMessage → Type 0
SomeFitsClient o = IfSome o FitsClient

client_back : {U : Type 0} → WrittenIsRead → (larger : ℕ → U → Field → Result U MsgFault) (put : Option ClientMessage → U) (bytes rest : List ℕ) (at : ℕ) (o : Option ClientMessage) → SomeFitsClient o → length bytes < 2 ^ 64
    → Acts (client_message.take bytes) 1 13 larger put → drop at bytes ≡ client_message.write o ++ rest → Found client_message larger put bytes rest at o
client_back w larger put bytes rest at None fits small acts is = record { state = None; next = at; behind = is; whole = refl; same = refl }
client_back w larger put bytes rest at (Some (client.Accept a)) fits small acts is =
    member_found client_members (message accept_message) (λ m. FitsTimed m.submit_time × AllByRecursion FitsEntry m.info_msgs.entries) (message_back w accept_message 1 3 (λ m. FitsTimed m.submit_time × AllByRecursion FitsEntry m.info_msgs.entries) (accept_lawful w)) 1 1 13 number1 (omega arith) (omega arith) (client.Accept a) larger put bytes rest at a fits small acts is (λ value e. rw e refl)
client_back w larger put bytes rest at (Some (client.Reject a)) fits small acts is =
    member_found client_members (message reject_message) (λ m. FitsTimed m.submit_time × AllByRecursion FitsEntry m.info_msgs.entries) (message_back w reject_message 1 3 (λ m. FitsTimed m.submit_time × AllByRecursion FitsEntry m.info_msgs.entries) (reject_lawful w)) 2 1 13 number2 (omega arith) (omega arith) (client.Reject a) larger put bytes rest at a fits small acts is (λ value e. rw e refl)
client_back w larger put bytes rest at (Some (client.Exit a)) fits small acts is =
    member_found client_members (message exit_message) FitsExit (message_back w exit_message 1 5 FitsExit (exit_lawful w)) 3 1 13 number3 (omega arith) (omega arith) (client.Exit a) larger put bytes rest at a fits small acts is (λ value e. rw e refl)
client_back w larger put bytes rest at (Some (client.Restart a)) fits small acts is =
    member_found client_members (message restart_message) (λ m. FitsTimed m.resume_point) (message_back w restart_message 1 2 (λ m. FitsTimed m.resume_point) (restart_lawful w)) 4 1 13 number4 (omega arith) (omega arith) (client.Restart a) larger put bytes rest at a fits small acts is (λ value e. rw e refl)
client_back w larger put bytes rest at (Some (client.Alert a)) fits small acts is =
    member_found client_members (message alert_message) (λ m. FitsTimed m.alert_time × AllByRecursion FitsEntry m.info_msgs.entries) (message_back w alert_message 1 3 (λ m. FitsTimed m.alert_time × AllByRecursion FitsEntry m.info_msgs.entries) (alert_lawful w)) 5 1 13 number5 (omega arith) (omega arith) (client.Alert a) larger put bytes rest at a fits small acts is (λ value e. rw e refl)
client_back w larger put bytes rest at (Some (client.Ttyin a)) fits small acts is =
    member_found client_members (message io_buffer) (λ m. FitsTimed m.delay) (message_back w io_buffer 1 2 (λ m. FitsTimed m.delay) (buffer_lawful w)) 6 1 13 number6 (omega arith) (omega arith) (client.Ttyin a) larger put bytes rest at a fits small acts is (λ value e. rw e refl)
client_back w larger put bytes rest at (Some (client.Ttyout a)) fits small acts is =
    member_found client_members (message io_buffer) (λ m. FitsTimed m.delay) (message_back w io_buffer 1 2 (λ m. FitsTimed m.delay) (buffer_lawful w)) 7 1 13 number7 (omega arith) (omega arith) (client.Ttyout a) larger put bytes rest at a fits small acts is (λ value e. rw e refl)
client_back w larger put bytes rest at (Some (client.Stdin a)) fits small acts is =
    member_found client_members (message io_buffer) (λ m. FitsTimed m.delay) (message_back w io_buffer 1 2 (λ m. FitsTimed m.delay) (buffer_lawful w)) 8 1 13 number8 (omega arith) (omega arith) (client.Stdin a) larger put bytes rest at a fits small acts is (λ value e. rw e refl)
client_back w larger put bytes rest at (Some (client.Stdout a)) fits small acts is =
    member_found client_members (message io_buffer) (λ m. FitsTimed m.delay) (message_back w io_buffer 1 2 (λ m. FitsTimed m.delay) (buffer_lawful w)) 9 1 13 number9 (omega arith) (omega arith) (client.Stdout a) larger put bytes rest at a fits small acts is (λ value e. rw e refl)
client_back w larger put bytes rest at (Some (client.Stderr a)) fits small acts is =
    member_found client_members (message io_buffer) (λ m. FitsTimed m.delay) (message_back w io_buffer 1 2 (λ m. FitsTimed m.delay) (buffer_lawful w)) 10 1 13 number10 (omega arith) (omega arith) (client.Stderr a) larger put bytes rest at a fits small acts is (λ value e. rw e refl)
client_back w larger put bytes rest at (Some (client.Winsize a)) fits small acts is =
    member_found client_members (message change_window_size) FitsSize (message_back w change_window_size 1 3 FitsSize (size_lawful w)) 11 1 13 number11 (omega arith) (omega arith) (client.Winsize a) larger put bytes rest at a fits small acts is (λ value e. rw e refl)
client_back w larger put bytes rest at (Some (client.Suspend a)) fits small acts is =
    member_found client_members (message command_suspend) (λ m. FitsTimed m.delay) (message_back w command_suspend 1 2 (λ m. FitsTimed m.delay) (suspend_lawful w)) 12 1 13 number12 (omega arith) (omega arith) (client.Suspend a) larger put bytes rest at a fits small acts is (λ value e. rw e refl)
client_back w larger put bytes rest at (Some (client.Hello a)) fits small acts is =
    member_found client_members (message client_hello) Any (message_back w client_hello 1 1 Any (client_hello_lawful w)) 13 1 13 number13 (omega arith) (omega arith) (client.Hello a) larger put bytes rest at a fits small acts is (λ value e. rw e refl)

client_lawful : WrittenIsRead → Lawful client_message 1 13 SomeFitsClient
client_lawful w = record {
  back = client_back w;
  passes = λ bytes key s f other. chosen_passes client_members 1 13 ((omega arith, omega arith), ((omega arith, omega arith), ((omega arith, omega arith), ((omega arith, omega arith), ((omega arith, omega arith), ((omega arith, omega arith), ((omega arith, omega arith), ((omega arith, omega arith), ((omega arith, omega arith), ((omega arith, omega arith), ((omega arith, omega arith), ((omega arith, omega arith), ((omega arith, omega arith), tt))))))))))))) bytes s f other;
}

pub client_again : WrittenIsRead → (m : ClientMessage) → FitsClient m → length (client_bytes m) < 2 ^ 64 → client_in (client_bytes m) ≡ Ok m
client_again w m fits small = ap typed (read_back w client_message 1 13 SomeFitsClient (client_lawful w) (Some m) fits small)

abbrev SomeFitsServer : Option ServerMessage → Type 0
SomeFitsServer o = IfSome o FitsServer

server_back : {U : Type 0} → WrittenIsRead → (larger : ℕ → U → Field → Result U MsgFault) (put : Option ServerMessage → U) (bytes rest : List ℕ) (at : ℕ) (o : Option ServerMessage) → SomeFitsServer o → length bytes < 2 ^ 64
    → Acts (server_message.take bytes) 1 5 larger put → drop at bytes ≡ server_message.write o ++ rest → Found server_message larger put bytes rest at o
server_back w larger put bytes rest at None fits small acts is = record { state = None; next = at; behind = is; whole = refl; same = refl }
server_back w larger put bytes rest at (Some (server.Hello a)) fits small acts is =
    member_found server_members (message server_hello) Any (message_back w server_hello 1 4 Any (server_hello_lawful w)) 1 1 5 number1 (omega arith) (omega arith) (server.Hello a) larger put bytes rest at a fits small acts is (λ value e. rw e refl)
server_back w larger put bytes rest at (Some (server.CommitPoint a)) fits small acts is =
    member_found server_members (message time_spec) FitsTime (message_back w time_spec 1 2 FitsTime (time_lawful w)) 2 1 5 number2 (omega arith) (omega arith) (server.CommitPoint a) larger put bytes rest at a fits small acts is (λ value e. rw e refl)
server_back w larger put bytes rest at (Some (server.LogId a)) fits small acts is =
    member_found server_members text.kind Any (text_back w) 3 1 5 number3 (omega arith) (omega arith) (server.LogId a) larger put bytes rest at a fits small acts is (λ value e. rw e refl)
server_back w larger put bytes rest at (Some (server.Error a)) fits small acts is =
    member_found server_members text.kind Any (text_back w) 4 1 5 number4 (omega arith) (omega arith) (server.Error a) larger put bytes rest at a fits small acts is (λ value e. rw e refl)
server_back w larger put bytes rest at (Some (server.Abort a)) fits small acts is =
    member_found server_members text.kind Any (text_back w) 5 1 5 number5 (omega arith) (omega arith) (server.Abort a) larger put bytes rest at a fits small acts is (λ value e. rw e refl)

server_lawful : WrittenIsRead → Lawful server_message 1 5 SomeFitsServer
server_lawful w = record {
  back = server_back w;
  passes = λ bytes key s f other. chosen_passes server_members 1 5 ((omega arith, omega arith), ((omega arith, omega arith), ((omega arith, omega arith), ((omega arith, omega arith), ((omega arith, omega arith), tt))))) bytes s f other;
}

pub server_again : WrittenIsRead → (m : ServerMessage) → FitsServer m → length (server_bytes m) < 2 ^ 64 → server_in (server_bytes m) ≡ Ok m
server_again w m fits small = ap typed (read_back w server_message 1 5 SomeFitsServer (server_lawful w) (Some m) fits small)
