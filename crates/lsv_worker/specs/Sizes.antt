-- An estimate of the memory that a job holds, in bytes.
use Rattle.std.specs.Prelude.{ℕ, ◌+◌, ◌-◌, ◌*◌, ◌^◌, List, length, min, sum_by}
use Rattle.lsv_info.specs.declared.info.Entry.{Entry}
use Rattle.lsv_info.specs.declared.info.Info.{Info}
use Rattle.lsv_info.specs.declared.info.Value.{Value}
use Rattle.lsv_info.specs.declared.info.Value.TheVariants.{Num, Text, Texts, Nums}
use Rattle.lsv_msg.specs.declared.messages.ClientMessage.{ClientMessage}
use Rattle.lsv_msg.specs.declared.messages.ClientMessage.TheVariants as client
use Rattle.lsv_session.specs.declared.job.Body.{Body}
use Rattle.lsv_session.specs.declared.job.Body.TheVariants.{Msg, Bad, Gone}
use Rattle.lsv_session.specs.declared.job.Job.{Job}

-- a text of a list takes its bytes, and 32 more
abbrev pub texts_bytes : List (List ℕ) → ℕ
texts_bytes texts = sum_by (λ text. 32 + length text) texts

-- a value takes its texts, or 8 for each number of a list
abbrev pub value_bytes : Value → ℕ
value_bytes (Num n) = 0
value_bytes (Text text) = length text
value_bytes (Texts texts) = texts_bytes texts
value_bytes (Nums numbers) = 8 * length numbers

-- an entry takes its key and its value, and 72 more
abbrev pub entry_bytes : Entry → ℕ
entry_bytes entry = 72 + length entry.key + value_bytes entry.value

-- a list of entries takes its entries
abbrev pub info_bytes : Info → ℕ
info_bytes info = sum_by entry_bytes info.entries

-- a message takes its entries, its texts and its data
abbrev pub message_bytes : ClientMessage → ℕ
message_bytes (client.Accept m) = info_bytes m.info_msgs
message_bytes (client.Reject m) = info_bytes m.info_msgs + length m.reason
message_bytes (client.Exit m) = length m.signal + length m.error
message_bytes (client.Restart m) = length m.log_id
message_bytes (client.Alert m) = info_bytes m.info_msgs + length m.reason
message_bytes (client.Ttyin m) = length m.bytes
message_bytes (client.Ttyout m) = length m.bytes
message_bytes (client.Stdin m) = length m.bytes
message_bytes (client.Stdout m) = length m.bytes
message_bytes (client.Stderr m) = length m.bytes
message_bytes (client.Winsize m) = 0
message_bytes (client.Suspend m) = length m.signal
message_bytes (client.Hello m) = length m.client_id

abbrev pub body_bytes : Body → ℕ
body_bytes (Msg message) = message_bytes message
body_bytes (Bad fault) = 0
body_bytes Gone = 0

-- a job takes what its message takes
abbrev pub job_bytes : Job → ℕ
job_bytes job = body_bytes job.body

-- a size as it is counted: at most the greatest number of 64 bits
abbrev pub counted : ℕ → ℕ
counted n = min n (2 ^ 64 - 1)
