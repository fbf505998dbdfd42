-- The lines that are printed of what the server sends.
use Rattle.std.specs.Prelude.{ℕ, List, [], ◌∷◌, ◌++◌, Option, Some, None, codes}
use Rattle.std.specs.List.{flat_map}
use Rattle.std.specs.Str.Lossy.{utf8_lossy}
use Rattle.lsv_base.specs.Time.{nanos_of}
use Rattle.lsv_msg.specs.declared.messages.ServerMessage.{ServerMessage}
use Rattle.lsv_msg.specs.declared.messages.ServerMessage.TheVariants as server
use Rattle.lsv_record.specs.Records.{seconds}
use Rattle.lsv_send.specs.Visible.{visible}

-- the line of an identifier: bytes that are no UTF-8 are shown as `String::from_utf8_lossy` shows them, and control characters by their numbers
abbrev pub id_line : List ℕ → List ℕ
id_line id = codes "id " ++ visible 0 (utf8_lossy id) ++ 10 ∷ []

-- the line of a commit point: its seconds, with nine digits after the point; none if it is no time
abbrev pub commit_line : Option ℕ → List ℕ
commit_line None = []
commit_line (Some nanos) = codes "commit " ++ seconds nanos ++ 10 ∷ []

-- an identifier and a commit point give a line each
abbrev pub line_of : ServerMessage → List ℕ
line_of (server.LogId id) = id_line id
line_of (server.CommitPoint time) = commit_line (nanos_of time)
line_of (server.Hello m) = []
line_of (server.Error text) = []
line_of (server.Abort text) = []

-- the lines of messages, in order
abbrev pub lines_of : List ServerMessage → List ℕ
lines_of messages = flat_map line_of messages
