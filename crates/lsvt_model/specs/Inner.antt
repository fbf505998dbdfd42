-- What proofs alone need: no public clause cites it.
use Rattle.std.specs.Prelude.{◌≡◌, ℕ, Bool, true, ◌&&◌, ◌==◌, nat_lt, if◌then◌else◌, List, [], ◌∷◌, ◌++◌, Option, Some, None}
use Rattle.lsv_record.specs.Layout.{stream_in}
use Rattle.lsv_record.specs.Points.{Stored, one_more}
use Rattle.lsv_record.specs.declared.laid.Laid.{Laid}
use Rattle.lsv_record.specs.declared.records.Record.{Record}
use Rattle.lsv_record.specs.declared.records.Record.TheVariants.{Io, Winsize, Suspend}
use Rattle.lsv_request.specs.declared.refusal.Refusal.TheVariants.{LogFull}
use Rattle.lsv_request.specs.declared.request.Request.{Request}
use Rattle.lsv_request.specs.declared.request.Request.TheVariants as request
use Rattle.lsv_session.specs.declared.connection.ConnId.{ConnId}
use Rattle.lsv_machine.specs.Answers.{Answer, LogId, CommitPoint, Shut, say, refusal, farewell, is_refused}
use Rattle.lsv_machine.specs.Machine.{Machine, note, same}
use Rattle.lsv_machine.specs.Work.{Done, adds_line, fits_file, last_number, line_fits, next_number, refused}
use Rattle.lsvt_model.specs.Views.{settings_of}
use Rattle.lsvt_model.specs.declared.connections.Connection.{Connection}
use Rattle.lsvt_model.specs.declared.logs.Log.{Log}
use Rattle.lsvt_model.specs.declared.settings.RunSettings.{RunSettings}
use Rattle.lsvt_model.specs.declared.told.Told.{Told}
use Rattle.lsvt_model.specs.declared.told.Told.TheVariants as told

-- the answers of a job
abbrev pub answers_of : ConnId → Told → List Answer
answers_of k told.Nothing = []
answers_of k (told.Log n) = say k (LogId n) ∷ []
answers_of k (told.Refused why) = refusal k why
answers_of k (told.Finished point) = say k (CommitPoint point) ∷ say k Shut ∷ []
answers_of k told.Shut = say k Shut ∷ []
answers_of k told.Farewell = farewell k

-- what is done has these answers, and this machine
pub record Gives (d : Done) (k : ConnId) (t : Told) (m : Machine) : Type 0 where
  pub answers : answers_of k t ≡ d.answers
  pub machine : m ≡ d.machine

-- what is done, with an event line if there is one: where the event log is full, the connection is refused in another machine
abbrev pub noted : Option (List ℕ) → ConnId → (full old : Machine) → Done → Done
noted None k full old d = d
noted (Some line) k full old d =
    if is_refused d.answers then d
    else if line_fits line old then record { answers = d.answers; line = line; machine = adds_line k line d.machine }
    else refused k LogFull full

-- whether the event log takes a line, if there is one
abbrev pub fits_any : Option (List ℕ) → Machine → Bool
fits_any None m = true
fits_any (Some line) m = line_fits line m

-- the text of this turn's lines with one more, if there is one
abbrev pub fresh_with : Option (List ℕ) → List ℕ → List ℕ
fresh_with None fresh = fresh
fresh_with (Some line) fresh = fresh ++ line

-- those who had a line, and this connection, if it has one
abbrev pub noting_with : Option (List ℕ) → ConnId → List ConnId → List ConnId
noting_with None k noting = noting
noting_with (Some line) k noting = note k noting

-- the connection has left a line, if there is one
abbrev pub adds_any : ConnId → Option (List ℕ) → Machine → Machine
adds_any k line m = record m { fresh = fresh_with line m.fresh; noting = noting_with line k m.noting }

-- where the first entry with a key stands
abbrev pub place : {E K : Type 0} → (K → K → Bool) → (E → K) → List E → K → Option ℕ
place eq key [] k = None
place eq key (e ∷ entries) k = if eq k (key e) then Some 0 else one_more (place eq key entries k)

-- where the log of a number stands
abbrev pub log_place : List Log → ℕ → Option ℕ
log_place logs n = place (λ (i j : ℕ). i == j) (λ log. log.number) logs n

-- where a connection stands
abbrev pub connection_place : List Connection → ConnId → Option ℕ
connection_place connections k = place same (λ c. c.id) connections k

-- records, of which alone a log is made: its head, its exit and its cuts play no part in what its files take
abbrev pub bare : List Record → Stored
bare records = record { head = []; records = records; exit = None; cuts = 0 }

-- the number that the next accept draws
abbrev pub next_of : RunSettings → Machine → ℕ
next_of set m = next_number (settings_of set (λ now k asked log. [])) m

-- the same, where all numbers weren't given
abbrev pub drawn : RunSettings → Machine → Option ℕ
drawn set m = if nat_lt last_number (next_of set m) then None else Some (next_of set m)

-- a request that has no event line has none
abbrev pub IsLineOf : Request → Option (List ℕ) → Type 0
IsLineOf request.Hello line = line ≡ None
IsLineOf (request.Restart restart) line = line ≡ None
IsLineOf (request.Record r) line = line ≡ None
IsLineOf (request.Accept accept) line = Unit {0}
IsLineOf (request.Reject report) line = Unit {0}
IsLineOf (request.Alert report) line = Unit {0}
IsLineOf (request.Exit exit) line = Unit {0}

-- the file of a record's stream takes what it has in this layout
abbrev pub fits_stream : Laid → Record → Bool
fits_stream l (Io delay stream bytes) = fits_file (stream_in stream l)
fits_stream l (Winsize delay rows cols) = true
fits_stream l (Suspend delay signal) = true

-- the files that a record goes to take what they have in this layout
abbrev pub fits_files : Laid → Record → Bool
fits_files l r = fits_file l.timing && fits_stream l r
