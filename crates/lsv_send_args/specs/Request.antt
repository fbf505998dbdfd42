-- What the words of the command line ask for, or which of their values or rules is broken first.
use Rattle.std.specs.Prelude.{ℕ, List, [], ◌∷◌, ◌++◌, Option, Some, None, Bool, true, false, Result, Ok, Err, unwrap_or, option_map, codes, if◌then◌else◌}
use Rattle.std.specs.Option.{option_map_or}
use Rattle.clap.specs.Simple.{matches_of}
use Rattle.clap.specs.Walk.{Row, first_of}
use Rattle.lsv_replay_args.specs.Decimal.{billionths}
use Rattle.lsv_replay_args.specs.Request.{is_set_text}
use Rattle.lsv_send_args.specs.Port.{is_port}
use Rattle.lsv_send_args.specs.Program.{program}
use Rattle.lsv_send_args.specs.declared.fault.Unfit.{Unfit}
use Rattle.lsv_send_args.specs.declared.fault.Unfit.TheVariants.{Port, ResumePoint, StopPoint, IdAlone, PointAlone, AcceptAndReject, AloneWithId, AloneWithPoint, AloneWithStop}

-- ---- What is asked for

-- a log of the server that is gone on with: its identifier there, and the elapsed time after which it goes on
pub record Goes : Type 0 where
  pub id : List ℕ
  pub point : ℕ

-- what is sent of a log
pub data Sending : Type 0 where
  -- its records, anew or after a resume point, and with an elapsed time those up to it
  Records : (goes : Option Goes) (stop : Option ℕ) → Sending
  -- its accept alone
  Accept : Sending
  -- a reject with this reason
  Reject : (reason : List ℕ) → Sending

-- what is asked for: the folder of the logs, the server, what is sent, and the identifier of the log
pub record Asked : Type 0 where
  pub dir : List ℕ
  pub server : List ℕ
  pub what : Sending
  pub number : List ℕ

-- ---- Rules between options

-- records are sent: `-i` and `-r` need each other
abbrev pub records_of : (id : Option (List ℕ)) (resume stop : Option ℕ) → Result Sending Unfit
records_of None None stop = Ok (Records None stop)
records_of (Some id) (Some point) stop = Ok (Records (Some (record { id = id; point = point })) stop)
records_of (Some id) None stop = Err IdAlone
records_of None (Some point) stop = Err PointAlone

-- no record is sent: neither `-i` with `-r` nor `-s` is taken
abbrev pub alone : Sending → (id : Option (List ℕ)) (resume stop : Option ℕ) → Result Sending Unfit
alone what None None None = Ok what
alone what (Some id) resume stop = Err AloneWithId
alone what None (Some point) stop = Err AloneWithPoint
alone what None None (Some stop) = Err AloneWithStop

-- `-A` and `-R` exclude each other
abbrev pub what_of : (accept : Bool) (reject id : Option (List ℕ)) (resume stop : Option ℕ) → Result Sending Unfit
what_of false None id resume stop = records_of id resume stop
what_of true None id resume stop = alone Accept id resume stop
what_of false (Some reason) id resume stop = alone (Reject reason) id resume stop
what_of true (Some reason) id resume stop = Err AcceptAndReject

-- ---- Values

-- the value of an option
abbrev pub value_of : List Row → List ℕ → Option (List ℕ)
value_of rows id = first_of id rows

-- a point that is given is read
abbrev pub point_of : Option (List ℕ) → Unfit → Result (Option ℕ) Unfit
point_of None unfit = Ok None
point_of (Some text) unfit = read (billionths text)
  where
    read : Option ℕ → Result (Option ℕ) Unfit
    read None = Err unfit
    read (Some point) = Ok (Some point)

-- one after another, until one is out of its form
abbrev pub and_then : {A B : Type 0} → Result A Unfit → (A → Result B Unfit) → Result B Unfit
and_then (Ok a) next = next a
and_then (Err unfit) next = Err unfit

abbrev pub port_of : List Row → List ℕ
port_of rows = unwrap_or (value_of rows (codes "port")) (codes "30343")

-- the server: the host, a colon and the port
abbrev pub server_of : List Row → List ℕ
server_of rows = unwrap_or (value_of rows (codes "host")) (codes "localhost") ++ (58 ∷ port_of rows)

-- what is sent, when both points are read
abbrev pub sending_of : List Row → Result Sending Unfit
sending_of rows =
    and_then (point_of (value_of rows (codes "resume")) ResumePoint) (λ resume. and_then (point_of (value_of rows (codes "stop")) StopPoint) (λ stop.
    what_of (is_set_text rows (codes "accept")) (value_of rows (codes "reject")) (value_of rows (codes "id")) resume stop))

-- what is asked for when this is sent
abbrev pub asked_with : List Row → Sending → Asked
asked_with rows what = record {
  dir = unwrap_or (value_of rows (codes "dir")) (codes "/var/log/sudo-io");
  server = server_of rows;
  what = what;
  number = unwrap_or (value_of rows (codes "number")) [];
}

-- what is asked for: the port is judged first, then the points, then the rules between options
abbrev pub asked_by : List Row → Result Asked Unfit
asked_by rows = if is_port (port_of rows) then and_then (sending_of rows) (λ what. Ok (asked_with rows what)) else Err Port

-- what words ask for that clap doesn't refuse
abbrev pub asked : List (List ℕ) → Result Asked Unfit
asked words = asked_by (matches_of program words)
