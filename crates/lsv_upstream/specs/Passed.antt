-- What one connection sends of a log while it writes it, whatever it sends: as a session that is passed on while it runs.
use Rattle.std.specs.Prelude.{◌≡◌, ◌<◌, ◌+◌, ◌-◌, ◌==◌, ◌&&◌, ◌⊎◌, ℕ, if◌then◌else◌, List, [], ◌∷◌, ◌++◌, length, Some, Result, Ok, Err}
use Rattle.lsv_record.specs.Points.{first}
use Rattle.lsv_record.specs.Records.{elapsed}
use Rattle.lsv_record.specs.declared.records.Record.{Record}
use Rattle.lsv_request.specs.declared.refusal.Refusal.{Refusal}
use Rattle.lsv_request.specs.declared.request.Request.{Request}
use Rattle.lsv_request.specs.declared.request.Request.TheVariants as request
use Rattle.lsv_session.specs.declared.connection.ConnId.{ConnId}
use Rattle.lsv_session.specs.declared.job.Body.{Body}
use Rattle.lsv_machine.specs.Answers.{Answer, is_silent}
use Rattle.lsv_machine.specs.History.{Ledger, request_in, tells_log}
use Rattle.lsv_machine.specs.Machine.{same}
use Rattle.lsv_machine.specs.Turns.{Happened, Happened.Did, Happened.Tailed, Happened.Begins}
use Rattle.lsv_upstream.specs.Held.{PromisesAtLeast}

-- what a connection has sent of a log
pub data HasSent : Type 0 where
  -- nothing: it neither opened the log nor went on with it
  Nothing : HasSent
  -- the records since it opened the log
  Opened : (rs : List Record) → HasSent
  -- the records since it last went on with the log, at a point
  Resumed : (point : ℕ) (rs : List Record) → HasSent

-- the same with one record more
abbrev pub one_more_sent : Record → HasSent → HasSent
one_more_sent r Nothing = Nothing
one_more_sent r (Opened rs) = Opened (rs ++ r ∷ [])
one_more_sent r (Resumed point rs) = Resumed point (rs ++ r ∷ [])

-- what a request with these answers adds to it. An accept that gets the log's number opens it. A restart without an answer goes on with it. A record without an answer is sent.
abbrev pub sent_by : ℕ → Result Request Refusal → List Answer → HasSent → HasSent
sent_by n (Ok (request.Accept accept)) answers s = if tells_log n answers then Opened [] else s
sent_by n (Ok (request.Restart restart)) answers s = if (restart.log == n) && is_silent answers then Resumed restart.point [] else s
sent_by n (Ok (request.Record r)) answers s = if is_silent answers then one_more_sent r s else s
sent_by n (Ok (request.Exit exit)) answers s = s
sent_by n (Ok request.Hello) answers s = s
sent_by n (Ok (request.Reject report)) answers s = s
sent_by n (Ok (request.Alert report)) answers s = s
sent_by n (Err why) answers s = s

-- what a connection has sent of log n after these events, which follow what it had sent before
abbrev pub sent_after : ℕ → ConnId → HasSent → List Happened → HasSent
sent_after n k s [] = s
sent_after n k s (Did act ∷ h) = sent_after n k (if same act.job.conn k then sent_by n (request_in act.job.body) act.answers s else s) h
sent_after n k s (Tailed tail ∷ h) = sent_after n k s h
sent_after n k s (Begins texts ∷ h) = sent_after n k s h

-- what a connection has sent of log n in these first events of a run
abbrev pub sent_in : ℕ → ConnId → List Happened → HasSent
sent_in n k past = sent_after n k Nothing past

-- the record that a request asks to store, if it does
abbrev pub record_asked : Result Request Refusal → List Record
record_asked (Ok (request.Record r)) = r ∷ []
record_asked (Ok (request.Accept accept)) = []
record_asked (Ok (request.Restart restart)) = []
record_asked (Ok (request.Exit exit)) = []
record_asked (Ok request.Hello) = []
record_asked (Ok (request.Reject report)) = []
record_asked (Ok (request.Alert report)) = []
record_asked (Err why) = []

-- the records that these jobs ask to store, in order
abbrev pub records_of : List Body → List Record
records_of [] = []
records_of (b ∷ bodies) = record_asked (request_in b) ++ records_of bodies

-- a connection has sent these records: all since it opened the log, or since it went on with it at a point
abbrev pub HasSentAll : List Record → HasSent → Type 0
HasSentAll rs s = (s ≡ Opened rs) ⊎ ((point : ℕ) × (s ≡ Resumed point rs))

-- these records were sent of the log after others, which end at a point
pub record HoldsAfter (start : ℕ) (rs : List Record) (point : ℕ) (l : Ledger) : Type 0 where
  -- the others
  pub base : List Record
  pub sent_is : l.sent ≡ base ++ rs
  pub ends : elapsed base ≡ start
  -- the commit point is the elapsed time of all
  pub reaches : point ≡ start + elapsed rs
  -- if it is above the point, these are promised through the first that reaches it
  pub promises : (f : ℕ) → start < point → first rs (point - start) ≡ Some f → PromisesAtLeast l (length base + f)
