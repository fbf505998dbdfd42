-- What a history says of one log, by jobs, answers and marks alone: who writes it, what was sent, what was promised.
use Rattle.std.specs.Prelude.{◌==◌, ◌&&◌, ◌||◌, ℕ, min, Bool, true, false, not, if◌then◌else◌, List, [], ◌∷◌, ◌++◌, length, Option, Some, None, unwrap_or, Result, Ok, Err}
use Rattle.std.specs.List.{list_any}
use Rattle.lsv_info.specs.Layout.{head_text, exit_text}
use Rattle.lsv_mask.specs.Masking.{covered}
use Rattle.lsv_record.specs.Points.{first, kept, cut}
use Rattle.lsv_record.specs.declared.records.Record.{Record}
use Rattle.lsv_request.specs.Requests.{request_of}
use Rattle.lsv_request.specs.declared.refusal.Refusal.{Refusal}
use Rattle.lsv_request.specs.declared.refusal.Refusal.TheVariants as refusals
use Rattle.lsv_request.specs.declared.request.Request.{Request}
use Rattle.lsv_request.specs.declared.request.Request.TheVariants as request
use Rattle.lsv_session.specs.declared.connection.ConnId.{ConnId}
use Rattle.lsv_session.specs.declared.job.Body.{Body}
use Rattle.lsv_session.specs.declared.job.Body.TheVariants as body
use Rattle.lsv_machine.specs.Answers.{Answer, Saying, Saying.LogId, Saying.CommitPoint, Saying.Error, Saying.Shut, is_silent}
use Rattle.lsv_machine.specs.Machine.{same, without_conn}
use Rattle.lsv_machine.specs.Turns.{Happened, Happened.Did, Happened.Tailed, Happened.Begins, raised}

-- what a history says of one log
pub record Ledger : Type 0 where
  -- the texts of the run
  pub texts : List (List ℕ)
  -- whether a Shut went to a connection since the later of its last Gone and the run's start
  pub shut : ConnId → Bool
  -- who writes the log
  pub writers : List ConnId
  -- the head of the accept that was answered by the log's number
  pub head : List ℕ
  -- what the writers sent and a restart has not cut off
  pub sent : List Record
  -- the same as it is masked
  pub shown : List Record
  -- how many of these are promised: none until the log's number was answered
  pub promised : Option ℕ
  -- the last exit of a writer, since the last restart that was accepted
  pub exit : Option (List ℕ)
  -- whether a commit point has answered an exit since the log's number was answered
  pub finished : Bool

-- before anything
abbrev pub blank : Ledger
blank = record { texts = []; shut = λ k. false; writers = []; head = []; sent = []; shown = []; promised = None; exit = None; finished = false }

-- whether the connection writes the log
abbrev pub writes : Ledger → ConnId → Bool
writes l k = list_any (same k) l.writers

-- ---- A job

-- whether this answers the number of log n
abbrev pub is_log_id : ℕ → Saying → Bool
is_log_id n (LogId i) = i == n
is_log_id n (CommitPoint point) = false
is_log_id n (Error why) = false
is_log_id n Shut = false

-- whether these answers tell the number of log n
abbrev pub tells_log : ℕ → List Answer → Bool
tells_log n answers = list_any (λ a. is_log_id n a.says) answers

-- if any number of records is promised, it becomes this one
abbrev pub becomes : Option ℕ → ℕ → Option ℕ
becomes None n = None
becomes (Some promised) n = Some n

-- a commit point at a point promises the records through the first that ends there
abbrev pub raised_to : Option ℕ → List Record → ℕ → Option ℕ
raised_to None records point = None
raised_to (Some promised) records point = Some (raised promised records point)

-- a cut at a point that failed promises no record after the first that ends there
abbrev pub lowered_to : Option ℕ → List Record → ℕ → Option ℕ
lowered_to None records point = None
lowered_to (Some promised) records point = Some (min promised (unwrap_or (first records point) promised))

-- a connection opened the log: it writes it, unless it was shut
abbrev pub opened_by : ConnId → List ℕ → Ledger → Ledger
opened_by k head l = record l {
  writers = if l.shut k then l.writers else k ∷ l.writers;
  head = head;
  sent = [];
  shown = [];
  promised = Some 0;
  exit = None;
  finished = false;
}

-- a connection writes the log from a point on: what was sent is cut there, and an exit that was asked for before is none any more
abbrev pub resumed_by : ConnId → ℕ → Ledger → Ledger
resumed_by k point l = record l {
  writers = k ∷ l.writers;
  sent = cut l.sent point;
  shown = cut l.shown point;
  promised = becomes l.promised (kept l.shown point);
  exit = None;
}

-- a restart of the log: accepted where it has no answer and the connection wasn't shut, or marked as failed inside its cut
abbrev pub restarted_by : ConnId → ℕ → List Answer → Bool → Ledger → Ledger
restarted_by k point answers in_cut l =
    if is_silent answers then (if l.shut k then l else resumed_by k point l)
    else if in_cut then record l { promised = lowered_to l.promised l.shown point }
    else l

-- a record was sent
abbrev pub sent_one : Record → Ledger → Ledger
sent_one r l = record l { sent = l.sent ++ r ∷ []; shown = l.shown ++ covered l.texts l.shown r ∷ [] }

-- what a request changes, by how it was answered
abbrev pub asked : ℕ → ConnId → Result Request Refusal → List Answer → Bool → Ledger → Ledger
asked n k (Ok (request.Accept accept)) answers in_cut l = if tells_log n answers then opened_by k (head_text accept.head) l else l
asked n k (Ok (request.Restart restart)) answers in_cut l = if restart.log == n then restarted_by k restart.point answers in_cut l else l
asked n k (Ok (request.Record r)) answers in_cut l = if is_silent answers && writes l k then sent_one r l else l
asked n k (Ok (request.Exit exit)) answers in_cut l = if writes l k then record l { exit = Some (exit_text exit) } else l
asked n k (Ok request.Hello) answers in_cut l = l
asked n k (Ok (request.Reject report)) answers in_cut l = l
asked n k (Ok (request.Alert report)) answers in_cut l = l
asked n k (Err why) answers in_cut l = l

-- what a job's body asks, whatever the session's state
abbrev pub request_in : Body → Result Request Refusal
request_in (body.Msg message) = request_of message
request_in (body.Bad fault) = Err refusals.MalformedMessage
request_in body.Gone = Err refusals.MalformedMessage

-- whether an exit is asked for
abbrev pub is_exit : Result Request Refusal → Bool
is_exit (Ok (request.Exit exit)) = true
is_exit what = false

-- whether the connection went
abbrev pub is_gone : Body → Bool
is_gone (body.Msg message) = false
is_gone (body.Bad fault) = false
is_gone body.Gone = true

-- ---- Answers

-- what is told. exits: it answers an exit
abbrev pub heard : Bool → ConnId → Saying → Ledger → Ledger
heard exits k (CommitPoint point) l =
    if writes l k then record l {
      promised = if exits then becomes l.promised (length l.shown) else raised_to l.promised l.shown point;
      finished = l.finished || exits;
    } else l
heard exits k Shut l = record l { shut = λ j. if same j k then true else l.shut j; writers = without_conn k l.writers }
heard exits k (LogId i) l = l
heard exits k (Error why) l = l

-- the same, one after another
abbrev pub heard_all : Bool → List Answer → Ledger → Ledger
heard_all exits [] l = l
heard_all exits (a ∷ answers) l = heard_all exits answers (heard exits a.conn a.says l)

-- a connection that went may be heard of again
abbrev pub reopened : ConnId → Bool → Ledger → Ledger
reopened k true l = record l { shut = λ j. if same j k then false else l.shut j }
reopened k false l = l

-- what a job changes: by its request, by what is told, and where the connection went
abbrev pub answered : ℕ → ConnId → Body → List Answer → Bool → Ledger → Ledger
answered n k body answers in_cut l = reopened k (is_gone body) (heard_all (is_exit (request_in body)) answers (asked n k (request_in body) answers in_cut l))

-- ---- A history

-- what happens is noted in the ledger of log n
abbrev pub noted : ℕ → Ledger → Happened → Ledger
noted n l (Did act) = answered n act.job.conn act.job.body act.answers act.in_cut l
noted n l (Tailed tail) = heard_all false tail.answers l
noted n l (Begins texts) = record l { texts = texts; shut = λ k. false; writers = [] }

-- the same, one after another
abbrev pub ledger_from : ℕ → Ledger → List Happened → Ledger
ledger_from n l [] = l
ledger_from n l (x ∷ history) = ledger_from n (noted n l x) history

-- what a history says of log n
abbrev pub ledger : List Happened → ℕ → Ledger
ledger h n = ledger_from n blank h

-- who writes the log at the end of the history
abbrev pub writers : List Happened → ℕ → List ConnId
writers h n = (ledger h n).writers

-- what was sent of the log, cut at each accepted restart
abbrev pub sent : List Happened → ℕ → List Record
sent h n = (ledger h n).sent

-- the same as it is masked
abbrev pub shown : List Happened → ℕ → List Record
shown h n = (ledger h n).shown

-- how many of these are promised
abbrev pub promised : List Happened → ℕ → Option ℕ
promised h n = (ledger h n).promised

-- ---- What is settled

-- whether these answers say what the log holds: that it is complete, or has no such point
abbrev pub is_look : List Answer → Bool
is_look [] = false
is_look (a ∷ answers) = looks a.says
  where
    names : Refusal → Bool
    names refusals.LogComplete = true
    names refusals.NoSuchResumePoint = true
    names why = false

    looks : Saying → Bool
    looks (Error why) = names why
    looks (LogId n) = false
    looks (CommitPoint point) = false
    looks Shut = false

-- whether a restart of log n was accepted, or refused by what the log holds. shut: the connection was
abbrev pub reads_log : ℕ → Bool → Result Request Refusal → List Answer → Bool
reads_log n shut (Ok (request.Restart restart)) answers = (restart.log == n) && (if is_silent answers then not shut else is_look answers)
reads_log n shut what answers = false

-- whether this settles what the disk holds of log n
abbrev pub settles : ℕ → Ledger → Happened → Bool
settles n l (Did act) = tells_log n act.answers || reads_log n (l.shut act.job.conn) (request_in act.job.body) act.answers
settles n l (Tailed tail) = false
settles n l (Begins texts) = false

-- the same of one of these, one after another
abbrev pub settled_from : ℕ → Ledger → List Happened → Bool
settled_from n l [] = false
settled_from n l (x ∷ history) = settles n l x || settled_from n (noted n l x) history

-- whether after the history g, in the course of h, the number of log n was answered, or a restart of it was accepted or refused by what the log holds
abbrev pub settled : ℕ → List Happened → List Happened → Bool
settled n g h = settled_from n (ledger g n) h
