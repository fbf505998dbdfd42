-- A stored log that one connection sends to a server: all or a part, into a new log or after another connection's records.
use Rattle.std.specs.Prelude.{◌≡◌, ℕ, List, ◌∷◌, ◌++◌, take, Ok}
use Rattle.lsv_record.specs.declared.records.Record.{Record}
use Rattle.lsv_request.specs.declared.request.Request.TheVariants as request
use Rattle.lsv_request.specs.declared.request.Restart.{Restart}
use Rattle.lsv_session.specs.declared.connection.ConnId.{ConnId}
use Rattle.lsv_machine.specs.Failures.{Act}
use Rattle.lsv_machine.specs.History.{request_in, sent}
use Rattle.lsv_machine.specs.Turns.{Happened, Happened.Did}
use Rattle.lsv_upstream.specs.Runs.{ServerRun, history_at}

-- when the connection asks to go on with log n, what was sent of it begins with the records that are passed over
abbrev pub BeginsAlike : (n : ℕ) → List Record → (skipped : ℕ) → (before : List Happened) → ServerRun → ConnId → Type 0
BeginsAlike n rs skipped before r k = (past later : List Happened) (act : Act) (restart : Restart) → r.events ≡ past ++ Did act ∷ later → act.job.conn ≡ k
    → request_in act.job.body ≡ Ok (request.Restart restart) → restart.log ≡ n → take skipped (sent (history_at before r past) n) ≡ take skipped rs
