-- What a sender sends of the records of a stored log, and the commit point that it waits for.
use Rattle.std.specs.Prelude.{ℕ, suc, ◌-◌, max, nat_lt, if◌then◌else◌, List, [], ◌∷◌, take, Option, Some, None, option_map}
use Rattle.lsv_info.specs.declared.times.Exit.{Exit}
use Rattle.lsv_info.specs.declared.times.Head.{Head}
use Rattle.lsv_record.specs.Points.{first}
use Rattle.lsv_record.specs.Records.{delay_of, elapsed}
use Rattle.lsv_record.specs.declared.records.Record.{Record}
use Rattle.lsv_transcript.specs.Transcript.{Transcript, anew, resumed}

-- where a log is gone on with: the peer's identifier of it, and the elapsed time after which it goes on
pub record ResumeAt : Type 0 where
  pub id : List ℕ
  pub point : ℕ

-- the number of the records whose elapsed time is at most this
abbrev pub through : List Record → ℕ → ℕ
through [] stop = 0
through (r ∷ records) stop = if nat_lt stop (delay_of r) then 0 else suc (through records (stop - delay_of r))

-- the records that are sent or passed over: all of the log, or those up to an elapsed time and those that are passed over
abbrev pub reached : List Record → (stop : Option ℕ) → (skipped : ℕ) → List Record
reached records None skipped = records
reached records (Some stop) skipped = take (max skipped (through records stop)) records

-- the exit is sent if all records may be
abbrev pub exit_by : (stop : Option ℕ) → Option Exit → Option Exit
exit_by None exit = exit
exit_by (Some stop) exit = None

-- what is sent, and the elapsed time of the records through the last that is sent or passed over, which is waited for as a commit point
pub record Plan : Type 0 where
  pub transcript : Transcript
  pub aim : ℕ

-- the records are sent into a new log
abbrev pub sent_anew : List Record → Head → Option Exit → (stop : Option ℕ) → Plan
sent_anew records head exit stop = record { transcript = anew (reached records stop 0) head (exit_by stop exit); aim = elapsed (reached records stop 0) }

-- the records after the first n, which end at the resume point, are sent
abbrev pub sent_after : List Record → Option Exit → (stop : Option ℕ) → ResumeAt → (n : ℕ) → Plan
sent_after records exit stop at n = record { transcript = resumed (reached records stop n) (exit_by stop exit) at.id at.point n; aim = elapsed (reached records stop n) }

-- the records are sent into a new log, or after a resume point; there is no plan if no record ends there
abbrev pub plan_from : List Record → Head → Option Exit → Option ResumeAt → (stop : Option ℕ) → Option Plan
plan_from records head exit None stop = Some (sent_anew records head exit stop)
plan_from records head exit (Some at) stop = option_map (sent_after records exit stop at) (first records at.point)
