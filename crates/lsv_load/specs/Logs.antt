-- What the conversations of a load send, as jobs, and the logs that they leave.
use Rattle.std.specs.Prelude.{ℕ, zero, suc, pos, ◌+◌, ◌*◌, ◌%◌, List, [], ◌∷◌, ◌++◌, Some, false, map, replicate}
use Rattle.lsv_info.specs.Layout.{exit_text, head_text}
use Rattle.lsv_info.specs.declared.times.Exit.{Exit}
use Rattle.lsv_info.specs.declared.times.Head.{Head}
use Rattle.lsv_gen.specs.Load.{duration, info, messages, millis}
use Rattle.lsv_record.specs.Points.{Stored}
use Rattle.lsv_record.specs.declared.records.Record.{Record}
use Rattle.lsv_record.specs.declared.records.Record.TheVariants.{Io}
use Rattle.lsv_record.specs.declared.records.Stream.TheVariants.{Ttyout}
use Rattle.lsv_session.specs.declared.job.Body.{Body}
use Rattle.lsv_session.specs.declared.job.Body.TheVariants.{Msg}

-- the messages of conversation i, as jobs
abbrev pub bodies_of : ℕ → List Body
bodies_of i = map (λ message. Msg message) (messages i)

-- the record of the output in place j
abbrev pub record_at : ℕ → Record
record_at j = Io (j * 1000000) Ttyout (replicate (j % 80 + 1) (97 + j % 26))

-- the records of the first n outputs
abbrev pub records_of : ℕ → List Record
records_of zero = []
records_of (suc n) = records_of n ++ record_at (suc n) ∷ []

-- the head of conversation i
abbrev pub head_at : ℕ → Head
head_at i = record { submit = record { sec = pos (1700000000 + i); nsec = pos 0 }; info = info i }

-- how its command ended
abbrev pub exit_at : ℕ → Exit
exit_at i = record { run = millis (duration (i % 50 + 1)); value = pos (i % 256); dumped = false; signal = []; error = [] }

-- its log, which is complete
abbrev pub log_at : ℕ → Stored
log_at i = record { head = head_text (head_at i); records = records_of (i % 50 + 1); exit = Some (exit_text (exit_at i)); cuts = 0 }

-- the logs of the first n conversations
abbrev pub logs_of : ℕ → List Stored
logs_of zero = []
logs_of (suc n) = logs_of n ++ log_at (suc n) ∷ []
