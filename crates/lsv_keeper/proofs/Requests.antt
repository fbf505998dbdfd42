-- What is known of a request that its judgement lets through.
use Rattle.std.proofs.Common.{◌≡◌, ◌∙◌, ℕ, ap, pos, refl, subst, sym, Option, Some, None}
use Rattle.std.specs.Prelude.{Bool, true, false, if◌then◌else◌, Result, Ok, Err, IsSome, is_some}
use Rattle.lsv_base.specs.LogNo.{log_no_in}
use Rattle.lsv_base.specs.Time.{nanos_of}
use Rattle.lsv_base.specs.declared.time.TimeSpec.{TimeSpec}
use Rattle.lsv_info.specs.declared.times.Exit.{Exit}
use Rattle.lsv_msg.specs.declared.messages.ClientMessage.{ClientMessage}
use Rattle.lsv_msg.specs.declared.messages.ClientMessage.TheVariants as client
use Rattle.lsv_msg.specs.declared.messages.ExitMessage.{ExitMessage}
use Rattle.lsv_msg.specs.declared.messages.RestartMessage.{RestartMessage}
use Rattle.lsv_record.specs.Records.{IsValid}
use Rattle.lsv_record.specs.declared.records.Record.{Record}
use Rattle.lsv_record.specs.declared.records.Stream.TheVariants as stream
use Rattle.lsv_request.specs.Requests.{accept_of, alert_of, and_then, data_of, exit_of, nanos_in, reject_of, request_of, restart_at, restart_of, run_of, suspend_of, window_of}
use Rattle.lsv_request.specs.declared.refusal.Refusal.{Refusal}
use Rattle.lsv_request.specs.declared.refusal.Refusal.TheVariants.{BadTime}
use Rattle.lsv_request.specs.declared.request.Request.{Request}
use Rattle.lsv_request.specs.declared.request.Request.TheVariants as request
use Rattle.lsv_request.specs.declared.request.Restart.{Restart}
use Rattle.lsv_request.proofs.Meanings.{record_sized}
use Rattle.lsv_session.specs.declared.connection.ConnState.{ConnState}
use Rattle.lsv_session.specs.declared.connection.ConnState.TheVariants.{Fresh, Greeted, Alerted, Running, Dead}
use Rattle.lsv_session.specs.declared.job.Body.{Body}
use Rattle.lsv_session.specs.declared.job.Body.TheVariants as body
use Rattle.lsv_machine.specs.Failures.{AsksFor}
use Rattle.lsv_machine.specs.Machine.{Settings, is_dead}
use Rattle.lsv_machine.specs.Work.{has_line}
use Rattle.lsv_machine.specs.Judgement.{judged}
use Rattle.lsv_machine.proofs.JudgedLemmas.{judged_ok}
use Rattle.lsv_keeper.specs.Causes.{BringsLine}
use Rattle.lsv_keeper.specs.Logs.{IsWindowFit}
use Rattle.lsv_keeper.specs.Syncs.{IsRestartOf}

-- a record is valid
pub valid_record : (s : ConnState) (m : ClientMessage) (r : Record) → IsWindowFit m → judged s m ≡ Ok (request.Record r) → IsValid r
valid_record s m r fits e = record_sized m r (λ w is. subst IsWindowFit is fits) (judged_ok s m (request.Record r) e).0

-- ---- The time of an exit

abbrev done : {A : Type 0} → A → Result A Refusal
done a = Ok a

is_time : (time run : TimeSpec) → done time ≡ done run → time ≡ run
is_time time run e = cc

timed_if : (time run : TimeSpec) (b : Bool) → is_some (nanos_of time) ≡ b → (if b then done time else Err BadTime) ≡ Ok run → IsSome (nanos_of run)
timed_if time run true is e = subst (λ (t : TimeSpec). IsSome (nanos_of t)) (is_time time run e) is
timed_if time run false is e = absurd (cc)

run_timed : (o : Option TimeSpec) (run : TimeSpec) → run_of o ≡ Ok run → IsSome (nanos_of run)
run_timed None run e = subst (λ (t : TimeSpec). IsSome (nanos_of t)) (is_time (record { sec = pos 0; nsec = pos 0 }) run e) refl
run_timed (Some time) run e = timed_if time run (is_some (nanos_of time)) refl e

exit_run : (m : ExitMessage) (exit : Exit) (w : Result TimeSpec Refusal) → run_of m.run_time ≡ w
    → and_then w (λ run. done (record { run = run; value = m.exit_value; dumped = m.dumped_core; signal = m.signal; error = m.error })) ≡ Ok exit → IsSome (nanos_of exit.run)
exit_run m exit (Ok run) is e =
    let same : record { run = run; value = m.exit_value; dumped = m.dumped_core; signal = m.signal; error = m.error } ≡ exit = is_exit _ exit e in
    subst (λ (x : Exit). IsSome (nanos_of x.run)) same (run_timed m.run_time run is)
  where
    is_exit : (a b : Exit) → done a ≡ done b → a ≡ b
    is_exit a b f = cc
exit_run m exit (Err why) is e = absurd (cc)

one_exit : (a b : Exit) → done (request.Exit a) ≡ done (request.Exit b) → a ≡ b
one_exit a b e = cc

of_exit : (m : ExitMessage) (exit : Exit) (w : Result Exit Refusal) → exit_of m ≡ w → and_then w (λ x. done (request.Exit x)) ≡ Ok (request.Exit exit) → IsSome (nanos_of exit.run)
of_exit m exit (Ok x) is e = exit_run m exit (run_of m.run_time) refl (subst (λ (y : Exit). exit_of m ≡ done y) (one_exit x exit e) is)
of_exit m exit (Err why) is e = absurd (cc)

never : {A : Type 0} (w : Result A Refusal) (f : A → Request) (exit : Exit) → ((a : A) → done (f a) ≡ done (request.Exit exit) → ⊥) → and_then w (λ a. done (f a)) ≡ Ok (request.Exit exit) → ⊥
never (Ok a) f exit other e = other a e
never (Err why) f exit other e = cc

asked_timed : (m : ClientMessage) (exit : Exit) → request_of m ≡ Ok (request.Exit exit) → IsSome (nanos_of exit.run)
asked_timed (client.Hello m) exit e = absurd (cc)
asked_timed (client.Accept m) exit e = absurd (never (accept_of m) (λ a. request.Accept a) exit (λ a f. cc) e)
asked_timed (client.Reject m) exit e = absurd (never (reject_of m) (λ a. request.Reject a) exit (λ a f. cc) e)
asked_timed (client.Alert m) exit e = absurd (never (alert_of m) (λ a. request.Alert a) exit (λ a f. cc) e)
asked_timed (client.Restart m) exit e = absurd (never (restart_of m) (λ a. request.Restart a) exit (λ a f. cc) e)
asked_timed (client.Exit m) exit e = of_exit m exit (exit_of m) refl e
asked_timed (client.Ttyin m) exit e = absurd (never (data_of stream.Ttyin m) (λ r. request.Record r) exit (λ a f. cc) e)
asked_timed (client.Ttyout m) exit e = absurd (never (data_of stream.Ttyout m) (λ r. request.Record r) exit (λ a f. cc) e)
asked_timed (client.Stdin m) exit e = absurd (never (data_of stream.Stdin m) (λ r. request.Record r) exit (λ a f. cc) e)
asked_timed (client.Stdout m) exit e = absurd (never (data_of stream.Stdout m) (λ r. request.Record r) exit (λ a f. cc) e)
asked_timed (client.Stderr m) exit e = absurd (never (data_of stream.Stderr m) (λ r. request.Record r) exit (λ a f. cc) e)
asked_timed (client.Winsize m) exit e = absurd (never (window_of m) (λ r. request.Record r) exit (λ a f. cc) e)
asked_timed (client.Suspend m) exit e = absurd (never (suspend_of m) (λ r. request.Record r) exit (λ a f. cc) e)

-- the time of an exit is valid
pub exit_timed : (s : ConnState) (m : ClientMessage) (exit : Exit) → judged s m ≡ Ok (request.Exit exit) → IsSome (nanos_of exit.run)
exit_timed s m exit e = asked_timed m exit (judged_ok s m (request.Exit exit) e).0

-- ---- The log of a restart

one_restart : (a b : Restart) → done a ≡ done b → a ≡ b
one_restart a b e = cc

asked_restart : (a b : Restart) → done (request.Restart a) ≡ done (request.Restart b) → a ≡ b
asked_restart a b e = cc

point_log : (w : Result ℕ Refusal) (o : Option ℕ) (restart : Restart) → and_then w (λ point. restart_at o point) ≡ Ok restart → o ≡ Some restart.log
point_log (Ok point) (Some log) restart e = ap (λ (x : Restart). Some x.log) (one_restart (record { log = log; point = point }) restart e)
point_log (Ok point) None restart e = absurd (cc)
point_log (Err why) o restart e = absurd (cc)

restart_log : (m : RestartMessage) (restart : Restart) (w : Result Restart Refusal) → restart_of m ≡ w → and_then w (λ x. done (request.Restart x)) ≡ Ok (request.Restart restart) → log_no_in m.log_id ≡ Some restart.log
restart_log m restart (Ok x) is e = point_log (nanos_in m.resume_point) (log_no_in m.log_id) restart (is ∙ ap (λ (y : Restart). done y) (asked_restart x restart e))
restart_log m restart (Err why) is e = absurd (cc)

no_restart : {A : Type 0} (w : Result A Refusal) (f : A → Request) (restart : Restart) → ((a : A) → done (f a) ≡ done (request.Restart restart) → ⊥) → and_then w (λ a. done (f a)) ≡ Ok (request.Restart restart) → ⊥
no_restart (Ok a) f restart other e = other a e
no_restart (Err why) f restart other e = cc

asked_log : (m : ClientMessage) (restart : Restart) → request_of m ≡ Ok (request.Restart restart) → IsRestartOf m restart.log
asked_log (client.Hello m) restart e = cc
asked_log (client.Accept m) restart e = no_restart (accept_of m) (λ a. request.Accept a) restart (λ a f. cc) e
asked_log (client.Reject m) restart e = no_restart (reject_of m) (λ a. request.Reject a) restart (λ a f. cc) e
asked_log (client.Alert m) restart e = no_restart (alert_of m) (λ a. request.Alert a) restart (λ a f. cc) e
asked_log (client.Restart m) restart e = restart_log m restart (restart_of m) refl e
asked_log (client.Exit m) restart e = no_restart (exit_of m) (λ a. request.Exit a) restart (λ a f. cc) e
asked_log (client.Ttyin m) restart e = no_restart (data_of stream.Ttyin m) (λ r. request.Record r) restart (λ a f. cc) e
asked_log (client.Ttyout m) restart e = no_restart (data_of stream.Ttyout m) (λ r. request.Record r) restart (λ a f. cc) e
asked_log (client.Stdin m) restart e = no_restart (data_of stream.Stdin m) (λ r. request.Record r) restart (λ a f. cc) e
asked_log (client.Stdout m) restart e = no_restart (data_of stream.Stdout m) (λ r. request.Record r) restart (λ a f. cc) e
asked_log (client.Stderr m) restart e = no_restart (data_of stream.Stderr m) (λ r. request.Record r) restart (λ a f. cc) e
asked_log (client.Winsize m) restart e = no_restart (window_of m) (λ r. request.Record r) restart (λ a f. cc) e
asked_log (client.Suspend m) restart e = no_restart (suspend_of m) (λ r. request.Record r) restart (λ a f. cc) e

-- a restart is of the log that its message names
pub restart_named : (s : ConnState) (m : ClientMessage) (restart : Restart) → judged s m ≡ Ok (request.Restart restart) → IsRestartOf m restart.log
restart_named s m restart e = asked_log m restart (judged_ok s m (request.Restart restart) e).0

-- ---- Events with lines

module _ (set : Settings) (what : Request) (has : has_line set what ≡ true) where
  no_line : {A : Type 0} (w : Result A Refusal) (f : A → Request) → ((a : A) → has_line set (f a) ≡ false) → and_then w (λ a. done (f a)) ≡ Ok what → ⊥
  no_line (Ok a) f none e = let same : f a ≡ what = cc in let x : false ≡ true = sym (none a) ∙ (ap (has_line set) same ∙ has) in cc
  no_line (Err why) f none e = cc

  exit_line : (w : Result Exit Refusal) → and_then w (λ a. done (request.Exit a)) ≡ Ok what → set.log_exit ≡ true
  exit_line (Ok a) e = let same : request.Exit a ≡ what = cc in ap (has_line set) same ∙ has
  exit_line (Err why) e = absurd (cc)

  brought : (m : ClientMessage) → request_of m ≡ Ok what → BringsLine set.log_exit (body.Msg m)
  brought (client.Hello m) e = let same : request.Hello ≡ what = cc in let x : false ≡ true = ap (has_line set) same ∙ has in cc
  brought (client.Accept m) e = tt
  brought (client.Reject m) e = tt
  brought (client.Alert m) e = tt
  brought (client.Restart m) e = no_line (restart_of m) (λ a. request.Restart a) (λ a. refl) e
  brought (client.Exit m) e = exit_line (exit_of m) e
  brought (client.Ttyin m) e = no_line (data_of stream.Ttyin m) (λ r. request.Record r) (λ a. refl) e
  brought (client.Ttyout m) e = no_line (data_of stream.Ttyout m) (λ r. request.Record r) (λ a. refl) e
  brought (client.Stdin m) e = no_line (data_of stream.Stdin m) (λ r. request.Record r) (λ a. refl) e
  brought (client.Stdout m) e = no_line (data_of stream.Stdout m) (λ r. request.Record r) (λ a. refl) e
  brought (client.Stderr m) e = no_line (data_of stream.Stderr m) (λ r. request.Record r) (λ a. refl) e
  brought (client.Winsize m) e = no_line (window_of m) (λ r. request.Record r) (λ a. refl) e
  brought (client.Suspend m) e = no_line (suspend_of m) (λ r. request.Record r) (λ a. refl) e

-- a request with a line comes of a message that is an event
pub event_brought : (set : Settings) (s : ConnState) (m : ClientMessage) (what : Request) → judged s m ≡ Ok what → has_line set what ≡ true → BringsLine set.log_exit (body.Msg m)
event_brought set s m what e has = brought set what has m (judged_ok s m what e).0

-- ---- A connection that asks for something isn't dead

dead_judged : (m : ClientMessage) (what : Request) → judged Dead m ≡ Ok what → ⊥
dead_judged (client.Hello m) what e = cc
dead_judged (client.Accept m) what e = cc
dead_judged (client.Reject m) what e = cc
dead_judged (client.Alert m) what e = cc
dead_judged (client.Restart m) what e = cc
dead_judged (client.Exit m) what e = cc
dead_judged (client.Ttyin m) what e = cc
dead_judged (client.Ttyout m) what e = cc
dead_judged (client.Stdin m) what e = cc
dead_judged (client.Stdout m) what e = cc
dead_judged (client.Stderr m) what e = cc
dead_judged (client.Winsize m) what e = cc
dead_judged (client.Suspend m) what e = cc

pub asks_alive : (s : ConnState) (b : Body) (what : Request) → AsksFor s b what → is_dead s ≡ false
asks_alive Fresh b what asks = refl
asks_alive Greeted b what asks = refl
asks_alive Alerted b what asks = refl
asks_alive (Running log) b what asks = refl
asks_alive Dead (body.Msg message) what asks = absurd (dead_judged message what asks)
asks_alive Dead (body.Bad fault) what asks = absurd asks
asks_alive Dead body.Gone what asks = absurd asks
