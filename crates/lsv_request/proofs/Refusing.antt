-- Why a message is refused: for its time, or else for what it brings.
use Rattle.std.proofs.Common.{◌≡◌, ℕ, ℤ, pos, negsuc, Bool, true, false, cond, leb, length, Option, Some, None, Result, Ok, Err, refl}
use Rattle.std.specs.Prelude.{is_some}
use Rattle.lsv_base.specs.LogNo.{log_no_in}
use Rattle.lsv_base.specs.Time.{nanos_of}
use Rattle.lsv_base.specs.declared.time.TimeSpec.{TimeSpec}
use Rattle.lsv_record.specs.declared.records.Record.{Record}
use Rattle.lsv_record.specs.declared.records.Record.TheVariants.{Io, Suspend}
use Rattle.lsv_record.specs.declared.records.Stream.{Stream}
use Rattle.lsv_record.specs.declared.records.Stream.TheVariants as stream
use Rattle.lsv_msg.specs.declared.messages.IoBuffer.{IoBuffer}
use Rattle.lsv_msg.specs.declared.messages.ClientMessage.{ClientMessage}
use Rattle.lsv_msg.specs.declared.messages.ClientMessage.TheVariants as client
use Rattle.lsv_request.specs.declared.refusal.Refusal.{Refusal}
use Rattle.lsv_request.specs.declared.refusal.Refusal.TheVariants.{BadTime, BadSizeOrSignal, MessageTooLarge, NoSuchLog}
use Rattle.lsv_request.specs.declared.request.Request.{Request}
use Rattle.lsv_request.specs.declared.request.Request.TheVariants as request
use Rattle.lsv_request.specs.Requests.{and_then, valid_time, nanos_told, nanos_in, data_of, sized, is_signal, restart_at, request_of}
use Rattle.lsv_request.specs.Judged.{is_timed, unless, time_refusal, is_little, content_refusal, first_of, refusal_in}

-- a time is valid, or isn't
by_time : (t : Option TimeSpec) (P : Result TimeSpec Refusal → Bool → Type 0) → P (Err BadTime) false → ((time : TimeSpec) → P (Ok time) true) → P (valid_time t) (is_timed t)
by_time None P bad good = bad
by_time (Some time) P bad good = go (nanos_of time)
  where
    go : (o : Option ℕ) → P (cond (is_some o) (Ok time) (Err BadTime)) (is_some o)
    go None = bad
    go (Some n) = good time

by_nanos : (t : Option TimeSpec) (P : Result ℕ Refusal → Bool → Type 0) → P (Err BadTime) false → ((n : ℕ) → P (Ok n) true) → P (nanos_in t) (is_timed t)
by_nanos None P bad good = bad
by_nanos (Some time) P bad good = go (nanos_of time)
  where
    go : (o : Option ℕ) → P (nanos_told o) (is_some o)
    go None = bad
    go (Some n) = good n

-- what is made of a time alone is refused for it alone
timed : {A : Type 0} (t : Option TimeSpec) (make : TimeSpec → A) (f : A → Request)
    → refusal_in (and_then (and_then (valid_time t) (λ time. Ok (make time))) (λ a. Ok (f a))) ≡ first_of (unless (is_timed t) BadTime) None
timed t make f = by_time t (λ r b. refusal_in (and_then (and_then r (λ time. Ok (make time))) (λ a. Ok (f a))) ≡ first_of (unless b BadTime) None) refl (λ time. refl)

tested : (n : ℕ) (b : Bool) (r : Record) (why : Refusal) → refusal_in (and_then (cond b (Ok r) (Err why)) (λ r. Ok (request.Record r))) ≡ first_of None (unless b why)
tested n true r why = refl
tested n false r why = refl

data_refused : (s : Stream) (m : IoBuffer) → refusal_in (and_then (data_of s m) (λ r. Ok (request.Record r))) ≡ first_of (unless (is_timed m.delay) BadTime) (unless (is_little m.bytes) MessageTooLarge)
data_refused s m =
    by_nanos m.delay (λ r b. refusal_in (and_then (and_then r (λ delay. cond (leb (length m.bytes) 2097152) (Ok (Io delay s m.bytes)) (Err MessageTooLarge))) (λ r. Ok (request.Record r))) ≡ first_of (unless b BadTime) (unless (is_little m.bytes) MessageTooLarge))
    refl (λ n. tested n (leb (length m.bytes) 2097152) (Io n s m.bytes) MessageTooLarge)

sized_refused : (delay : ℕ) (rows cols : ℤ) → refusal_in (and_then (sized delay rows cols) (λ r. Ok (request.Record r))) ≡ first_of None (content_refusal (client.Winsize (record { delay = None; rows = rows; cols = cols })))
sized_refused delay (pos rows) (pos cols) = refl
sized_refused delay (pos rows) (negsuc cols) = refl
sized_refused delay (negsuc rows) (pos cols) = refl
sized_refused delay (negsuc rows) (negsuc cols) = refl

restart_refused : (o : Option ℕ) (point : ℕ) → refusal_in (and_then (restart_at o point) (λ r. Ok (request.Restart r))) ≡ first_of None (unless (is_some o) NoSuchLog)
restart_refused None point = refl
restart_refused (Some log) point = refl

pub refused : (m : ClientMessage) → refusal_in (request_of m) ≡ first_of (time_refusal m) (content_refusal m)
refused (client.Hello m) = refl
refused (client.Accept m) = timed m.submit_time (λ submit. record { head = record { submit = submit; info = m.info_msgs }; expect_iobufs = m.expect_iobufs }) (λ a. request.Accept a)
refused (client.Reject m) = timed m.submit_time (λ time. record { time = time; reason = m.reason; info = m.info_msgs }) (λ a. request.Reject a)
refused (client.Alert m) = timed m.alert_time (λ time. record { time = time; reason = m.reason; info = m.info_msgs }) (λ a. request.Alert a)
refused (client.Restart m) =
    by_nanos m.resume_point (λ r b. refusal_in (and_then (and_then r (λ point. restart_at (log_no_in m.log_id) point)) (λ r. Ok (request.Restart r))) ≡ first_of (unless b BadTime) (content_refusal (client.Restart m)))
    refl (restart_refused (log_no_in m.log_id))
refused (client.Exit m) = ended m.run_time
  where
    ended : (o : Option TimeSpec) → refusal_in (request_of (client.Exit (record m { run_time = o }))) ≡ first_of (time_refusal (client.Exit (record m { run_time = o }))) None
    ended None = refl
    ended (Some t) = by_time (Some t) (λ r b. refusal_in (and_then (and_then r (λ run. Ok (record { run = run; value = m.exit_value; dumped = m.dumped_core; signal = m.signal; error = m.error }))) (λ e. Ok (request.Exit e))) ≡ first_of (unless b BadTime) None) refl (λ time. refl)
refused (client.Ttyin m) = data_refused stream.Ttyin m
refused (client.Ttyout m) = data_refused stream.Ttyout m
refused (client.Stdin m) = data_refused stream.Stdin m
refused (client.Stdout m) = data_refused stream.Stdout m
refused (client.Stderr m) = data_refused stream.Stderr m
refused (client.Winsize m) =
    by_nanos m.delay (λ r b. refusal_in (and_then (and_then r (λ delay. sized delay m.rows m.cols)) (λ r. Ok (request.Record r))) ≡ first_of (unless b BadTime) (content_refusal (client.Winsize m)))
    refl (λ delay. sized_refused delay m.rows m.cols)
refused (client.Suspend m) =
    by_nanos m.delay (λ r b. refusal_in (and_then (and_then r (λ delay. cond (is_signal m.signal) (Ok (Suspend delay m.signal)) (Err BadSizeOrSignal))) (λ r. Ok (request.Record r))) ≡ first_of (unless b BadTime) (unless (is_signal m.signal) BadSizeOrSignal))
    refl (λ n. tested n (is_signal m.signal) (Suspend n m.signal) BadSizeOrSignal)
