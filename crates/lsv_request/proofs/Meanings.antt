-- What the messages of stored records ask for, and what a request of a decoded message holds.
use Rattle.std.proofs.Common.{◌≡◌, ℕ, ℤ, pos, negsuc, ◌^◌, ◌<◌, ◌≤◌, Bool, true, false, cond, leb, List, length, Option, Some, None, Result, Ok, Err, refl, ap, ◌∙◌, subst, arith}
use Rattle.std.specs.Prelude.{FitsSigned}
use Rattle.std.specs.Int.{w32}
use Rattle.std.proofs.lemmas.Bool.{le-leb, leb-true}
use Rattle.lsv_base.specs.Time.{nanos_of, time_of}
use Rattle.lsv_base.specs.declared.time.TimeSpec.{TimeSpec}
use Rattle.lsv_base.proofs.Nanoseconds.{value_told, time_told}
use Rattle.lsv_record.specs.Records.{IsValid}
use Rattle.lsv_record.specs.declared.records.Record.{Record}
use Rattle.lsv_record.specs.declared.records.Record.TheVariants.{Io, Winsize, Suspend}
use Rattle.lsv_record.specs.declared.records.Stream.{Stream}
use Rattle.lsv_record.specs.declared.records.Stream.TheVariants.{Stdin, Stdout, Stderr, Ttyin, Ttyout}
use Rattle.lsv_msg.specs.Fitting.{FitsClient}
use Rattle.lsv_msg.specs.declared.messages.IoBuffer.{IoBuffer}
use Rattle.lsv_msg.specs.declared.messages.ChangeWindowSize.{ChangeWindowSize}
use Rattle.lsv_msg.specs.declared.messages.CommandSuspend.{CommandSuspend}
use Rattle.lsv_msg.specs.declared.messages.ClientMessage.{ClientMessage}
use Rattle.lsv_msg.specs.declared.messages.ClientMessage.TheVariants as client
use Rattle.lsv_request.specs.declared.refusal.Refusal.{Refusal}
use Rattle.lsv_request.specs.declared.refusal.Refusal.TheVariants.{BadSizeOrSignal, MessageTooLarge}
use Rattle.lsv_request.specs.declared.request.Request.{Request}
use Rattle.lsv_request.specs.declared.request.Request.TheVariants as request
use Rattle.lsv_request.specs.Requests.{and_then, nanos_told, nanos_in, data_of, sized, window_of, is_signal, suspend_of, request_of}
use Rattle.lsv_request.specs.Stored.{record_message}
use Rattle.lsv_request.proofs.Signals.{named, is_named}

-- ---- The messages of stored records

data_is : (s : Stream) (t : TimeSpec) (delay : ℕ) (bytes : List ℕ) → nanos_of t ≡ Some delay → length bytes ≤ 2097152 → data_of s (record { delay = Some t; bytes = bytes }) ≡ Ok (Io delay s bytes)
data_is s t delay bytes told few = rw (told, le-leb (length bytes) 2097152 few) refl

window_is : (t : TimeSpec) (delay rows cols : ℕ) → nanos_of t ≡ Some delay → window_of (record { delay = Some t; rows = pos rows; cols = pos cols }) ≡ Ok (Winsize delay rows cols)
window_is t delay rows cols told = rw told refl

suspend_is : (t : TimeSpec) (delay : ℕ) (signal : List ℕ) → nanos_of t ≡ Some delay → is_signal signal ≡ true → suspend_of (record { delay = Some t; signal = signal }) ≡ Ok (Suspend delay signal)
suspend_is t delay signal told good = rw (told, good) refl

abbrev recorded : Result Record Refusal → Result Request Refusal
recorded r = and_then r (λ r. Ok (request.Record r))

pub record_again : (r : Record) → IsValid r → request_of (record_message r) ≡ Ok (request.Record r)
record_again (Io delay Stdin bytes) v = ap recorded (data_is Stdin (time_of delay) delay bytes (value_told delay v.0) v.1)
record_again (Io delay Stdout bytes) v = ap recorded (data_is Stdout (time_of delay) delay bytes (value_told delay v.0) v.1)
record_again (Io delay Stderr bytes) v = ap recorded (data_is Stderr (time_of delay) delay bytes (value_told delay v.0) v.1)
record_again (Io delay Ttyin bytes) v = ap recorded (data_is Ttyin (time_of delay) delay bytes (value_told delay v.0) v.1)
record_again (Io delay Ttyout bytes) v = ap recorded (data_is Ttyout (time_of delay) delay bytes (value_told delay v.0) v.1)
record_again (Winsize delay rows cols) v = ap recorded (window_is (time_of delay) delay rows cols (value_told delay v.0))
record_again (Suspend delay signal) v = ap recorded (suspend_is (time_of delay) delay signal (value_told delay v.0) (is_named signal v.1))

-- ---- Records of decoded messages

-- both steps gave something
record Bound {A B : Type 0} (r : Result A Refusal) (f : A → Result B Refusal) (b : B) : Type 0 where
  value : A
  first : r ≡ Ok value
  then : f value ≡ Ok b

bound : {A B : Type 0} (r : Result A Refusal) (f : A → Result B Refusal) (b : B) → and_then r f ≡ Ok b → Bound r f b
bound (Ok a) f b e = record { value = a; first = refl; then = e }
bound (Err why) f b e = absurd cc

abbrev done : {A : Type 0} → A → Result A Refusal
done a = Ok a

ok_is : {A : Type 0} (a b : A) → done a ≡ done b → a ≡ b
ok_is a b e = cc

passed : {A : Type 0} (b : Bool) (x : A) (why : Refusal) (r : A) → cond b (done x) (Err why) ≡ Ok r → (b ≡ true) × (x ≡ r)
passed true x why r e = (refl, ok_is x r e)
passed false x why r e = absurd cc

told_below : (o : Option TimeSpec) (n : ℕ) → nanos_in o ≡ Ok n → n < 2 ^ 63
told_below None n e = absurd cc
told_below (Some t) n e = go (nanos_of t) refl e
  where
    go : (o : Option ℕ) → nanos_of t ≡ o → nanos_told o ≡ Ok n → n < 2 ^ 63
    go None is e = absurd cc
    go (Some k) is e = (time_told t n (is ∙ ap (λ m. Some m) (ok_is k n e))).1

data_valid : (s : Stream) (m : IoBuffer) (r : Record) → data_of s m ≡ Ok r → IsValid r
data_valid s m r e =
    let b = bound (nanos_in m.delay) (λ delay. cond (leb (length m.bytes) 2097152) (Ok (Io delay s m.bytes)) (Err MessageTooLarge)) r e in
    let p = passed (leb (length m.bytes) 2097152) (Io b.value s m.bytes) MessageTooLarge r b.then in
    subst IsValid p.1 (told_below m.delay b.value b.first, leb-true (length m.bytes) 2097152 p.0)

sized_valid : (delay : ℕ) (rows cols : ℤ) (r : Record) → delay < 2 ^ 63 → FitsSigned w32 rows → FitsSigned w32 cols → sized delay rows cols ≡ Ok r → IsValid r
sized_valid delay (pos rows) (pos cols) r below fits_rows fits_cols e =
    subst IsValid (ok_is (Winsize delay rows cols) r e) (below, omega (arith, fits_rows.sfits), omega (arith, fits_cols.sfits))
sized_valid delay (pos rows) (negsuc cols) r below fits_rows fits_cols e = absurd cc
sized_valid delay (negsuc rows) cols r below fits_rows fits_cols e = absurd cc

window_valid : (m : ChangeWindowSize) (r : Record) → FitsSigned w32 m.rows → FitsSigned w32 m.cols → window_of m ≡ Ok r → IsValid r
window_valid m r fits_rows fits_cols e =
    let b = bound (nanos_in m.delay) (λ delay. sized delay m.rows m.cols) r e in
    sized_valid b.value m.rows m.cols r (told_below m.delay b.value b.first) fits_rows fits_cols b.then

suspend_valid : (m : CommandSuspend) (r : Record) → suspend_of m ≡ Ok r → IsValid r
suspend_valid m r e =
    let b = bound (nanos_in m.delay) (λ delay. cond (is_signal m.signal) (Ok (Suspend delay m.signal)) (Err BadSizeOrSignal)) r e in
    let p = passed (is_signal m.signal) (Suspend b.value m.signal) BadSizeOrSignal r b.then in
    subst IsValid p.1 (told_below m.delay b.value b.first, named m.signal p.0)

abbrev of_record : Record → Request
of_record r = request.Record r

one_record : (a b : Record) → of_record a ≡ of_record b → a ≡ b
one_record a b e = cc

recorded_is : (part : Result Record Refusal) (r : Record) → recorded part ≡ Ok (request.Record r) → part ≡ Ok r
recorded_is part r e =
    let b = bound part (λ r. Ok (request.Record r)) (request.Record r) e in
    b.first ∙ ap (λ (x : Record). done x) (one_record b.value r (ok_is (request.Record b.value) (request.Record r) b.then))

-- a part that is no record gives none
no_record : {A : Type 0} (part : Result A Refusal) (f : A → Request) (r : Record) → ((a : A) → f a ≡ request.Record r → ⊥) → and_then part (λ a. done (f a)) ≡ Ok (request.Record r) → ⊥
no_record part f r other e = let b = bound part (λ a. done (f a)) (request.Record r) e in other b.value (ok_is (f b.value) (request.Record r) b.then)

-- a record is valid, where the numbers of a window are of 32 bits, with a sign
pub record_sized : (m : ClientMessage) (r : Record) → ((w : ChangeWindowSize) → m ≡ client.Winsize w → FitsSigned w32 w.rows × FitsSigned w32 w.cols) → request_of m ≡ Ok (request.Record r) → IsValid r
record_sized (client.Ttyin m) r fits e = data_valid Ttyin m r (recorded_is (data_of Ttyin m) r e)
record_sized (client.Ttyout m) r fits e = data_valid Ttyout m r (recorded_is (data_of Ttyout m) r e)
record_sized (client.Stdin m) r fits e = data_valid Stdin m r (recorded_is (data_of Stdin m) r e)
record_sized (client.Stdout m) r fits e = data_valid Stdout m r (recorded_is (data_of Stdout m) r e)
record_sized (client.Stderr m) r fits e = data_valid Stderr m r (recorded_is (data_of Stderr m) r e)
record_sized (client.Winsize m) r fits e = window_valid m r (fits m refl).0 (fits m refl).1 (recorded_is (window_of m) r e)
record_sized (client.Suspend m) r fits e = suspend_valid m r (recorded_is (suspend_of m) r e)
record_sized (client.Hello m) r fits e = absurd cc
record_sized (client.Accept m) r fits e = absurd (no_record _ (λ a. request.Accept a) r (λ a e. cc) e)
record_sized (client.Reject m) r fits e = absurd (no_record _ (λ a. request.Reject a) r (λ a e. cc) e)
record_sized (client.Alert m) r fits e = absurd (no_record _ (λ a. request.Alert a) r (λ a e. cc) e)
record_sized (client.Restart m) r fits e = absurd (no_record _ (λ a. request.Restart a) r (λ a e. cc) e)
record_sized (client.Exit m) r fits e = absurd (no_record _ (λ a. request.Exit a) r (λ a e. cc) e)

pub record_valid : (m : ClientMessage) (r : Record) → FitsClient m → request_of m ≡ Ok (request.Record r) → IsValid r
record_valid m r fits e = record_sized m r (λ w is. let its : FitsClient (client.Winsize w) = subst FitsClient is fits in (its.1, its.2)) e
