-- What is said and heard, one after another.
use Rattle.std.proofs.Common.{◌≡◌, ◌++◌, ◌∷◌, ◌+◌, List, [], ℕ, length, map, refl, sym, ◌∙◌, ap, Option, Some, None, arith}
use Rattle.std.specs.Prelude.{Bool, true, false, not, nat_lt, if◌then◌else◌, ◌&&◌, ◌||◌, Result, Ok, Err}
use Rattle.std.specs.List.{All, list_any}
use Rattle.std.proofs.lemmas.List.Elements.{All-head, All-tail}
use Rattle.std.proofs.lemmas.List.Folds.{list_any-append}
use Rattle.lsv_dialogue.specs.Events.{Event, Event.Heard, Event.Late, Event.Said, all_said, heard, said}
use Rattle.lsv_info.specs.declared.times.Exit.{Exit}
use Rattle.lsv_info.specs.declared.times.Head.{Head}
use Rattle.lsv_msg.specs.declared.messages.ClientMessage.{ClientMessage}
use Rattle.lsv_msg.specs.declared.messages.ServerMessage.{ServerMessage}
use Rattle.lsv_record.specs.Records.{IsValid, delay_of, elapsed}
use Rattle.lsv_record.specs.declared.records.Record.{Record}
use Rattle.lsv_record.specs.declared.records.Record.TheVariants.{Io, Winsize, Suspend}
use Rattle.lsv_record.specs.declared.records.Stream.TheVariants as stream
use Rattle.lsv_request.specs.Requests.{accept_of, and_then, restart_of}
use Rattle.lsv_request.specs.Stored.{exit_message, record_message}
use Rattle.lsv_request.specs.declared.refusal.Refusal.{Refusal}
use Rattle.lsv_request.specs.declared.request.Accept.{Accept}
use Rattle.lsv_request.specs.declared.request.Request.{Request}
use Rattle.lsv_request.specs.declared.request.Request.TheVariants as request
use Rattle.lsv_request.specs.declared.request.Restart.{Restart}
use Rattle.lsv_request.proofs.Meanings.{record_again}
use Rattle.lsv_transcript.specs.Transcript.{is_id}
use Rattle.lsv_relay.specs.Talk.{Talk, goes, goes_on, hears, hears_point, is_exit, longest_id, says, says_asked}
use Rattle.lsv_relay.specs.Talks.{Way, Way.Resumes, Way.Anew, opening_of}
use Rattle.lsv_relay.specs.declared.relay.Meter.{Meter}
use Rattle.lsv_relay.proofs.Talking.{says_same}
use Rattle.lsv_base.specs.Time.{nanos_of, time_of}
use Rattle.lsv_kept.specs.Value.{KeepingView, is_done, keeps_id}
use Rattle.lsv_msg.specs.declared.messages.ServerMessage.TheVariants as server

-- ---- lists of events

pub said_append : (xs ys : List Event) → said (xs ++ ys) ≡ said xs ++ said ys
said_append [] ys = refl
said_append (Heard m ∷ xs) ys = said_append xs ys
said_append (Said m ∷ xs) ys = ap (λ (l : List ClientMessage). m ∷ l) (said_append xs ys)
said_append (Late m ∷ xs) ys = said_append xs ys

pub heard_append : (xs ys : List Event) → heard (xs ++ ys) ≡ heard xs ++ heard ys
heard_append [] ys = refl
heard_append (Heard m ∷ xs) ys = ap (λ (l : List ServerMessage). m ∷ l) (heard_append xs ys)
heard_append (Said m ∷ xs) ys = heard_append xs ys
heard_append (Late m ∷ xs) ys = ap (λ (l : List ServerMessage). m ∷ l) (heard_append xs ys)

pub said_all : (ms : List ClientMessage) → said (all_said ms) ≡ ms
said_all [] = refl
said_all (m ∷ ms) = ap (λ (l : List ClientMessage). m ∷ l) (said_all ms)

pub heard_all : (ms : List ClientMessage) → heard (all_said ms) ≡ []
heard_all [] = refl
heard_all (m ∷ ms) = heard_all ms

pub goes_append : (total : ℕ) (xs ys : List Event) (talk : Talk) → goes_on total (xs ++ ys) talk ≡ goes_on total ys (goes_on total xs talk)
goes_append total [] ys talk = refl
goes_append total (e ∷ xs) ys talk = goes_append total xs ys (goes total e talk)

none_any : (b : Bool) → (b || false) ≡ b
none_any true = refl
none_any false = refl

-- whether the rest waits, after some events more
pub waits_more : (resumes : Bool) (events more : List Event)
    → ((not resumes && not (list_any is_id (heard events))) && not (list_any is_id (heard more))) ≡ (not resumes && not (list_any is_id (heard (events ++ more))))
waits_more resumes events more = both resumes (list_any is_id (heard events)) (list_any is_id (heard more))
    ∙ ap (λ (b : Bool). not resumes && not b) (sym (list_any-append is_id (heard events) (heard more)) ∙ ap (list_any is_id) (sym (heard_append events more)))
  where
    both : (a b c : Bool) → ((not a && not b) && not c) ≡ (not a && not (b || c))
    both true b c = refl
    both false true c = refl
    both false false c = refl

-- after one message
pub waits_one : (waits : Bool) (m : ServerMessage) → (waits && not (is_id m)) ≡ (waits && not (list_any is_id (m ∷ [])))
waits_one waits m = ap (λ (b : Bool). waits && not b) (sym (none_any (is_id m)))

-- and after none
pub waits_none : (waits : Bool) → waits ≡ (waits && not (list_any is_id []))
waits_none true = refl
waits_none false = refl

-- it doesn't begin to wait again
pub waits_less : (m : ServerMessage) (waits : Bool) → (waits && not (is_id m)) ≡ true → waits ≡ true
waits_less m true e = refl
waits_less m false e = absurd (cc)

-- ---- what is said changes the time that was sent

pub not_exit : (r : Record) → is_exit (record_message r) ≡ false
not_exit (Io delay stream.Stdin bytes) = refl
not_exit (Io delay stream.Stdout bytes) = refl
not_exit (Io delay stream.Stderr bytes) = refl
not_exit (Io delay stream.Ttyin bytes) = refl
not_exit (Io delay stream.Ttyout bytes) = refl
not_exit (Winsize delay rows cols) = refl
not_exit (Suspend delay signal) = refl

says_record : (r : Record) (talk : Talk) → IsValid r → says (record_message r) talk ≡ record talk { sent = talk.sent + delay_of r }
says_record r talk valid = rw (not_exit r) (ap (λ (w : Result Request Refusal). says_asked w talk) (record_again r valid))

pub same_sent : (talk : Talk) (a b : ℕ) → a ≡ b → (let t : Talk = record talk { sent = a } in t) ≡ record talk { sent = b }
same_sent talk a b is = ap (λ (n : ℕ). let t : Talk = record talk { sent = n } in t) is

pub records_said : (total : ℕ) (rs : List Record) (talk : Talk) → All IsValid rs → goes_on total (all_said (map record_message rs)) talk ≡ record talk { sent = talk.sent + elapsed rs }
records_said total [] talk valid = same_sent talk talk.sent (talk.sent + 0) (let h : talk.sent ≡ talk.sent + 0 = omega arith in h)
records_said total (r ∷ rs) talk valid =
    ap (λ (t : Talk). goes_on total (all_said (map record_message rs)) t) (says_record r talk (All-head IsValid r rs valid))
    ∙ (records_said total rs (record talk { sent = talk.sent + delay_of r }) (All-tail IsValid r rs valid)
    ∙ same_sent talk (talk.sent + delay_of r + elapsed rs) (talk.sent + (delay_of r + elapsed rs)) (let h : talk.sent + delay_of r + elapsed rs ≡ talk.sent + (delay_of r + elapsed rs) = omega arith in h))

pub exit_said : (total : ℕ) (exit : Exit) (talk : Talk) → goes_on total (all_said (exit_message exit ∷ [])) talk ≡ record talk { ended = true }
exit_said total exit talk = refl

accept_said : (w : Result Accept Refusal) (talk : Talk) → says_asked (and_then w (λ a. Ok (request.Accept a))) talk ≡ talk
accept_said (Ok a) talk = refl
accept_said (Err e) talk = refl

restart_said : (w : Result Restart Refusal) (talk : Talk) → says_asked (and_then w (λ a. Ok (request.Restart a))) talk ≡ talk
restart_said (Ok a) talk = refl
restart_said (Err e) talk = refl

pub opening_said : (total : ℕ) (way : Way) (head : Head) (talk : Talk) → goes_on total (all_said (opening_of way head)) talk ≡ talk
opening_said total (Resumes id point n) head talk = restart_said (restart_of (record { log_id = id; resume_point = Some (time_of point) })) talk
opening_said total Anew head talk = accept_said (accept_of (record { submit_time = Some head.submit; info_msgs = head.info; expect_iobufs = true })) talk

-- the state is the same
pub said_state : (total : ℕ) (ms : List ClientMessage) (talk : Talk) → (goes_on total (all_said ms) talk).state ≡ talk.state
said_state total [] talk = refl
said_state total (m ∷ ms) talk = said_state total ms (says m talk) ∙ says_same m talk

-- what is heard changes nothing of what was sent
pub hears_sent : (total : ℕ) (m : ServerMessage) (talk : Talk) → (hears total m talk).sent ≡ talk.sent
hears_sent total (server.Hello m) talk = refl
hears_sent total (server.LogId id) talk = either (talk.known || nat_lt longest_id (length id) || is_done talk.state) talk _ refl
  where
    either : (b : Bool) (a c : Talk) → c.sent ≡ a.sent → (if b then a else c).sent ≡ a.sent
    either true a c e = refl
    either false a c e = e
hears_sent total (server.CommitPoint time) talk = go (nanos_of time)
  where
    either : (b : Bool) (a c : Talk) → c.sent ≡ a.sent → (if b then a else c).sent ≡ a.sent
    either true a c e = refl
    either false a c e = e

    go : (o : Option ℕ) → (hears_point total o talk).sent ≡ talk.sent
    go None = refl
    go (Some c) = either (nat_lt talk.sent c || not talk.known || not (keeps_id talk.state) || talk.whole) talk _ refl
hears_sent total (server.Error text) talk = either (talk.asked && keeps_id talk.state) talk _ refl
  where
    either : (b : Bool) (a c : Talk) → c.sent ≡ a.sent → (if b then c else a).sent ≡ a.sent
    either true a c e = e
    either false a c e = refl
hears_sent total (server.Abort text) talk = refl

-- how far a connection is, by its parts
abbrev pub talk_by : KeepingView → Meter → Talk
talk_by keeping meter = record { state = keeping.state; known = meter.known; asked = meter.asked; sent = meter.sent; ended = meter.ended; whole = meter.whole }

-- the last ones of valid records are valid
pub all_behind : (records more : List Record) → All IsValid (records ++ more) → All IsValid more
all_behind [] more all = all
all_behind (r ∷ records) more all = all_behind records more (All-tail IsValid r (records ++ more) all)
