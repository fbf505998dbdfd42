-- What is refused by its judgement: no such refusal tells what a log holds.
use Rattle.std.proofs.Common.{◌≡◌, ℕ, refl, sym, ◌∙◌, ap, subst, Option, Some, None}
use Rattle.std.specs.Prelude.{Bool, true, false, ◌||◌, if◌then◌else◌, is_some, not, Result, Ok, Err}
use Rattle.lsv_base.specs.LogNo.{log_no_in}
use Rattle.lsv_base.specs.declared.time.TimeSpec.{TimeSpec}
use Rattle.lsv_msg.specs.declared.messages.ClientMessage.{ClientMessage}
use Rattle.lsv_msg.specs.declared.messages.ClientMessage.TheVariants as client
use Rattle.lsv_request.specs.Judged.{content_refusal, first_of, has_good_time, is_little, is_negative, refusal_in, time_refusal, unless}
use Rattle.lsv_request.specs.Requests.{has_keys, is_signal, request_of}
use Rattle.lsv_request.specs.declared.refusal.Refusal.{Refusal}
use Rattle.lsv_request.specs.declared.refusal.Refusal.TheVariants as refusals
use Rattle.lsv_request.specs.declared.request.Request.{Request}
use Rattle.lsv_request.specs.declared.request.Request.TheVariants as request
use Rattle.lsv_request.proofs.Refusing.{refused}
use Rattle.lsv_session.specs.declared.connection.ConnId.{ConnId}
use Rattle.lsv_session.specs.declared.connection.ConnState.{ConnState}
use Rattle.lsv_session.specs.declared.job.Body.{Body}
use Rattle.lsv_session.specs.declared.job.Body.TheVariants as body
use Rattle.lsv_session.specs.declared.job.Job.{Job}
use Rattle.lsv_msg.specs.declared.fault.MsgFault.{MsgFault}
use Rattle.lsv_msg.specs.declared.fault.MsgFault.TheVariants as message_faults
use Rattle.lsv_session.specs.declared.job.Fault.{Fault}
use Rattle.lsv_session.specs.declared.job.Fault.TheVariants as faults
use Rattle.lsv_machine.specs.Answers.{refusal}
use Rattle.lsv_machine.specs.History.{is_look}
use Rattle.lsv_machine.specs.Judgement.{allows, fault_refusal, judged, malformed, with_keys}
use Rattle.lsv_machine.specs.Machine.{Machine, Settings, is_dead, is_running}
use Rattle.lsv_machine.specs.Work as work
use Rattle.lsv_machine.specs.Work.{alive, answered, plain}

-- it doesn't tell what a log holds
abbrev pub IsNoLook : Refusal → Type 0
IsNoLook why = (k : ConnId) → is_look (refusal k why) ≡ false

-- nor does one that is given here
abbrev IsFair : Option Refusal → Type 0
IsFair o = (why : Refusal) → o ≡ Some why → IsNoLook why

fair_none : IsFair None
fair_none why e = absurd (cc)

fair_some : (why : Refusal) → IsNoLook why → IsFair (Some why)
fair_some why no_look other e = let same : why ≡ other = cc in subst IsNoLook same no_look

fair_unless : (b : Bool) (why : Refusal) → IsNoLook why → IsFair (unless b why)
fair_unless true why no_look = fair_none
fair_unless false why no_look = fair_some why no_look

fair_first : (one two : Option Refusal) → IsFair one → IsFair two → IsFair (first_of one two)
fair_first (Some why) two fair later = fair
fair_first None two fair later = later

-- ---- A message

fair_content : (m : ClientMessage) → IsFair (content_refusal m)
fair_content (client.Winsize m) = fair_unless (not (is_negative m.rows || is_negative m.cols)) refusals.BadSizeOrSignal (λ k. refl)
fair_content (client.Suspend m) = fair_unless (is_signal m.signal) refusals.BadSizeOrSignal (λ k. refl)
fair_content (client.Ttyin m) = fair_unless (is_little m.bytes) refusals.MessageTooLarge (λ k. refl)
fair_content (client.Ttyout m) = fair_unless (is_little m.bytes) refusals.MessageTooLarge (λ k. refl)
fair_content (client.Stdin m) = fair_unless (is_little m.bytes) refusals.MessageTooLarge (λ k. refl)
fair_content (client.Stdout m) = fair_unless (is_little m.bytes) refusals.MessageTooLarge (λ k. refl)
fair_content (client.Stderr m) = fair_unless (is_little m.bytes) refusals.MessageTooLarge (λ k. refl)
fair_content (client.Restart m) = fair_unless (is_some (log_no_in m.log_id)) refusals.NoSuchLog (λ k. refl)
fair_content (client.Hello m) = fair_none
fair_content (client.Accept m) = fair_none
fair_content (client.Reject m) = fair_none
fair_content (client.Alert m) = fair_none
fair_content (client.Exit m) = fair_none

fair_request : (m : ClientMessage) → IsFair (refusal_in (request_of m))
fair_request m = subst IsFair (sym (refused m)) (fair_first (time_refusal m) (content_refusal m) (fair_unless (has_good_time m) refusals.BadTime (λ k. refl)) (fair_content m))

fair_keys : (s : ConnState) (w : Result Request Refusal) → IsFair (refusal_in w) → IsFair (refusal_in (with_keys s w))
fair_keys s (Err why) fair = fair
fair_keys s (Ok request.Hello) fair = fair_none
fair_keys s (Ok (request.Reject report)) fair = fair_none
fair_keys s (Ok (request.Alert report)) fair = fair_none
fair_keys s (Ok (request.Restart restart)) fair = fair_none
fair_keys s (Ok (request.Record r)) fair = fair_none
fair_keys s (Ok (request.Exit exit)) fair = fair_none
fair_keys s (Ok (request.Accept accept)) fair = go (is_running s || has_keys accept.head.info)
  where
    go : (b : Bool) → IsFair (refusal_in (if b then Ok (request.Accept accept) else Err refusals.MissingKey))
    go true = fair_none
    go false = fair_some refusals.MissingKey (λ k. refl)

-- a message that its judgement refuses
pub judged_fair : (s : ConnState) (m : ClientMessage) (why : Refusal) → judged s m ≡ Err why → IsNoLook why
judged_fair s m why e = go (allows m s) why (ap (λ (w : Result Request Refusal). refusal_in w) e)
  where
    go : (b : Bool) → IsFair (refusal_in (if b then with_keys s (request_of m) else Err refusals.UnexpectedMessage))
    go true = fair_keys s (request_of m) (fair_request m)
    go false = fair_some refusals.UnexpectedMessage (λ k. refl)

-- ---- What the table says of it

alive_is : (set : Settings) (now : TimeSpec) (job : Job) (m : Machine) (n : ℕ) → is_dead (m.states job.conn) ≡ false → plain set now job n m ≡ alive set now job.conn job.body n m
alive_is set now job m n living = rw living refl

-- a message that is refused
pub message_refused : (set : Settings) (now : TimeSpec) (job : Job) (message : ClientMessage) (why : Refusal) (m : Machine) (k : ConnId) → job.conn ≡ k → job.body ≡ body.Msg message → is_dead (m.states k) ≡ false
    → judged (m.states k) message ≡ Err why → (n : ℕ) → plain set now job n m ≡ work.refused k why m
message_refused set now job message why m k conn is living e n =
    alive_is set now job m n (ap (λ (j : ConnId). is_dead (m.states j)) conn ∙ living) ∙ ap (λ (j : ConnId). alive set now j job.body n m) conn ∙ ap (λ (b : Body). alive set now k b n m) is
    ∙ ap (λ (w : Result Request Refusal). answered set now k (m.states k) w n m) e

-- bytes that go on as no message are refused
pub bytes_refused : (set : Settings) (now : TimeSpec) (job : Job) (fault : Fault) (m : Machine) (k : ConnId) → job.conn ≡ k → job.body ≡ body.Bad fault → is_dead (m.states k) ≡ false
    → (n : ℕ) → plain set now job n m ≡ work.refused k (fault_refusal fault) m
bytes_refused set now job fault m k conn is living n =
    alive_is set now job m n (ap (λ (j : ConnId). is_dead (m.states j)) conn ∙ living) ∙ ap (λ (j : ConnId). alive set now j job.body n m) conn ∙ ap (λ (b : Body). alive set now k b n m) is

malformed_fair : (fault : MsgFault) → IsNoLook (malformed fault)
malformed_fair message_faults.NoMem k = refl
malformed_fair (message_faults.Wire f) k = refl
malformed_fair message_faults.Untyped k = refl
malformed_fair (message_faults.Twice n) k = refl
malformed_fair (message_faults.WrongType n) k = refl

pub fault_fair : (fault : Fault) → IsNoLook (fault_refusal fault)
fault_fair (faults.Malformed f) k = malformed_fair f k
fault_fair (faults.TooLarge n) k = refl
fault_fair faults.NoMem k = refl
