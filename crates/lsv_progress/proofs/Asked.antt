-- What a message asks, whatever the state: what is judged is what was asked, and a legal conversation is one whatever the number of its log.
use Rattle.std.proofs.Common.{◌≡◌, ℕ, List, [], ◌∷◌, refl, sym, ◌∙◌, ap, inl, inr, Some}
use Rattle.std.specs.Prelude.{◌||◌, Bool, true, false, if◌then◌else◌, Result, Ok, Err}
use Rattle.lsv_base.specs.declared.time.TimeSpec.{TimeSpec}
use Rattle.lsv_msg.specs.declared.messages.ClientMessage.{ClientMessage}
use Rattle.lsv_msg.specs.declared.messages.ClientMessage.TheVariants as client
use Rattle.lsv_request.specs.Requests.{has_keys, request_of}
use Rattle.lsv_request.specs.declared.refusal.Refusal.{Refusal}
use Rattle.lsv_request.specs.declared.refusal.Refusal.TheVariants as refusals
use Rattle.lsv_request.specs.declared.request.Request.{Request}
use Rattle.lsv_request.specs.declared.request.Request.TheVariants as request
use Rattle.lsv_session.specs.declared.connection.ConnId.{ConnId}
use Rattle.lsv_session.specs.declared.connection.ConnState.{ConnState}
use Rattle.lsv_session.specs.declared.connection.ConnState.TheVariants.{Greeted, Alerted, Running, Dead}
use Rattle.lsv_session.specs.declared.job.Body.{Body}
use Rattle.lsv_session.specs.declared.job.Body.TheVariants as body
use Rattle.lsv_machine.specs.Failures.{AsksFor}
use Rattle.lsv_machine.specs.History.{is_gone, request_in}
use Rattle.lsv_machine.specs.Judgement.{allows, judged, with_keys}
use Rattle.lsv_machine.specs.Legal.{IsLegal, goes_to, has_place}
use Rattle.lsv_machine.specs.Machine.{Machine, Settings, is_dead, is_running}
use Rattle.lsv_machine.specs.Work.{lined, plain, work}

keyed : (b : Bool) (w : Result Request Refusal) (asked : Request) → (if b then w else Err refusals.MissingKey) ≡ Ok asked → w ≡ Ok asked
keyed true w asked h = h
keyed false w asked h = absurd (cc)

keys_pass : (s : ConnState) (w : Result Request Refusal) (asked : Request) → with_keys s w ≡ Ok asked → w ≡ Ok asked
keys_pass s (Err why) asked e = absurd (cc)
keys_pass s (Ok (request.Accept accept)) asked e = keyed (is_running s || has_keys accept.head.info) (Ok (request.Accept accept)) asked e
keys_pass s (Ok request.Hello) asked e = e
keys_pass s (Ok (request.Reject report)) asked e = e
keys_pass s (Ok (request.Alert report)) asked e = e
keys_pass s (Ok (request.Restart restart)) asked e = e
keys_pass s (Ok (request.Record r)) asked e = e
keys_pass s (Ok (request.Exit exit)) asked e = e

pub judged_asks : (s : ConnState) (message : ClientMessage) (asked : Request) → judged s message ≡ Ok asked → request_of message ≡ Ok asked
judged_asks s message asked e = go (allows message s) e
  where
    go : (b : Bool) → (if b then with_keys s (request_of message) else Err refusals.UnexpectedMessage) ≡ Ok asked → request_of message ≡ Ok asked
    go true h = keys_pass s (request_of message) asked h
    go false h = absurd (cc)

pub asked_in : (s : ConnState) (b : Body) (asked : Request) → AsksFor s b asked → request_in b ≡ Ok asked
asked_in s (body.Msg message) asked asks = judged_asks s message asked asks
asked_in s (body.Bad fault) asked asks = absurd asks
asked_in s body.Gone asked asks = absurd asks

-- who asks for something stays
pub asks_stays : (s : ConnState) (b : Body) (asked : Request) → AsksFor s b asked → is_gone b ≡ false
asks_stays s (body.Msg message) asked asks = refl
asks_stays s (body.Bad fault) asked asks = absurd asks
asks_stays s body.Gone asked asks = absurd asks

-- what is done for a message that is let through
pub asked_does : (set : Settings) (now : TimeSpec) (k : ConnId) (b : Body) (i : ℕ) (m : Machine) (s : ConnState) (asked : Request) → m.states k ≡ s → is_dead s ≡ false → AsksFor s b asked
    → plain set now (record { conn = k; body = b }) i m ≡ lined set now k s asked i m (work k s asked i m)
asked_does set now k (body.Msg message) i m s asked at living asks =
    let dead : is_dead (m.states k) ≡ false = ap is_dead at ∙ living in
    rw (dead, at, asks) refl
asked_does set now k (body.Bad fault) i m s asked at living asks = absurd asks
asked_does set now k body.Gone i m s asked at living asks = absurd asks

-- ---- Whatever the number of the log

-- the same state, but that a session's log may have another number
data Alike : ConnState → ConnState → Type 0 where
  same_state : (s : ConnState) → Alike s s
  both_run : (n i : ℕ) → Alike (Running (Some n)) (Running (Some i))

allows_alike : (message : ClientMessage) (n i : ℕ) → allows message (Running (Some n)) ≡ allows message (Running (Some i))
allows_alike (client.Hello m) n i = refl
allows_alike (client.Accept m) n i = refl
allows_alike (client.Reject m) n i = refl
allows_alike (client.Alert m) n i = refl
allows_alike (client.Restart m) n i = refl
allows_alike (client.Ttyin m) n i = refl
allows_alike (client.Ttyout m) n i = refl
allows_alike (client.Stdin m) n i = refl
allows_alike (client.Stdout m) n i = refl
allows_alike (client.Stderr m) n i = refl
allows_alike (client.Winsize m) n i = refl
allows_alike (client.Suspend m) n i = refl
allows_alike (client.Exit m) n i = refl

keys_alike : (n i : ℕ) (w : Result Request Refusal) → with_keys (Running (Some n)) w ≡ with_keys (Running (Some i)) w
keys_alike n i (Err why) = refl
keys_alike n i (Ok (request.Accept accept)) = refl
keys_alike n i (Ok request.Hello) = refl
keys_alike n i (Ok (request.Reject report)) = refl
keys_alike n i (Ok (request.Alert report)) = refl
keys_alike n i (Ok (request.Restart restart)) = refl
keys_alike n i (Ok (request.Record r)) = refl
keys_alike n i (Ok (request.Exit exit)) = refl

judged_alike : (n i : ℕ) (message : ClientMessage) → judged (Running (Some n)) message ≡ judged (Running (Some i)) message
judged_alike n i message =
    ap (λ (b : Bool). if b then with_keys (Running (Some n)) (request_of message) else Err refusals.UnexpectedMessage) (allows_alike message n i)
    ∙ ap (λ (w : Result Request Refusal). if allows message (Running (Some i)) then w else Err refusals.UnexpectedMessage) (keys_alike n i (request_of message))

asks_alike : (s t : ConnState) (b : Body) (asked : Request) → Alike s t → AsksFor s b asked → AsksFor t b asked
asks_alike s t b asked (same_state u) asks = asks
asks_alike s t (body.Msg message) asked (both_run n i) asks = sym (judged_alike n i message) ∙ asks
asks_alike s t (body.Bad fault) asked (both_run n i) asks = absurd asks
asks_alike s t body.Gone asked (both_run n i) asks = absurd asks

place_alike : (s t : ConnState) (asked : Request) → Alike s t → has_place s asked ≡ true → has_place t asked ≡ true
place_alike s t asked (same_state u) place = place
place_alike s t request.Hello (both_run n i) place = place
place_alike s t (request.Accept accept) (both_run n i) place = place
place_alike s t (request.Reject report) (both_run n i) place = place
place_alike s t (request.Alert report) (both_run n i) place = place
place_alike s t (request.Restart restart) (both_run n i) place = place
place_alike s t (request.Record r) (both_run n i) place = place
place_alike s t (request.Exit exit) (both_run n i) place = place

goes_alike : (n i : ℕ) (s t : ConnState) (asked : Request) → Alike s t → Alike (goes_to n s asked) (goes_to i t asked)
goes_alike n i s t request.Hello a = same_state Greeted
goes_alike n i s t (request.Accept accept) (both_run x y) = both_run x y
goes_alike n i s t (request.Accept accept) (same_state u) = go (is_running u)
  where
    go : (b : Bool) → Alike (if b then u else Running (Some n)) (if b then u else Running (Some i))
    go true = same_state u
    go false = both_run n i
goes_alike n i s t (request.Reject report) a = a
goes_alike n i s t (request.Alert report) (both_run x y) = both_run x y
goes_alike n i s t (request.Alert report) (same_state u) = same_state (if is_running u then u else Alerted)
goes_alike n i s t (request.Restart restart) a = a
goes_alike n i s t (request.Record r) a = a
goes_alike n i s t (request.Exit exit) a = same_state Dead

legal_alike : (n i : ℕ) (s t : ConnState) (bodies : List Body) → Alike s t → IsLegal n s bodies → IsLegal i t bodies
legal_alike n i s t [] a legal = legal
legal_alike n i s t (b ∷ bodies) a (asked, asks, place, rest) = (
  asked,
  asks_alike s t b asked a asks,
  place_alike s t asked a place,
  elim rest [ inl last ↦ inl last | inr (not_exit, more) ↦ inr (not_exit, legal_alike n i (goes_to n s asked) (goes_to i t asked) bodies (goes_alike n i s t asked a) more) ],
)

-- a conversation that is legal with one number of its log is so with another
pub legal_anyhow : (n i : ℕ) (s : ConnState) (bodies : List Body) → IsLegal n s bodies → IsLegal i s bodies
legal_anyhow n i s bodies legal = legal_alike n i s s bodies (same_state s) legal
