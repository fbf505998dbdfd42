-- What a judgement that lets a message through says of the session's state.
use Rattle.std.proofs.Common.{◌≡◌, ℕ, refl, subst, Some, None}
use Rattle.std.specs.Prelude.{Bool, true, false, ◌||◌, if◌then◌else◌, Result, Ok, Err}
use Rattle.lsv_msg.specs.declared.messages.ClientMessage.{ClientMessage}
use Rattle.lsv_msg.specs.declared.messages.ClientMessage.TheVariants as client
use Rattle.lsv_record.specs.declared.records.Record.{Record}
use Rattle.lsv_record.specs.declared.records.Stream.TheVariants as stream
use Rattle.lsv_request.specs.Requests.{accept_of, alert_of, and_then, data_of, exit_of, has_keys, reject_of, request_of, restart_of, suspend_of, window_of}
use Rattle.lsv_request.specs.declared.refusal.Refusal.{Refusal}
use Rattle.lsv_request.specs.declared.refusal.Refusal.TheVariants as refusals
use Rattle.lsv_request.specs.declared.request.Request.{Request}
use Rattle.lsv_request.specs.declared.request.Request.TheVariants as request
use Rattle.lsv_session.specs.declared.connection.ConnState.{ConnState}
use Rattle.lsv_session.specs.declared.connection.ConnState.TheVariants.{Fresh, Greeted, Alerted, Running, Dead}
use Rattle.lsv_machine.specs.Judgement.{allows, is_accept, judged, row, with_keys}
use Rattle.lsv_machine.specs.Machine.{is_running, log_of}

-- what a request says of the state that allows it
abbrev pub Suits : ConnState → Request → Type 0
Suits s request.Hello = log_of s ≡ None
Suits s (request.Accept accept) = Unit {0}
Suits s (request.Reject report) = Unit {0}
Suits s (request.Alert report) = Unit {0}
Suits s (request.Restart restart) = log_of s ≡ None
Suits s (request.Record r) = (i : ℕ) × (log_of s ≡ Some i)
Suits s (request.Exit exit) = Unit {0}

-- a part that isn't refused
abbrev pub passes : {A : Type 0} → A → Result A Refusal
passes a = Ok a

with_keys_ok : (s : ConnState) (w : Result Request Refusal) (asked : Request) → with_keys s w ≡ Ok asked → w ≡ Ok asked
with_keys_ok s (Err why) asked e = e
with_keys_ok s (Ok request.Hello) asked e = e
with_keys_ok s (Ok (request.Reject report)) asked e = e
with_keys_ok s (Ok (request.Alert report)) asked e = e
with_keys_ok s (Ok (request.Restart restart)) asked e = e
with_keys_ok s (Ok (request.Record r)) asked e = e
with_keys_ok s (Ok (request.Exit exit)) asked e = e
with_keys_ok s (Ok (request.Accept accept)) asked e = go (is_running s || has_keys accept.head.info) e
  where
    go : (b : Bool) → (if b then passes (request.Accept accept) else Err refusals.MissingKey) ≡ passes asked → passes (request.Accept accept) ≡ passes asked
    go true d = d
    go false d = absurd (cc)

-- what asks for something else than an accept, or is refused, needs no keys
needs_none : {A : Type 0} (s : ConnState) (ask : A → Request) → ((a : A) → with_keys s (passes (ask a)) ≡ passes (ask a)) → (w : Result A Refusal) → with_keys s (and_then w (λ a. passes (ask a))) ≡ and_then w (λ a. passes (ask a))
needs_none s ask passed (Ok a) = passed a
needs_none s ask passed (Err why) = refl

pub others_pass : (s : ConnState) (m : ClientMessage) → is_accept m ≡ false → with_keys s (request_of m) ≡ request_of m
others_pass s (client.Hello m) e = refl
others_pass s (client.Accept m) e = absurd (cc)
others_pass s (client.Reject m) e = needs_none s request.Reject (λ a. refl) (reject_of m)
others_pass s (client.Alert m) e = needs_none s request.Alert (λ a. refl) (alert_of m)
others_pass s (client.Restart m) e = needs_none s request.Restart (λ a. refl) (restart_of m)
others_pass s (client.Exit m) e = needs_none s request.Exit (λ a. refl) (exit_of m)
others_pass s (client.Ttyin m) e = needs_none s request.Record (λ a. refl) (data_of stream.Ttyin m)
others_pass s (client.Ttyout m) e = needs_none s request.Record (λ a. refl) (data_of stream.Ttyout m)
others_pass s (client.Stdin m) e = needs_none s request.Record (λ a. refl) (data_of stream.Stdin m)
others_pass s (client.Stdout m) e = needs_none s request.Record (λ a. refl) (data_of stream.Stdout m)
others_pass s (client.Stderr m) e = needs_none s request.Record (λ a. refl) (data_of stream.Stderr m)
others_pass s (client.Winsize m) e = needs_none s request.Record (λ a. refl) (window_of m)
others_pass s (client.Suspend m) e = needs_none s request.Record (λ a. refl) (suspend_of m)

and_then_ok : {A B : Type 0} (w : Result A Refusal) (next : A → Result B Refusal) (b : B) → and_then w next ≡ Ok b → (a : A) × (next a ≡ Ok b)
and_then_ok (Ok a) next b e = (a, e)
and_then_ok (Err why) next b e = absurd (cc)

ok_is : {A : Type 0} (a b : A) → passes a ≡ passes b → a ≡ b
ok_is a b e = cc

before_session : (s : ConnState) (greeted : Bool) → row true greeted false false false s ≡ true → log_of s ≡ None
before_session Fresh greeted e = refl
before_session Greeted greeted e = refl
before_session Alerted greeted e = absurd (cc)
before_session (Running None) greeted e = absurd (cc)
before_session (Running (Some n)) greeted e = absurd (cc)
before_session Dead greeted e = absurd (cc)

in_log : (s : ConnState) → row false false false false true s ≡ true → (i : ℕ) × (log_of s ≡ Some i)
in_log Fresh e = absurd (cc)
in_log Greeted e = absurd (cc)
in_log Alerted e = absurd (cc)
in_log (Running None) e = absurd (cc)
in_log (Running (Some n)) e = (n, refl)
in_log Dead e = absurd (cc)

suits_record : (s : ConnState) (w : Result Record Refusal) (asked : Request) → row false false false false true s ≡ true → and_then w (λ r. Ok (request.Record r)) ≡ Ok asked → Suits s asked
suits_record s w asked t e =
    let (r, q) = and_then_ok w (λ r. Ok (request.Record r)) asked e in
    subst (Suits s) (ok_is (request.Record r) asked q) (in_log s t)

-- a request that a state's row allows suits the state
suits : (s : ConnState) (m : ClientMessage) (asked : Request) → allows m s ≡ true → request_of m ≡ Ok asked → Suits s asked
suits s (client.Hello m) asked t e = subst (Suits s) (ok_is request.Hello asked e) (before_session s false t)
suits s (client.Accept m) asked t e = let (a, q) = and_then_ok (accept_of m) (λ a. Ok (request.Accept a)) asked e in subst (Suits s) (ok_is (request.Accept a) asked q) tt
suits s (client.Reject m) asked t e = let (a, q) = and_then_ok (reject_of m) (λ a. Ok (request.Reject a)) asked e in subst (Suits s) (ok_is (request.Reject a) asked q) tt
suits s (client.Alert m) asked t e = let (a, q) = and_then_ok (alert_of m) (λ a. Ok (request.Alert a)) asked e in subst (Suits s) (ok_is (request.Alert a) asked q) tt
suits s (client.Restart m) asked t e = let (a, q) = and_then_ok (restart_of m) (λ a. Ok (request.Restart a)) asked e in subst (Suits s) (ok_is (request.Restart a) asked q) (before_session s true t)
suits s (client.Exit m) asked t e = let (a, q) = and_then_ok (exit_of m) (λ a. Ok (request.Exit a)) asked e in subst (Suits s) (ok_is (request.Exit a) asked q) tt
suits s (client.Ttyin m) asked t e = suits_record s (data_of stream.Ttyin m) asked t e
suits s (client.Ttyout m) asked t e = suits_record s (data_of stream.Ttyout m) asked t e
suits s (client.Stdin m) asked t e = suits_record s (data_of stream.Stdin m) asked t e
suits s (client.Stdout m) asked t e = suits_record s (data_of stream.Stdout m) asked t e
suits s (client.Stderr m) asked t e = suits_record s (data_of stream.Stderr m) asked t e
suits s (client.Winsize m) asked t e = suits_record s (window_of m) asked t e
suits s (client.Suspend m) asked t e = suits_record s (suspend_of m) asked t e

-- a message that is let through asks for what it says, and that suits the state
pub judged_ok : (s : ConnState) (m : ClientMessage) (asked : Request) → judged s m ≡ Ok asked → (request_of m ≡ Ok asked) × Suits s asked
judged_ok s m asked e = go (allows m s) refl e
  where
    go : (b : Bool) → allows m s ≡ b → (if b then with_keys s (request_of m) else Err refusals.UnexpectedMessage) ≡ Ok asked → (request_of m ≡ Ok asked) × Suits s asked
    go true t d = let w = with_keys_ok s (request_of m) asked d in (w, suits s m asked t w)
    go false t d = absurd (cc)
