-- What the messages of a stored log ask, and what a connection that brings the first of them asks.
use Rattle.std.proofs.Common.{◌≡◌, ◌≤◌, ◌<◌, ◌^◌, ℕ, List, [], ◌∷◌, ◌++◌, drop, map, refl, sym, ◌∙◌, ap, subst, inl, inr, Option, Some, None}
use Rattle.std.specs.Prelude.{true, Result, Ok, All, IsSome}
use Rattle.std.proofs.lemmas.List.Elements.{All-drop, All-head, All-tail}
use Rattle.lsv_base.specs.LogNo.{digits_of, log_no_in}
use Rattle.lsv_base.specs.Time.{nanos_of, time_of}
use Rattle.lsv_info.specs.declared.times.Exit.{Exit}
use Rattle.lsv_info.specs.declared.times.Head.{Head}
use Rattle.lsv_msg.specs.declared.messages.ClientMessage.{ClientMessage}
use Rattle.lsv_record.specs.Points.{first}
use Rattle.lsv_record.specs.Records.{IsValid}
use Rattle.lsv_record.specs.declared.records.Record.{Record}
use Rattle.lsv_request.specs.Requests.{request_of}
use Rattle.lsv_request.specs.Stored.{exit_message, head_message, record_message}
use Rattle.lsv_request.specs.declared.refusal.Refusal.{Refusal}
use Rattle.lsv_request.specs.declared.request.Request.{Request}
use Rattle.lsv_request.specs.declared.request.Request.TheVariants as request
use Rattle.lsv_request.specs.declared.request.Restart.{Restart}
use Rattle.lsv_session.specs.declared.job.Body.{Body}
use Rattle.lsv_session.specs.declared.job.Body.TheVariants as body
use Rattle.lsv_transcript.specs.Transcript as transcript
use Rattle.lsv_transcript.specs.Transcript.{all_of, anew, from_record, restart_message, resumed}
use Rattle.lsv_machine.specs.History.{request_in}
use Rattle.lsv_upstream.specs.Jobs.{BringsFirst, NoMessages}
use Rattle.lsv_upstream.specs.Playing.{BringsAsked, StillAsks, StillAsks.Greets, StillAsks.Opens, StillAsks.Resumes, asks_from, ending}
use Rattle.lsv_upstream.proofs.Members.{In, in_append, in_left, in_map}

-- what the laws of lower crates say of messages and times
pub record Words : Type 0 where
  pub record_asks : (r : Record) → IsValid r → request_of (record_message r) ≡ Ok (request.Record r)
  pub head_asks : (head : Head) → IsSome (nanos_of head.submit) → request_of (head_message head) ≡ Ok (request.Accept (record { head = head; expect_iobufs = true }))
  pub exit_asks : (exit : Exit) → IsSome (nanos_of exit.run) → request_of (exit_message exit) ≡ Ok (request.Exit exit)
  pub time_is : (n : ℕ) → n < 2 ^ 63 → nanos_of (time_of n) ≡ Some n
  pub number_is : (n : ℕ) → 1 ≤ n → n ≤ 2176782335 → log_no_in (digits_of n) ≡ Some n

-- these messages ask this, one after another
abbrev pub Ask : List ClientMessage → List Request → Type 0
Ask messages asks = map request_of messages ≡ map (λ q. Ok q) asks

-- a log from its start: a hello, the accept, all records, and the exit
abbrev pub played_anew : Head → List Record → Option Exit → List ClientMessage
played_anew head rs exit = all_of (anew rs head exit)

-- a log after its first n records: a hello, the restart, the other records, and the exit
abbrev pub played_on : (id : List ℕ) (point n : ℕ) → List Record → Option Exit → List ClientMessage
played_on id point n rs exit = all_of (resumed rs exit id point n)

-- what a log from its start asks
abbrev pub asks_anew : Head → List Record → Option Exit → List Request
asks_anew head rs exit = request.Hello ∷ request.Accept (record { head = head; expect_iobufs = true }) ∷ asks_from rs exit 0

-- what a log after its first n records asks
abbrev pub asks_on : (log point n : ℕ) → List Record → Option Exit → List Request
asks_on log point n rs exit = request.Hello ∷ request.Restart (record { log = log; point = point }) ∷ asks_from rs exit n

module _ (words : Words) where
  map_append : {A B : Type 0} (f : A → B) (xs ys : List A) → map f (xs ++ ys) ≡ map f xs ++ map f ys
  map_append f [] ys = refl
  map_append f (x ∷ xs) ys = ap (λ z. f x ∷ z) (map_append f xs ys)

  records_ask : (rs : List Record) → All IsValid rs → Ask (map record_message rs) (map (λ r. request.Record r) rs)
  records_ask [] all = refl
  records_ask (r ∷ rs) all =
      let now = words.record_asks r (All-head IsValid r rs all) in
      let more = records_ask rs (All-tail IsValid r rs all) in
      rw (now, more) refl

  exit_asks_it : (exit : Option Exit) → ((e : Exit) → exit ≡ Some e → IsSome (nanos_of e.run)) → Ask (transcript.ending exit) (ending exit)
  exit_asks_it None timed = refl
  exit_asks_it (Some e) timed = let now = words.exit_asks e (timed e refl) in rw now refl

  rest_asks : (rs : List Record) (exit : Option Exit) (n : ℕ) → All IsValid rs → ((e : Exit) → exit ≡ Some e → IsSome (nanos_of e.run)) → Ask (from_record rs exit n) (asks_from rs exit n)
  rest_asks rs exit n all timed =
      map_append request_of (map record_message (drop n rs)) (transcript.ending exit)
      ∙ (ap (λ (z : List (Result Request Refusal)). z ++ map request_of (transcript.ending exit)) (records_ask (drop n rs) (All-drop IsValid n rs all))
      ∙ (ap (λ (z : List (Result Request Refusal)). map (λ q. Ok q) (map (λ r. request.Record r) (drop n rs)) ++ z) (exit_asks_it exit timed)
      ∙ sym (map_append (λ q. Ok q) (map (λ r. request.Record r) (drop n rs)) (ending exit))))

  pub anew_asks : (head : Head) (rs : List Record) (exit : Option Exit) → All IsValid rs → IsSome (nanos_of head.submit) → ((e : Exit) → exit ≡ Some e → IsSome (nanos_of e.run)) → Ask (played_anew head rs exit) (asks_anew head rs exit)
  anew_asks head rs exit all begun timed =
      let it = words.head_asks head begun in
      let rest = rest_asks rs exit 0 all timed in
      rw (it, rest) refl

  pub restart_asks : (id : List ℕ) (log point : ℕ) → log_no_in id ≡ Some log → point < 2 ^ 63 → request_of (restart_message id point) ≡ Ok (request.Restart (record { log = log; point = point }))
  restart_asks id log point is low = let t = words.time_is point low in rw (t, is) refl

  pub on_asks : (id : List ℕ) (log point n : ℕ) (rs : List Record) (exit : Option Exit) → log_no_in id ≡ Some log → point < 2 ^ 63 → All IsValid rs → ((e : Exit) → exit ≡ Some e → IsSome (nanos_of e.run))
      → Ask (played_on id point n rs exit) (asks_on log point n rs exit)
  on_asks id log point n rs exit is low all timed =
      let it = restart_asks id log point is low in
      let rest = rest_asks rs exit n all timed in
      rw (it, rest) refl

pub anew_shape : (head : Head) (rs : List Record) (exit : Option Exit) → StillAsks rs exit (asks_anew head rs exit)
anew_shape head rs exit =
    let asks = request.Accept (record { head = head; expect_iobufs = true }) ∷ asks_from rs exit 0 in
    Greets (asks_anew head rs exit) asks refl (Opens asks (record { head = head; expect_iobufs = true }) refl)

pub on_shape : (log point n : ℕ) (rs : List Record) (exit : Option Exit) → first rs point ≡ Some n → StillAsks rs exit (asks_on log point n rs exit)
on_shape log point n rs exit there =
    let asks = request.Restart (record { log = log; point = point }) ∷ asks_from rs exit n in
    Greets (asks_on log point n rs exit) asks refl (Resumes asks (record { log = log; point = point }) n there refl)

-- ---- The first of the messages

-- the first of these messages ask the first of that
record FirstAsk (brought : List ClientMessage) (asks : List Request) : Type 0 where
  asked : List Request
  later : List Request
  is : asked ++ later ≡ asks
  read : Ask brought asked

first_ask : (brought later : List ClientMessage) (asks : List Request) → Ask (brought ++ later) asks → FirstAsk brought asks
first_ask [] later asks e = record { asked = []; later = asks; is = refl; read = refl }
first_ask (m ∷ brought) later [] e = absurd (cc)
first_ask (m ∷ brought) later (q ∷ asks) e =
    let head : request_of m ≡ Ok q = cc in
    let tails : Ask (brought ++ later) asks = cc in
    let f = first_ask brought later asks tails in
    record { asked = q ∷ f.asked; later = f.later; is = ap (λ z. q ∷ z) f.is; read = (let more = f.read in rw (head, more) refl) }

pub brings_asked : (messages : List ClientMessage) (asks : List Request) (bodies : List Body) → Ask messages asks → BringsFirst messages bodies → BringsAsked asks bodies
brings_asked messages asks bodies asked b =
    let f = first_ask b.brought b.later asks (ap (map request_of) b.whole ∙ asked) in
    record { messages = b.brought; ends = b.ends; asked = f.asked; later = f.later; jobs = b.jobs; are_ends = b.no_messages; read = f.read; first = f.is }

-- a job that asks something asks one of these
pub ends_ask_nothing : (ends : List Body) (b : Body) (q : Request) → NoMessages ends → In b ends → request_in b ≡ Ok q → ⊥
ends_ask_nothing [] b q none i e = i
ends_ask_nothing (body.Msg m ∷ ends) b q none i e = none
ends_ask_nothing (body.Bad fault ∷ ends) b q none (inl x) e = let y = ap request_in x ∙ e in cc
ends_ask_nothing (body.Bad fault ∷ ends) b q none (inr i) e = ends_ask_nothing ends b q none i e
ends_ask_nothing (body.Gone ∷ ends) b q none (inl x) e = let y = ap request_in x ∙ e in cc
ends_ask_nothing (body.Gone ∷ ends) b q none (inr i) e = ends_ask_nothing ends b q none i e

messages_ask : (messages : List ClientMessage) (asked : List Request) (m : ClientMessage) (q : Request) → Ask messages asked → In m messages → request_of m ≡ Ok q → In q asked
messages_ask [] asked m q e i r = absurd i
messages_ask (x ∷ messages) [] m q e i r = absurd (cc)
messages_ask (x ∷ messages) (y ∷ asked) m q e (inl p) r =
    let head : request_of x ≡ Ok y = cc in
    let z : Ok y ≡ Ok q = sym head ∙ (ap request_of p ∙ r) in
    inl (cc)
messages_ask (x ∷ messages) (y ∷ asked) m q e (inr j) r =
    let tails : Ask messages asked = cc in
    inr (messages_ask messages asked m q tails j r)

pub body_asks : (asks : List Request) (bodies : List Body) (b : Body) (q : Request) → BringsAsked asks bodies → In b bodies → request_in b ≡ Ok q → In q asks
body_asks asks bodies b q f i r = subst (In q) f.first (in_left q f.asked f.later (elim (in_append b (map (λ m. body.Msg m) f.messages) f.ends (subst (In b) f.jobs i)) [
  | inl here ↦ let (m, j, e) = in_map (λ m. body.Msg m) b f.messages here in messages_ask f.messages f.asked m q f.read j (ap request_in e ∙ r)
  | inr end ↦ absurd (ends_ask_nothing f.ends b q f.are_ends end r)
]))

-- a restart among what is asked from a place on: none
pub no_restart_from : (rs : List Record) (exit : Option Exit) (n : ℕ) (restart : Restart) → In (request.Restart restart) (asks_from rs exit n) → ⊥
no_restart_from rs exit n restart i = elim (in_append (request.Restart restart) (map (λ r. request.Record r) (drop n rs)) (ending exit) i) [
  | inl here ↦ let (r, j, e) = in_map (λ r. request.Record r) (request.Restart restart) (drop n rs) here in cc
  | inr end ↦ at_end exit end
]
  where
    at_end : (x : Option Exit) → In (request.Restart restart) (ending x) → ⊥
    at_end None j = j
    at_end (Some e) (inl p) = cc
    at_end (Some e) (inr j) = j

pub no_restart_anew : (head : Head) (rs : List Record) (exit : Option Exit) (restart : Restart) → In (request.Restart restart) (asks_anew head rs exit) → ⊥
no_restart_anew head rs exit restart (inl e) = cc
no_restart_anew head rs exit restart (inr (inl e)) = cc
no_restart_anew head rs exit restart (inr (inr i)) = no_restart_from rs exit 0 restart i

pub restart_on : (log point n : ℕ) (rs : List Record) (exit : Option Exit) (restart : Restart) → In (request.Restart restart) (asks_on log point n rs exit) → (restart.log ≡ log) × (restart.point ≡ point)
restart_on log point n rs exit restart (inl e) = absurd (cc)
restart_on log point n rs exit restart (inr (inl e)) = let x : record { log = log; point = point } ≡ restart = cc in (sym (ap (λ (r : Restart). r.log) x), sym (ap (λ (r : Restart). r.point) x))
restart_on log point n rs exit restart (inr (inr i)) = absurd (no_restart_from rs exit n restart i)
