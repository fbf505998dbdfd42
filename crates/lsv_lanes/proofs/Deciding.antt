-- The job that decides a connection's lane, and a restart that does.
use Rattle.std.proofs.Common.{◌≡◌, ◌≤◌, ◌<◌, ◌+◌, ◌*◌, ℕ, List, [], ◌∷◌, ◌++◌, refl, ◌∙◌, ap, inl, inr, arith, Option, Some, None, ◌⊎◌}
use Rattle.std.specs.Prelude.{◌%◌, ◌-◌, ◌/◌, Bool, true, false, if◌then◌else◌, Result, Ok, Err}
use Rattle.std.proofs.Math.Nat.{mod-add-div'}
use Rattle.std.proofs.lemmas.Nat.{same_from_place}
use Rattle.lsv_base.specs.LogNo.{log_no_in}
use Rattle.lsv_base.proofs.LogNumbers.{computed_only}
use Rattle.lsv_msg.specs.declared.messages.ClientMessage.{ClientMessage}
use Rattle.lsv_msg.specs.declared.messages.ClientMessage.TheVariants as client
use Rattle.lsv_msg.specs.declared.messages.RestartMessage.{RestartMessage}
use Rattle.lsv_record.specs.declared.records.Record.{Record}
use Rattle.lsv_record.specs.declared.records.Stream.TheVariants as stream
use Rattle.lsv_request.specs.Requests.{accept_of, alert_of, and_then, data_of, exit_of, nanos_in, reject_of, request_of, restart_at, restart_of, suspend_of, window_of}
use Rattle.lsv_request.specs.declared.refusal.Refusal.{Refusal}
use Rattle.lsv_request.specs.declared.request.Request.TheVariants as request
use Rattle.lsv_request.specs.declared.request.Restart.{Restart}
use Rattle.lsv_session.specs.declared.job.Body.{Body}
use Rattle.lsv_session.specs.declared.job.Body.TheVariants as body
use Rattle.lsv_turn.specs.Turns.{EndsWithGone}
use Rattle.lsv_links.specs.Lanes.{is_hello, lane_by, lane_of, lane_of_log}
use Rattle.lsv_machine.specs.Disks.{AsksToResume}
use Rattle.lsv_machine.specs.Machine.{IsOfLane}
use Rattle.lsv_lanes.specs.Jobs.{decider}

abbrev pub passes : {A : Type 0} → A → Result A Refusal
passes a = Ok a

some_is : {A : Type 0} (a b : A) → Some a ≡ Some b → a ≡ b
some_is a b e = cc

pub ok_is : {A : Type 0} (a b : A) → passes a ≡ passes b → a ≡ b
ok_is a b e = cc

-- ---- A restart's message

and_then_is : {A B : Type 0} (w : Result A Refusal) (next : A → Result B Refusal) (b : B) → and_then w next ≡ Ok b → (a : A) × (w ≡ Ok a) × (next a ≡ Ok b)
and_then_is (Ok a) next b e = (a, refl, e)
and_then_is (Err why) next b e = absurd (cc)

-- no record is a restart
no_record : (w : Result Record Refusal) (restart : Restart) → and_then w (λ r. Ok (request.Record r)) ≡ Ok (request.Restart restart) → ⊥
no_record w restart e = let (r, is, next) = and_then_is w (λ r. Ok (request.Record r)) (request.Restart restart) e in let x : request.Record r ≡ request.Restart restart = ok_is (request.Record r) (request.Restart restart) next in cc

log_told : (o : Option ℕ) (point : ℕ) (restart : Restart) → restart_at o point ≡ Ok restart → o ≡ Some restart.log
log_told None point restart e = absurd (cc)
log_told (Some log) point restart e = let x : record { log = log; point = point } ≡ restart = ok_is (record { log = log; point = point }) restart e in ap (λ (r : Restart). Some r.log) x

-- a message that asks to go on with a log names it
pub record Names (m : ClientMessage) (restart : Restart) : Type 0 where
  pub message : RestartMessage
  pub is : m ≡ client.Restart message
  pub log : log_no_in message.log_id ≡ Some restart.log

pub names : (m : ClientMessage) (restart : Restart) → request_of m ≡ Ok (request.Restart restart) → Names m restart
names (client.Restart x) restart e =
    let (r, is, next) = and_then_is (restart_of x) (λ a. Ok (request.Restart a)) (request.Restart restart) e in
    let same : r ≡ restart = (let y : request.Restart r ≡ request.Restart restart = ok_is (request.Restart r) (request.Restart restart) next in cc) in
    let (point, told, at) = and_then_is (nanos_in x.resume_point) (λ p. restart_at (log_no_in x.log_id) p) r is in
    record { message = x; is = refl; log = log_told (log_no_in x.log_id) point r at ∙ ap (λ (y : Restart). Some y.log) same }
names (client.Hello x) restart e = absurd (let y : request.Hello ≡ request.Restart restart = ok_is request.Hello (request.Restart restart) e in cc)
names (client.Accept x) restart e = let (a, is, next) = and_then_is (accept_of x) (λ a. Ok (request.Accept a)) (request.Restart restart) e in absurd (let y : request.Accept a ≡ request.Restart restart = ok_is (request.Accept a) (request.Restart restart) next in cc)
names (client.Reject x) restart e = let (a, is, next) = and_then_is (reject_of x) (λ a. Ok (request.Reject a)) (request.Restart restart) e in absurd (let y : request.Reject a ≡ request.Restart restart = ok_is (request.Reject a) (request.Restart restart) next in cc)
names (client.Alert x) restart e = let (a, is, next) = and_then_is (alert_of x) (λ a. Ok (request.Alert a)) (request.Restart restart) e in absurd (let y : request.Alert a ≡ request.Restart restart = ok_is (request.Alert a) (request.Restart restart) next in cc)
names (client.Exit x) restart e = let (a, is, next) = and_then_is (exit_of x) (λ a. Ok (request.Exit a)) (request.Restart restart) e in absurd (let y : request.Exit a ≡ request.Restart restart = ok_is (request.Exit a) (request.Restart restart) next in cc)
names (client.Ttyin x) restart e = absurd (no_record (data_of stream.Ttyin x) restart e)
names (client.Ttyout x) restart e = absurd (no_record (data_of stream.Ttyout x) restart e)
names (client.Stdin x) restart e = absurd (no_record (data_of stream.Stdin x) restart e)
names (client.Stdout x) restart e = absurd (no_record (data_of stream.Stdout x) restart e)
names (client.Stderr x) restart e = absurd (no_record (data_of stream.Stderr x) restart e)
names (client.Winsize x) restart e = absurd (no_record (window_of x) restart e)
names (client.Suspend x) restart e = absurd (no_record (suspend_of x) restart e)

-- a job that asks to go on with a log is no hello, and goes to the log's lane
pub record GoesOn (lanes home : ℕ) (b : Body) (n : ℕ) : Type 0 where
  pub no_hello : is_hello b ≡ false
  pub lane : lane_by lanes home b ≡ (n - 1) % lanes
  pub counted : 1 ≤ n

pub goes_on : (lanes home : ℕ) (b : Body) (n : ℕ) → AsksToResume b n → GoesOn lanes home b n
goes_on lanes home (body.Msg m) n (restart, asks, is) =
    let t = names m restart asks in
    let same = t.is in
    let log : log_no_in t.message.log_id ≡ Some n = t.log ∙ ap Some is in
    let (text, value) = computed_only t.message.log_id n log in
    let low = text.counted in
    record {
      no_hello = rw same refl;
      lane = rw same (ap (lane_of_log lanes home) log);
      counted = omega arith;
    }
goes_on lanes home (body.Bad fault) n (restart, asks, is) = absurd (cc)
goes_on lanes home body.Gone n (restart, asks, is) = absurd (cc)

-- ---- Numbers of a lane

sum_is : (n lane r q : ℕ) → 1 ≤ n → r ≡ lane → r + q ≡ n - 1 → n ≡ lane + 1 + q
sum_is n lane r q some is sum = omega arith

pub of_lane : (n lane lanes : ℕ) → 1 ≤ n → (n - 1) % lanes ≡ lane → IsOfLane lane lanes n
of_lane n lane lanes some is = ((n - 1) / lanes, sum_is n lane ((n - 1) % lanes) ((n - 1) / lanes * lanes) some is (mod-add-div' (n - 1) lanes))

place : (n a b p q : ℕ) → n ≡ a + 1 + p → n ≡ b + 1 + q → p + a ≡ q + b
place n a b p q e f = omega arith

-- a number is of one lane
pub one_lane : (a b lanes n : ℕ) → a < lanes → b < lanes → IsOfLane a lanes n → IsOfLane b lanes n → a ≡ b
one_lane a b lanes n x y (s, e) (t, f) = (same_from_place s a t b lanes x y (place n a b (s * lanes) (t * lanes) e f)).1

-- ---- The decider

-- the lane is the decider's
pub lane_decided : (lanes home : ℕ) (bodies : List Body) (b : Body) → decider bodies ≡ Some b → lane_of lanes home bodies ≡ Some (lane_by lanes home b)
lane_decided lanes home [] b e = absurd (cc)
lane_decided lanes home (x ∷ []) b e = go (is_hello x) e
  where
    go : (t : Bool) → (if t then None else Some x) ≡ Some b → (if t then None else Some (lane_by lanes home x)) ≡ Some (lane_by lanes home b)
    go true d = absurd (cc)
    go false d = ap (λ (y : Body). Some (lane_by lanes home y)) (some_is x b d)
lane_decided lanes home (x ∷ y ∷ later) b e = go (is_hello x) (some_is (if is_hello x then y else x) b e)
  where
    go : (t : Bool) → (if t then y else x) ≡ b → Some (if t then lane_by lanes home y else lane_by lanes home x) ≡ Some (lane_by lanes home b)
    go true d = ap (λ (z : Body). Some (lane_by lanes home z)) d
    go false d = ap (λ (z : Body). Some (lane_by lanes home z)) d

-- what decides, decides however the jobs go on
pub still_decides : (xs ys : List Body) (b : Body) → decider xs ≡ Some b → decider (xs ++ ys) ≡ Some b
still_decides [] ys b e = absurd (cc)
still_decides (x ∷ []) [] b e = e
still_decides (x ∷ []) (y ∷ ys) b e = go (is_hello x) e
  where
    go : (t : Bool) → (if t then None else Some x) ≡ Some b → Some (if t then y else x) ≡ Some b
    go true d = absurd (cc)
    go false d = d
still_decides (x ∷ z ∷ later) ys b e = e

pub still_of : (lanes home : ℕ) (xs ys : List Body) (l : ℕ) → lane_of lanes home xs ≡ Some l → lane_of lanes home (xs ++ ys) ≡ Some l
still_of lanes home [] ys l e = absurd (cc)
still_of lanes home (x ∷ []) [] l e = e
still_of lanes home (x ∷ []) (y ∷ ys) l e = go (is_hello x) e
  where
    go : (t : Bool) → (if t then None else Some (lane_by lanes home x)) ≡ Some l → Some (if t then lane_by lanes home y else lane_by lanes home x) ≡ Some l
    go true d = absurd (cc)
    go false d = d
still_of lanes home (x ∷ z ∷ later) ys l e = e

-- ---- Nothing after the end

-- the connection's end is among these
abbrev pub HasGone : List Body → Type 0
HasGone [] = ⊥
HasGone (b ∷ bodies) = (b ≡ body.Gone) ⊎ HasGone bodies

pub gone_last : (xs : List Body) → HasGone (xs ++ body.Gone ∷ [])
gone_last [] = inl refl
gone_last (x ∷ xs) = inr (gone_last xs)

pub gone_before : (xs ys : List Body) → HasGone xs → HasGone (xs ++ ys)
gone_before [] ys g = absurd g
gone_before (x ∷ xs) ys (inl e) = inl e
gone_before (x ∷ xs) ys (inr g) = inr (gone_before xs ys g)

some_behind : (xs ys : List Body) (b : Body) → xs ++ b ∷ ys ≡ [] → ⊥
some_behind [] ys b e = cc
some_behind (x ∷ xs) ys b e = cc

pub none_behind : (xs ys : List Body) (b : Body) → EndsWithGone (xs ++ b ∷ ys) → HasGone xs → ⊥
none_behind [] ys b e g = g
none_behind (x ∷ xs) ys b e (inl is) = some_behind xs ys b (e.0 is)
none_behind (x ∷ xs) ys b e (inr g) = none_behind xs ys b e.1 g

first_none : (xs ys : List Body) → xs ++ ys ≡ [] → xs ≡ []
first_none [] ys e = refl
first_none (x ∷ xs) ys e = absurd (cc)

pub ends_before : (xs ys : List Body) → EndsWithGone (xs ++ ys) → EndsWithGone xs
ends_before [] ys e = tt
ends_before (x ∷ xs) ys e = ((λ is. first_none xs ys (e.0 is)), ends_before xs ys e.1)
