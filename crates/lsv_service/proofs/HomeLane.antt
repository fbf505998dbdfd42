-- The lane of a legal conversation that opens a log: the connection's home lane, since it asks to go on with no log.
use Rattle.std.proofs.Common.{◌≡◌, ℕ, List, [], ◌∷◌, ◌++◌, Some, None, refl, sym, ◌∙◌, subst, inl, inr}
use Rattle.std.specs.Prelude.{Bool, true, false, if◌then◌else◌, Result, Ok, Err}
use Rattle.lsv_msg.specs.declared.messages.ClientMessage.TheVariants as client
use Rattle.lsv_request.specs.Requests.{and_then, restart_of}
use Rattle.lsv_request.specs.declared.refusal.Refusal.{Refusal}
use Rattle.lsv_request.specs.declared.request.Request.{Request}
use Rattle.lsv_request.specs.declared.request.Request.TheVariants as request
use Rattle.lsv_request.specs.declared.request.Restart.{Restart}
use Rattle.lsv_session.specs.declared.connection.ConnState.{ConnState}
use Rattle.lsv_session.specs.declared.job.Body.{Body}
use Rattle.lsv_session.specs.declared.job.Body.TheVariants as body
use Rattle.lsv_machine.specs.Failures.{AsksFor}
use Rattle.lsv_machine.specs.Legal.{IsLegal, goes_to, has_place}
use Rattle.lsv_progress.proofs.Asked.{judged_asks}
use Rattle.lsv_links.specs.Lanes.{is_hello, lane_by, lane_of}
use Rattle.lsv_links.specs.Links.{AtMostStarved, Brings}

abbrev asks : Request → Result Request Refusal
asks asked = Ok asked

ok_is : (a b : Request) → asks a ≡ asks b → a ≡ b
ok_is a b e = cc

-- a restart has no place in such a conversation
no_place : (s : ConnState) (w : Result Restart Refusal) (asked : Request) → and_then w (λ a. Ok (request.Restart a)) ≡ Ok asked → has_place s asked ≡ true → ⊥
no_place s (Err why) asked e has = cc
no_place s (Ok a) asked e has =
    let same : request.Restart a ≡ asked = ok_is (request.Restart a) asked e in
    let placed : false ≡ true = subst (λ (r : Request). has_place s r ≡ true) (sym same) has in
    cc

module _ (lanes home : ℕ) where
  -- each of these jobs leaves the connection with its home lane
  abbrev StayHome : List Body → Type 0
  StayHome [] = Unit {0}
  StayHome (b ∷ bodies) = (lane_by lanes home b ≡ home) × StayHome bodies

  stays : (s : ConnState) (b : Body) (asked : Request) → AsksFor s b asked → has_place s asked ≡ true → lane_by lanes home b ≡ home
  stays s (body.Bad fault) asked asks has = absurd asks
  stays s body.Gone asked asks has = absurd asks
  stays s (body.Msg (client.Accept m)) asked asks has = refl
  stays s (body.Msg (client.Reject m)) asked asks has = refl
  stays s (body.Msg (client.Exit m)) asked asks has = refl
  stays s (body.Msg (client.Restart m)) asked asks has = absurd (no_place s (restart_of m) asked (judged_asks s (client.Restart m) asked asks) has)
  stays s (body.Msg (client.Alert m)) asked asks has = refl
  stays s (body.Msg (client.Ttyin m)) asked asks has = refl
  stays s (body.Msg (client.Ttyout m)) asked asks has = refl
  stays s (body.Msg (client.Stdin m)) asked asks has = refl
  stays s (body.Msg (client.Stdout m)) asked asks has = refl
  stays s (body.Msg (client.Stderr m)) asked asks has = refl
  stays s (body.Msg (client.Winsize m)) asked asks has = refl
  stays s (body.Msg (client.Suspend m)) asked asks has = refl
  stays s (body.Msg (client.Hello m)) asked asks has = refl

  legal_stay : (n : ℕ) (s : ConnState) (bodies : List Body) → IsLegal n s bodies → StayHome bodies
  legal_stay n s [] legal = absurd legal
  legal_stay n s (b ∷ bodies) (asked, asks, has, inl last) = (stays s b asked asks has, subst StayHome (sym last.1) tt)
  legal_stay n s (b ∷ bodies) (asked, asks, has, inr on) = (stays s b asked asks has, legal_stay n (goes_to n s asked) bodies on.1)

  stay_append : (xs ys : List Body) → StayHome xs → StayHome ys → StayHome (xs ++ ys)
  stay_append [] ys a b = b
  stay_append (x ∷ xs) ys a b = (a.0, stay_append xs ys a.1 b)

  stay_front : (xs ys : List Body) → StayHome (xs ++ ys) → StayHome xs
  stay_front [] ys h = tt
  stay_front (x ∷ xs) ys h = (h.0, stay_front xs ys h.1)

  starved_stay : (starved : List Body) → AtMostStarved starved → StayHome starved
  starved_stay starved (inl none) = subst StayHome (sym none) tt
  starved_stay starved (inr one) = subst StayHome (sym one) (refl, tt)

  some_is : (a b : ℕ) → Some a ≡ Some b → a ≡ b
  some_is a b e = cc

  -- so their lane is that
  lane_is : (bodies : List Body) (lane : ℕ) → StayHome bodies → lane_of lanes home bodies ≡ Some lane → lane ≡ home
  lane_is [] lane stay e = absurd (cc)
  lane_is (b ∷ []) lane stay e = go (is_hello b) e
    where
      go : (t : Bool) → (if t then None else Some (lane_by lanes home b)) ≡ Some lane → lane ≡ home
      go true d = absurd (cc)
      go false d = sym (some_is (lane_by lanes home b) lane d) ∙ stay.0
  lane_is (b ∷ c ∷ later) lane stay e = go (is_hello b) (some_is (if is_hello b then lane_by lanes home c else lane_by lanes home b) lane e)
    where
      go : (t : Bool) → (if t then lane_by lanes home c else lane_by lanes home b) ≡ lane → lane ≡ home
      go true d = sym d ∙ stay.1.0
      go false d = sym d ∙ stay.0

  -- a connection over which a legal conversation came is its home lane's
  pub home_lane : (lane number : ℕ) (s : ConnState) (input : List ℕ) (shut : Bool) (bodies brought : List Body) (b : Brings input shut brought) → b.jobs ≡ bodies → IsLegal number s bodies → lane_of lanes home brought ≡ Some lane → lane ≡ home
  home_lane lane number s input shut bodies brought b is legal decided =
      let all : StayHome bodies = legal_stay number s bodies legal in
      let (later, cut) = b.first in
      let heard : StayHome b.heard = stay_front b.heard later (subst StayHome (sym is ∙ cut) all) in
      let end : StayHome (b.starved ++ body.Gone ∷ []) = stay_append b.starved (body.Gone ∷ []) (starved_stay b.starved b.at_most) (refl, tt) in
      lane_is brought lane (subst StayHome (sym b.are) (stay_append b.heard (b.starved ++ body.Gone ∷ []) heard end)) decided
