-- The jobs of a lane: from the links of all ports, and to the logs that they name.
use Rattle.std.proofs.Common.{◌≡◌, ◌≢◌, ◌<◌, ℕ, suc, List, [], ◌∷◌, ◌++◌, length, refl, sym, ◌∙◌, ap, subst, inl, inr, arith, Option, Some, None, ◌⊎◌, append_assoc}
use Rattle.std.specs.Prelude.{◌==◌, ◌%◌, ◌-◌, Bool, true, false, if◌then◌else◌, slice_get}
use Rattle.std.specs.List.{Contains}
use Rattle.std.proofs.lemmas.Option.{slice_get_cases}
use Rattle.lsv_session.specs.Transcript.{AreFirst, AreJobs, bodies_of}
use Rattle.lsv_session.specs.Transcript.AreJobs.{Rest, Message, NoMessage, TooLong}
use Rattle.lsv_session.specs.declared.connection.ConnId.{ConnId}
use Rattle.lsv_session.specs.declared.job.Body.{Body}
use Rattle.lsv_session.specs.declared.job.Body.TheVariants as body
use Rattle.lsv_session.specs.declared.job.Job.{Job}
use Rattle.lsv_session.specs.declared.reply.Reply.{Reply}
use Rattle.lsv_session.proofs.Replies.{bodies_of-append}
use Rattle.lsv_turn.specs.Turns.{EndsWithGone, LaneTurn, jobs_in, replies_in}
use Rattle.lsv_links.specs.Lanes.{lane_of, share}
use Rattle.lsv_links.specs.Links.{AtMostStarved, Brings, BringsSome, IsPut, IsServed, PutsPrefixes, ServesLink, ServesPort, ServesPorts, ServesSome, conn_of}
use Rattle.lsv_links.specs.Views.{PortView}
use Rattle.lsv_port.specs.Port.{PortState}
use Rattle.lsv_machine.specs.Machine.{IsOfLane, Settings}
use Rattle.lsv_machine.specs.Turns.{Happened, Happened.Did, Happened.Tailed, Happened.Begins}
use Rattle.lsv_machine.proofs.Choices.{EqOr.equal, EqOr.unequal, eq_or, SameOr.alike, SameOr.apart, same_or}
use Rattle.lsv_lanes.specs.Histories.{KeepsToLane, jobs_of}
use Rattle.lsv_lanes.specs.Jobs.{ArePut, AsksFirst, CameTo, IsShared, decider}
use Rattle.lsv_lanes.proofs.Deciding.{ends_before, goes_on, lane_decided, of_lane, still_decides, still_of}

-- ---- So far

some_is : (a b : ℕ) → Some a ≡ Some b → a ≡ b
some_is a b e = cc

-- of each connection a first part
pub first_part : (lane lanes : ℕ) (some jobs : List Job) → CameTo lane lanes jobs → ((k : ConnId) → AreFirst (bodies_of k some) (bodies_of k jobs)) → CameTo lane lanes some
first_part lane lanes some jobs c all = record {
  decided = λ k l e. c.decided k l (ap (lane_of lanes (k.seq % lanes)) (all k).1 ∙ still_of lanes (k.seq % lanes) (bodies_of k some) (all k).0 l e);
  ends = λ k. ends_before (bodies_of k some) (all k).0 (subst EndsWithGone (all k).1 (c.ends k));
}

-- what went to this lane, where this is the connection's
module _ (lanes home lane : ℕ) (said coming : List Body) where
  shared_lane : (o : Option ℕ) → lane_of lanes home (said ++ coming) ≡ o → (l : ℕ) → lane_of lanes home (share o lane said) ≡ Some l → l ≡ lane
  shared_lane None e l d = absurd (cc)
  shared_lane (Some n) e l d = go (lane == n) refl d
    where
      go : (b : Bool) → (lane == n) ≡ b → lane_of lanes home (if b then said else []) ≡ Some l → l ≡ lane
      go false q f = absurd (cc)
      go true q f = elim (eq_or lane n) [
        | equal p t ↦ let g : Some n ≡ Some l = sym e ∙ still_of lanes home said coming l f in sym (p ∙ some_is n l g)
        | unequal p t ↦ absurd (cc)
      ]

  shared_ends : (o : Option ℕ) → EndsWithGone said → EndsWithGone (share o lane said)
  shared_ends None ends = tt
  shared_ends (Some n) ends = go (lane == n)
    where
      go : (b : Bool) → EndsWithGone (if b then said else [])
      go true = ends
      go false = tt

pub shared : (lanes : ℕ) (jobs : ℕ → List Job) → ((k : ConnId) → IsShared lanes k jobs) → (lane : ℕ) → CameTo lane lanes (jobs lane)
shared lanes jobs all lane = record {
  decided = λ k l e. let t = all k in
      shared_lane lanes (k.seq % lanes) lane t.said t.coming (lane_of lanes (k.seq % lanes) (t.said ++ t.coming)) refl l (subst (λ (b : List Body). lane_of lanes (k.seq % lanes) b ≡ Some l) (t.to_lane lane) e);
  ends = λ k. let t = all k in
      subst EndsWithGone (sym (t.to_lane lane)) (shared_ends lanes (k.seq % lanes) lane t.said t.coming (lane_of lanes (k.seq % lanes) (t.said ++ t.coming)) t.ends);
}

-- ---- The log that is named

pub first_own : (lane lanes : ℕ) (jobs : List Job) (k : ConnId) (n : ℕ) → CameTo lane lanes jobs → AsksFirst (bodies_of k jobs) n → IsOfLane lane lanes n
first_own lane lanes jobs k n c (b, first, asks) =
    let t = goes_on lanes (k.seq % lanes) b n asks in
    of_lane n lane lanes t.counted (c.decided k ((n - 1) % lanes) (lane_decided lanes (k.seq % lanes) (bodies_of k jobs) b first ∙ ap Some t.lane))

pub keeps : (set : Settings) (history : List Happened) → CameTo set.lane set.lanes (jobs_of history) → KeepsToLane set history
keeps set history c = record { own = λ k n asks. first_own set.lane set.lanes (jobs_of history) k n c asks; ends = c.ends }

pub jobs_append : (g h : List Happened) → jobs_of (g ++ h) ≡ jobs_of g ++ jobs_of h
jobs_append [] h = refl
jobs_append (Did act ∷ g) h = ap (λ (js : List Job). act.job ∷ js) (jobs_append g h)
jobs_append (Tailed tail ∷ g) h = jobs_append g h
jobs_append (Begins texts ∷ g) h = jobs_append g h

pub kept_so_far : (set : Settings) (history more : List Happened) → KeepsToLane set (history ++ more) → KeepsToLane set history
kept_so_far set history more t = record {
  own = λ k n (b, first, asks). t.own k n (b, ap decider (all k) ∙ still_decides (bodies_of k (jobs_of history)) (bodies_of k (jobs_of more)) b first, asks);
  ends = λ k. ends_before (bodies_of k (jobs_of history)) (bodies_of k (jobs_of more)) (subst EndsWithGone (all k) (t.ends k));
}
  where
    all : (k : ConnId) → bodies_of k (jobs_of (history ++ more)) ≡ bodies_of k (jobs_of history) ++ bodies_of k (jobs_of more)
    all k = ap (bodies_of k) (jobs_append history more) ∙ bodies_of-append k (jobs_of history) (jobs_of more)

-- ---- What a link brings ends with its end

abbrev HasNoGone : List Body → Type 0
HasNoGone [] = Unit {0}
HasNoGone (b ∷ bodies) = (b ≢ body.Gone) × HasNoGone bodies

no_gone : {bytes : List ℕ} {jobs : List Body} → AreJobs bytes jobs → HasNoGone jobs
no_gone (Rest b p) = tt
no_gone (Message b m rest read later front is j) = ((λ e. absurd cc), no_gone j)
no_gone (NoMessage b m rest fault front is) = ((λ e. absurd cc), tt)
no_gone (TooLong b n long) = ((λ e. absurd cc), tt)

no_gone_front : (xs ys : List Body) → HasNoGone (xs ++ ys) → HasNoGone xs
no_gone_front [] ys n = tt
no_gone_front (x ∷ xs) ys n = (n.0, no_gone_front xs ys n.1)

no_gone_both : (xs ys : List Body) → HasNoGone xs → HasNoGone ys → HasNoGone (xs ++ ys)
no_gone_both [] ys n m = m
no_gone_both (x ∷ xs) ys n m = (n.0, no_gone_both xs ys n.1 m)

none_starved : (starved : List Body) → AtMostStarved starved → HasNoGone starved
none_starved starved (inl e) = subst HasNoGone (sym e) tt
none_starved starved (inr e) = subst HasNoGone (sym e) ((λ d. absurd cc), tt)

ends_behind : (xs : List Body) → HasNoGone xs → EndsWithGone (xs ++ body.Gone ∷ [])
ends_behind [] n = ((λ e. refl), tt)
ends_behind (x ∷ xs) n = ((λ e. absurd (n.0 e)), ends_behind xs n.1)

-- what a connection brings in all
all_ends : (input : List ℕ) (heard starved jobs : List Body) → AreJobs input jobs → AreFirst heard jobs → AtMostStarved starved → EndsWithGone (heard ++ (starved ++ body.Gone ∷ []))
all_ends input heard starved jobs of_input first at_most =
    let sound : HasNoGone heard = no_gone_front heard first.0 (subst HasNoGone first.1 (no_gone of_input)) in
    subst EndsWithGone (append_assoc heard starved (body.Gone ∷ [])) (ends_behind (heard ++ starved) (no_gone_both heard starved sound (none_starved starved at_most)))

brought_ends : (input : List ℕ) (shut : Bool) (bodies : List Body) → Brings input shut bodies → EndsWithGone bodies
brought_ends input shut bodies b = subst EndsWithGone (sym b.are) (all_ends input b.heard b.starved b.jobs b.of_input b.first b.at_most)

-- and up to some point
some_ends : (input : List ℕ) (bodies : List Body) → BringsSome input bodies → EndsWithGone bodies
some_ends input bodies b = ends_before bodies b.first.0 (subst EndsWithGone b.first.1 (all_ends input b.heard b.starved b.jobs b.of_input b.of_jobs b.at_most))

-- ---- The links of all ports

contains_next : (x job : Job) (jobs : List Job) → Contains jobs job → Contains (x ∷ jobs) job
contains_next x job jobs h = (suc h.0, omega (arith, h.1), h.2)

-- a job of the connection, if it has any
its_job : (k : ConnId) (jobs : List Job) → (bodies_of k jobs ≡ []) ⊎ ((job : Job) × Contains jobs job × (job.conn ≡ k))
its_job k [] = inl refl
its_job k (job ∷ jobs) = elim (same_or job.conn k) [
  | alike p t ↦ inr (job, (0, omega arith, refl), p)
  | apart p t ↦ elim (its_job k jobs) [
    | inl none ↦ inl (rw t none)
    | inr (j, in_, is) ↦ inr (j, contains_next job j jobs in_, is)
  ]
]

-- what is known of a connection's jobs in a lane: if they decide a lane it is this one, and its end is the last of them
record IsOfIt (lane lanes : ℕ) (k : ConnId) (bodies : List Body) : Type 0 where
  decided : (l : ℕ) → lane_of lanes (k.seq % lanes) bodies ≡ Some l → l ≡ lane
  ends : EndsWithGone bodies

-- a connection without jobs in it
none_of_it : (lane lanes : ℕ) (k : ConnId) → IsOfIt lane lanes k []
none_of_it lane lanes k = record { decided = λ l e. absurd (cc); ends = tt }

-- the connection of a seat
seat_is : (w seq : ℕ) (k : ConnId) → Some seq ≡ Some k.seq → k.worker ≡ w → conn_of w seq ≡ k
seat_is w seq k e is = subst (λ (x : ℕ). conn_of w x ≡ k) (sym (some_is seq k.seq e)) (subst (λ (x : ℕ). conn_of x k.seq ≡ k) is refl)

module _ (lane_tells : ℕ → Type 0) (lanes : ℕ) (jobs : ℕ → List Job) (replies : ℕ → List Reply) (old new : PortView) where
  linked : (k : ConnId) (l lane : ℕ) → ServesLink lane_tells lanes k l jobs replies old new → IsOfIt lane lanes k (bodies_of k (jobs lane))
  linked k l lane t = elim (eq_or lane t.lane) [
    | equal p u ↦
        let its : IsOfIt t.lane lanes k (bodies_of k (jobs t.lane)) = record { decided = λ m e. some_is m t.lane (sym e ∙ t.decided); ends = brought_ends _ _ (bodies_of k (jobs t.lane)) t.by_lane.brings } in
        subst (λ (x : ℕ). IsOfIt x lanes k (bodies_of k (jobs x))) (sym p) its
    | unequal p u ↦ subst (IsOfIt lane lanes k) (sym (t.elsewhere lane p)) (none_of_it lane lanes k)
  ]

  seated : (w l lane : ℕ) (seat : Option ℕ) (k : ConnId) → seat ≡ Some k.seq → k.worker ≡ w → IsServed lane_tells lanes w l seat jobs replies old new → IsOfIt lane lanes k (bodies_of k (jobs lane))
  seated w l lane None k e is s = absurd (cc)
  seated w l lane (Some seq) k e is s = linked k l lane (subst (λ (x : ConnId). ServesLink lane_tells lanes x l jobs replies old new) (seat_is w seq k e is) s)

  of_port : (w lane : ℕ) (job : Job) → ServesPort lane_tells lanes w jobs replies old new → Contains (jobs lane) job → job.conn.worker ≡ w → IsOfIt lane lanes job.conn (bodies_of job.conn (jobs lane))
  of_port w lane job s in_ is = let (l, opened, seat) = s.known lane job in_ is in seated w l lane (s.seats.seat l) job.conn seat is (s.served l opened)

-- and up to some point
module _ (lanes : ℕ) (jobs : ℕ → List Job) (replies : ℕ → List Reply) where
  linked_some : (k : ConnId) (port : PortState) (l lane : ℕ) → ServesSome lanes k (port.link l) jobs replies → IsOfIt lane lanes k (bodies_of k (jobs lane))
  linked_some k port l lane t = elim (eq_or lane t.lane) [
    | equal p u ↦
        let its : IsOfIt t.lane lanes k (bodies_of k (jobs t.lane)) = record { decided = t.decided; ends = some_ends (port.link l).input (bodies_of k (jobs t.lane)) t.brought } in
        subst (λ (x : ℕ). IsOfIt x lanes k (bodies_of k (jobs x))) (sym p) its
    | unequal p u ↦ subst (IsOfIt lane lanes k) (sym (t.elsewhere lane p)) (none_of_it lane lanes k)
  ]

  seated_some : (w l lane : ℕ) (seat : Option ℕ) (k : ConnId) (port : PortState) → seat ≡ Some k.seq → k.worker ≡ w → IsPut lanes w l seat jobs replies port → IsOfIt lane lanes k (bodies_of k (jobs lane))
  seated_some w l lane None k port e is s = absurd (cc)
  seated_some w l lane (Some seq) k port e is s = linked_some k port l lane (subst (λ (x : ConnId). ServesSome lanes x (port.link l) jobs replies) (seat_is w seq k e is) s)

  some_of_port : (w lane : ℕ) (job : Job) (old new : PortView) → PutsPrefixes lanes w jobs replies old new → Contains (jobs lane) job → job.conn.worker ≡ w → IsOfIt lane lanes job.conn (bodies_of job.conn (jobs lane))
  some_of_port w lane job old new s in_ is = let (l, opened, seat) = s.known lane job in_ is in seated_some w l lane (s.seats.seat l) job.conn new.state seat is (s.put l opened)

there : {A : Type 0} (xs : List A) (i : ℕ) → i < length xs → (x : A) × (slice_get xs i ≡ Some x)
there xs i small = elim (slice_get_cases xs i).1 [
  | inl (x, low, is, value) ↦ (x, is)
  | inr (high, none) ↦ absurd (omega arith)
]

-- so these jobs came to the lane, if it is so of the connection of each of them
came_by_jobs : (lane lanes : ℕ) (jobs : List Job) → ((job : Job) → Contains jobs job → IsOfIt lane lanes job.conn (bodies_of job.conn jobs)) → CameTo lane lanes jobs
came_by_jobs lane lanes jobs all = record { decided = λ k. (of_it k).decided; ends = λ k. (of_it k).ends }
  where
    of_it : (k : ConnId) → IsOfIt lane lanes k (bodies_of k jobs)
    of_it k = elim (its_job k jobs) [
      | inl none ↦ subst (IsOfIt lane lanes k) (sym none) (none_of_it lane lanes k)
      | inr (job, in_, is) ↦ subst (λ (x : ConnId). IsOfIt lane lanes x (bodies_of x jobs)) is (all job in_)
    ]

pub served_jobs : (lane_tells : ℕ → Type 0) (lanes : ℕ) (turns : ℕ → List LaneTurn) (old new : List PortView) → ServesPorts lane_tells lanes turns old new → (lane : ℕ) → CameTo lane lanes (jobs_in (turns lane))
served_jobs lane_tells lanes turns old new s lane = came_by_jobs lane lanes (jobs_in (turns lane)) (λ job in_.
    let small : job.conn.worker < length old = s.known lane job in_ in
    let (before, was) = there old job.conn.worker small in
    let (after, now) = there new job.conn.worker (let count = s.count in omega arith) in
    of_port lane_tells lanes (λ m. jobs_in (turns m)) (λ m. replies_in (turns m)) before after job.conn.worker lane job (s.each job.conn.worker before after was now) in_ refl)

pub put_jobs : (lanes ports : ℕ) (turns : ℕ → List LaneTurn) → ArePut lanes ports turns → (lane : ℕ) → CameTo lane lanes (jobs_in (turns lane))
put_jobs lanes ports turns s lane = came_by_jobs lane lanes (jobs_in (turns lane)) (λ job in_.
    let (before, after, puts) = s.each job.conn.worker (s.known lane job in_) in
    some_of_port lanes (λ m. jobs_in (turns m)) (λ m. replies_in (turns m)) job.conn.worker lane job before after puts in_ refl)
