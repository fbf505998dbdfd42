-- What an endpoint that ended did with the links of its port.
use Rattle.std.proofs.Common.{◌≡◌, ◌⊎◌, ℕ, zero, suc, ◌<◌, ◌≢◌, ◌%◌, ◌==◌, ◌&&◌, if◌then◌else◌, Bool, true, false, Option, Some, None, List, [], ◌∷◌, ◌++◌, refl, sym, ap, subst, ◌∙◌, inl, inr, ⊎_elim, arith}
use Rattle.std.specs.Prelude.{not, slice_index_or}
use Rattle.std.specs.List.{All, Contains}
use Rattle.std.proofs.lemmas.Bool.{cases_lt}
use Rattle.std.proofs.lemmas.Bool.Decides.{nat_tests}
use Rattle.std.proofs.lemmas.List.{append-nil}
use Rattle.std.proofs.lemmas.List.Elements.{Contains-append_cases}
use Rattle.lsv_port.specs.Ledger.{GoesOn}
use Rattle.lsv_port.specs.Port.{LinkState, PortState}
use Rattle.lsv_session.specs.Connections.{same}
use Rattle.lsv_session.specs.Transcript.{AreJobs, answers, bodies_of}
use Rattle.lsv_session.specs.declared.connection.ConnId.{ConnId}
use Rattle.lsv_session.specs.declared.job.Body.{Body}
use Rattle.lsv_session.specs.declared.job.Body.TheVariants.{Bad, Gone}
use Rattle.lsv_session.specs.declared.job.Fault.TheVariants as faults
use Rattle.lsv_session.specs.declared.job.Job.{Job}
use Rattle.lsv_session.specs.declared.reply.Reply.{Reply}
use Rattle.lsv_reactor.specs.Endpoints.{AreAskedBy}
use Rattle.lsv_turn.specs.Turns.{EndsWithGone, shuts}
use Rattle.lsv_links.specs.Lanes.{lane_of, share}
use Rattle.lsv_links.specs.Links.{Brings, HasEndCause, IsLetOff, IsServed, IsTurnedAway, Puts, ServesBy, ServesLink, ServesPort, conn_of, was_bad}
use Rattle.lsv_links.specs.Views.{IsCrowded, LinkFailed, PortFailed, PortView}
use Rattle.lsv_worker.specs.Incoming.{IsWhole, has_left, is_shut, last_words}
use Rattle.lsv_worker.specs.Links.{KnowsPort, LetsEnd, MayEnd, is_done}
use Rattle.lsv_worker.specs.Outgoing.{PutOf, Sends, RepliesAfterShut, kept_up}
use Rattle.lsv_worker.specs.Tells.{Ends, IsCauseOf, HasNoInput}
use Rattle.lsv_worker.specs.Worker.{IsMade, Setting, Stands, conn_at}
use Rattle.lsv_worker.specs.Worker as worker
use Rattle.lsv_worker.specs.declared.link.Link.{Link}
use Rattle.lsv_worker.specs.declared.incoming.Why.{Why}
use Rattle.lsv_worker.specs.declared.incoming.Why.TheVariants.{Ended, Refused, Shut, NoMemory}
use Rattle.lsv_worker.specs.declared.link.Phase.{Phase}
use Rattle.lsv_worker.specs.declared.link.Phase.TheVariants.{Stopping, Failed, Stopped}
use Rattle.lsv_worker.specs.declared.outgoing.Sending.{Sending}
use Rattle.lsv_worker.specs.declared.outgoing.Sending.TheVariants as sendings
use Rattle.lsv_worker.proofs.Tells.{each_ends}
use Rattle.lsv_endpoint.proofs.BoolLemmas.{false_or, true_or, true_or_false}
use Rattle.lsv_endpoint.proofs.BodyLemmas.{all_bad, bad_behind, bad_front, brings, ends_whole}
use Rattle.lsv_endpoint.proofs.ReplyLemmas.{early_shuts, not_on}
use Rattle.lsv_endpoint.proofs.SeatLemmas.{SeatOf, SeatOf.taken, SeatOf.free, seat_below, seat_is, seat_none, seat_of, seats_apart}

-- ---- Whether nothing more comes of a link

done_says : (live shut left kept : Bool) → ((not live && (shut && left)) && kept) ≡ true → (live ≡ false) × (kept ≡ true)
done_says true shut left kept e = absurd (cc)
done_says false true true true e = (refl, refl)
done_says false true true false e = absurd (cc)
done_says false true false kept e = absurd (cc)
done_says false false left kept e = absurd (cc)

-- ---- The jobs of a lane

same_number : (n : ℕ) → (n == n) ≡ true
same_number n = grind (arith, nat_tests)

differ : (m n : ℕ) → m ≢ n → (m == n) ≡ false
differ m n ne = grind (arith, nat_tests)

-- all of a connection goes to its lane
pub share_own : (lane : ℕ) (said : List Body) → share (Some lane) lane said ≡ said
share_own lane said = ap (λ (b : Bool). if b then said else []) (same_number lane)

-- and nothing to another one
pub share_other : (lane m : ℕ) (said : List Body) → m ≢ lane → share (Some lane) m said ≡ []
share_other lane m said ne = ap (λ (b : Bool). if b then said else []) (differ m lane ne)

only_one : {A : Type 0} (x y : A) → Contains (x ∷ []) y → x ≡ y
only_one {A} x y (k, less, is) = go k less is
  where
    go : (k : ℕ) → k < 1 → slice_index_or (x ∷ []) k y ≡ y → x ≡ y
    go zero less is = is
    go (suc k) less is = absurd (omega arith)

if_some : (b : Bool) (x : Body) (xs : List Body) → b ≡ true → (if b then x ∷ xs else xs) ≡ [] → ⊥
if_some true x xs t e = cc
if_some false x xs t e = cc

if_none : (b : Bool) (x : Body) (xs : List Body) → (if b then x ∷ xs else xs) ≡ [] → xs ≡ []
if_none true x xs e = absurd (cc)
if_none false x xs e = e

-- a connection with a job has bodies
some_bodies : (c : ConnId) (jobs : List Job) (job : Job) → Contains jobs job → same job.conn c ≡ true → bodies_of c jobs ≡ [] → ⊥
some_bodies c [] job has own none = let low = has.1 in omega arith
some_bodies c (x ∷ jobs) job has own none =
    ⊎_elim
    (λ first. if_some (same x.conn c) x.body (bodies_of c jobs) (subst (λ (y : Job). same y.conn c ≡ true) (sym (only_one x job first)) own) none)
    (λ later. some_bodies c jobs job later own (if_none (same x.conn c) x.body (bodies_of c jobs) none)) (Contains-append_cases (x ∷ []) jobs job has)

same_conn : (c : ConnId) → same c c ≡ true
same_conn c = rw (same_number c.worker, same_number c.seq) refl

-- ---- Which link is which connection

-- a link that a worker turned away is no connection
pub away_of : (set : Setting) (port : PortState) (l : ℕ) → worker.IsTurnedAway set port l → IsTurnedAway port l
away_of set port l u = record {
  input = u.input;
  reads = u.reads;
  output = u.output;
  closed = u.closed;
  at_once = u.at_once;
  early = u.early;
  why = ⊎_elim (λ crowd. inl crowd) (λ turned_away. inr tt) u.why;
}

module _ (set : Setting) (links : List Link) (port : PortState) (jobs : ℕ → List Job) (replies : List Reply) (h : Stands set links port jobs replies) where
  made_or : (k : ℕ) → IsMade set k ⊎ (IsMade set k → ⊥)
  made_or k =
      ⊎_elim (λ low. ⊎_elim (λ none. inr (λ m. let first = m.first in omega arith)) (λ first. inl (record { first = first; below = low })) (cases_lt k 1))
      (λ high. inr (λ m. let below = m.below in omega arith)) (cases_lt k set.next)

  -- each job is of a connection
  pub known_in : (m : ℕ) (job : Job) → Contains (jobs m) job → job.conn.worker ≡ set.number → (l : ℕ) × Contains port.opened l × (seat_below (λ k. (h.last k).number) l set.next ≡ Some job.conn.seq)
  known_in m job has own =
      let k = job.conn.seq in
      let conn : same job.conn (conn_at set k) ≡ true = subst (λ (w : ℕ). same job.conn (record { worker = w; seq = k }) ≡ true) own (same_conn job.conn) in
      ⊎_elim
      (λ made. (
        (h.last k).number,
        h.known k made,
        seat_is (λ j. (h.last j).number) set.next k (λ i j first below first' below' ne. h.apart i j (record { first = first; below = below }) (record { first = first'; below = below' }) ne) made.first made.below,
      ))
      (λ not. absurd (some_bodies (conn_at set k) (jobs m) job has conn (h.unused k not m))) (made_or k)

  -- a link that was opened while 128 others were open is none
  pub few_in : (l : ℕ) → IsCrowded (port.link l).beside → seat_below (λ k. (h.last k).number) l set.next ≡ None
  few_in l crowd = seat_none (λ k. (h.last k).number) l set.next (λ k first below is. h.few k (record { first = first; below = below }) (subst (λ (n : ℕ). IsCrowded (port.link n).beside) (sym is) crowd))

-- ---- Why an end came, and what was put

was_shut : (why : Why) (phase : Phase) (c : ConnId) (s : LinkState) (replies : List Reply) → IsCauseOf why phase c s replies → is_shut why ≡ true → shuts c replies ≡ true
was_shut Ended phase c s replies cause is = absurd (cc)
was_shut Refused phase c s replies cause is = absurd (cc)
was_shut Shut phase c s replies cause is = early_shuts c replies cause
was_shut NoMemory phase c s replies cause is = absurd (cc)

-- the server needn't read on, or no more comes
off_or : (why : Why) (phase : Phase) (c : ConnId) (l : ℕ) (start now : PortView) (replies : List Reply) (said : List Body) → IsWhole why (now.state.link l).input said → IsCauseOf why phase c (now.state.link l) replies
    → IsLetOff (shuts c replies) said l start now ⊎ HasNoInput phase c (now.state.link l) replies
off_or Ended phase c l start now replies said w cause = inr cause
off_or Refused phase c l start now replies said w cause =
    inl (inr (inl (subst (λ (b : List Body). was_bad b ≡ true) (sym w.whole) (bad_front w.heard (Gone ∷ []) (all_bad (now.state.link l).input w.heard w.are)))))
off_or Shut phase c l start now replies said w cause = inl (inl (early_shuts c replies cause))
off_or NoMemory phase c l start now replies said w cause =
    inl (inr (inl (subst (λ (b : List Body). was_bad b ≡ true) (sym w.whole) (bad_behind w.heard (Bad faults.NoMem ∷ Gone ∷ []) refl))))

-- all was put that was said, where nothing is unsent and nothing was lost
spoken : (sending : Sending) (unsent output answers : List ℕ) → kept_up sending ≡ true → unsent ≡ [] → PutOf sending unsent output answers → (sending ≡ sendings.Failed → ⊥) → (sending ≡ sendings.Over → ⊥) → output ≡ answers
spoken sendings.Open unsent output answers kept none put failed over = sym (append-nil output) ∙ ap (λ (u : List ℕ). output ++ u) (sym none) ∙ put
spoken sendings.Failed unsent output answers kept none put failed over = absurd (failed refl)
spoken sendings.OutOfMemory unsent output answers kept none put failed over = absurd (cc)
spoken sendings.Over unsent output answers kept none put failed over = absurd (over refl)

-- ---- An endpoint that ended

-- what is known of an endpoint whose worker keeps no connection, after Stop or a fault of its port
pub record HasEnded (set : Setting) (start now : PortView) (jobs : ℕ → List Job) (replies : List Reply) : Type 0 where
  pub stands : Stands set [] now.state jobs replies
  pub unopened : start.state.opened ≡ []
  pub blame : (l : ℕ) → (now.state.link l).failed ≡ true → LinkFailed l start now
  pub goes_on : GoesOn start.ledger now.ledger
  pub over : (set.phase ≡ Stopping) ⊎ ((set.phase ≡ Failed) × PortFailed start now)

module _ (always : (bytes : List ℕ) → All (λ b. b < 256) bytes → (jobs : List Body) × AreJobs bytes jobs) (set : Setting) (start now : PortView) (jobs : ℕ → List Job) (replies : List Reply) (h : HasEnded set start now jobs replies) where
  over : (now.state.stopped ≡ true) ⊎ PortFailed start now
  over = ⊎_elim (λ e. inl (subst (λ (p : Phase). KnowsPort p now.state) e h.stands.told)) (λ f. inr f.1) h.over

  not_stopped : set.phase ≡ Stopped → ⊥
  not_stopped is = ⊎_elim (λ e. let no : Stopping ≡ Stopped = sym e ∙ is in cc) (λ f. let no : Failed ≡ Stopped = sym f.0 ∙ is in cc) h.over

  done : (k : ℕ) → IsMade set k → ((h.stands.last k).live ≡ false) × (kept_up (h.stands.last k).outgoing.sending ≡ true)
  done k m =
      done_says (h.stands.last k).live (h.stands.last k).shut (has_left (h.stands.last k).incoming.stage) (kept_up (h.stands.last k).outgoing.sending)
      (true_or (is_done (h.stands.last k)) (λ e. h.stands.complete k m e))

  ends : (k : ℕ) → IsMade set k → Ends set.lanes set.phase (conn_at set k) (now.state.link (h.stands.last k).number) jobs replies
  ends k m = each_ends set [] now.state jobs replies (λ i d low. absurd (omega arith)) h.stands k m

  -- the jobs of its lane
  abbrev mine : (k : ℕ) → IsMade set k → List Job
  mine k m = jobs (ends k m).lane

  bodies : (k : ℕ) (m : IsMade set k) → bodies_of (conn_at set k) (mine k m) ≡ (ends k m).said
  bodies k m = let e = ends k m in e.put e.lane ∙ share_own e.lane e.said

  elsewhere : (k : ℕ) (m : IsMade set k) (n : ℕ) → n ≢ (ends k m).lane → bodies_of (conn_at set k) (jobs n) ≡ []
  elsewhere k m n ne = let e = ends k m in e.put n ∙ share_other e.lane n e.said ne

  decided : (k : ℕ) (m : IsMade set k) → lane_of set.lanes (k % set.lanes) (bodies_of (conn_at set k) (mine k m)) ≡ Some (ends k m).lane
  decided k m = ap (λ (b : List Body). lane_of set.lanes (k % set.lanes) b) (bodies k m) ∙ (ends k m).decided

  brought : (k : ℕ) (m : IsMade set k) → Brings (now.state.link (h.stands.last k).number).input (shuts (conn_at set k) replies) (bodies_of (conn_at set k) (mine k m))
  brought k m =
      let e = ends k m in
      let s = now.state.link (h.stands.last k).number in
      subst (Brings s.input (shuts (conn_at set k) replies)) (sym (bodies k m))
      (brings e.why s.input (shuts (conn_at set k) replies) e.said (always s.input (h.stands.each k m).small) e.whole (λ is. was_shut e.why set.phase (conn_at set k) s replies e.cause is))

  last_gone : (k : ℕ) (m : IsMade set k) → EndsWithGone (bodies_of (conn_at set k) (mine k m))
  last_gone k m =
      let e = ends k m in
      let s = now.state.link (h.stands.last k).number in
      subst EndsWithGone (sym (bodies k m)) (ends_whole e.why s.input e.said (always s.input (h.stands.each k m).small) e.whole)

  off : (k : ℕ) (m : IsMade set k) → IsLetOff (shuts (conn_at set k) replies) (bodies_of (conn_at set k) (mine k m)) (h.stands.last k).number start now ⊎ HasNoInput set.phase (conn_at set k) (now.state.link (h.stands.last k).number) replies
  off k m =
      let e = ends k m in
      let l = (h.stands.last k).number in
      subst (λ (b : List Body). IsLetOff (shuts (conn_at set k) replies) b l start now ⊎ HasNoInput set.phase (conn_at set k) (now.state.link l) replies) (sym (bodies k m)) (off_or e.why set.phase (conn_at set k) l start now replies e.said e.whole e.cause)

  caused : (k : ℕ) (m : IsMade set k) → HasEndCause (shuts (conn_at set k) replies) (bodies_of (conn_at set k) (mine k m)) (h.stands.last k).number start now
  caused k m =
      let l = (h.stands.last k).number in
      let dead : (now.state.link l).is_open ≡ false = (h.stands.each k m).live ∙ (done k m).0 in
      ⊎_elim (λ o. inl o)
      (λ heard. ⊎_elim (λ late. inr (inr late))
      (λ early. ⊎_elim (λ e. inr (inl e))
      (λ r. ⊎_elim (λ f. inl (inr (inr (h.blame l f)))) (λ q. ⊎_elim (λ shut. inl (inl (early_shuts (conn_at set k) replies shut))) (λ is. absurd (not_stopped is)) q) r) (heard.own_cause dead early)) (true_or_false (now.state.link l).late)) (off k m)

  paid : (k : ℕ) (m : IsMade set k) → (IsLetOff (shuts (conn_at set k) replies) (bodies_of (conn_at set k) (mine k m)) (h.stands.last k).number start now → ⊥) → (PortFailed start now → ⊥) → (now.state.link (h.stands.last k).number).owed ≡ false
  paid k m held well =
      let l = (h.stands.last k).number in
      ⊎_elim (λ o. absurd (held o))
      (λ heard. ⊎_elim (λ e. (h.stands.each k m).paid e)
      (λ r. ⊎_elim (λ f. absurd (held (inr (inr (h.blame l f)))))
      (λ lets. ⊎_elim (λ e. subst (λ (p : Phase). LetsEnd p (now.state.link l)) e lets) (λ f. absurd (well f.1)) h.over) r) heard.may_end) (off k m)

  put : (k : ℕ) → IsMade set k → AreAskedBy jobs replies → Puts (now.state.link (h.stands.last k).number) (LinkFailed (h.stands.last k).number start now) (answers (conn_at set k) replies)
  put k m asked =
      let link = h.stands.last k in
      let s = now.state.link link.number in
      let at = h.stands.each k m in
      record {
        prefix = (ends k m).output;
        whole = λ well free.
            spoken link.outgoing.sending link.outgoing.unsent s.output (answers (conn_at set k) replies) (done k m).1 (at.sent (done k m).0 free)
            (subst (λ (c : ConnId). Sends link.outgoing s.output (answers c replies)) (h.stands.conn k m) at.outward)
            (λ e. well (h.blame link.number (at.silent e)))
            (λ e. ⊎_elim (λ t. not_on (conn_at set k) (ends k m).lane jobs replies asked (elsewhere k m) (last_gone k m) (subst (λ (c : ConnId). RepliesAfterShut c replies) (h.stands.conn k m) t))
            (λ r. ⊎_elim (λ f. well (h.blame link.number f)) (λ is. not_stopped is) r) (at.over e));
      }

  serves_link : (k : ℕ) → IsMade set k → ServesLink (λ lane. AreAskedBy jobs replies) set.lanes (conn_of set.number k) (h.stands.last k).number jobs (λ lane. replies) start now
  serves_link k m = record {
    lane = (ends k m).lane;
    decided = decided k m;
    elsewhere = elsewhere k m;
    by_lane = record { brings = brought k m; cause = caused k m; paid = paid k m; prefix = (ends k m).output; puts = put k m };
  }

  serves_at : (l : ℕ) {o : Option ℕ} → SeatOf (λ k. (h.stands.last k).number) l set.next o → Contains now.state.opened l → IsServed (λ lane. AreAskedBy jobs replies) set.lanes set.number l o jobs (λ lane. replies) start now
  serves_at l (taken k first below is) has =
      subst (λ (n : ℕ). ServesLink (λ lane. AreAskedBy jobs replies) set.lanes (conn_of set.number k) n jobs (λ lane. replies) start now) is (serves_link k (record { first = first; below = below }))
  serves_at l (free none) has =
      away_of set now.state l (h.stands.away l has (λ k m. none k m.first m.below))

  closed : (l : ℕ) → (now.state.link l).is_open ≡ false
  closed l =
      false_or (now.state.link l).is_open
      (λ e.
      let k = h.stands.linked l e in
      let live : (now.state.link (h.stands.last k.0).number).is_open ≡ false = (h.stands.each k.0 k.1).live ∙ (done k.0 k.1).0 in
      let shut : (now.state.link l).is_open ≡ false = subst (λ (n : ℕ). (now.state.link n).is_open ≡ false) k.2 live in
      let no : true ≡ false = sym e ∙ shut in
      cc)

  pub serves_port : ServesPort (λ lane. AreAskedBy jobs replies) set.lanes set.number jobs (λ lane. replies) start now
  serves_port = record {
    seats = record {
      opened = now.state.opened;
      are = sym (ap (λ (o : List ℕ). o ++ now.state.opened) h.unopened);
      seat = λ l. seat_below (λ k. (h.stands.last k).number) l set.next;
      apart = λ l m k e f. seats_apart (λ j. (h.stands.last j).number) set.next l m k e f;
      few = λ l has crowd. few_in set [] now.state jobs replies h.stands l crowd;
    };
    closed = closed;
    served = λ l has. serves_at l (seat_of (λ k. (h.stands.last k).number) l set.next) has;
    known = known_in set [] now.state jobs replies h.stands;
    over = over;
    goes_on = h.goes_on;
  }
