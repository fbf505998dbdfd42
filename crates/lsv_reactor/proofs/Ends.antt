-- What a worker's own jobs and replies say of its port, all say.
use Rattle.std.proofs.Common.{◌≡◌, ◌≢◌, ◌++◌, ◌∷◌, [], List, ℕ, Bool, true, false, Option, Some, None, refl, sym, ap, subst, ◌∙◌}
use Rattle.std.specs.Prelude.{◌==◌, ◌&&◌, ◌||◌, ◌%◌, zero, suc, not, if◌then◌else◌}
use Rattle.lsv_defs.specs.Pieces.{IsPrefix}
use Rattle.lsv_wire.specs.Frame.{frame_of}
use Rattle.lsv_msg.specs.Messages.{server_bytes}
use Rattle.lsv_msg.specs.declared.messages.ServerMessage.{ServerMessage}
use Rattle.lsv_session.specs.Connections.{same, server_hello}
use Rattle.lsv_session.specs.Transcript.{answers, bodies_of, frames_of, messages_in, said_to}
use Rattle.lsv_session.specs.declared.connection.ConnId.{ConnId}
use Rattle.lsv_session.specs.declared.job.Body.{Body}
use Rattle.lsv_session.specs.declared.job.Job.{Job}
use Rattle.lsv_session.specs.declared.reply.Reply.{Reply}
use Rattle.lsv_turn.specs.Turns.{AreAsked, AreAskedIn, EndsWithGone, LaneTurn, NoneFor, is_shut, jobs_in, replies_in, shuts}
use Rattle.std.specs.List.{Contains}
use Rattle.lsv_links.specs.Lanes.{lane_of, one_lane}
use Rattle.lsv_links.proofs.PrefixLemmas.{brings_first}
use Rattle.lsv_links.specs.Links.{BringsSome, IsPut, IsServed, PutsPrefixes, ServesBy, ServesLink, ServesPort, ServesSome, conn_of}
use Rattle.lsv_links.specs.Turns.{jobs_of, replies_to}
use Rattle.lsv_links.specs.Views.{PortView}
use Rattle.lsv_port.specs.Port.{LinkState, PortState}
use Rattle.std.proofs.lemmas.List.Elements.{Contains-append_left}
use Rattle.lsv_session.proofs.Replies.{bodies_of-append}
use Rattle.lsv_reactor.proofs.Deciding.{part_decides}
use Rattle.lsv_reactor.proofs.Own.{EqOr.equal, EqOr.unequal, contains_own, eq_or}

-- ---- Its own connections

bodies_if : (w seq : ℕ) (b : Bool) (x : Job) (mine all : List Job) → (x.conn.worker == w) ≡ b → bodies_of (conn_of w seq) mine ≡ bodies_of (conn_of w seq) all
    → bodies_of (conn_of w seq) (if b then x ∷ mine else mine) ≡ bodies_of (conn_of w seq) (x ∷ all)
bodies_if w seq true x mine all t e = ap (λ (l : List Body). if same x.conn (conn_of w seq) then x.body ∷ l else l) e
bodies_if w seq false x mine all t e = rw t e

bodies_own : (w seq : ℕ) (jobs : List Job) → bodies_of (conn_of w seq) (jobs_of w jobs) ≡ bodies_of (conn_of w seq) jobs
bodies_own w seq [] = refl
bodies_own w seq (x ∷ jobs) = bodies_if w seq (x.conn.worker == w) x (jobs_of w jobs) jobs refl (bodies_own w seq jobs)

shuts_if : (w seq : ℕ) (b : Bool) (r : Reply) (mine all : List Reply) → (r.conn.worker == w) ≡ b → shuts (conn_of w seq) mine ≡ shuts (conn_of w seq) all
    → shuts (conn_of w seq) (if b then r ∷ mine else mine) ≡ shuts (conn_of w seq) (r ∷ all)
shuts_if w seq true r mine all t e = ap (λ (x : Bool). ((same r.conn (conn_of w seq) && is_shut r.body) && not r.last) || x) e
shuts_if w seq false r mine all t e = rw t e

shuts_own : (w seq : ℕ) (replies : List Reply) → shuts (conn_of w seq) (replies_to w replies) ≡ shuts (conn_of w seq) replies
shuts_own w seq [] = refl
shuts_own w seq (r ∷ replies) = shuts_if w seq (r.conn.worker == w) r (replies_to w replies) replies refl (shuts_own w seq replies)

said_if : (w seq : ℕ) (b : Bool) (r : Reply) (mine all : List Reply) → (r.conn.worker == w) ≡ b → said_to (conn_of w seq) mine ≡ said_to (conn_of w seq) all
    → said_to (conn_of w seq) (if b then r ∷ mine else mine) ≡ said_to (conn_of w seq) (r ∷ all)
said_if w seq true r mine all t e = ap (λ (l : List ServerMessage). (if same r.conn (conn_of w seq) then messages_in r.body else []) ++ l) e
said_if w seq false r mine all t e = rw t e

said_own : (w seq : ℕ) (replies : List Reply) → said_to (conn_of w seq) (replies_to w replies) ≡ said_to (conn_of w seq) replies
said_own w seq [] = refl
said_own w seq (r ∷ replies) = said_if w seq (r.conn.worker == w) r (replies_to w replies) replies refl (said_own w seq replies)

answers_own : (w seq : ℕ) (replies : List Reply) → answers (conn_of w seq) (replies_to w replies) ≡ answers (conn_of w seq) replies
answers_own w seq replies = ap (λ (l : List ServerMessage). frame_of (server_bytes server_hello) ++ frames_of l) (said_own w seq replies)

-- ---- Who is asked

none_own : (w : ℕ) (k : ConnId) (replies : List Reply) → NoneFor k replies → NoneFor k (replies_to w replies)
none_own w k [] n = tt
none_own w k (r ∷ replies) n = elim (eq_or r.conn.worker w) [ equal e t ↦ rw t (n.0, none_own w k replies n.1) | unequal ne t ↦ rw t (none_own w k replies n.1) ]

-- to a connection of another worker
none_other : (w : ℕ) (k : ConnId) (replies : List Reply) → k.worker ≢ w → NoneFor k (replies_to w replies)
none_other w k [] apart = tt
none_other w k (r ∷ replies) apart = elim (eq_or r.conn.worker w) [
  | equal e t ↦ rw t (elim (eq_or r.conn.worker k.worker) [
    | equal p s ↦ absurd (apart (sym p ∙ e))
    | unequal ne s ↦ (rw s refl, none_other w k replies apart)
  ])
  | unequal ne t ↦ rw t (none_other w k replies apart)
]

none_behind : (k : ConnId) (before after : List Reply) (r : Reply) → NoneFor k (before ++ r ∷ after) → NoneFor k after
none_behind k [] after r n = n.1
none_behind k (x ∷ before) after r n = none_behind k before after r n.1

-- where a list of its own replies is split, so are all
record Splits (w : ℕ) (replies : List Reply) (r : Reply) (after : List Reply) : Type 0 where
  front : List Reply
  back : List Reply
  is : replies ≡ front ++ r ∷ back
  own : replies_to w back ≡ after

split_more : (w : ℕ) (y : Reply) (replies : List Reply) (r : Reply) (after : List Reply) → Splits w replies r after → Splits w (y ∷ replies) r after
split_more w y replies r after s = record { front = y ∷ s.front; back = s.back; is = ap (λ (l : List Reply). y ∷ l) s.is; own = s.own }

split_here : (w : ℕ) (y : Reply) (replies after : List Reply) (r : Reply) → y ∷ replies_to w replies ≡ r ∷ after → Splits w (y ∷ replies) r after
split_here w y replies after r e = let head : y ≡ r = cc in record { front = []; back = replies; is = ap (λ (z : Reply). z ∷ replies) head; own = cc }

cons_tail : (x y : Reply) (xs ys : List Reply) → x ∷ xs ≡ y ∷ ys → xs ≡ ys
cons_tail x y xs ys e = cc

split : (w : ℕ) (replies before after : List Reply) (r : Reply) → replies_to w replies ≡ before ++ r ∷ after → Splits w replies r after
split w [] [] after r e = absurd (cc)
split w [] (x ∷ before) after r e = absurd (cc)
split w (y ∷ replies) [] after r e = elim (eq_or y.conn.worker w) [
  | equal p t ↦ split_here w y replies after r (rw t at e)
  | unequal ne t ↦ split_more w y replies r after (split w replies [] after r (rw t at e))
]
split w (y ∷ replies) (x ∷ before) after r e = elim (eq_or y.conn.worker w) [
  | equal p t ↦ split_more w y replies r after (split w replies before after r (cons_tail y x (replies_to w replies) (before ++ r ∷ after) (rw t at e)))
  | unequal ne t ↦ split_more w y replies r after (split w replies (x ∷ before) after r (rw t at e))
]

asked_own : (w : ℕ) (jobs : List Job) (replies : List Reply) → AreAsked jobs replies → AreAsked (jobs_of w jobs) (replies_to w replies)
asked_own w jobs replies a = record {
  asked = λ k none. elim (eq_or k.worker w) [
    | equal e t ↦ none_own w k replies (a.asked k (sym (bodies_at k e) ∙ none))
    | unequal ne t ↦ none_other w k replies ne
  ];
  behind = λ k before after r ends is to shut. elim (eq_or k.worker w) [
    | equal e t ↦
        let s = split w replies before after r is in
        let all : EndsWithGone (bodies_of k jobs) = subst EndsWithGone (bodies_at k e) ends in
        subst (λ (l : List Reply). NoneFor k l) s.own (none_own w k s.back (a.behind k s.front s.back r all s.is to shut))
    | unequal ne t ↦ none_behind k before after r (subst (λ (l : List Reply). NoneFor k l) is (none_other w k replies ne))
  ];
}
  where
    bodies_at : (k : ConnId) → k.worker ≡ w → bodies_of k (jobs_of w jobs) ≡ bodies_of k jobs
    bodies_at k e = subst (λ (v : ℕ). bodies_of (conn_of v k.seq) (jobs_of w jobs) ≡ bodies_of (conn_of v k.seq) jobs) (sym e) (bodies_own w k.seq jobs)

-- ---- The port

by_same : (F G : Type 0) (k : ConnId) (l : ℕ) (mine all : List Job) (took replies : List Reply) (old new : PortView) → (G → F) → bodies_of k mine ≡ bodies_of k all → shuts k took ≡ shuts k replies → answers k took ≡ answers k replies
    → ServesBy F k l mine took old new → ServesBy G k l all replies old new
by_same F G k l mine all took replies old new tells b h a t = record {
  brings = rw (b, h) at t.brings;
  cause = rw (b, h) at t.cause;
  paid = rw (b, h) at t.paid;
  prefix = rw a at t.prefix;
  puts = λ told. rw a at t.puts (tells told);
}

module _ (tells : Type 0) (w : ℕ) (turns : List LaneTurn) (old new : PortView) (asks : tells → AreAskedIn turns) where
  -- its own jobs, and its own replies
  abbrev mine : List Job
  mine = jobs_of w (jobs_in turns)

  abbrev took : List Reply
  took = replies_to w (replies_in turns)

  bodies_same : (seq lane : ℕ) → bodies_of (conn_of w seq) (one_lane lane mine) ≡ bodies_of (conn_of w seq) (jobs_in (one_lane lane turns))
  bodies_same seq zero = bodies_own w seq (jobs_in turns)
  bodies_same seq (suc lane) = refl

  shuts_same : (seq lane : ℕ) → shuts (conn_of w seq) (one_lane lane took) ≡ shuts (conn_of w seq) (replies_in (one_lane lane turns))
  shuts_same seq zero = shuts_own w seq (replies_in turns)
  shuts_same seq (suc lane) = refl

  answers_same : (seq lane : ℕ) → answers (conn_of w seq) (one_lane lane took) ≡ answers (conn_of w seq) (replies_in (one_lane lane turns))
  answers_same seq zero = answers_own w seq (replies_in turns)
  answers_same seq (suc lane) = refl

  served_own : (l : ℕ) (seat : Option ℕ) → IsServed (λ lane. AreAsked mine took) 1 w l seat (λ lane. one_lane lane mine) (λ lane. one_lane lane took) old new
      → IsServed (λ lane. tells) 1 w l seat (λ lane. jobs_in (one_lane lane turns)) (λ lane. replies_in (one_lane lane turns)) old new
  served_own l None s = s
  served_own l (Some seq) s =
      let k = conn_of w seq in
      let t : ServesLink (λ lane. AreAsked mine took) 1 k l (λ lane. one_lane lane mine) (λ lane. one_lane lane took) old new = s in
      record {
        lane = t.lane;
        decided = subst (λ (b : List Body). lane_of 1 (seq % 1) b ≡ Some t.lane) (bodies_same seq t.lane) t.decided;
        elsewhere = λ m ne. sym (bodies_same seq m) ∙ t.elsewhere m ne;
        by_lane = by_same (AreAsked mine took) tells k l (one_lane t.lane mine) (jobs_in (one_lane t.lane turns)) (one_lane t.lane took) (replies_in (one_lane t.lane turns)) old new
            (λ told. asked_own w (jobs_in turns) (replies_in turns) (asks told)) (bodies_same seq t.lane) (shuts_same seq t.lane) (answers_same seq t.lane) t.by_lane;
      }

  contains_lane : (m : ℕ) (job : Job) → Contains (jobs_in (one_lane m turns)) job → job.conn.worker ≡ w → Contains (one_lane m mine) job
  contains_lane zero job c e = contains_own w (jobs_in turns) job c e
  contains_lane (suc m) job c e = c

  pub serves_own : ServesPort (λ lane. AreAsked mine took) 1 w (λ lane. one_lane lane mine) (λ lane. one_lane lane took) old new
      → ServesPort (λ lane. tells) 1 w (λ lane. jobs_in (one_lane lane turns)) (λ lane. replies_in (one_lane lane turns)) old new
  serves_own s = record {
    seats = s.seats;
    closed = s.closed;
    served = λ l is. served_own l (s.seats.seat l) (s.served l is);
    known = λ m job c e. s.known m job (contains_lane m job c e) e;
    over = s.over;
    goes_on = s.goes_on;
  }

-- ---- What was done up to some point

bodies_lane : (w seq lane : ℕ) (all : List Job) → bodies_of (conn_of w seq) (one_lane lane (jobs_of w all)) ≡ bodies_of (conn_of w seq) (one_lane lane all)
bodies_lane w seq zero all = bodies_own w seq all
bodies_lane w seq (suc lane) all = refl

contains_own_lane : (w m : ℕ) (all : List Job) (job : Job) → Contains (one_lane m all) job → job.conn.worker ≡ w → Contains (one_lane m (jobs_of w all)) job
contains_own_lane w zero all job has e = contains_own w all job has e
contains_own_lane w (suc m) all job has e = has

put_more : (w seq l lane : ℕ) (took : List Reply) (port : PortState) → IsPrefix (port.link l).output (answers (conn_of w seq) (one_lane lane (replies_to w took))) → IsPrefix (port.link l).output (answers (conn_of w seq) (one_lane lane took))
put_more w seq l zero took port p = subst (IsPrefix (port.link l).output) (answers_own w seq took) p
put_more w seq l (suc lane) took port p = p

put_own : (w l : ℕ) (seat : Option ℕ) (all : List Job) (took : List Reply) (port : PortState) → IsPut 1 w l seat (λ lane. one_lane lane (jobs_of w all)) (λ lane. one_lane lane (replies_to w took)) port → IsPut 1 w l seat (λ lane. one_lane lane all) (λ lane. one_lane lane took) port
put_own w l None all took port p = p
put_own w l (Some seq) all took port p =
    let s : ServesSome 1 (conn_of w seq) (port.link l) (λ lane. one_lane lane (jobs_of w all)) (λ lane. one_lane lane (replies_to w took)) = p in
    record {
      lane = s.lane;
      decided = λ n e. s.decided n (ap (lane_of 1 (seq % 1)) (bodies_lane w seq s.lane all) ∙ e);
      brought = subst (BringsSome (port.link l).input) (bodies_lane w seq s.lane all) s.brought;
      elsewhere = λ m ne. sym (bodies_lane w seq m all) ∙ s.elsewhere m ne;
      prefix = put_more w seq l s.lane took port s.prefix;
    }

-- what is so by its own jobs and replies is so by all
pub puts_own : (w : ℕ) (all : List Job) (took : List Reply) (old new : PortView) → PutsPrefixes 1 w (λ lane. one_lane lane (jobs_of w all)) (λ lane. one_lane lane (replies_to w took)) old new → PutsPrefixes 1 w (λ lane. one_lane lane all) (λ lane. one_lane lane took) old new
puts_own w all took old new p = record {
  seats = p.seats;
  closed = p.closed;
  put = λ l is. put_own w l (p.seats.seat l) all took new.state (p.put l is);
  known = λ m job has e. p.known m job (contains_own_lane w m all job has e) e;
  goes_on = p.goes_on;
}

front_none : (xs ys : List Body) → xs ++ ys ≡ [] → xs ≡ []
front_none [] ys e = refl
front_none (x ∷ xs) ys e = absurd (cc)

-- a link that was served up to some point, where some jobs weren't turned
serves_turns : (k : ConnId) (link : LinkState) (turns : List LaneTurn) (waiting : List Job) → ServesSome 1 k link (λ lane. one_lane lane (jobs_in turns ++ waiting)) (λ lane. one_lane lane (replies_in turns)) → ServesSome 1 k link (λ lane. jobs_in (one_lane lane turns)) (λ lane. replies_in (one_lane lane turns))
serves_turns k link turns waiting s = go s.lane s.decided s.brought s.elsewhere s.prefix
  where
    both : bodies_of k (jobs_in turns ++ waiting) ≡ bodies_of k (jobs_in turns) ++ bodies_of k waiting
    both = bodies_of-append k (jobs_in turns) waiting

    other : (m : ℕ) → bodies_of k (one_lane m (jobs_in turns ++ waiting)) ≡ [] → bodies_of k (jobs_in (one_lane m turns)) ≡ []
    other zero e = front_none (bodies_of k (jobs_in turns)) (bodies_of k waiting) (sym both ∙ e)
    other (suc m) e = refl

    go : (lane : ℕ) → ((l : ℕ) → lane_of 1 (k.seq % 1) (bodies_of k (one_lane lane (jobs_in turns ++ waiting))) ≡ Some l → l ≡ lane) → BringsSome link.input (bodies_of k (one_lane lane (jobs_in turns ++ waiting))) → ((m : ℕ) → m ≢ lane → bodies_of k (one_lane m (jobs_in turns ++ waiting)) ≡ []) → IsPrefix link.output (answers k (one_lane lane (replies_in turns)))
        → ServesSome 1 k link (λ l. jobs_in (one_lane l turns)) (λ l. replies_in (one_lane l turns))
    go zero decided brought elsewhere prefix = record {
      lane = 0;
      decided = part_decides 1 (k.seq % 1) 0 (bodies_of k (jobs_in turns)) (bodies_of k (jobs_in turns ++ waiting)) (bodies_of k waiting, both) decided;
      brought = brings_first link.input (bodies_of k (jobs_in turns)) (bodies_of k (jobs_in turns ++ waiting)) (bodies_of k waiting, both) brought;
      elsewhere = λ m ne. other m (elsewhere m ne);
      prefix = prefix;
    }
    go (suc lane) decided brought elsewhere prefix = record { lane = suc lane; decided = decided; brought = brought; elsewhere = λ m ne. other m (elsewhere m ne); prefix = prefix }

put_in : (w l : ℕ) (seat : Option ℕ) (turns : List LaneTurn) (waiting : List Job) (port : PortState) → IsPut 1 w l seat (λ lane. one_lane lane (jobs_in turns ++ waiting)) (λ lane. one_lane lane (replies_in turns)) port → IsPut 1 w l seat (λ lane. jobs_in (one_lane lane turns)) (λ lane. replies_in (one_lane lane turns)) port
put_in w l None turns waiting port p = p
put_in w l (Some seq) turns waiting port p = serves_turns (conn_of w seq) (port.link l) turns waiting p

contains_turned : (m : ℕ) (turns : List LaneTurn) (waiting : List Job) (job : Job) → Contains (jobs_in (one_lane m turns)) job → Contains (one_lane m (jobs_in turns ++ waiting)) job
contains_turned zero turns waiting job has = Contains-append_left (jobs_in turns) waiting job has
contains_turned (suc m) turns waiting job has = has

-- by the jobs and the replies of these turns, where some jobs weren't turned
pub puts_turns : (w : ℕ) (turns : List LaneTurn) (waiting : List Job) (old new : PortView) → PutsPrefixes 1 w (λ lane. one_lane lane (jobs_in turns ++ waiting)) (λ lane. one_lane lane (replies_in turns)) old new → PutsPrefixes 1 w (λ lane. jobs_in (one_lane lane turns)) (λ lane. replies_in (one_lane lane turns)) old new
puts_turns w turns waiting old new p = record {
  seats = p.seats;
  closed = p.closed;
  put = λ l is. put_in w l (p.seats.seat l) turns waiting new.state (p.put l is);
  known = λ m job has e. p.known m job (contains_turned m turns waiting job has) e;
  goes_on = p.goes_on;
}
