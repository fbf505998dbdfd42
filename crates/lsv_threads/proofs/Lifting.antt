-- What one worker put and took, said by the turns of all lanes.
use Rattle.std.proofs.Common.{◌≡◌, ◌≢◌, ◌≤◌, ◌<◌, ◌++◌, ◌∷◌, [], List, ℕ, Bool, true, false, Option, Some, None, refl, sym, ap, subst, ◌∙◌, arith}
use Rattle.std.specs.Prelude.{◌==◌, ◌&&◌, ◌||◌, ◌%◌, not, if◌then◌else◌}
use Rattle.std.specs.List.{Contains}
use Rattle.std.proofs.Math.Decide.{dec_le}
use Rattle.std.proofs.lemmas.List.Elements.{Contains-append_left}
use mathlib.Core.Logic.{dite}
use Rattle.lsv_defs.specs.Pieces.{IsPrefix}
use Rattle.lsv_wire.specs.Frame.{frame_of}
use Rattle.lsv_msg.specs.Messages.{server_bytes}
use Rattle.lsv_msg.specs.declared.messages.ServerMessage.{ServerMessage}
use Rattle.lsv_port.specs.Port.{LinkState, PortState}
use Rattle.lsv_queue.specs.Settled.{IsMerge}
use Rattle.lsv_session.specs.Connections.{same, server_hello}
use Rattle.lsv_session.specs.Transcript.{answers, bodies_of, frames_of, messages_in, said_to}
use Rattle.lsv_session.specs.declared.connection.ConnId.{ConnId}
use Rattle.lsv_session.specs.declared.job.Body.{Body}
use Rattle.lsv_session.specs.declared.job.Job.{Job}
use Rattle.lsv_session.specs.declared.reply.Reply.{Reply}
use Rattle.lsv_session.proofs.Replies.{bodies_of-append}
use Rattle.lsv_turn.specs.Turns.{AreAskedIn, EndsWithGone, IsToThese, LaneTurn, NoneFor, is_shut, jobs_in, replies_in, shuts}
use Rattle.lsv_links.specs.Lanes.{lane_of}
use Rattle.lsv_links.specs.Links.{IsPut, IsServed, PutsPrefixes, ServesBy, ServesLink, ServesPort, ServesSome, conn_of}
use Rattle.lsv_links.specs.Turns.{jobs_of, replies_to}
use Rattle.lsv_links.specs.Views.{PortView}
use Rattle.lsv_links.proofs.PrefixLemmas.{brings_first}
use Rattle.lsv_reactor.specs.Endpoints.{AreAskedBy, Serves}
use Rattle.lsv_reactor.proofs.Deciding.{part_decides}
use Rattle.lsv_reactor.proofs.Own.{EqOr.equal, EqOr.unequal, contains_own, eq_or}
use Rattle.lsv_threads.proofs.Saying.{for_none, none_for, replies_for, said_by_lane}

-- ---- One connection's jobs and replies

-- the value of a test
data Value (b : Bool) : Type 0 where
  yes : b ≡ true → Value b
  no : b ≡ false → Value b

value : (b : Bool) → Value b
value true = yes refl
value false = no refl

bodies_if : (w seq : ℕ) (b : Bool) (x : Job) (mine all : List Job) → (x.conn.worker == w) ≡ b → bodies_of (conn_of w seq) mine ≡ bodies_of (conn_of w seq) all
    → bodies_of (conn_of w seq) (if b then x ∷ mine else mine) ≡ bodies_of (conn_of w seq) (x ∷ all)
bodies_if w seq true x mine all t e = ap (λ (l : List Body). if same x.conn (conn_of w seq) then x.body ∷ l else l) e
bodies_if w seq false x mine all t e = rw t e

bodies_own : (w seq : ℕ) (jobs : List Job) → bodies_of (conn_of w seq) (jobs_of w jobs) ≡ bodies_of (conn_of w seq) jobs
bodies_own w seq [] = refl
bodies_own w seq (x ∷ jobs) = bodies_if w seq (x.conn.worker == w) x (jobs_of w jobs) jobs refl (bodies_own w seq jobs)

for_if : (w seq : ℕ) (b : Bool) (r : Reply) (mine all : List Reply) → (r.conn.worker == w) ≡ b → replies_for (conn_of w seq) mine ≡ replies_for (conn_of w seq) all
    → replies_for (conn_of w seq) (if b then r ∷ mine else mine) ≡ replies_for (conn_of w seq) (r ∷ all)
for_if w seq true r mine all t e = ap (λ (l : List Reply). if same r.conn (conn_of w seq) then r ∷ l else l) e
for_if w seq false r mine all t e = rw t e

for_own : (w seq : ℕ) (replies : List Reply) → replies_for (conn_of w seq) (replies_to w replies) ≡ replies_for (conn_of w seq) replies
for_own w seq [] = refl
for_own w seq (r ∷ replies) = for_if w seq (r.conn.worker == w) r (replies_to w replies) replies refl (for_own w seq replies)

bodies_at : (w : ℕ) (k : ConnId) (jobs : List Job) → k.worker ≡ w → bodies_of k (jobs_of w jobs) ≡ bodies_of k jobs
bodies_at w k jobs e = subst (λ (v : ℕ). bodies_of (conn_of v k.seq) (jobs_of w jobs) ≡ bodies_of (conn_of v k.seq) jobs) (sym e) (bodies_own w k.seq jobs)

for_at : (w : ℕ) (k : ConnId) (replies : List Reply) → k.worker ≡ w → replies_for k (replies_to w replies) ≡ replies_for k replies
for_at w k replies e = subst (λ (v : ℕ). replies_for (conn_of v k.seq) (replies_to w replies) ≡ replies_for (conn_of v k.seq) replies) (sym e) (for_own w k.seq replies)

-- ---- What the replies to it say

module _ (k : ConnId) where
  said_if : (b : Bool) (r : Reply) (mine all : List Reply) → same r.conn k ≡ b → said_to k mine ≡ said_to k all → said_to k (if b then r ∷ mine else mine) ≡ said_to k (r ∷ all)
  said_if true r mine all t e = ap (λ (l : List ServerMessage). (if same r.conn k then messages_in r.body else []) ++ l) e
  said_if false r mine all t e = rw t e

  said_for : (replies : List Reply) → said_to k (replies_for k replies) ≡ said_to k replies
  said_for [] = refl
  said_for (r ∷ replies) = said_if (same r.conn k) r (replies_for k replies) replies refl (said_for replies)

  shuts_if : (b : Bool) (r : Reply) (mine all : List Reply) → same r.conn k ≡ b → shuts k mine ≡ shuts k all → shuts k (if b then r ∷ mine else mine) ≡ shuts k (r ∷ all)
  shuts_if true r mine all t e = ap (λ (x : Bool). ((same r.conn k && is_shut r.body) && not r.last) || x) e
  shuts_if false r mine all t e = rw t e

  shuts_for : (replies : List Reply) → shuts k (replies_for k replies) ≡ shuts k replies
  shuts_for [] = refl
  shuts_for (r ∷ replies) = shuts_if (same r.conn k) r (replies_for k replies) replies refl (shuts_for replies)

  -- replies that are the same to it shut it, or not, and answer it the same
  same_shuts : (xs ys : List Reply) → replies_for k xs ≡ replies_for k ys → shuts k xs ≡ shuts k ys
  same_shuts xs ys e = sym (shuts_for xs) ∙ (ap (shuts k) e ∙ shuts_for ys)

  same_answers : (xs ys : List Reply) → replies_for k xs ≡ replies_for k ys → answers k xs ≡ answers k ys
  same_answers xs ys e = ap (λ (l : List ServerMessage). frame_of (server_bytes server_hello) ++ frames_of l) (sym (said_for xs) ∙ (ap (said_to k) e ∙ said_for ys))

  -- ---- Where they are split

  more_if : (b : Bool) (r : Reply) (xs ys : List Reply) → (if b then r ∷ (xs ++ ys) else (xs ++ ys)) ≡ (if b then r ∷ xs else xs) ++ ys
  more_if true r xs ys = refl
  more_if false r xs ys = refl

  for_append : (xs ys : List Reply) → replies_for k (xs ++ ys) ≡ replies_for k xs ++ replies_for k ys
  for_append [] ys = refl
  for_append (r ∷ xs) ys = ap (λ (l : List Reply). if same r.conn k then r ∷ l else l) (for_append xs ys) ∙ more_if (same r.conn k) r (replies_for k xs) (replies_for k ys)

  for_here : (r : Reply) (xs : List Reply) → same r.conn k ≡ true → replies_for k (r ∷ xs) ≡ r ∷ replies_for k xs
  for_here r xs t = ap (λ (b : Bool). if b then r ∷ replies_for k xs else replies_for k xs) t

  for_at_split : (before after : List Reply) (r : Reply) → same r.conn k ≡ true → replies_for k (before ++ r ∷ after) ≡ replies_for k before ++ r ∷ replies_for k after
  for_at_split before after r t = for_append before (r ∷ after) ∙ ap (λ (l : List Reply). replies_for k before ++ l) (for_here r after t)

  -- if the replies to it are split, so are all
  record IsSplit (replies : List Reply) (r : Reply) (after : List Reply) : Type 0 where
    front : List Reply
    back : List Reply
    is : replies ≡ front ++ r ∷ back
    own : replies_for k back ≡ after

  split_more : (y : Reply) (replies : List Reply) (r : Reply) (after : List Reply) → IsSplit replies r after → IsSplit (y ∷ replies) r after
  split_more y replies r after s = record { front = y ∷ s.front; back = s.back; is = ap (λ (l : List Reply). y ∷ l) s.is; own = s.own }

  split_here : (y : Reply) (replies after : List Reply) (r : Reply) → y ∷ replies_for k replies ≡ r ∷ after → IsSplit (y ∷ replies) r after
  split_here y replies after r e = let head : y ≡ r = cc in record { front = []; back = replies; is = ap (λ (z : Reply). z ∷ replies) head; own = cc }

  cons_tail : (x y : Reply) (xs ys : List Reply) → x ∷ xs ≡ y ∷ ys → xs ≡ ys
  cons_tail x y xs ys e = cc

  split_for : (replies before after : List Reply) (r : Reply) → replies_for k replies ≡ before ++ r ∷ after → IsSplit replies r after
  split_for [] [] after r e = absurd (cc)
  split_for [] (x ∷ before) after r e = absurd (cc)
  split_for (y ∷ replies) [] after r e = elim (value (same y.conn k)) [
    | yes t ↦ split_here y replies after r (rw t at e)
    | no t ↦ split_more y replies r after (split_for replies [] after r (rw t at e))
  ]
  split_for (y ∷ replies) (x ∷ before) after r e = elim (value (same y.conn k)) [
    | yes t ↦ split_more y replies r after (split_for replies before after r (cons_tail y x (replies_for k replies) (before ++ r ∷ after) (rw t at e)))
    | no t ↦ split_more y replies r after (split_for replies (x ∷ before) after r (rw t at e))
  ]

  none_behind : (before after : List Reply) (r : Reply) → NoneFor k (before ++ r ∷ after) → NoneFor k after
  none_behind [] after r n = n.1
  none_behind (x ∷ before) after r n = none_behind before after r n.1

-- ---- Whom a lane's replies to one worker are to

none_own : (w : ℕ) (k : ConnId) (replies : List Reply) → NoneFor k replies → NoneFor k (replies_to w replies)
none_own w k [] n = tt
none_own w k (r ∷ replies) n = elim (eq_or r.conn.worker w) [ equal e t ↦ rw t (n.0, none_own w k replies n.1) | unequal ne t ↦ rw t (none_own w k replies n.1) ]

-- to a connection of another worker
none_other : (w : ℕ) (k : ConnId) (replies : List Reply) → k.worker ≢ w → NoneFor k (replies_to w replies)
none_other w k [] apart = tt
none_other w k (r ∷ replies) apart = elim (eq_or r.conn.worker w) [
  | equal e t ↦ rw t (elim (eq_or r.conn.worker k.worker) [
    | equal p s ↦ absurd (apart (sym p ∙ e))
    | unequal ne s ↦ (rw s refl, none_other w k replies apart)
  ])
  | unequal ne t ↦ rw t (none_other w k replies apart)
]

-- ---- By the turns of all lanes

-- a worker's jobs at each lane, by the turns of the lanes
abbrev pub own_jobs : ℕ → (ℕ → List LaneTurn) → ℕ → List Job
own_jobs w turns lane = jobs_of w (jobs_in (turns lane))

-- the lanes' replies to it
abbrev pub own_replies : ℕ → (ℕ → List LaneTurn) → ℕ → List Reply
own_replies w turns lane = replies_to w (replies_in (turns lane))

module _ (w : ℕ) (turns : ℕ → List LaneTurn) (took : List Reply) (merge : IsMerge took (own_replies w turns)) (to_these : (l : ℕ) → IsToThese (jobs_in (turns l)) (replies_in (turns l))) where
  -- if one lane alone has a connection's jobs, what was taken for the connection is that lane's
  said_at : (k : ConnId) (lane : ℕ) → k.worker ≡ w → ((m : ℕ) → m ≢ lane → bodies_of k (jobs_in (turns m)) ≡ []) → replies_for k took ≡ replies_for k (replies_in (turns lane))
  said_at k lane e others = said_by_lane k lane took (own_replies w turns) merge (λ m ne. none_own w k (replies_in (turns m)) (to_these m k (others m ne))) ∙ for_at w k (replies_in (turns lane)) e

  none_took : (k : ConnId) → ((m : ℕ) → NoneFor k (own_replies w turns m)) → NoneFor k took
  none_took k none = for_none k took (said_by_lane k 0 took (own_replies w turns) merge (λ m ne. none m) ∙ none_for k (own_replies w turns 0) (none 0))

  -- ---- Who is asked

  pub asked_by : ((l : ℕ) → AreAskedIn (turns l)) → AreAskedBy (own_jobs w turns) took
  asked_by asked = record {
    asked = λ k none. elim (eq_or k.worker w) [
      | equal e t ↦ none_took k (λ m. none_own w k (replies_in (turns m)) (to_these m k (sym (bodies_at w k (jobs_in (turns m)) e) ∙ none m)))
      | unequal ne t ↦ none_took k (λ m. none_other w k (replies_in (turns m)) ne)
    ];
    behind = λ k lane before after r others ends is to shut. elim (eq_or k.worker w) [
      | equal e t ↦
          let said = said_at k lane e (λ m ne. sym (bodies_at w k (jobs_in (turns m)) e) ∙ others m ne) in
          let s = split_for k (replies_in (turns lane)) (replies_for k before) (replies_for k after) r (sym said ∙ (ap (replies_for k) is ∙ for_at_split k before after r to)) in
          let none = (asked lane).behind k s.front s.back r (subst EndsWithGone (bodies_at w k (jobs_in (turns lane)) e) ends) s.is to shut in
          for_none k after (sym s.own ∙ none_for k s.back none)
      | unequal ne t ↦ none_behind k before after r (subst (λ (l : List Reply). NoneFor k l) is (none_took k (λ m. none_other w k (replies_in (turns m)) ne)))
    ];
  }

  -- ---- A port that was served

  by_turns : (F G : Type 0) (k : ConnId) (l : ℕ) (mine all : List Job) (replies : List Reply) (old new : PortView) → (G → F) → bodies_of k mine ≡ bodies_of k all → shuts k took ≡ shuts k replies → answers k took ≡ answers k replies
      → ServesBy F k l mine took old new → ServesBy G k l all replies old new
  by_turns F G k l mine all replies old new tells b h a t = record {
    brings = rw (b, h) at t.brings;
    cause = rw (b, h) at t.cause;
    paid = rw (b, h) at t.paid;
    prefix = rw a at t.prefix;
    puts = λ told. rw a at t.puts (tells told);
  }

  module _ (tells : Type 0) (lanes : ℕ) (old new : PortView) (asked : tells → (l : ℕ) → AreAskedIn (turns l)) where
    served_at : (l : ℕ) (seat : Option ℕ) → IsServed (λ lane. AreAskedBy (own_jobs w turns) took) lanes w l seat (own_jobs w turns) (λ lane. took) old new
        → IsServed (λ lane. tells) lanes w l seat (λ m. jobs_in (turns m)) (λ m. replies_in (turns m)) old new
    served_at l None s = s
    served_at l (Some seq) s =
        let k = conn_of w seq in
        let t : ServesLink (λ lane. AreAskedBy (own_jobs w turns) took) lanes k l (own_jobs w turns) (λ lane. took) old new = s in
        let elsewhere : (m : ℕ) → m ≢ t.lane → bodies_of k (jobs_in (turns m)) ≡ [] = λ m ne. sym (bodies_own w seq (jobs_in (turns m))) ∙ t.elsewhere m ne in
        let said = said_at k t.lane refl elsewhere in
        record {
          lane = t.lane;
          decided = subst (λ (b : List Body). lane_of lanes (seq % lanes) b ≡ Some t.lane) (bodies_own w seq (jobs_in (turns t.lane))) t.decided;
          elsewhere = elsewhere;
          by_lane = by_turns (AreAskedBy (own_jobs w turns) took) tells k l (own_jobs w turns t.lane) (jobs_in (turns t.lane)) (replies_in (turns t.lane)) old new
              (λ told. asked_by (asked told)) (bodies_own w seq (jobs_in (turns t.lane))) (same_shuts k took (replies_in (turns t.lane)) said) (same_answers k took (replies_in (turns t.lane)) said) t.by_lane;
        }

    pub serves_turns : Serves lanes w (own_jobs w turns) took old new → ServesPort (λ lane. tells) lanes w (λ m. jobs_in (turns m)) (λ m. replies_in (turns m)) old new
    serves_turns s = record {
      seats = s.seats;
      closed = s.closed;
      served = λ l is. served_at l (s.seats.seat l) (s.served l is);
      known = λ m job has e. s.known m job (contains_own w (jobs_in (turns m)) job has e) e;
      over = s.over;
      goes_on = s.goes_on;
    }

  -- ---- A port whose links were served up to some point

  front_none : (xs ys : List Body) → xs ++ ys ≡ [] → xs ≡ []
  front_none [] ys e = refl
  front_none (x ∷ xs) ys e = absurd (cc)

  module _ (gave dropped : ℕ → List Job) (gave_are : (l : ℕ) → gave l ≡ own_jobs w turns l ++ dropped l) where
    -- what it put for a connection is what the lane's turns have of it, and after that what the lane dropped
    bodies_gave : (seq m : ℕ) → bodies_of (conn_of w seq) (gave m) ≡ bodies_of (conn_of w seq) (jobs_in (turns m)) ++ bodies_of (conn_of w seq) (dropped m)
    bodies_gave seq m = ap (bodies_of (conn_of w seq)) (gave_are m) ∙ (bodies_of-append (conn_of w seq) (own_jobs w turns m) (dropped m) ∙ ap (λ (b : List Body). b ++ bodies_of (conn_of w seq) (dropped m)) (bodies_own w seq (jobs_in (turns m))))

    some_turns : (lanes seq : ℕ) (link : LinkState) → ServesSome lanes (conn_of w seq) link gave (λ lane. took) → ServesSome lanes (conn_of w seq) link (λ m. jobs_in (turns m)) (λ m. replies_in (turns m))
    some_turns lanes seq link s =
        let k = conn_of w seq in
        let elsewhere : (m : ℕ) → m ≢ s.lane → bodies_of k (jobs_in (turns m)) ≡ [] = λ m ne. front_none (bodies_of k (jobs_in (turns m))) (bodies_of k (dropped m)) (sym (bodies_gave seq m) ∙ s.elsewhere m ne) in
        record {
          lane = s.lane;
          decided = part_decides lanes (seq % lanes) s.lane (bodies_of k (jobs_in (turns s.lane))) (bodies_of k (gave s.lane)) (bodies_of k (dropped s.lane), bodies_gave seq s.lane) s.decided;
          brought = brings_first link.input (bodies_of k (jobs_in (turns s.lane))) (bodies_of k (gave s.lane)) (bodies_of k (dropped s.lane), bodies_gave seq s.lane) s.brought;
          elsewhere = elsewhere;
          prefix = subst (IsPrefix link.output) (same_answers k took (replies_in (turns s.lane)) (said_at k s.lane refl elsewhere)) s.prefix;
        }

    put_turns : (lanes l : ℕ) (seat : Option ℕ) (port : PortState) → IsPut lanes w l seat gave (λ lane. took) port → IsPut lanes w l seat (λ m. jobs_in (turns m)) (λ m. replies_in (turns m)) port
    put_turns lanes l None port p = p
    put_turns lanes l (Some seq) port p = some_turns lanes seq (port.link l) p

    has_gave : (m : ℕ) (job : Job) → Contains (jobs_in (turns m)) job → job.conn.worker ≡ w → Contains (gave m) job
    has_gave m job has e = subst (λ (l : List Job). Contains l job) (sym (gave_are m)) (Contains-append_left (own_jobs w turns m) (dropped m) job (contains_own w (jobs_in (turns m)) job has e))

    pub puts_turns : (lanes : ℕ) (old new : PortView) → PutsPrefixes lanes w gave (λ lane. took) old new → PutsPrefixes lanes w (λ m. jobs_in (turns m)) (λ m. replies_in (turns m)) old new
    puts_turns lanes old new p = record {
      seats = p.seats;
      closed = p.closed;
      put = λ l is. put_turns lanes l (p.seats.seat l) new.state (p.put l is);
      known = λ m job has e. p.known m job (has_gave m job has e) e;
      goes_on = p.goes_on;
    }

-- ---- Whose jobs there are

-- if these jobs are of no worker from this number on, each is of one below it
pub within_of : (count : ℕ) (jobs : List Job) → ((w : ℕ) → count ≤ w → jobs_of w jobs ≡ []) → (job : Job) → Contains jobs job → job.conn.worker < count
within_of count jobs none job has = dite (dec_le count job.conn.worker)
    (λ (high : count ≤ job.conn.worker). absurd (has_none job (subst (λ (l : List Job). Contains l job) (none job.conn.worker high) (contains_own job.conn.worker jobs job has refl))))
    (λ low. omega (arith, low))
  where
    has_none : (job : Job) → Contains [] job → ⊥
    has_none job c = absurd (let less = c.1 in omega arith)
