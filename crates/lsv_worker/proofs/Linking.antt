-- Steps of one connection.
use Rattle.std.proofs.Common.{◌≡◌, ◌⊎◌, ℕ, zero, suc, ◌+◌, ◌<◌, ◌≤◌, Bool, true, false, List, [], ◌∷◌, ◌++◌, take, map, refl, sym, ap, subst, ◌∙◌, append_assoc, inl, inr, ⊎_elim, arith}
use Rattle.std.specs.List.{All}
use Rattle.std.proofs.lemmas.List.{append-nil, map-append}
use Rattle.std.proofs.lemmas.List.Elements.{All-append, All-take}
use Rattle.lsv_port.specs.Port.{Changes, LinkState, PortState, after_read, closed, is_over}
use Rattle.lsv_port.specs.declared.port.Took.TheVariants as took
use Rattle.std.specs.Prelude.{if◌then◌else◌}
use Rattle.lsv_msg.specs.Messages.{server_bytes}
use Rattle.lsv_msg.specs.declared.messages.ServerMessage.{ServerMessage}
use Rattle.lsv_wire.specs.Frame.{frame_of}
use Rattle.lsv_session.specs.Connections.{same}
use Rattle.lsv_session.specs.Transcript.{answers, frames_of, messages_in, said_to}
use Rattle.lsv_session.specs.declared.reply.ReplyBody.{ReplyBody}
use Rattle.lsv_session.specs.declared.reply.ReplyBody.TheVariants as said
use Rattle.lsv_session.proofs.Replies.{answers-append}
use Rattle.lsv_session.specs.declared.connection.ConnId.{ConnId}
use Rattle.lsv_session.specs.declared.job.Body.{Body}
use Rattle.lsv_session.specs.declared.job.Job.{Job}
use Rattle.lsv_session.specs.declared.reply.Reply.{Reply}
use Rattle.lsv_worker.specs.Lanes.{job_of}
use Rattle.lsv_worker.specs.Incoming.{Receives, IncomingKeeps, Marks, Puts, SameWay, ReportsNoMemory, has_left, may_receive}
use Rattle.lsv_worker.specs.Outgoing.{Alone, HasEarlyShut, HasShut, Sends, RepliesAfterShut, Writes}
use Rattle.lsv_worker.specs.Links.{Closes, Fails, HasOwnCause, IsAtHome, KnowsPort, LetsEnd, LinkStands, LinkStep, MayEnd, Takes, WasRead, WasReadAtMost, reads_in, repeated}
use Rattle.lsv_worker.specs.declared.incoming.Incoming.{Incoming}
use Rattle.lsv_worker.specs.declared.outgoing.Outgoing.{Outgoing}
use Rattle.lsv_worker.specs.declared.outgoing.Sending.TheVariants as sendings
use Rattle.lsv_worker.specs.declared.link.Link.{Link}
use Rattle.lsv_worker.specs.declared.link.Phase.{Phase}
use Rattle.lsv_worker.specs.declared.link.Phase.TheVariants.{Going, Stopping, Failed, Stopped}
use Rattle.lsv_worker.proofs.Putting.{hears_ext, same_self}
use Rattle.lsv_worker.proofs.Ports.{alone_change, alone_here, alone_then, going_or, told_alone}

-- the same for equal lists of what was put
pub stands_ext : (n : ℕ) (phase : Phase) (link : Link) (s : LinkState) (p q : ℕ → List Body) (replies : List Reply) → ((lane : ℕ) → p lane ≡ q lane) → LinkStands n phase link s q replies → LinkStands n phase link s p replies
stands_ext n phase link s p q replies same h = record {
  marks = h.marks;
  home = h.home;
  inward = hears_ext link.incoming s.input p q h.marks same h.inward;
  outward = h.outward;
  small = h.small;
  live = h.live;
  owed = h.owed;
  paid = h.paid;
  broken = h.broken;
  may_end = h.may_end;
  own_cause = h.own_cause;
  shut_by = h.shut_by;
  told = h.told;
  shut = h.shut;
  silent = h.silent;
  over = h.over;
  closed = h.closed;
  sent = h.sent;
  kept = h.kept;
  wants = h.wants;
}

-- one step after another
pub link_then : (phase : Phase) (a b c : Link) (s t u : PortState) (p q r : ℕ → List Job) → LinkStep phase a b s t p q → LinkStep phase b c t u q r → LinkStep phase a c s u p r
link_then phase a b c s t u p q r x y = record {
  number = y.number ∙ x.number;
  conn = y.conn ∙ x.conn;
  alone = alone_then a.number s t u x.alone (subst (λ (n : ℕ). Alone n t u) x.number y.alone);
  added = λ m. x.added m ++ y.added m;
  put = λ m. y.put m ∙ ap (λ (k : ConnId). q m ++ map (job_of k) (y.added m)) x.conn ∙ ap (λ (l : List Job). l ++ map (job_of a.conn) (y.added m)) (x.put m)
      ∙ append_assoc (p m) (map (job_of a.conn) (x.added m)) (map (job_of a.conn) (y.added m)) ∙ ap (λ (l : List Job). p m ++ l) (sym (map-append (job_of a.conn) (x.added m) (y.added m)));
  goes = λ n past replies told h.
      let mid : LinkStands n phase b (t.link b.number) (λ m. past m ++ x.added m) replies = subst (λ (j : ℕ). LinkStands n phase b (t.link j) (λ m. past m ++ x.added m) replies) (sym x.number) (x.goes n past replies told h) in
      let end : LinkStands n phase c (u.link a.number) (λ m. (past m ++ x.added m) ++ y.added m) replies = subst (λ (j : ℕ). LinkStands n phase c (u.link j) (λ m. (past m ++ x.added m) ++ y.added m) replies) x.number (y.goes n (λ m. past m ++ x.added m) replies (told_alone phase a.number s t x.alone told) mid) in
      stands_ext n phase c (u.link a.number) (λ m. past m ++ (x.added m ++ y.added m)) (λ m. (past m ++ x.added m) ++ y.added m) replies (λ m. sym (append_assoc (past m) (x.added m) (y.added m))) end;
}

-- a step that puts nothing
pub link_quiet : (phase : Phase) (old new : Link) (s t : PortState) (jobs : ℕ → List Job) → new.number ≡ old.number → new.conn ≡ old.conn → Alone old.number s t
    → ((n : ℕ) (past : ℕ → List Body) (replies : List Reply) → KnowsPort phase s → LinkStands n phase old (s.link old.number) past replies → LinkStands n phase new (t.link old.number) past replies) → LinkStep phase old new s t jobs jobs
link_quiet phase old new s t jobs number conn alone goes = record {
  number = number;
  conn = conn;
  alone = alone;
  added = λ m. [];
  put = λ m. sym (append-nil (jobs m));
  goes = λ n past replies told h. stands_ext n phase new (t.link old.number) (λ m. past m ++ []) past replies (λ m. append-nil (past m)) (goes n past replies told h);
}

-- a connection that was shut, by a keeper or because it ended
left_on : (old new : Incoming) (marks : Marks) → IncomingKeeps old new → (marks.shut ≡ true) ⊎ (has_left old.stage ≡ true) → (marks.shut ≡ true) ⊎ (has_left new.stage ≡ true)
left_on old new marks keeps h = ⊎_elim (λ m. inl m) (λ l. inr (keeps.left l)) h

-- jobs are put
pub link_puts : (phase : Phase) (old : Link) (inc : Incoming) (port : PortState) (p q : ℕ → List Job) → Puts old.conn old.incoming inc p q → IncomingKeeps old.incoming inc → LinkStep phase old (record old { incoming = inc }) port port p q
link_puts phase old inc port p q puts keeps = record {
  number = refl;
  conn = refl;
  alone = alone_here old.number port;
  added = puts.added;
  put = puts.put;
  goes = λ n past replies told h. record {
    marks = h.marks;
    home = h.home;
    inward = puts.goes (port.link old.number).input past h.marks h.inward;
    outward = h.outward;
    small = h.small;
    live = h.live;
    owed = h.owed;
    paid = h.paid;
    broken = h.broken;
    may_end = h.may_end;
    own_cause = h.own_cause;
    shut_by = λ e. left_on old.incoming inc h.marks keeps (h.shut_by e);
    told = h.told;
    shut = h.shut;
    silent = h.silent;
    over = h.over;
    closed = h.closed;
    sent = h.sent;
    kept = h.kept;
    wants = λ e. keeps.told (h.wants e);
  };
}

-- its home lane stays known whatever else is marked
home_on : (n : ℕ) (c : ConnId) (old new : Marks) → new.lanes ≡ old.lanes → new.home ≡ old.home → IsAtHome n c old → IsAtHome n c new
home_on n c old new lanes home h = record { lanes = lanes ∙ h.lanes; home = home ∙ h.home }

-- if its Gone wasn't put and its link was closed before Stop, a keeper shut it or it failed
gone_on : (n : ℕ) (phase : Phase) (old : Link) (s : LinkState) (past : ℕ → List Body) (replies : List Reply) (h : LinkStands n phase old s past replies) → has_left old.incoming.stage ≡ false → HasOwnCause phase s (h.marks.shut ≡ true)
gone_on n phase old s past replies h stays dead early =
    ⊎_elim (λ f. inr (inl f))
    (λ k. ⊎_elim (λ shut. ⊎_elim (λ m. inr (inr (inl m))) (λ l. let no : true ≡ false = sym l ∙ stays in absurd cc) (h.shut_by shut)) (λ p. inr (inr (inr p))) k) (h.closed (sym h.live ∙ dead))

-- no more bytes come of a connection
ends_at : (b : Bool) (n : ℕ) (phase : Phase) (old : Link) (inc : Incoming) (s : LinkState) (past : ℕ → List Body) (replies : List Reply) → has_left old.incoming.stage ≡ b → LetsEnd phase s
    → ((read : List ℕ) (put : ℕ → List Body) (marks : Marks) → Receives old.incoming read put marks → Receives inc read put (record marks { over = true })) → (has_left old.incoming.stage ≡ true → inc ≡ old.incoming) → IncomingKeeps old.incoming inc
    → LinkStands n phase old s past replies → LinkStands n phase (record old { incoming = inc }) s past replies
ends_at true n phase old inc s past replies left lets goes same keeps h = subst (λ (i : Incoming). LinkStands n phase (record old { incoming = i }) s past replies) (sym (same left)) h
ends_at false n phase old inc s past replies stays lets goes same keeps h = record {
  marks = record h.marks { over = true };
  home = home_on n old.conn h.marks (record h.marks { over = true }) refl refl h.home;
  inward = goes s.input past h.marks h.inward;
  outward = h.outward;
  small = h.small;
  live = h.live;
  owed = h.owed;
  paid = h.paid;
  broken = h.broken;
  may_end = λ e. inr (inr lets);
  own_cause = λ e. gone_on n phase old s past replies h stays;
  shut_by = λ e. left_on old.incoming inc h.marks keeps (h.shut_by e);
  told = h.told;
  shut = h.shut;
  silent = h.silent;
  over = h.over;
  closed = h.closed;
  sent = h.sent;
  kept = h.kept;
  wants = λ e. keeps.told (h.wants e);
}

-- no more bytes come, if its phase allows it to end
pub link_ends : (phase : Phase) (old : Link) (inc : Incoming) (port : PortState) (jobs : ℕ → List Job) → ((s : LinkState) → s.owed ≡ old.owed → LetsEnd phase s)
    → ((read : List ℕ) (put : ℕ → List Body) (marks : Marks) → Receives old.incoming read put marks → Receives inc read put (record marks { over = true })) → (has_left old.incoming.stage ≡ true → inc ≡ old.incoming) → IncomingKeeps old.incoming inc → LinkStep phase old (record old { incoming = inc }) port port jobs jobs
link_ends phase old inc port jobs lets goes same keeps =
    link_quiet phase old (record old { incoming = inc }) port port jobs refl refl (alone_here old.number port)
    (λ n past replies told h. ends_at (has_left old.incoming.stage) n phase old inc (port.link old.number) past replies refl (lets (port.link old.number) h.owed) goes same keeps h)

-- a note of what keeps a link from being read changes nothing else
pub link_paused : (phase : Phase) (old new after : Link) (s t : PortState) (p q : ℕ → List Job) → after ≡ record new { blocked = after.blocked } → LinkStep phase old new s t p q → LinkStep phase old after s t p q
link_paused phase old new after s t p q is step =
    subst (λ (l : Link). LinkStep phase old l s t p q) (sym is) (record {
      number = step.number;
      conn = step.conn;
      alone = step.alone;
      added = step.added;
      put = step.put;
      goes = λ n past replies told h.
          let k : LinkStands n phase new (t.link old.number) (λ m. past m ++ step.added m) replies = step.goes n past replies told h in
          record {
            marks = k.marks;
            home = k.home;
            inward = k.inward;
            outward = k.outward;
            small = k.small;
            live = k.live;
            owed = k.owed;
            paid = k.paid;
            broken = k.broken;
            may_end = k.may_end;
            own_cause = k.own_cause;
            shut_by = k.shut_by;
            told = k.told;
            shut = k.shut;
            silent = k.silent;
            over = k.over;
            closed = k.closed;
            sent = k.sent;
            kept = k.kept;
            wants = k.wants;
          };
    })

-- ---- reading

lets_same : (phase : Phase) (s t : LinkState) → t.owed ≡ s.owed → LetsEnd phase s → LetsEnd phase t
lets_same Going s t e h = h
lets_same Stopping s t e h = e ∙ h
lets_same Failed s t e h = h
lets_same Stopped s t e h = h

lets_unowed : (phase : Phase) (s t : LinkState) → t.owed ≡ false → LetsEnd phase s → LetsEnd phase t
lets_unowed Going s t e h = h
lets_unowed Stopping s t e h = e
lets_unowed Failed s t e h = h
lets_unowed Stopped s t e h = h

reads_lets : (phase : Phase) (s : LinkState) → reads_in phase ≡ true → LetsEnd phase s → s.owed ≡ false
reads_lets Going s reads h = absurd h
reads_lets Stopping s reads h = h
reads_lets Failed s reads h = absurd cc
reads_lets Stopped s reads h = absurd cc

may_same : (phase : Phase) (s t : LinkState) → t.ended ≡ s.ended → t.failed ≡ s.failed → (LetsEnd phase s → LetsEnd phase t) → MayEnd phase s → MayEnd phase t
may_same phase s t ended failed lets h = ⊎_elim (λ e. inl (ended ∙ e)) (λ k. inr (⊎_elim (λ f. inl (failed ∙ f)) (λ l. inr (lets l)) k)) h

-- the cause stays if the link still ended or failed
pub cause_same : (phase : Phase) (s t : LinkState) (shut : Type 0) → t.ended ≡ s.ended → t.failed ≡ s.failed → (s.ended ≡ true) ⊎ ((s.failed ≡ true) ⊎ (shut ⊎ (phase ≡ Stopped))) → (t.ended ≡ true) ⊎ ((t.failed ≡ true) ⊎ (shut ⊎ (phase ≡ Stopped)))
cause_same phase s t shut ended failed h = ⊎_elim (λ e. inl (ended ∙ e)) (λ k. inr (⊎_elim (λ f. inl (failed ∙ f)) (λ r. inr r) k)) h

-- while a worker goes on, a link ends only for its own cause
cause_going : (phase : Phase) (s t : LinkState) (shut : Type 0) → t.ended ≡ s.ended → t.failed ≡ s.failed → phase ≡ Going → MayEnd phase s → (t.ended ≡ true) ⊎ ((t.failed ≡ true) ⊎ (shut ⊎ (phase ≡ Stopped)))
cause_going phase s t shut ended failed going h =
    ⊎_elim (λ e. inl (ended ∙ e)) (λ k. inr (⊎_elim (λ f. inl (failed ∙ f)) (λ l. absurd (subst (λ (p : Phase). LetsEnd p s) going l)) k)) h

-- bytes were read from a link that may receive
pub stands_heard : (n : ℕ) (phase : Phase) (old : Link) (inc : Incoming) (s : LinkState) (count : ℕ) (buf : List ℕ) (past : ℕ → List Body) (replies : List Reply)
    → ((read : List ℕ) (put : ℕ → List Body) (marks : Marks) → Receives old.incoming read put marks → Receives inc (read ++ take count buf) put marks)
    → All (λ b. b < 256) buf → IncomingKeeps old.incoming inc → LinkStands n phase old s past replies → LinkStands n phase (record old { incoming = inc }) (after_read (took.Bytes count) buf s) past replies
stands_heard n phase old inc s count buf past replies goes small keeps h = record {
  marks = h.marks;
  home = h.home;
  inward = goes s.input past h.marks h.inward;
  outward = h.outward;
  small = All-append (λ b. b < 256) s.input (take count buf) h.small (All-take (λ b. b < 256) count buf small);
  live = h.live;
  owed = h.owed;
  paid = h.paid;
  broken = h.broken;
  may_end = λ e. may_same phase s (after_read (took.Bytes count) buf s) refl refl (lets_same phase s (after_read (took.Bytes count) buf s) refl) (h.may_end e);
  own_cause = h.own_cause;
  shut_by = λ e. left_on old.incoming inc h.marks keeps (h.shut_by e);
  told = h.told;
  shut = h.shut;
  silent = h.silent;
  over = h.over;
  closed = h.closed;
  sent = h.sent;
  kept = h.kept;
  wants = λ e. keeps.told (h.wants e);
}

-- no bytes are read from a link that may not receive
pub deaf : (n : ℕ) (phase : Phase) (old : Link) (s : LinkState) (past : ℕ → List Body) (replies : List Reply) → reads_in phase ≡ true → old.live ≡ true → old.owed ≡ true → may_receive old.incoming.stage ≡ false → s.ended ≡ false → LinkStands n phase old s past replies → ⊥
deaf n phase old s past replies reads live owed mute going h =
    ⊎_elim (λ e. let a : false ≡ true = sym going ∙ e in cc)
    (λ k. ⊎_elim (λ f. let a : true ≡ false = sym live ∙ h.broken f in cc) (λ l. let a : true ≡ false = sym owed ∙ sym h.owed ∙ reads_lets phase s reads l in cc) k)
    (h.may_end (h.inward.over mute))

pub stands_unowed : (n : ℕ) (phase : Phase) (old : Link) (s : LinkState) (buf : List ℕ) (past : ℕ → List Body) (replies : List Reply) → LinkStands n phase old s past replies → LinkStands n phase (record old { owed = false }) (after_read took.NotYet buf s) past replies
stands_unowed n phase old s buf past replies h = record {
  marks = h.marks;
  home = h.home;
  inward = h.inward;
  outward = h.outward;
  small = h.small;
  live = h.live;
  owed = refl;
  paid = λ e. refl;
  broken = h.broken;
  may_end = λ e. may_same phase s (after_read took.NotYet buf s) refl refl (lets_unowed phase s (after_read took.NotYet buf s) refl) (h.may_end e);
  own_cause = h.own_cause;
  shut_by = h.shut_by;
  told = h.told;
  shut = h.shut;
  silent = h.silent;
  over = h.over;
  closed = h.closed;
  sent = h.sent;
  kept = h.kept;
  wants = h.wants;
}

pub stands_ended : (n : ℕ) (phase : Phase) (old : Link) (inc : Incoming) (s : LinkState) (buf : List ℕ) (past : ℕ → List Body) (replies : List Reply)
    → ((read : List ℕ) (put : ℕ → List Body) (marks : Marks) → Receives old.incoming read put marks → Receives inc read put (record marks { over = true }))
    → IncomingKeeps old.incoming inc → LinkStands n phase old s past replies → LinkStands n phase (record old { owed = false; incoming = inc }) (after_read took.End buf s) past replies
stands_ended n phase old inc s buf past replies goes keeps h = record {
  marks = record h.marks { over = true };
  home = home_on n old.conn h.marks (record h.marks { over = true }) refl refl h.home;
  inward = goes s.input past h.marks h.inward;
  outward = h.outward;
  small = h.small;
  live = h.live;
  owed = refl;
  paid = λ e. refl;
  broken = h.broken;
  may_end = λ e. inl refl;
  own_cause = λ e dead early. inl refl;
  shut_by = λ e. left_on old.incoming inc h.marks keeps (h.shut_by e);
  told = h.told;
  shut = h.shut;
  silent = h.silent;
  over = h.over;
  closed = h.closed;
  sent = h.sent;
  kept = h.kept;
  wants = λ e. keeps.told (h.wants e);
}

-- a link that failed is closed
pub stands_failed : (n : ℕ) (phase : Phase) (old mid new : Link) (s t : LinkState) (past : ℕ → List Body) (replies : List Reply) → mid.conn ≡ old.conn → mid.shut ≡ old.shut → mid.incoming ≡ old.incoming
    → ((answers : List ℕ) → Sends old.outgoing s.output answers → Sends mid.outgoing t.output answers) → (mid.outgoing.sending ≡ sendings.Over → old.outgoing.sending ≡ sendings.Over) → (mid.outgoing.sending ≡ sendings.OutOfMemory → old.outgoing.sending ≡ sendings.OutOfMemory) → Fails mid new
    → t.input ≡ s.input → t.is_open ≡ false → t.failed ≡ true → t.owed ≡ mid.owed → (t.ended ≡ true → t.owed ≡ false) → LinkStands n phase old s past replies → LinkStands n phase new t past replies
stands_failed n phase old mid new s t past replies conn shut incoming speaks over out_of_memory fails input shutdown failed owed paid h =
    let c : new.conn ≡ old.conn = fails.conn ∙ conn in
    record {
      marks = record h.marks { over = true };
      home = subst (λ (k : ConnId). IsAtHome n k (record h.marks { over = true })) (sym c) (home_on n old.conn h.marks (record h.marks { over = true }) refl refl h.home);
      inward = subst (λ (r : List ℕ). Receives new.incoming r past (record h.marks { over = true })) (sym input) (fails.incoming s.input past h.marks (subst (λ (i : Incoming). Receives i s.input past h.marks) (sym incoming) h.inward));
      outward = fails.outgoing t.output (answers new.conn replies) (subst (λ (k : ConnId). Sends mid.outgoing t.output (answers k replies)) (sym c) (speaks (answers old.conn replies) h.outward));
      small = subst (All (λ b. b < 256)) (sym input) h.small;
      live = shutdown ∙ sym fails.live;
      owed = owed ∙ sym fails.owed;
      paid = paid;
      broken = λ e. fails.live;
      may_end = λ e. inr (inl failed);
      own_cause = λ e dead early. inr (inl failed);
      shut_by = λ e. left_on mid.incoming new.incoming h.marks fails.keeps (⊎_elim (λ m. inl m) (λ l. inr (ap (λ (i : Incoming). has_left i.stage) incoming ∙ l)) (h.shut_by (sym (fails.shut ∙ shut) ∙ e)));
      told = λ e. subst (λ (k : ConnId). HasEarlyShut k replies) (sym c) (h.told e);
      shut = λ e. subst (λ (k : ConnId). HasShut k replies) (sym c) (h.shut (sym (fails.shut ∙ shut) ∙ e));
      silent = λ e. failed;
      over = λ e. inr (inl failed);
      closed = λ e. inl failed;
      sent = λ e full. fails.unsent;
      kept = λ going e. fails.unsent;
      wants = λ e. fails.keeps.told (subst ReportsNoMemory (sym incoming) (h.wants (out_of_memory (fails.out_of_memory e))));
    }

-- ---- writing

pub stands_wrote : (n : ℕ) (phase : Phase) (old : Link) (out : Outgoing) (live : Bool) (s t : LinkState) (past : ℕ → List Body) (replies : List Reply)
    → t.input ≡ s.input → t.ended ≡ s.ended → t.owed ≡ s.owed → t.failed ≡ s.failed → t.is_open ≡ live
    → ((answers : List ℕ) → Sends old.outgoing s.output answers → Sends out t.output answers) → (out.sending ≡ sendings.Failed → old.outgoing.sending ≡ sendings.Failed) → (out.sending ≡ sendings.Over → (old.outgoing.sending ≡ sendings.Over) ⊎ (phase ≡ Stopped)) → (out.sending ≡ sendings.OutOfMemory → old.outgoing.sending ≡ sendings.OutOfMemory)
    → (old.live ≡ false → live ≡ false) → (live ≡ false → (t.failed ≡ true) ⊎ ((old.shut ≡ true) ⊎ (phase ≡ Stopped))) → (live ≡ false → t.full ≡ false → out.unsent ≡ []) → (phase ≡ Going → live ≡ false → out.unsent ≡ [])
    → (live ≡ false → t.late ≡ false → ((old.live ≡ false) × (s.late ≡ false)) ⊎ ((phase ≡ Going) ⊎ (phase ≡ Stopped)))
    → LinkStands n phase old s past replies → LinkStands n phase (record old { outgoing = out; live = live }) t past replies
stands_wrote n phase old out live s t past replies input ended owed failed here speaks silent over out_of_memory still closed sent kept late h = record {
  marks = h.marks;
  home = h.home;
  inward = subst (λ (r : List ℕ). Receives old.incoming r past h.marks) (sym input) h.inward;
  outward = speaks (answers old.conn replies) h.outward;
  small = subst (All (λ b. b < 256)) (sym input) h.small;
  live = here;
  owed = owed ∙ h.owed;
  paid = λ e. owed ∙ h.paid (sym ended ∙ e);
  broken = λ e. still (h.broken (sym failed ∙ e));
  may_end = λ e. may_same phase s t ended failed (lets_same phase s t owed) (h.may_end e);
  own_cause = λ e dead early.
      ⊎_elim (λ was. cause_same phase s t (h.marks.shut ≡ true) ended failed (h.own_cause e (h.live ∙ was.0) was.1))
      (λ p. ⊎_elim (λ going. cause_going phase s t (h.marks.shut ≡ true) ended failed going (h.may_end e)) (λ stop. inr (inr (inr stop))) p) (late (sym here ∙ dead) early);
  shut_by = h.shut_by;
  told = h.told;
  shut = h.shut;
  silent = λ e. failed ∙ h.silent (silent e);
  over = λ e. ⊎_elim (λ was. ⊎_elim (λ t. inl t) (λ l. inr (⊎_elim (λ f. inl (failed ∙ f)) (λ p. inr p) l)) (h.over was)) (λ p. inr (inr p)) (over e);
  closed = closed;
  sent = sent;
  kept = kept;
  wants = λ e. h.wants (out_of_memory e);
}

-- ---- counts of reads

repeated_more : (k n : ℕ) → repeated (k + 1) n ≡ repeated k n ++ n ∷ []
repeated_more zero n = let e : zero + 1 ≡ suc zero = omega arith in ap (λ (m : ℕ). repeated m n) e
repeated_more (suc k) n = let e : suc k + 1 ≡ suc (k + 1) = omega arith in ap (λ (m : ℕ). repeated m n) e ∙ ap (λ (l : List ℕ). n ∷ l) (repeated_more k n)

pub read_none : (s t : LinkState) → t.reads ≡ s.reads → WasRead 0 s t
read_none s t e = e ∙ sym (append-nil s.reads)

pub read_more : (k : ℕ) (s t u : LinkState) → WasRead k s t → WasRead 1 t u → WasRead (k + 1) s u
read_more k s t u a b =
    b ∙ ap (λ (l : List ℕ). l ++ repeated 1 65536) a ∙ append_assoc s.reads (repeated k 65536) (repeated 1 65536)
    ∙ ap (λ (l : List ℕ). s.reads ++ l) (sym (repeated_more k 65536))

repeated_add : (x k n : ℕ) → repeated x n ++ repeated k n ≡ repeated (x + k) n
repeated_add zero k n = let e : k ≡ zero + k = omega arith in ap (λ (m : ℕ). repeated m n) e
repeated_add (suc x) k n = let e : suc (x + k) ≡ suc x + k = omega arith in ap (λ (l : List ℕ). n ∷ l) (repeated_add x k n) ∙ ap (λ (m : ℕ). repeated m n) e

pub most_none : (n : ℕ) (s t : LinkState) → t.reads ≡ s.reads → WasReadAtMost n s t
most_none n s t e = record { times = 0; few = omega arith; were = read_none s t e }

pub most_add : (m n : ℕ) (s t u : LinkState) → WasReadAtMost m s t → WasReadAtMost n t u → WasReadAtMost (m + n) s u
most_add m n s t u a b = record {
  times = a.times + b.times;
  few = omega (arith, a.few, b.few);
  were = b.were ∙ ap (λ (l : List ℕ). l ++ repeated b.times 65536) a.were ∙ append_assoc s.reads (repeated a.times 65536) (repeated b.times 65536) ∙ ap (λ (l : List ℕ). s.reads ++ l) (repeated_add a.times b.times 65536);
}

pub most_up : (m n : ℕ) (s t : LinkState) → m ≤ n → WasReadAtMost m s t → WasReadAtMost n s t
most_up m n s t le a = record { times = a.times; few = omega (arith, a.few); were = a.were }

-- ---- one call of the port

-- a call changes only this link, and puts nothing
pub link_change : (phase : Phase) (old new : Link) (now : LinkState) (s t : PortState) (jobs : ℕ → List Job) → new.number ≡ old.number → new.conn ≡ old.conn → now.beside ≡ (s.link old.number).beside → Changes old.number now s t
    → ((n : ℕ) (past : ℕ → List Body) (replies : List Reply) → KnowsPort phase s → LinkStands n phase old (s.link old.number) past replies → LinkStands n phase new now past replies) → LinkStep phase old new s t jobs jobs
link_change phase old new now s t jobs number conn beside change goes =
    link_quiet phase old new s t jobs number conn (alone_change old.number now s t beside change) (λ n past replies told h. subst (λ (x : LinkState). LinkStands n phase new x past replies) (sym change.this) (goes n past replies told h))

-- a read failed, and the link was closed
pub link_read_failed : (phase : Phase) (old new : Link) (buf : List ℕ) (s t u : PortState) (jobs : ℕ → List Job) → Changes old.number (after_read took.Failed buf (s.link old.number)) s t → Changes old.number (closed (is_over t) (t.link old.number)) t u
    → Fails (record old { owed = false }) new → LinkStep phase old new s u jobs jobs
link_read_failed phase old new buf s t u jobs first second fails =
    let is : u.link old.number ≡ closed (is_over t) (after_read took.Failed buf (s.link old.number)) = second.this ∙ ap (closed (is_over t)) first.this in
    link_quiet phase old new s u jobs fails.number fails.conn (alone_then old.number s t u (alone_change old.number (after_read took.Failed buf (s.link old.number)) s t refl first) (alone_change old.number (closed (is_over t) (t.link old.number)) t u refl second))
    (λ n past replies told h. stands_failed n phase old (record old { owed = false }) new (s.link old.number) (u.link old.number) past replies refl refl refl
    (λ a speaks. subst (λ (x : LinkState). Sends old.outgoing x.output a) (sym is) speaks) (λ e. e) (λ e. e) fails
    (ap (λ (x : LinkState). x.input) is) (ap (λ (x : LinkState). x.is_open) is) (ap (λ (x : LinkState). x.failed) is) (ap (λ (x : LinkState). x.owed) is) (λ e. ap (λ (x : LinkState). x.owed) is) h)

-- a write failed, and the link was closed
pub link_write_failed : (phase : Phase) (old new : Link) (out : Outgoing) (s t u : PortState) (jobs : ℕ → List Job) → Writes old.number old.outgoing out s t → (t.link old.number).failed ≡ true → (out.sending ≡ sendings.Over → old.outgoing.sending ≡ sendings.Over) → (out.sending ≡ sendings.OutOfMemory → old.outgoing.sending ≡ sendings.OutOfMemory)
    → Changes old.number (closed (is_over t) (t.link old.number)) t u → Fails (record old { outgoing = out }) new → LinkStep phase old new s u jobs jobs
link_write_failed phase old new out s t u jobs writes failed over out_of_memory change fails =
    let is : u.link old.number ≡ closed (is_over t) (t.link old.number) = change.this in
    link_quiet phase old new s u jobs fails.number fails.conn (alone_then old.number s t u writes.alone (alone_change old.number (closed (is_over t) (t.link old.number)) t u refl change))
    (λ n past replies told h. stands_failed n phase old (record old { outgoing = out }) new (s.link old.number) (u.link old.number) past replies refl refl refl
    (λ a speaks. subst (λ (x : LinkState). Sends out x.output a) (sym is) (writes.goes a speaks)) over out_of_memory fails
    (ap (λ (x : LinkState). x.input) is ∙ writes.input.input) (ap (λ (x : LinkState). x.is_open) is) (ap (λ (x : LinkState). x.failed) is ∙ failed) (ap (λ (x : LinkState). x.owed) is ∙ writes.input.owed ∙ h.owed)
    (λ e. ap (λ (x : LinkState). x.owed) is ∙ writes.input.owed ∙ h.paid (sym (ap (λ (x : LinkState). x.ended) is ∙ writes.input.ended) ∙ e)) h)

-- unsent bytes were written, as many as the link took
pub link_wrote : (phase : Phase) (old : Link) (out : Outgoing) (s t : PortState) (jobs : ℕ → List Job) → old.live ≡ true → Writes old.number old.outgoing out s t → (t.link old.number).failed ≡ (s.link old.number).failed → out.sending ≡ old.outgoing.sending
    → LinkStep phase old (record old { outgoing = out }) s t jobs jobs
link_wrote phase old out s t jobs live writes failed sending =
    link_quiet phase old (record old { outgoing = out }) s t jobs refl refl writes.alone
    (λ n past replies told h. stands_wrote n phase old out old.live (s.link old.number) (t.link old.number) past replies writes.input.input writes.input.ended writes.input.owed failed (writes.input.is_open ∙ h.live) writes.goes
    (λ e. sym sending ∙ e) (λ e. inl (sym sending ∙ e)) (λ e. sym sending ∙ e) (λ e. e) (λ e. let no : true ≡ false = sym live ∙ e in absurd cc) (λ e. let no : true ≡ false = sym live ∙ e in absurd cc) (λ going e. let no : true ≡ false = sym live ∙ e in absurd cc) (λ e early. let no : true ≡ false = sym live ∙ e in absurd cc) h)

-- the same, and the link was shut and is closed
pub link_wrote_last : (phase : Phase) (old : Link) (out : Outgoing) (s t u : PortState) (jobs : ℕ → List Job) → old.shut ≡ true → Writes old.number old.outgoing out s t → (t.link old.number).failed ≡ (s.link old.number).failed → out.sending ≡ old.outgoing.sending
    → ((t.link old.number).full ≡ false → out.unsent ≡ []) → (phase ≡ Going → out.unsent ≡ []) → Changes old.number (closed (is_over t) (t.link old.number)) t u → LinkStep phase old (record old { outgoing = out; live = false }) s u jobs jobs
link_wrote_last phase old out s t u jobs shut writes failed sending done idle change =
    let is : u.link old.number ≡ closed (is_over t) (t.link old.number) = change.this in
    link_quiet phase old (record old { outgoing = out; live = false }) s u jobs refl refl (alone_then old.number s t u writes.alone (alone_change old.number (closed (is_over t) (t.link old.number)) t u refl change))
    (λ n past replies told h. stands_wrote n phase old out false (s.link old.number) (u.link old.number) past replies (ap (λ (x : LinkState). x.input) is ∙ writes.input.input) (ap (λ (x : LinkState). x.ended) is ∙ writes.input.ended) (ap (λ (x : LinkState). x.owed) is ∙ writes.input.owed)
    (ap (λ (x : LinkState). x.failed) is ∙ failed) (ap (λ (x : LinkState). x.is_open) is) (λ a speaks. subst (λ (x : LinkState). Sends out x.output a) (sym is) (writes.goes a speaks))
    (λ e. sym sending ∙ e) (λ e. inl (sym sending ∙ e)) (λ e. sym sending ∙ e) (λ e. refl) (λ e. inr (inl shut)) (λ e full. done (sym (ap (λ (x : LinkState). x.full) is) ∙ full)) (λ going e. idle going)
    (λ e early. inr (going_or phase t (told_alone phase old.number s t writes.alone told) (sym (ap (λ (x : LinkState). x.late) is) ∙ early))) h)

-- nothing is done
pub link_same : (phase : Phase) (old : Link) (s : PortState) (jobs : ℕ → List Job) → LinkStep phase old old s s jobs jobs
link_same phase old s jobs = link_quiet phase old old s s jobs refl refl (alone_here old.number s) (λ n past replies told h. h)

-- ---- replies

same_said : (c k : ConnId) → c ≡ k → same c k ≡ true
same_said c k e = subst (λ (x : ConnId). same c x ≡ true) e (same_self c)

said_one : (c : ConnId) (reply : Reply) (m : ServerMessage) → reply.conn ≡ c → reply.body ≡ said.Say m → said_to c (reply ∷ []) ≡ m ∷ []
said_one c reply m conn body =
    ap (λ (b : Bool). (if b then messages_in reply.body else []) ++ said_to c []) (same_said reply.conn c conn) ∙ ap (λ (b : ReplyBody). messages_in b ++ said_to c []) body

shut_none : (c : ConnId) (reply : Reply) → reply.conn ≡ c → reply.body ≡ said.Shut → said_to c (reply ∷ []) ≡ []
shut_none c reply conn body =
    ap (λ (b : Bool). (if b then messages_in reply.body else []) ++ said_to c []) (same_said reply.conn c conn) ∙ ap (λ (b : ReplyBody). messages_in b ++ said_to c []) body

pub answers_said : (c : ConnId) (replies : List Reply) (reply : Reply) (m : ServerMessage) → reply.conn ≡ c → reply.body ≡ said.Say m → answers c (replies ++ reply ∷ []) ≡ answers c replies ++ frame_of (server_bytes m)
answers_said c replies reply m conn body =
    answers-append c replies (reply ∷ []) ∙ ap (λ (l : List ServerMessage). answers c replies ++ frames_of l) (said_one c reply m conn body) ∙ ap (λ (l : List ℕ). answers c replies ++ l) (append-nil (frame_of (server_bytes m)))

pub answers_shut : (c : ConnId) (replies : List Reply) (reply : Reply) → reply.conn ≡ c → reply.body ≡ said.Shut → answers c (replies ++ reply ∷ []) ≡ answers c replies
answers_shut c replies reply conn body =
    answers-append c replies (reply ∷ []) ∙ ap (λ (l : List ServerMessage). answers c replies ++ frames_of l) (shut_none c reply conn body) ∙ append-nil (answers c replies)

pub shut_more : (c : ConnId) (replies more : List Reply) → HasShut c replies → HasShut c (replies ++ more)
shut_more c [] more h = absurd h
shut_more c (r ∷ replies) more h = ⊎_elim (λ i. inl i) (λ t. inr (shut_more c replies more t)) h

pub early_more : (c : ConnId) (replies more : List Reply) → HasEarlyShut c replies → HasEarlyShut c (replies ++ more)
early_more c [] more h = absurd h
early_more c (r ∷ replies) more h = ⊎_elim (λ i. inl i) (λ t. inr (early_more c replies more t)) h

pub shut_last : (c : ConnId) (replies : List Reply) (reply : Reply) → reply.conn ≡ c → reply.body ≡ said.Shut → HasShut c (replies ++ reply ∷ [])
shut_last c [] reply conn body = inl (record { conn = same_said reply.conn c conn; shut = body })
shut_last c (r ∷ replies) reply conn body = inr (shut_last c replies reply conn body)

pub early_last : (c : ConnId) (replies : List Reply) (reply : Reply) → reply.conn ≡ c → reply.body ≡ said.Shut → reply.last ≡ false → HasEarlyShut c (replies ++ reply ∷ [])
early_last c [] reply conn body last = inl (record { shut = record { conn = same_said reply.conn c conn; shut = body }; early = last })
early_last c (r ∷ replies) reply conn body last = inr (early_last c replies reply conn body last)

pub talks_more : (c : ConnId) (replies more : List Reply) → RepliesAfterShut c replies → RepliesAfterShut c (replies ++ more)
talks_more c replies more h = record {
  before = h.before;
  reply = h.reply;
  after = h.after ++ more;
  whole = ap (λ (l : List Reply). l ++ more) h.whole ∙ append_assoc h.before (h.reply ∷ h.after) more;
  shut = h.shut;
  more = h.more;
}

pub talks_now : (c : ConnId) (replies : List Reply) (reply : Reply) → reply.conn ≡ c → HasShut c replies → RepliesAfterShut c (replies ++ reply ∷ [])
talks_now c replies reply conn shut = record { before = replies; reply = reply; after = []; whole = refl; shut = shut; more = same_said reply.conn c conn }

-- a reply with a message was taken
pub stands_said : (n : ℕ) (phase : Phase) (old : Link) (inc : Incoming) (out : Outgoing) (s : LinkState) (past : ℕ → List Body) (replies : List Reply) (reply : Reply) (m : ServerMessage) → reply.conn ≡ old.conn → reply.body ≡ said.Say m → SameWay old.incoming inc
    → (Sends old.outgoing s.output (answers old.conn replies) → Sends out s.output (answers old.conn replies ++ frame_of (server_bytes m)))
    → (out.sending ≡ sendings.Failed → old.outgoing.sending ≡ sendings.Failed) → (out.sending ≡ sendings.Over → (old.outgoing.sending ≡ sendings.Over) ⊎ ((old.shut ≡ true) ⊎ (old.live ≡ false))) → (old.live ≡ false → out.unsent ≡ []) → ((old.outgoing.sending ≡ sendings.OutOfMemory → ReportsNoMemory old.incoming) → out.sending ≡ sendings.OutOfMemory → ReportsNoMemory inc) → (has_left old.incoming.stage ≡ true → has_left inc.stage ≡ true)
    → LinkStands n phase old s past replies → LinkStands n phase (record old { incoming = inc; outgoing = out }) s past (replies ++ reply ∷ [])
stands_said n phase old inc out s past replies reply m conn body way speaks silent over sent wants left h = record {
  marks = h.marks;
  home = h.home;
  inward = way s.input past h.marks h.inward;
  outward = subst (Sends out s.output) (sym (answers_said old.conn replies reply m conn body)) (speaks h.outward);
  small = h.small;
  live = h.live;
  owed = h.owed;
  paid = h.paid;
  broken = h.broken;
  may_end = h.may_end;
  own_cause = h.own_cause;
  shut_by = λ e. ⊎_elim (λ m. inl m) (λ l. inr (left l)) (h.shut_by e);
  told = λ e. early_more old.conn replies (reply ∷ []) (h.told e);
  shut = λ e. shut_more old.conn replies (reply ∷ []) (h.shut e);
  silent = λ e. h.silent (silent e);
  over = λ e. ⊎_elim (λ was. ⊎_elim (λ t. inl (talks_more old.conn replies (reply ∷ []) t)) (λ l. inr l) (h.over was))
      (λ why. ⊎_elim (λ shut. inl (talks_now old.conn replies reply conn (h.shut shut)))
      (λ l. ⊎_elim (λ f. inr (inl f)) (λ k. ⊎_elim (λ shut. inl (talks_now old.conn replies reply conn (h.shut shut))) (λ p. inr (inr p)) k) (h.closed l)) why) (over e);
  closed = h.closed;
  sent = λ e full. sent e;
  kept = λ going e. sent e;
  wants = wants h.wants;
}

-- what a Shut marks of a connection: a keeper shut it early, or its Gone was put before
pub record IsMarking (marks : Marks → Marks) (inc : Incoming) (last : Bool) : Type 0 where
  pub lanes : (m : Marks) → (marks m).lanes ≡ m.lanes
  pub home : (m : Marks) → (marks m).home ≡ m.home
  pub over : (m : Marks) → (marks m).over ≡ m.over
  pub shut : (m : Marks) → (marks m).shut ≡ true → (m.shut ≡ true) ⊎ (last ≡ false)
  pub keeps : (m : Marks) → m.shut ≡ true → (marks m).shut ≡ true
  pub by : (m : Marks) → ((marks m).shut ≡ true) ⊎ (has_left inc.stage ≡ true)

-- a Shut was taken
pub stands_shut : (n : ℕ) (phase : Phase) (old : Link) (inc : Incoming) (marks : Marks → Marks) (s : LinkState) (past : ℕ → List Body) (replies : List Reply) (reply : Reply) → reply.conn ≡ old.conn → reply.body ≡ said.Shut
    → ((read : List ℕ) (put : ℕ → List Body) (m : Marks) → Receives old.incoming read put m → Receives inc read put (marks m)) → IsMarking marks inc reply.last → IncomingKeeps old.incoming inc
    → LinkStands n phase old s past replies → LinkStands n phase (record old { incoming = inc; shut = true }) s past (replies ++ reply ∷ [])
stands_shut n phase old inc marks s past replies reply conn body way marking keeps h = record {
  marks = marks h.marks;
  home = home_on n old.conn h.marks (marks h.marks) (marking.lanes h.marks) (marking.home h.marks) h.home;
  inward = way s.input past h.marks h.inward;
  outward = subst (Sends old.outgoing s.output) (sym (answers_shut old.conn replies reply conn body)) h.outward;
  small = h.small;
  live = h.live;
  owed = h.owed;
  paid = h.paid;
  broken = h.broken;
  may_end = λ e. h.may_end (sym (marking.over h.marks) ∙ e);
  own_cause = λ e dead early. ⊎_elim (λ a. inl a) (λ k. inr (⊎_elim (λ b. inl b) (λ r. inr (⊎_elim (λ m. inl (marking.keeps h.marks m)) (λ p. inr p) r)) k)) (h.own_cause (sym (marking.over h.marks) ∙ e) dead early);
  shut_by = λ e. marking.by h.marks;
  told = λ e. ⊎_elim (λ was. early_more old.conn replies (reply ∷ []) (h.told was)) (λ last. early_last old.conn replies reply conn body last) (marking.shut h.marks e);
  shut = λ e. shut_last old.conn replies reply conn body;
  silent = h.silent;
  over = λ e. ⊎_elim (λ t. inl (talks_more old.conn replies (reply ∷ []) t)) (λ l. inr l) (h.over e);
  closed = λ e. ⊎_elim (λ f. inl f) (λ k. inr (⊎_elim (λ was. inl refl) (λ p. inr p) k)) (h.closed e);
  sent = h.sent;
  kept = h.kept;
  wants = λ e. keeps.told (h.wants e);
}

-- a Shut that changes nothing
pub stands_ignored : (n : ℕ) (phase : Phase) (old : Link) (s : LinkState) (past : ℕ → List Body) (replies : List Reply) (reply : Reply) → reply.conn ≡ old.conn → reply.body ≡ said.Shut
    → LinkStands n phase old s past replies → LinkStands n phase old s past (replies ++ reply ∷ [])
stands_ignored n phase old s past replies reply conn body h = record {
  marks = h.marks;
  home = h.home;
  inward = h.inward;
  outward = subst (Sends old.outgoing s.output) (sym (answers_shut old.conn replies reply conn body)) h.outward;
  small = h.small;
  live = h.live;
  owed = h.owed;
  paid = h.paid;
  broken = h.broken;
  may_end = h.may_end;
  own_cause = h.own_cause;
  shut_by = h.shut_by;
  told = λ e. early_more old.conn replies (reply ∷ []) (h.told e);
  shut = λ e. shut_more old.conn replies (reply ∷ []) (h.shut e);
  silent = h.silent;
  over = λ e. ⊎_elim (λ t. inl (talks_more old.conn replies (reply ∷ []) t)) (λ l. inr l) (h.over e);
  closed = h.closed;
  sent = h.sent;
  kept = h.kept;
  wants = h.wants;
}

pub takes_said : (old : Link) (inc : Incoming) (out : Outgoing) (port : PortState) (reply : Reply) (m : ServerMessage) → reply.conn ≡ old.conn → reply.body ≡ said.Say m → inc.route.lanes ≡ old.incoming.route.lanes → SameWay old.incoming inc
    → ((output answers : List ℕ) → Sends old.outgoing output answers → Sends out output (answers ++ frame_of (server_bytes m)))
    → (out.sending ≡ sendings.Failed → old.outgoing.sending ≡ sendings.Failed) → (out.sending ≡ sendings.Over → (old.outgoing.sending ≡ sendings.Over) ⊎ ((old.shut ≡ true) ⊎ (old.live ≡ false))) → (old.live ≡ false → out.unsent ≡ []) → ((old.outgoing.sending ≡ sendings.OutOfMemory → ReportsNoMemory old.incoming) → out.sending ≡ sendings.OutOfMemory → ReportsNoMemory inc) → (has_left old.incoming.stage ≡ true → has_left inc.stage ≡ true)
    → Takes reply old (record old { incoming = inc; outgoing = out }) port port
takes_said old inc out port reply m conn body lanes way speaks silent over sent wants left = record {
  number = refl;
  conn = refl;
  lanes = lanes;
  alone = alone_here old.number port;
  open_before = λ e. e;
  owed = refl;
  goes = λ n phase past replies told h. stands_said n phase old inc out (port.link old.number) past replies reply m conn body way (speaks (port.link old.number).output (answers old.conn replies)) silent over sent wants left h;
}

pub takes_shut : (old : Link) (inc : Incoming) (marks : Marks → Marks) (port : PortState) (reply : Reply) → reply.conn ≡ old.conn → reply.body ≡ said.Shut → inc.route.lanes ≡ old.incoming.route.lanes
    → ((read : List ℕ) (put : ℕ → List Body) (m : Marks) → Receives old.incoming read put m → Receives inc read put (marks m)) → IsMarking marks inc reply.last → IncomingKeeps old.incoming inc
    → Takes reply old (record old { incoming = inc; shut = true }) port port
takes_shut old inc marks port reply conn body lanes way marking keeps = record {
  number = refl;
  conn = refl;
  lanes = lanes;
  alone = alone_here old.number port;
  open_before = λ e. e;
  owed = refl;
  goes = λ n phase past replies told h. stands_shut n phase old inc marks (port.link old.number) past replies reply conn body way marking keeps h;
}

pub takes_ignored : (old : Link) (port : PortState) (reply : Reply) → reply.conn ≡ old.conn → reply.body ≡ said.Shut → Takes reply old old port port
takes_ignored old port reply conn body = record {
  number = refl;
  conn = refl;
  lanes = refl;
  alone = alone_here old.number port;
  open_before = λ e. e;
  owed = refl;
  goes = λ n phase past replies told h. stands_ignored n phase old (port.link old.number) past replies reply conn body h;
}

pub takes_closes : (old mid new : Link) (s t : PortState) (reply : Reply) → mid.number ≡ old.number → Takes reply old mid s s → Closes mid new s t → Takes reply old new s t
takes_closes old mid new s t reply number takes closes = record {
  number = closes.number ∙ takes.number;
  conn = closes.conn ∙ takes.conn;
  lanes = closes.lanes ∙ takes.lanes;
  alone = subst (λ (n : ℕ). Alone n s t) number closes.alone;
  open_before = subst (λ (n : ℕ). (t.link n).is_open ≡ true → (s.link n).is_open ≡ true) number closes.open_before;
  owed = subst (λ (n : ℕ). (t.link n).owed ≡ (s.link n).owed) number closes.owed;
  goes = λ n phase past replies told h.
      subst (λ (j : ℕ). LinkStands n phase new (t.link j) past (replies ++ reply ∷ [])) number
      (closes.goes n phase past (replies ++ reply ∷ []) told (subst (λ (j : ℕ). LinkStands n phase mid (s.link j) past (replies ++ reply ∷ [])) (sym number) (takes.goes n phase past replies told h)));
}

pub closes_same : (old : Link) (s : PortState) → Closes old old s s
closes_same old s = record { number = refl; conn = refl; lanes = refl; alone = alone_here old.number s; open_before = λ e. e; owed = refl; goes = λ n phase past replies told h. h }

pub closes_now : (old : Link) (s t : PortState) → old.shut ≡ true → old.outgoing.unsent ≡ [] → Changes old.number (closed (is_over s) (s.link old.number)) s t → Closes old (record old { live = false }) s t
closes_now old s t shut empty change =
    let is : t.link old.number ≡ closed (is_over s) (s.link old.number) = change.this in
    record {
      number = refl;
      conn = refl;
      lanes = refl;
      alone = alone_change old.number (closed (is_over s) (s.link old.number)) s t refl change;
      open_before = λ e. let no : (t.link old.number).is_open ≡ false = ap (λ (x : LinkState). x.is_open) is in absurd cc;
      owed = ap (λ (x : LinkState). x.owed) is;
      goes = λ n phase past replies told h. stands_wrote n phase old old.outgoing false (s.link old.number) (t.link old.number) past replies (ap (λ (x : LinkState). x.input) is) (ap (λ (x : LinkState). x.ended) is) (ap (λ (x : LinkState). x.owed) is)
          (ap (λ (x : LinkState). x.failed) is) (ap (λ (x : LinkState). x.is_open) is) (λ a speaks. subst (λ (x : LinkState). Sends old.outgoing x.output a) (sym is) speaks) (λ e. e) (λ e. inl e) (λ e. e) (λ e. refl) (λ e. inr (inl shut)) (λ e full. empty) (λ going e. empty) (λ e early. inr (going_or phase s told (sym (ap (λ (x : LinkState). x.late) is) ∙ early))) h;
    }

-- the worker was stopped: a link is closed, and nothing more is sent to it
pub stopped_open : (old : Link) (out : Outgoing) (s t : PortState) (jobs : ℕ → List Job) → Changes old.number (closed (is_over s) (s.link old.number)) s t → ((output answers : List ℕ) → Sends old.outgoing output answers → Sends out output answers)
    → (out.sending ≡ sendings.Failed → old.outgoing.sending ≡ sendings.Failed) → (out.sending ≡ sendings.OutOfMemory → old.outgoing.sending ≡ sendings.OutOfMemory) → out.unsent ≡ [] → LinkStep Stopped old (record old { outgoing = out; live = false }) s t jobs jobs
stopped_open old out s t jobs change speaks silent out_of_memory empty =
    let is : t.link old.number ≡ closed (is_over s) (s.link old.number) = change.this in
    link_quiet Stopped old (record old { outgoing = out; live = false }) s t jobs refl refl (alone_change old.number (closed (is_over s) (s.link old.number)) s t refl change)
    (λ n past replies told h. stands_wrote n Stopped old out false (s.link old.number) (t.link old.number) past replies (ap (λ (x : LinkState). x.input) is) (ap (λ (x : LinkState). x.ended) is) (ap (λ (x : LinkState). x.owed) is)
    (ap (λ (x : LinkState). x.failed) is) (ap (λ (x : LinkState). x.is_open) is) (λ a h. subst (λ (x : LinkState). Sends out x.output a) (sym is) (speaks (s.link old.number).output a h)) silent (λ e. inr refl) out_of_memory (λ e. refl) (λ e. inr (inr refl)) (λ e full. empty) (λ going e. empty) (λ e early. inr (inr refl)) h)

pub stopped_closed : (old : Link) (out : Outgoing) (s : PortState) (jobs : ℕ → List Job) → old.live ≡ false → ((output answers : List ℕ) → Sends old.outgoing output answers → Sends out output answers)
    → (out.sending ≡ sendings.Failed → old.outgoing.sending ≡ sendings.Failed) → (out.sending ≡ sendings.OutOfMemory → old.outgoing.sending ≡ sendings.OutOfMemory) → out.unsent ≡ [] → LinkStep Stopped old (record old { outgoing = out }) s s jobs jobs
stopped_closed old out s jobs dead speaks silent out_of_memory empty =
    link_quiet Stopped old (record old { outgoing = out }) s s jobs refl refl (alone_here old.number s)
    (λ n past replies told h. stands_wrote n Stopped old out old.live (s.link old.number) (s.link old.number) past replies refl refl refl refl h.live (λ a k. speaks (s.link old.number).output a k) silent (λ e. inr refl) out_of_memory (λ e. e) (λ e. inr (inr refl)) (λ e full. empty) (λ going e. empty) (λ e early. inl (dead, early)) h)
