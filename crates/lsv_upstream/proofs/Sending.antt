-- A log that one connection sends is held through the point that its sender awaits.
use Rattle.std.proofs.Common.{◌≡◌, ◌<◌, ◌^◌, ℕ, List, [], ◌∷◌, ◌++◌, take, drop, map, refl, sym, ◌∙◌, ap, subst, inl, inr, Option, Some, None, ◌⊎◌}
use Rattle.std.specs.Prelude.{Bool, true, false, if◌then◌else◌, Ok, Err, All, IsSome, option_map}
use Rattle.std.proofs.lemmas.List.Elements.{All-drop, All-head, All-tail, All-take}
use Rattle.lsv_base.specs.LogNo.{log_no_in}
use Rattle.lsv_base.specs.Time.{nanos_of, time_of}
use Rattle.lsv_info.specs.declared.times.Exit.{Exit}
use Rattle.lsv_info.specs.declared.times.Head.{Head}
use Rattle.lsv_msg.specs.declared.messages.ClientMessage.{ClientMessage}
use Rattle.lsv_record.specs.Points.{cut, first}
use Rattle.lsv_record.specs.Records.{IsValid, elapsed}
use Rattle.lsv_record.specs.declared.records.Record.{Record}
use Rattle.lsv_request.specs.Requests.{request_of}
use Rattle.lsv_request.specs.Stored.{record_message}
use Rattle.lsv_request.specs.declared.refusal.Refusal.TheVariants as refusals
use Rattle.lsv_request.specs.declared.request.Accept.{Accept}
use Rattle.lsv_request.specs.declared.request.Request.{Request}
use Rattle.lsv_request.specs.declared.request.Request.TheVariants as request
use Rattle.lsv_request.specs.declared.request.Restart.{Restart}
use Rattle.lsv_session.specs.Connections as connections
use Rattle.lsv_session.specs.Transcript.{bodies_of}
use Rattle.lsv_session.specs.declared.connection.ConnId.{ConnId}
use Rattle.lsv_session.specs.declared.job.Body.{Body}
use Rattle.lsv_session.specs.declared.job.Body.TheVariants as body
use Rattle.lsv_transcript.specs.Plan.{Plan, ResumeAt, exit_by, plan_from, reached, sent_after, sent_anew}
use Rattle.lsv_transcript.specs.Transcript as transcript
use Rattle.lsv_transcript.specs.Transcript.{all_of, restart_message}
use Rattle.lsv_machine.specs.Failures.{Act}
use Rattle.lsv_machine.specs.History.{Ledger, blank, ledger, noted, request_in, tells_log, writes}
use Rattle.lsv_machine.specs.Machine.{IsOfLane, Machine, Settings, same}
use Rattle.lsv_machine.specs.Stands.{Sound}
use Rattle.lsv_machine.specs.Turns.{Happened, Happened.Did, Happened.Tailed, Happened.Begins, Run}
use Rattle.lsv_machine.proofs.Choices.{SameOr, SameOr.alike, SameOr.apart, same_or, same_refl, same_true}
use Rattle.lsv_machine.proofs.RunLaws.{ledger_append, starts_sound}
use Rattle.lsv_machine.proofs.Silent.{step_sound, tail_sound}
use Rattle.lsv_machine.proofs.Shown.{ByDelays}
use Rattle.lsv_machine.proofs.StepLooks.{step_seen}
use Rattle.lsv_upstream.specs.Held.{GetsPoint, HoldsThrough, HasPoint, answers_at, up_to}
use Rattle.lsv_upstream.specs.Jobs.{BringsFirst, IsStorable, jobs_of}
use Rattle.lsv_upstream.specs.Playing.{BringsAsked, HasBegun, IsNext, OwnExpected, OwnRun, StillAsks, all_asks_after, asks_after}
use Rattle.lsv_upstream.specs.Runs.{RunsOn, ServerRun, history_at}
use Rattle.lsv_upstream.specs.Sent.{BeginsAlike}
use Rattle.lsv_upstream.proofs.Answering.{told_by}
use Rattle.lsv_upstream.proofs.Asks.{Words, anew_asks, anew_shape, asks_anew, asks_on, body_asks, brings_asked, ends_ask_nothing, no_restart_anew, on_asks, on_shape, played_anew, played_on, restart_on}
use Rattle.lsv_upstream.proofs.Begun.{RestartsIn, run_began}
use Rattle.lsv_upstream.proofs.Lists.{split_first}
use Rattle.lsv_upstream.proofs.Members.{In, append_nothing, append_three, in_append, in_left, in_map}
use Rattle.lsv_upstream.proofs.OwnLaw.{own_acknowledged, own_exit}
use Rattle.lsv_upstream.proofs.Points.{cut_begins_alike, first_alike, holds_of_reached, reached_begins, reached_prefix}
use Rattle.lsv_upstream.proofs.Relaying.{split_run, tells_to}
use Rattle.lsv_upstream.proofs.Tellers.{ledger_run, tellers}
use Rattle.lsv_upstream.proofs.Visits.{below, restart_body}

-- own events, in two parts
split_own : (rs : List Record) (n : ℕ) (ours : ConnId → Bool) (come : ConnId → List Request) (g a b : List Happened) (now : ConnId → List Request) → OwnExpected rs n ours come g (a ++ b) now
    → (mid : ConnId → List Request) × OwnExpected rs n ours come g a mid × OwnExpected rs n ours mid (g ++ a) b now
split_own rs n ours come g [] b now e = (come, refl, subst (λ (x : List Happened). OwnExpected rs n ours come x b now) (sym (append_nothing g)) e)
split_own rs n ours come g (Did act ∷ a) b now (begun, next, more) =
    let (mid, x, y) = split_own rs n ours (all_asks_after act come) (g ++ Did act ∷ []) a b now more in
    (mid, (begun, next, x), subst (λ (z : List Happened). OwnExpected rs n ours mid z b now) (append_three g (Did act ∷ []) a) y)
split_own rs n ours come g (Tailed tail ∷ a) b now more =
    let (mid, x, y) = split_own rs n ours come (g ++ Tailed tail ∷ []) a b now more in
    (mid, x, subst (λ (z : List Happened). OwnExpected rs n ours mid z b now) (append_three g (Tailed tail ∷ []) a) y)
split_own rs n ours come g (Begins texts ∷ a) b now more = absurd more

-- a run doesn't begin again
no_begin : (set : Settings) (past : List Happened) (texts : List (List ℕ)) (h : List Happened) (m end : Machine) → Run set m (past ++ Begins texts ∷ h) end → ⊥
no_begin set past texts h m end runs = let (mid, a, b) = split_run set past (Begins texts ∷ h) m end runs in b

-- a restart among what is still asked was among what was asked before
later_in : (q : Request) (b : Body) (asks : List Request) → In q (asks_after b asks) → In q asks
later_in q (body.Msg m) [] i = i
later_in q (body.Msg m) (x ∷ asks) i = inr i
later_in q (body.Bad f) asks i = absurd i
later_in q body.Gone asks i = absurd i

module _ (n : ℕ) (rs : List Record) (stop : Option ℕ) (skipped : ℕ) (before : List Happened) (r : ServerRun) (k : ConnId) (on : RunsOn r.set.lane r.set.lanes n before r) (alike_ : BeginsAlike n rs skipped before r k) where
  -- the records that are reached
  abbrev mine : List Record
  mine = reached rs stop skipped

  -- a restart that is asked is at a point at which the records that are skipped end
  abbrev pub AtPlace : Restart → Type 0
  AtPlace restart = first rs restart.point ≡ Some skipped

  begun_by : (past later : List Happened) (act : Act) → r.events ≡ past ++ Did act ∷ later → act.job.conn ≡ k → ((restart : Restart) → request_in act.job.body ≡ Ok (request.Restart restart) → AtPlace restart) → HasBegun mine n (ledger (history_at before r past) n) act
  begun_by past later act split own place restart kept asks p there =
      let at = place restart asks in
      let same_start = alike_ past later act restart split own asks p in
      let begins = reached_begins stop skipped rs in
      let kept_is : Some kept ≡ Some skipped = sym there ∙ first_alike mine rs restart.point skipped begins at in
      let is : kept ≡ skipped = cc in
      subst (λ (x : ℕ). cut (ledger (history_at before r past) n).sent restart.point ≡ take x mine) (sym is) (cut_begins_alike (ledger (history_at before r past) n).sent rs mine restart.point skipped same_start begins at)

  own_follow : (past h : List Happened) → r.events ≡ past ++ h → (coming : ConnId → List Request) → BringsAsked (coming k) (bodies_of k (jobs_of h)) → ((restart : Restart) → In (request.Restart restart) (coming k) → AtPlace restart)
      → (now : ConnId → List Request) × OwnExpected mine n (λ j. same j k) coming (history_at before r past) h now
  own_follow past [] split coming lists places = (coming, refl)
  own_follow past (Tailed tail ∷ h) split coming lists places =
      let again = own_follow (past ++ Tailed tail ∷ []) h (split ∙ sym (append_three past (Tailed tail ∷ []) h)) coming lists places in
      (again.0, subst (λ (g : List Happened). OwnExpected mine n (λ j. same j k) coming g h again.0) (sym (append_three before (Begins r.texts ∷ past) (Tailed tail ∷ []))) again.1)
  own_follow past (Begins texts ∷ h) split coming lists places = absurd (no_begin r.set past texts h r.start r.end (subst (λ g. Run r.set r.start g r.end) split on.runs))
  own_follow past (Did act ∷ h) split coming lists places =
      let again = own_follow (past ++ Did act ∷ []) h (split ∙ sym (append_three past (Did act ∷ []) h)) (all_asks_after act coming) rest_lists rest_places in
      (again.0, (begun, next, subst (λ (g : List Happened). OwnExpected mine n (λ j. same j k) (all_asks_after act coming) g h again.0) (sym (append_three before (Begins r.texts ∷ past) (Did act ∷ []))) again.1))
    where
      -- the job's body stands in front, if it is the connection's
      mine_first : act.job.conn ≡ k → BringsAsked (coming k) (act.job.body ∷ bodies_of k (jobs_of h))
      mine_first p = here (same_or act.job.conn k)
        where
          here : SameOr act.job.conn k → BringsAsked (coming k) (act.job.body ∷ bodies_of k (jobs_of h))
          here (alike q t) = let t' : connections.same act.job.conn k ≡ true = t in rw t' at lists
          here (apart q t) = absurd (q p)

      begun : same act.job.conn k ≡ true → HasBegun mine n (ledger (history_at before r past) n) act
      begun o =
          let p = same_true act.job.conn k o in
          begun_by past h act split p (λ restart asks. places restart (body_asks (coming k) (act.job.body ∷ bodies_of k (jobs_of h)) act.job.body (request.Restart restart) (mine_first p) (inl refl) asks))

      next : same act.job.conn k ≡ true → IsNext act.job.body (coming act.job.conn)
      next o =
          let p = same_true act.job.conn k o in
          subst (λ j. IsNext act.job.body (coming j)) (sym p) (split_first (coming k) act.job.body (bodies_of k (jobs_of h)) (mine_first p)).next

      rest_lists : BringsAsked (all_asks_after act coming k) (bodies_of k (jobs_of h))
      rest_lists = elim (same_or k act.job.conn) [
        | alike p t ↦ rw t (subst (λ j. BringsAsked (asks_after act.job.body (coming j)) (bodies_of k (jobs_of h))) p (split_first (coming k) act.job.body (bodies_of k (jobs_of h)) (mine_first (sym p))).rest)
        | apart p t ↦
            let other : connections.same act.job.conn k ≡ false = elim (same_or act.job.conn k) [ alike x u ↦ absurd (p (sym x)) | apart x u ↦ u ] in
            let its : BringsAsked (coming k) (bodies_of k (jobs_of h)) = rw other at lists in
            rw t its
      ]

      rest_places : (restart : Restart) → In (request.Restart restart) (all_asks_after act coming k) → AtPlace restart
      rest_places restart = elim (same_or k act.job.conn) [
        | alike p t ↦ rw t (λ i. places restart (subst (λ j. In (request.Restart restart) (coming j)) (sym p) (later_in (request.Restart restart) act.job.body (coming act.job.conn) i)))
        | apart p t ↦ rw t (λ i. places restart i)
      ]

-- ---- What a sender asks

-- it is to begin a log or to go on with one
abbrev is_opening : Request → Bool
is_opening (request.Accept accept) = true
is_opening (request.Restart restart) = true
is_opening (request.Hello) = false
is_opening (request.Reject report) = false
is_opening (request.Alert report) = false
is_opening (request.Record r) = false
is_opening (request.Exit exit) = false

-- who is told a number has asked to begin a log
teller_asks : (set : Settings) (n : ℕ) (k : ConnId) (h : List Happened) (m end : Machine) → Sound set m → Run set m h end → In k (tellers n h) → (b : Body) × In b (bodies_of k (jobs_of h)) × ((accept : Accept) × (request_in b ≡ Ok (request.Accept accept)))
teller_asks set n k [] m end sound runs i = absurd i
teller_asks set n k (Did act ∷ h) m end sound (mid, step, rest) i = go (teller_asks set n k h mid end (step_sound set m act mid sound step) rest) (tells_log n act.answers) refl i
  where
    first_of : act.job.conn ≡ k → In act.job.body (bodies_of k (jobs_of (Did act ∷ h)))
    first_of p = elim (same_or act.job.conn k) [
      | alike q t ↦ let t' : connections.same act.job.conn k ≡ true = t in rw t' (inl refl)
      | apart q t ↦ absurd (q p)
    ]

    later : (c : Bool) (b : Body) → In b (bodies_of k (jobs_of h)) → In b (if c then act.job.body ∷ bodies_of k (jobs_of h) else bodies_of k (jobs_of h))
    later true b j = inr j
    later false b j = j

    go : (In k (tellers n h) → (b : Body) × In b (bodies_of k (jobs_of h)) × ((accept : Accept) × (request_in b ≡ Ok (request.Accept accept)))) → (c : Bool) → tells_log n act.answers ≡ c → In k (if c then act.job.conn ∷ tellers n h else tellers n h)
        → (b : Body) × In b (bodies_of k (jobs_of (Did act ∷ h))) × ((accept : Accept) × (request_in b ≡ Ok (request.Accept accept)))
    go more true e (inl p) = let t = told_by set n m act mid sound step e in (act.job.body, first_of p, (t.accept, t.asks))
    go more true e (inr j) = let (b, x, a) = more j in (b, later (connections.same act.job.conn k) b x, a)
    go more false e j = let (b, x, a) = more j in (b, later (connections.same act.job.conn k) b x, a)
teller_asks set n k (Tailed tail ∷ h) m end sound (mid, ended, rest) i = teller_asks set n k h mid end (tail_sound set m tail mid sound ended) rest i
teller_asks set n k (Begins texts ∷ h) m end sound runs i = absurd runs

-- a log of no identifier is not gone on with, and none is begun
unnamed_opens_nothing : (words : Words) (id : List ℕ) (point m : ℕ) (rs : List Record) (exit : Option Exit) → log_no_in id ≡ None → All IsValid rs → ((e : Exit) → exit ≡ Some e → IsSome (nanos_of e.run))
    → (bodies : List Body) (b : Body) (q : Request) → BringsFirst (played_on id point m rs exit) bodies → In b bodies → request_in b ≡ Ok q → is_opening q ≡ false
unnamed_opens_nothing words id point m rs exit none valid timed bodies b q f i asks = elim (in_append b (map (λ x. body.Msg x) f.brought) f.ends (subst (In b) f.jobs i)) [
  | inr end ↦ absurd (ends_ask_nothing f.ends b q f.no_messages end asks)
  | inl here ↦
      let (x, j, e) = in_map (λ x. body.Msg x) b f.brought here in
      one x (subst (In x) f.whole (in_left x f.brought f.later j)) (ap request_in e ∙ asks)
]
  where
    restart_refused : (w : Request) → request_of (restart_message id point) ≡ Ok w → ⊥
    restart_refused w e = go (nanos_of (time_of point)) refl
      where
        go : (o : Option ℕ) → nanos_of (time_of point) ≡ o → ⊥
        go None t = let x : request_of (restart_message id point) ≡ Err refusals.BadTime = rw t refl in cc
        go (Some c) t = let x : request_of (restart_message id point) ≡ Err refusals.NoSuchLog = rw (t, none) refl in cc

    rest_records : (ys : List Record) → All IsValid ys → (x : ClientMessage) → In x (map record_message ys) → request_of x ≡ Ok q → is_opening q ≡ false
    rest_records [] all x j e = absurd j
    rest_records (y ∷ ys) all x (inl p) e =
        let a : Ok (request.Record y) ≡ Ok q = sym (words.record_asks y (All-head IsValid y ys all)) ∙ (ap request_of p ∙ e) in
        let c : request.Record y ≡ q = cc in
        sym (ap is_opening c)
    rest_records (y ∷ ys) all x (inr j) e = rest_records ys (All-tail IsValid y ys all) x j e

    exit_one : (o : Option Exit) → exit ≡ o → (x : ClientMessage) → In x (transcript.ending o) → request_of x ≡ Ok q → is_opening q ≡ false
    exit_one None p x j e = absurd j
    exit_one (Some y) p x (inl t) e =
        let a : Ok (request.Exit y) ≡ Ok q = sym (words.exit_asks y (timed y p)) ∙ (ap request_of t ∙ e) in
        let c : request.Exit y ≡ q = cc in
        sym (ap is_opening c)
    exit_one (Some y) p x (inr j) e = absurd j

    one : (x : ClientMessage) → In x (played_on id point m rs exit) → request_of x ≡ Ok q → is_opening q ≡ false
    one x (inl p) e = let a : Ok request.Hello ≡ Ok q = ap request_of p ∙ e in let c : request.Hello ≡ q = cc in sym (ap is_opening c)
    one x (inr (inl p)) e = absurd (restart_refused q (ap request_of p ∙ e))
    one x (inr (inr j)) e = elim (in_append x (map record_message (drop m rs)) (transcript.ending exit) j) [
      | inl r ↦ rest_records (drop m rs) (All-drop IsValid m rs valid) x r e
      | inr l ↦ exit_one exit refl x l e
    ]

-- the bodies of first events are among those of all
bodies_append : (b : Body) (k : ConnId) (g h : List Happened) → In b (bodies_of k (jobs_of g)) → In b (bodies_of k (jobs_of (g ++ h)))
bodies_append b k [] h i = absurd i
bodies_append b k (Did act ∷ g) h i = go (bodies_append b k g h) (connections.same act.job.conn k) i
  where
    go : (In b (bodies_of k (jobs_of g)) → In b (bodies_of k (jobs_of (g ++ h)))) → (c : Bool) → In b (if c then act.job.body ∷ bodies_of k (jobs_of g) else bodies_of k (jobs_of g)) → In b (if c then act.job.body ∷ bodies_of k (jobs_of (g ++ h)) else bodies_of k (jobs_of (g ++ h)))
    go more true (inl e) = inl e
    go more true (inr j) = inr (more j)
    go more false j = more j
bodies_append b k (Tailed tail ∷ g) h i = bodies_append b k g h i
bodies_append b k (Begins texts ∷ g) h i = bodies_append b k g h i

module _ (by : ByDelays) (words : Words) (n : ℕ) (head : Head) (rs : List Record) (exit : Option Exit) (stop : Option ℕ) (before : List Happened) (r : ServerRun) (k : ConnId)
    (stored : IsStorable head rs exit) (of_lane : IsOfLane r.set.lane r.set.lanes n) (on : RunsOn r.set.lane r.set.lanes n before r) where
  -- ---- These records are passed over

  module _ (skipped : ℕ) (alike_ : BeginsAlike n rs skipped before r k) (at : GetsPoint n before r k (elapsed (reached rs stop skipped))) where
    -- the records that are reached, and the exit that is sent
    abbrev pub reaches : List Record
    reaches = reached rs stop skipped

    abbrev pub its_exit : Option Exit
    its_exit = exit_by stop exit

    reached_valid : All IsValid reaches
    reached_valid = let (m, e) = reached_prefix stop skipped rs in subst (All IsValid) (sym e) (All-take IsValid m rs stored.valid)

    exit_timed : (e : Exit) → its_exit ≡ Some e → IsSome (nanos_of e.run)
    exit_timed e q = go stop q
      where
        go : (o : Option ℕ) → exit_by o exit ≡ Some e → IsSome (nanos_of e.run)
        go None x = stored.ended e x
        go (Some time) x = absurd (cc)

    -- what is asked, its shape, and where its restart is
    record Asked : Type 0 where
      asks : List Request
      shape : StillAsks reaches its_exit asks
      lists : BringsAsked asks (bodies_of k (jobs_of r.events))
      places : (restart : Restart) → In (request.Restart restart) asks → first rs restart.point ≡ Some skipped

    -- no log is begun or gone on with
    abbrev AsksNoLog : Type 0
    AsksNoLog = (b : Body) (q : Request) → In b (bodies_of k (jobs_of r.events)) → request_in b ≡ Ok q → is_opening q ≡ false

    from_start : BringsFirst (played_anew head reaches its_exit) (bodies_of k (jobs_of r.events)) → Asked ⊎ AsksNoLog
    from_start brings = inl (record {
      asks = asks_anew head reaches its_exit;
      shape = anew_shape head reaches its_exit;
      lists = brings_asked (played_anew head reaches its_exit) (asks_anew head reaches its_exit) (bodies_of k (jobs_of r.events)) (anew_asks words head reaches its_exit reached_valid stored.begun exit_timed) brings;
      places = λ restart i. absurd (no_restart_anew head reaches its_exit restart i);
    })

    from_place : (place : ResumeAt) → first rs place.point ≡ Some skipped → BringsFirst (played_on place.id place.point skipped reaches its_exit) (bodies_of k (jobs_of r.events)) → Asked ⊎ AsksNoLog
    from_place place e brings = number (log_no_in place.id) refl
      where
        low : place.point < 2 ^ 63
        low = below rs place.point skipped e stored.in_time

        begins : first reaches place.point ≡ Some skipped
        begins = first_alike reaches rs place.point skipped (reached_begins stop skipped rs) e

        number : (y : Option ℕ) → log_no_in place.id ≡ y → Asked ⊎ AsksNoLog
        number (Some log) is = inl (record {
          asks = asks_on log place.point skipped reaches its_exit;
          shape = on_shape log place.point skipped reaches its_exit begins;
          lists = brings_asked (played_on place.id place.point skipped reaches its_exit) (asks_on log place.point skipped reaches its_exit) (bodies_of k (jobs_of r.events)) (on_asks words place.id log place.point skipped reaches its_exit is low reached_valid exit_timed) brings;
          places = λ restart i. let p = (restart_on log place.point skipped reaches its_exit restart i).1 in ap (first rs) p ∙ e;
        })
        number None is = inr (λ b q i asks. unnamed_opens_nothing words place.id place.point skipped reaches its_exit is reached_valid exit_timed (bodies_of k (jobs_of r.events)) b q brings i asks)

    -- who asks for neither writes nothing
    no_writer : AsksNoLog → ⊥
    no_writer none = go (run_began n k at.past (noted n (ledger before n) (Begins r.texts)) (subst (λ l. writes l k ≡ true) (ledger_run n before r at.past) at.writing))
      where
        past_in : (b : Body) → In b (bodies_of k (jobs_of at.past)) → In b (bodies_of k (jobs_of r.events))
        past_in b i = subst (λ h. In b (bodies_of k (jobs_of h))) (sym at.is) (bodies_append b k at.past (at.event ∷ at.later) i)

        go : (writes (noted n (ledger before n) (Begins r.texts)) k ≡ true) ⊎ (In k (tellers n at.past) ⊎ RestartsIn n k at.past) → ⊥
        go (inl x) = cc
        go (inr (inl told)) =
            let (m, ran, rest) = split_run r.set at.past (at.event ∷ at.later) r.start r.end (subst (λ h. Run r.set r.start h r.end) at.is on.runs) in
            let (b, i, (accept, asks)) = teller_asks r.set n k at.past r.start m (starts_sound r.set r.texts r.start on.starts) ran told in
            let x = none b (request.Accept accept) (past_in b i) asks in cc
        go (inr (inr restarts)) =
            let (b, i, (restart, asks, log_is)) = restart_body n k at.past restarts in
            let x = none b (request.Restart restart) (past_in b i) asks in cc

    reached_held : Asked ⊎ AsksNoLog → HoldsThrough rs (elapsed reaches) (ledger (up_to before r at) n)
    reached_held asked = elim asked [
      | inr none ↦ absurd (no_writer none)
      | inl its ↦ holds_of_reached stop skipped rs (ledger (up_to before r at) n) (held its)
    ]
      where
        held : Asked → HoldsThrough reaches (elapsed reaches) (ledger (up_to before r at) n)
        held its = subst (HoldsThrough reaches (elapsed reaches)) (sym one) (go at.event at.brings two.2 rest)
          where
            follow : (now : ConnId → List Request) × OwnExpected reaches n (λ j. same j k) (λ j. its.asks) (history_at before r []) r.events now
            follow = own_follow n rs stop skipped before r k on alike_ [] r.events refl (λ j. its.asks) its.lists its.places

            ran : (mid : Machine) × Run r.set r.start at.past mid × Run r.set mid (at.event ∷ at.later) r.end
            ran = split_run r.set at.past (at.event ∷ at.later) r.start r.end (subst (λ h. Run r.set r.start h r.end) at.is on.runs)

            rest : Run r.set ran.0 (at.event ∷ at.later) r.end
            rest = ran.2

            two : (mid : ConnId → List Request) × OwnExpected reaches n (λ j. same j k) (λ j. its.asks) (history_at before r []) at.past mid × OwnExpected reaches n (λ j. same j k) mid (history_at before r [] ++ at.past) (at.event ∷ at.later) follow.0
            two = split_own reaches n (λ j. same j k) (λ j. its.asks) (history_at before r []) at.past (at.event ∷ at.later) follow.0 (subst (λ h. OwnExpected reaches n (λ j. same j k) (λ j. its.asks) (history_at before r []) h follow.0) at.is follow.1)

            part : OwnRun n reaches its_exit before at.past r.set ran.0 (λ j. same j k) two.0
            part = record { texts = r.texts; start = r.start; coming = λ j. its.asks; of_lane = of_lane; starts = on.starts; good = on.good; shapes = λ j o. its.shape; follows = two.1; runs = ran.1 }

            l : Ledger
            l = ledger (history_at before r at.past) n

            one : ledger (up_to before r at) n ≡ noted n l at.event
            one = ap (λ (x : List Happened). ledger x n) (sym (append_three before (Begins r.texts ∷ at.past) (at.event ∷ []))) ∙ ledger_append n blank (history_at before r at.past) (at.event ∷ [])

            go : (x : Happened) → HasPoint k (elapsed reaches) (answers_at x) → OwnExpected reaches n (λ j. same j k) two.0 (history_at before r [] ++ at.past) (x ∷ at.later) follow.0 → Run r.set ran.0 (x ∷ at.later) r.end → HoldsThrough reaches (elapsed reaches) (noted n l x)
            go (Tailed tail) told own (after, ended, more) = own_acknowledged by n reaches its_exit before at.past r.set ran.0 after (λ j. same j k) two.0 tail k part ended (same_refl k) at.writing told
            go (Did act) told (begun, next, own) (after, step, more) =
                let p = tells_to act.job.conn k (elapsed reaches) act.answers (step_seen r.set ran.0 act after step).to told in
                let o : same act.job.conn k ≡ true = subst (λ j. same act.job.conn j ≡ true) p (same_refl act.job.conn) in
                own_exit by n reaches its_exit before at.past r.set ran.0 after (λ j. same j k) two.0 act (elapsed reaches) o (next o) part step
                (subst (λ j. writes l j ≡ true) (sym p) at.writing) (subst (λ j. HasPoint j (elapsed reaches) act.answers) (sym p) told)
            go (Begins texts) told own runs = absurd told

  -- ---- A plan

  -- what is held by a plan
  abbrev Holds : Plan → Type 0
  Holds plan = BringsFirst (all_of plan.transcript) (bodies_of k (jobs_of r.events)) → BeginsAlike n rs plan.transcript.skipped before r k → (at : GetsPoint n before r k plan.aim) → HoldsThrough rs plan.aim (ledger (up_to before r at) n)

  pub sent_held : (from : Option ResumeAt) (plan : Plan) → plan_from rs head exit from stop ≡ Some plan → Holds plan
  sent_held None plan planned =
      let is : sent_anew rs head exit stop ≡ plan = cc in
      subst Holds is (λ brings alike_ at. reached_held 0 alike_ at (from_start 0 alike_ at brings))
  sent_held (Some place) plan planned = there (first rs place.point) refl planned
    where
      there : (x : Option ℕ) → first rs place.point ≡ x → option_map (sent_after rs exit stop place) x ≡ Some plan → Holds plan
      there None e planned = absurd (cc)
      there (Some m) e planned =
          let is : sent_after rs exit stop place m ≡ plan = cc in
          subst Holds is (λ brings alike_ at. reached_held m alike_ at (from_place m alike_ at place e brings))
