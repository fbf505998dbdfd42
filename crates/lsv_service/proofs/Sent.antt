-- What a connection sends, as the turns of a lane tell it and as those of the machine do; and what it is told.
use Rattle.std.proofs.Common.{◌≡◌, ℕ, List, [], ◌∷◌, ◌++◌, map, refl, sym, ◌∙◌, ap, subst}
use Rattle.std.specs.Prelude.{◌&&◌, ◌||◌, not, Bool, true, false, if◌then◌else◌}
use Rattle.std.specs.List.{flat_map, list_any}
use Rattle.std.proofs.lemmas.List.{map-append}
use Rattle.lsv_msg.specs.declared.messages.ServerMessage.{ServerMessage}
use Rattle.lsv_record.specs.Records.{elapsed}
use Rattle.lsv_record.specs.declared.records.Record.{Record}
use Rattle.lsv_session.specs.Transcript.{AreFirst, AreJobs, AreJobs.Message, AreJobs.NoMessage, AreJobs.Rest, AreJobs.TooLong, bodies_of, messages_in, said_to}
use Rattle.lsv_session.specs.declared.connection.ConnId.{ConnId}
use Rattle.lsv_session.specs.declared.job.Body.{Body}
use Rattle.lsv_session.specs.declared.job.Body.TheVariants as body
use Rattle.lsv_session.specs.declared.job.Job.{Job}
use Rattle.lsv_session.specs.declared.reply.Reply.{Reply}
use Rattle.lsv_session.proofs.Replies.{bodies_of-append}
use Rattle.lsv_machine.specs.Answers.{Answer, Saying, Saying.CommitPoint, Saying.LogId, Saying.Shut, body_of, reply_of, say}
use Rattle.lsv_machine.specs.Failures.{Act}
use Rattle.lsv_machine.specs.History.{is_gone, request_in}
use Rattle.lsv_machine.specs.Legal.{all_answers, is_committed, points, record_in, records_in, told_of}
use Rattle.lsv_machine.specs.Recovery.{Turn, all_turns}
use Rattle.lsv_machine.specs.Silence.{EndsWithGone, NoJobs}
use Rattle.lsv_machine.specs.Turns.{Happened, Happened.Begins, Happened.Did, Happened.Tailed, Tail, turn_of}
use Rattle.lsv_machine.proofs.Choices.{SameOr.alike, SameOr.apart, same_or, same_refl}
use Rattle.lsv_progress.specs.Among as among
use Rattle.lsv_progress.specs.Among.{answers_to, came_of, sent_in}
use Rattle.lsv_turn.specs.Turns as lane_turns
use Rattle.lsv_turn.specs.Turns.{LaneTurn, jobs_in, replies_in}
use Rattle.lsv_lane.specs.Store.{AreTurns}
use Rattle.lsv_service.specs.Complete.{came_by, messages_of}

-- ---- Without the Gone

-- all of these but a Gone
abbrev pub spoken : List Body → List Body
spoken [] = []
spoken (b ∷ bodies) = if is_gone b then spoken bodies else b ∷ spoken bodies

-- no Gone is among these
abbrev pub NoGone : List Body → Type 0
NoGone [] = Unit {0}
NoGone (b ∷ bodies) = (is_gone b ≡ false) × NoGone bodies

spoken_append : (xs ys : List Body) → spoken (xs ++ ys) ≡ spoken xs ++ spoken ys
spoken_append [] ys = refl
spoken_append (x ∷ xs) ys = go (is_gone x) (spoken_append xs ys)
  where
    go : (b : Bool) → spoken (xs ++ ys) ≡ spoken xs ++ spoken ys → (if b then spoken (xs ++ ys) else x ∷ spoken (xs ++ ys)) ≡ (if b then spoken xs else x ∷ spoken xs) ++ spoken ys
    go true e = e
    go false e = ap (λ (bs : List Body). x ∷ bs) e

spoken_same : (bodies : List Body) → NoGone bodies → spoken bodies ≡ bodies
spoken_same [] none = refl
spoken_same (b ∷ bodies) none =
    ap (λ (c : Bool). if c then spoken bodies else b ∷ spoken bodies) none.0 ∙ ap (λ (bs : List Body). b ∷ bs) (spoken_same bodies none.1)

pub spoken_all : (bodies : List Body) → NoGone bodies → spoken (bodies ++ body.Gone ∷ []) ≡ bodies
spoken_all bodies none = spoken_append bodies (body.Gone ∷ []) ∙ (ap (λ (bs : List Body). bs ++ []) (spoken_same bodies none) ∙ append_none bodies)
  where
    append_none : (bs : List Body) → bs ++ [] ≡ bs
    append_none [] = refl
    append_none (b ∷ bs) = ap (λ (cs : List Body). b ∷ cs) (append_none bs)

-- bytes give no Gone
pub jobs_no_gone : {bytes : List ℕ} {jobs : List Body} → AreJobs bytes jobs → NoGone jobs
jobs_no_gone (Rest bytes partial) = tt
jobs_no_gone (Message bytes message rest read later front is jobs) = (refl, jobs_no_gone jobs)
jobs_no_gone (NoMessage bytes message rest fault front is) = (refl, tt)
jobs_no_gone (TooLong bytes stated long) = (refl, tt)

pub first_no_gone : (first all : List Body) → AreFirst first all → NoGone all → NoGone first
first_no_gone first all (later, is) none = go first (subst NoGone is none)
  where
    go : (bs : List Body) → NoGone (bs ++ later) → NoGone bs
    go [] n = tt
    go (b ∷ bs) n = (n.0, go bs n.1)

module _ (k : ConnId) where
  sent_is : (acts : List Act) → sent_in k acts ≡ spoken (bodies_of k (map (λ act. act.job) acts))
  sent_is [] = refl
  sent_is (act ∷ acts) = elim (same_or act.job.conn k) [
    | alike p t ↦ rw t (go (is_gone act.job.body) (sent_is acts))
    | apart p t ↦ rw t (sent_is acts)
  ]
    where
      go : (b : Bool) → sent_in k acts ≡ spoken (bodies_of k (map (λ x. x.job) acts))
          → (if true && not b then act.job.body ∷ sent_in k acts else sent_in k acts) ≡ (if b then spoken (bodies_of k (map (λ x. x.job) acts)) else act.job.body ∷ spoken (bodies_of k (map (λ x. x.job) acts)))
      go true e = e
      go false e = ap (λ (bs : List Body). act.job.body ∷ bs) e

  -- what the machine's turns say that it sends is what those of the lane say, but for its Gone
  pub turns_sent : (lane : List LaneTurn) (turns : List Turn) → AreTurns lane turns → among.bodies_of k turns ≡ spoken (bodies_of k (jobs_in lane))
  turns_sent [] [] are = refl
  turns_sent [] (turn ∷ turns) are = absurd are
  turns_sent (t ∷ lane) [] are = absurd are
  turns_sent (t ∷ lane) (turn ∷ turns) (is, are) =
      ap (λ (bs : List Body). bs ++ among.bodies_of k turns) (sent_is turn.acts ∙ ap (λ (js : List Job). spoken (bodies_of k js)) is.jobs)
      ∙ (ap (λ (bs : List Body). spoken (bodies_of k t.jobs) ++ bs) (turns_sent lane turns are)
      ∙ (sym (spoken_append (bodies_of k t.jobs) (bodies_of k (jobs_in lane))) ∙ ap spoken (sym (bodies_of-append k t.jobs (jobs_in lane)))))

  -- ---- Its Gone is the last

  abbrev brought : List Happened → List Job
  brought [] = []
  brought (Did act ∷ h) = act.job ∷ brought h
  brought (Tailed tail ∷ h) = brought h
  brought (Begins texts ∷ h) = brought h

  turn_brought : (acts : List Act) (tail : Tail) (h : List Happened) → brought (turn_of acts tail ++ h) ≡ map (λ act. act.job) acts ++ brought h
  turn_brought [] tail h = refl
  turn_brought (act ∷ acts) tail h = ap (λ (l : List Job). act.job ∷ l) (turn_brought acts tail h)

  all_brought : (lane : List LaneTurn) (turns : List Turn) → AreTurns lane turns → jobs_in lane ≡ brought (all_turns turns)
  all_brought [] [] are = refl
  all_brought [] (turn ∷ turns) are = absurd are
  all_brought (t ∷ lane) [] are = absurd are
  all_brought (t ∷ lane) (turn ∷ turns) (is, are) =
      ap (λ (l : List Job). l ++ jobs_in lane) (sym is.jobs) ∙ (ap (λ (l : List Job). map (λ act. act.job) turn.acts ++ l) (all_brought lane turns are) ∙ sym (turn_brought turn.acts turn.tail (all_turns turns)))

  no_jobs : (h : List Happened) → bodies_of k (brought h) ≡ [] → NoJobs k h
  no_jobs [] e = tt
  no_jobs (Did act ∷ h) e = elim (same_or act.job.conn k) [
    | alike p t ↦ absurd (let x : act.job.body ∷ bodies_of k (brought h) ≡ [] = rw t at e in cc)
    | apart p t ↦ (p, no_jobs h (rw t at e))
  ]
  no_jobs (Tailed tail ∷ h) e = no_jobs h e
  no_jobs (Begins texts ∷ h) e = no_jobs h e

  -- what brings no job has none
  pub none_brought : (lane : List LaneTurn) (turns : List Turn) → AreTurns lane turns → bodies_of k (jobs_in lane) ≡ [] → NoJobs k (all_turns turns)
  none_brought lane turns are none = no_jobs (all_turns turns) (ap (bodies_of k) (sym (all_brought lane turns are)) ∙ none)

  ends_so : (h : List Happened) → lane_turns.EndsWithGone (bodies_of k (brought h)) → EndsWithGone k h
  ends_so [] e = tt
  ends_so (Did act ∷ h) e = elim (same_or act.job.conn k) [
    | alike p t ↦ let x : lane_turns.EndsWithGone (act.job.body ∷ bodies_of k (brought h)) = rw t at e in ((λ q gone. no_jobs h (x.0 gone)), ends_so h x.1)
    | apart p t ↦ ((λ q gone. absurd (p q)), ends_so h (rw t at e))
  ]
  ends_so (Tailed tail ∷ h) e = ends_so h e
  ends_so (Begins texts ∷ h) e = ends_so h e

  gone_last : (bodies : List Body) → NoGone bodies → lane_turns.EndsWithGone (bodies ++ body.Gone ∷ [])
  gone_last [] none = ((λ e. refl), tt)
  gone_last (b ∷ bodies) none = ((λ e. absurd (let f : true ≡ false = sym (ap is_gone e) ∙ none.0 in cc)), gone_last bodies none.1)

  pub ends_with_gone : (lane : List LaneTurn) (turns : List Turn) (bodies : List Body) → AreTurns lane turns → NoGone bodies → bodies_of k (jobs_in lane) ≡ bodies ++ body.Gone ∷ [] → EndsWithGone k (all_turns turns)
  ends_with_gone lane turns bodies are none is =
      ends_so (all_turns turns) (subst lane_turns.EndsWithGone (sym (ap (bodies_of k) (sym (all_brought lane turns are)) ∙ is)) (gone_last bodies none))

  -- ---- What it is told

  committed_spoken : (bodies : List Body) → list_any (λ b. is_committed (request_in b)) (spoken bodies) ≡ list_any (λ b. is_committed (request_in b)) bodies
  committed_spoken [] = refl
  committed_spoken (body.Gone ∷ bodies) = committed_spoken bodies
  committed_spoken (body.Msg message ∷ bodies) = ap (λ (b : Bool). is_committed (request_in (body.Msg message)) || b) (committed_spoken bodies)
  committed_spoken (body.Bad fault ∷ bodies) = ap (λ (b : Bool). is_committed (request_in (body.Bad fault)) || b) (committed_spoken bodies)

  records_spoken : (bodies : List Body) → records_in (spoken bodies) ≡ records_in bodies
  records_spoken [] = refl
  records_spoken (body.Gone ∷ bodies) = records_spoken bodies
  records_spoken (body.Msg message ∷ bodies) = ap (λ (rs : List Record). record_in (request_in (body.Msg message)) ++ rs) (records_spoken bodies)
  records_spoken (body.Bad fault ∷ bodies) = ap (λ (rs : List Record). record_in (request_in (body.Bad fault)) ++ rs) (records_spoken bodies)

  abbrev told_in : (before : List Record) → Bool → List Record → (later : List (List Body)) → List ℕ
  told_in before any records later = (if any then elapsed (before ++ records) ∷ [] else []) ++ points (before ++ records) later

  points_same : (before : List Record) (lane : List LaneTurn) (turns : List Turn) → AreTurns lane turns → points before (map (λ c. c.bodies) (came_of k turns)) ≡ points before (came_by k lane)
  points_same before [] [] are = refl
  points_same before [] (turn ∷ turns) are = absurd are
  points_same before (t ∷ lane) [] are = absurd are
  points_same before (t ∷ lane) (turn ∷ turns) (is, are) =
      let sent : sent_in k turn.acts ≡ spoken (bodies_of k t.jobs) = sent_is turn.acts ∙ ap (λ (js : List Job). spoken (bodies_of k js)) is.jobs in
      let any = ap (λ (bs : List Body). list_any (λ b. is_committed (request_in b)) bs) sent ∙ committed_spoken (bodies_of k t.jobs) in
      let records = ap records_in sent ∙ records_spoken (bodies_of k t.jobs) in
      ap (λ (b : Bool). told_in before b (records_in (sent_in k turn.acts)) (map (λ c. c.bodies) (came_of k turns))) any
      ∙ (ap (λ (rs : List Record). told_in before (list_any (λ b. is_committed (request_in b)) (bodies_of k t.jobs)) rs (map (λ c. c.bodies) (came_of k turns))) records
      ∙ ap (λ (ps : List ℕ). (if list_any (λ b. is_committed (request_in b)) (bodies_of k t.jobs) then elapsed (before ++ records_in (bodies_of k t.jobs)) ∷ [] else []) ++ ps) (points_same (before ++ records_in (bodies_of k t.jobs)) lane turns are))

  pub told_same : (n : ℕ) (lane : List LaneTurn) (turns : List Turn) → AreTurns lane turns → told_of n (map (λ c. c.bodies) (came_of k turns)) ≡ told_of n (came_by k lane)
  told_same n lane turns are = ap (λ (ps : List ℕ). LogId n ∷ map (λ point. CommitPoint point) ps) (points_same [] lane turns are)

  pub replies_are : (lane : List LaneTurn) (turns : List Turn) → AreTurns lane turns → replies_in lane ≡ map reply_of (all_answers turns)
  replies_are [] [] are = refl
  replies_are [] (turn ∷ turns) are = absurd are
  replies_are (t ∷ lane) [] are = absurd are
  replies_are (t ∷ lane) (turn ∷ turns) (is, are) =
      ap (λ (rs : List Reply). rs ++ replies_in lane) (sym is.replies)
      ∙ (ap (λ (rs : List Reply). map reply_of (flat_map (λ act. act.answers) turn.acts ++ turn.tail.answers) ++ rs) (replies_are lane turns are)
      ∙ sym (map-append reply_of (flat_map (λ act. act.answers) turn.acts ++ turn.tail.answers) (all_answers turns)))

  -- what is said to it are the messages of the answers to it
  said_own : (answers : List Answer) → said_to k (map reply_of answers) ≡ said_to k (map reply_of (answers_to k answers))
  said_own [] = refl
  said_own (a ∷ answers) = elim (same_or a.conn k) [
    | alike p t ↦ rw (t, t) (ap (λ (ms : List ServerMessage). messages_in (body_of a.says) ++ ms) (said_own answers))
    | apart p t ↦ rw t (said_own answers)
  ]

  said_is : (sayings : List Saying) → said_to k (map reply_of (map (λ says. say k says) sayings ++ say k Shut ∷ [])) ≡ messages_of sayings
  said_is [] = let t = same_refl k in rw t refl
  said_is (says ∷ sayings) = let t = same_refl k in rw t (ap (λ (ms : List ServerMessage). messages_in (body_of says) ++ ms) (said_is sayings))

  pub said_all : (answers : List Answer) (sayings : List Saying) → answers_to k answers ≡ map (λ says. say k says) sayings ++ say k Shut ∷ [] → said_to k (map reply_of answers) ≡ messages_of sayings
  said_all answers sayings is = said_own answers ∙ (ap (λ (told : List Answer). said_to k (map reply_of told)) is ∙ said_is sayings)
