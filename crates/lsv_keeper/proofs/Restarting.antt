-- A restart as a step of the machine, and what a history says of its log then.
use Rattle.std.proofs.Common.{◌≡◌, ◌≢◌, ◌⊎◌, ◌≤◌, ◌+◌, ◌*◌, ℕ, List, [], ◌∷◌, length, take, Option, Some, None, refl, sym, ◌∙◌, ap, subst, inl, inr, arith}
use Rattle.std.specs.Prelude.{◌==◌, ◌&&◌, min, Bool, true, false, if◌then◌else◌, is_some, unwrap_or, Contains, Ok, Err}
use Rattle.std.proofs.lemmas.Grind.{common_steps}
use Rattle.lsv_base.specs.declared.time.TimeSpec.{TimeSpec}
use Rattle.lsv_disk.specs.declared.file.Owner.{Owner}
use Rattle.lsv_disk.specs.declared.file.Owner.TheVariants as owners
use Rattle.lsv_iolog.specs.Later.{cut_log}
use Rattle.lsv_msg.specs.declared.messages.ClientMessage.{ClientMessage}
use Rattle.lsv_msg.specs.declared.messages.ClientMessage.TheVariants as client
use Rattle.lsv_record.specs.Points.{Stored, cut, first, kept}
use Rattle.lsv_record.specs.declared.records.Record.{Record}
use Rattle.lsv_request.specs.Requests.{request_of}
use Rattle.lsv_request.specs.declared.refusal.Refusal.{Refusal}
use Rattle.lsv_request.specs.declared.refusal.Refusal.TheVariants as refusals
use Rattle.lsv_request.specs.declared.request.Request.{Request}
use Rattle.lsv_request.specs.declared.request.Request.TheVariants as request
use Rattle.lsv_request.specs.declared.request.Restart.{Restart}
use Rattle.lsv_session.specs.declared.connection.ConnId.{ConnId}
use Rattle.lsv_session.specs.declared.connection.ConnState.{ConnState}
use Rattle.lsv_session.specs.declared.connection.ConnState.TheVariants.{Fresh, Greeted, Alerted, Running, Dead}
use Rattle.lsv_session.specs.declared.job.Body.{Body}
use Rattle.lsv_session.specs.declared.job.Body.TheVariants as body
use Rattle.lsv_session.specs.declared.job.Job.{Job}
use Rattle.lsv_machine.specs.Answers.{Answer, is_silent, refusal}
use Rattle.lsv_machine.specs.Durable.{ExitIs, GoodFor, GoodLog, IsPrefix, Keeps}
use Rattle.lsv_machine.specs.Failures.{Act, AsksFor, Breaks, BrokenOff, FailsInCut, IsRefused, MayDraw, Step, WantsMemory}
use Rattle.lsv_machine.specs.History.{Ledger, becomes, heard_all, is_look, lowered_to, noted, request_in, restarted_by, resumed_by, settles, tells_log}
use Rattle.lsv_machine.specs.Judgement.{allows, judged}
use Rattle.lsv_machine.specs.Machine.{LogState, LogState.Absent, LogState.Damaged, LogState.There, Machine, Settings, is_dead, leaves, log_of, with_log, with_owner, with_state}
use Rattle.lsv_machine.specs.Turns.{Happened.Did}
use Rattle.lsv_machine.specs.Work.{Done, can_cut, cut_to, next_number, plain, refused, restarted, restarted_at, resumed, silently}
use Rattle.lsv_machine.proofs.Choices.{EqOr.equal, EqOr.unequal, eq_or}
use Rattle.lsv_machine.proofs.JobFits.{Last, Last.by_refusal, Last.by_shut}
use Rattle.lsv_machine.proofs.JudgedLemmas.{judged_ok}
use Rattle.lsv_machine.proofs.RecordLemmas.{cut_alike, prefix_all, prefix_trans, take_prefix}
use Rattle.lsv_machine.proofs.Weaken.{Weaker, lower_same}

-- ---- What is asked

dead_allows : (m : ClientMessage) → allows m Dead ≡ false
dead_allows (client.Hello m) = refl
dead_allows (client.Accept m) = refl
dead_allows (client.Reject m) = refl
dead_allows (client.Alert m) = refl
dead_allows (client.Restart m) = refl
dead_allows (client.Ttyin m) = refl
dead_allows (client.Ttyout m) = refl
dead_allows (client.Stdin m) = refl
dead_allows (client.Stdout m) = refl
dead_allows (client.Stderr m) = refl
dead_allows (client.Winsize m) = refl
dead_allows (client.Suspend m) = refl
dead_allows (client.Exit m) = refl

dead_err : (m : ClientMessage) (what : Request) → judged Dead m ≡ Ok what → ⊥
dead_err m what e = let t = dead_allows m in let x : judged Dead m ≡ Err refusals.UnexpectedMessage = rw t refl in let y : Err refusals.UnexpectedMessage ≡ Ok what = sym x ∙ e in cc

living_of : (s : ConnState) (m : ClientMessage) (what : Request) → judged s m ≡ Ok what → is_dead s ≡ false
living_of Fresh m what e = refl
living_of Greeted m what e = refl
living_of Alerted m what e = refl
living_of (Running log) m what e = refl
living_of Dead m what e = absurd (dead_err m what e)

-- a job that asks for a restart: its connection lives, and writes no log
pub record AsksRestart (m : Machine) (job : Job) (restart : Restart) : Type 0 where
  pub message : ClientMessage
  pub body_is : job.body ≡ body.Msg message
  pub judged_so : judged (m.states job.conn) message ≡ Ok (request.Restart restart)
  pub request_is : request_in job.body ≡ Ok (request.Restart restart)
  pub living : is_dead (m.states job.conn) ≡ false
  pub idle : log_of (m.states job.conn) ≡ None

pub asks_now : (m : Machine) (job : Job) (restart : Restart) → AsksRestart m job restart → AsksFor (m.states job.conn) job.body (request.Restart restart)
asks_now m job restart a = subst (λ (b : Body). AsksFor (m.states job.conn) b (request.Restart restart)) (sym a.body_is) a.judged_so

pub asks_restart : (m : Machine) (job : Job) (restart : Restart) → AsksFor (m.states job.conn) job.body (request.Restart restart) → AsksRestart m job restart
asks_restart m job restart asks = go job.body refl asks
  where
    go : (b : Body) → job.body ≡ b → AsksFor (m.states job.conn) b (request.Restart restart) → AsksRestart m job restart
    go (body.Msg message) e so =
        let (is, suit) = judged_ok (m.states job.conn) message (request.Restart restart) so in
        record { message = message; body_is = e; judged_so = so; request_is = ap request_in e ∙ is; living = living_of (m.states job.conn) message (request.Restart restart) so; idle = suit }
    go (body.Bad fault) e so = absurd so
    go body.Gone e so = absurd so

-- ---- What the table makes of it

module _ (set : Settings) (now : TimeSpec) (m : Machine) (job : Job) (restart : Restart) (a : AsksRestart m job restart) where
  pub plain_is : (i : ℕ) → plain set now job i m ≡ restarted job.conn restart.log restart.point m
  plain_is i = let living = a.living in let e = a.body_is in let so = a.judged_so in rw (living, e, so) refl

  next_drawn : MayDraw set m (next_number set m)
  next_drawn = record { passed = 0; few = omega arith; next = (let e : next_number set m ≡ next_number set m + 0 * set.lanes = omega arith in e) }

  abbrev pub restart_act : List Answer → List Owner → Bool → Act
  restart_act answers failed in_cut = record { job = job; answers = answers; failed = failed; in_cut = in_cut; line = []; now = now }

  -- it is refused
  pub plainly_refused : (why : Refusal) → restarted job.conn restart.log restart.point m ≡ refused job.conn why m → Step set m (restart_act (refusal job.conn why) [] false) (leaves job.conn Dead m)
  plainly_refused why is =
      let p : plain set now job (next_number set m) m ≡ refused job.conn why m = plain_is (next_number set m) ∙ is in
      inl (record {
        number = next_number set m;
        drawn = next_drawn;
        answers = ap (λ (d : Done). d.answers) (sym p);
        line = ap (λ (d : Done). d.line) (sym p);
        sound = refl;
        unmarked = refl;
        now = ap (λ (d : Done). d.machine) (sym p);
      })

  -- it is gone on with
  pub plainly_resumed : (after : Machine) → restarted job.conn restart.log restart.point m ≡ silently after → Step set m (restart_act [] [] false) after
  plainly_resumed after is =
      let p : plain set now job (next_number set m) m ≡ silently after = plain_is (next_number set m) ∙ is in
      inl (record {
        number = next_number set m;
        drawn = next_drawn;
        answers = ap (λ (d : Done). d.answers) (sym p);
        line = ap (λ (d : Done). d.line) (sym p);
        sound = refl;
        unmarked = refl;
        now = ap (λ (d : Done). d.machine) (sym p);
      })

  breaks_by : (act : Act) (new : Machine) → BrokenOff set m act (judged (m.states act.job.conn) a.message) new → Breaks set m act (body.Msg a.message) new
  breaks_by act new t = t

  -- memory ran out
  pub breaks_off : (answers : List Answer) → WantsMemory job.conn answers → Step set m (restart_act answers [] false) (leaves job.conn Dead m)
  breaks_off answers wants =
      let act = restart_act answers [] false in
      let idle = a.idle in
      let t : BrokenOff set m act (judged (m.states job.conn) a.message) (leaves job.conn Dead m) = record { left = m; why = inl (wants, inl (rw idle refl)); now = refl } in
      inr (record { alive = a.living; no_line = refl; how = inl (refl, subst (λ (b : Body). Breaks set m act b (leaves job.conn Dead m)) (sym a.body_is) t) })

  contains_one : (o : Owner) → Contains (o ∷ []) o
  contains_one o = (0, omega arith, refl)

  -- its log failed, and nobody writes it
  pub meets_fault : (answers : List Answer) → m.owner restart.log ≡ None → IsRefused job.conn answers → Step set m (restart_act answers (owners.Log restart.log ∷ []) false) (leaves job.conn Dead m)
  meets_fault answers free refused_so =
      let act = restart_act answers (owners.Log restart.log ∷ []) false in
      let t : BrokenOff set m act (judged (m.states job.conn) a.message) (leaves job.conn Dead m) = record {
        left = m;
        why = inr (refused_so, record { request = request.Restart restart; asks = a.judged_so; owner = owners.Log restart.log; did = contains_one (owners.Log restart.log); leaves = (refl, free, refl) });
        now = refl;
      } in
      inr (record { alive = a.living; no_line = refl; how = inl (refl, subst (λ (b : Body). Breaks set m act b (leaves job.conn Dead m)) (sym a.body_is) t) })

  -- it failed inside its cut
  pub fails_cut : (answers : List Answer) (log : LogState) → m.owner restart.log ≡ None → FailsInCut restart.point (m.logs restart.log) log → IsRefused job.conn answers
      → Step set m (restart_act answers (owners.Log restart.log ∷ []) true) (leaves job.conn Dead (with_log restart.log log m))
  fails_cut answers log free fails refused_so =
      let asks : AsksFor (m.states job.conn) job.body (request.Restart restart) = subst (λ (b : Body). AsksFor (m.states job.conn) b (request.Restart restart)) (sym a.body_is) a.judged_so in
      inr (record {
        alive = a.living;
        no_line = refl;
        how = inr (inr (refl, record { restart = restart; asks = asks; free = free; did = contains_one (owners.Log restart.log); log = log; fails = fails; answers = refused_so; now = refl }));
      })

-- ---- The cases of the table

pub at_owned : (k j : ConnId) (n point : ℕ) (m : Machine) → m.owner n ≡ Some j → restarted k n point m ≡ refused k refusals.LogInUse m
at_owned k j n point m own = rw own refl

pub at_free : (k : ConnId) (n point : ℕ) (m : Machine) → m.owner n ≡ None → restarted k n point m ≡ restarted_at k n point (m.logs n) m
at_free k n point m free = rw free refl

pub at_absent : (k : ConnId) (n point : ℕ) (m : Machine) → m.owner n ≡ None → m.logs n ≡ Absent → restarted k n point m ≡ refused k refusals.NoSuchLog m
at_absent k n point m free at = at_free k n point m free ∙ ap (λ (x : LogState). restarted_at k n point x m) at

pub at_damaged : (k : ConnId) (n point : ℕ) (m : Machine) → m.owner n ≡ None → m.logs n ≡ Damaged → restarted k n point m ≡ refused k refusals.LogDamaged m
at_damaged k n point m free at = at_free k n point m free ∙ ap (λ (x : LogState). restarted_at k n point x m) at

some_is : {A : Type 0} (o : Option A) → o ≢ None → is_some o ≡ true
some_is None ne = absurd (ne refl)
some_is (Some x) ne = refl

pub at_complete : (k : ConnId) (n point : ℕ) (m : Machine) (stored : Stored) (promised : ℕ) → m.owner n ≡ None → m.logs n ≡ There stored promised → stored.exit ≢ None → restarted k n point m ≡ refused k refusals.LogComplete m
at_complete k n point m stored promised free at done =
    let d : is_some stored.exit ≡ true = some_is stored.exit done in
    at_free k n point m free ∙ (ap (λ (x : LogState). restarted_at k n point x m) at ∙ rw d refl)

at_going : (k : ConnId) (n point : ℕ) (m : Machine) (stored : Stored) (promised : ℕ) → m.owner n ≡ None → m.logs n ≡ There stored promised → stored.exit ≡ None
    → restarted k n point m ≡ resumed k n stored (first stored.records point) m
at_going k n point m stored promised free at going =
    let d : is_some stored.exit ≡ false = ap is_some going in
    at_free k n point m free ∙ (ap (λ (x : LogState). restarted_at k n point x m) at ∙ rw d refl)

pub at_no_point : (k : ConnId) (n point : ℕ) (m : Machine) (stored : Stored) (promised : ℕ) → m.owner n ≡ None → m.logs n ≡ There stored promised → stored.exit ≡ None → first stored.records point ≡ None
    → restarted k n point m ≡ refused k refusals.NoSuchResumePoint m
at_no_point k n point m stored promised free at going none = at_going k n point m stored promised free at going ∙ ap (λ (o : Option ℕ). resumed k n stored o m) none

pub at_full : (k : ConnId) (n point x : ℕ) (m : Machine) (stored : Stored) (promised : ℕ) → m.owner n ≡ None → m.logs n ≡ There stored promised → stored.exit ≡ None → first stored.records point ≡ Some x
    → can_cut x stored ≡ false → restarted k n point m ≡ refused k refusals.LogFull m
at_full k n point x m stored promised free at going some cannot =
    at_going k n point m stored promised free at going ∙ (ap (λ (o : Option ℕ). resumed k n stored o m) some ∙ rw cannot refl)

-- the machine where the connection goes on with the log
abbrev pub resumes_at : ConnId → ℕ → ℕ → Stored → Machine → Machine
resumes_at k n x stored m = with_state k (Running (Some n)) (with_owner n (Some k) (with_log n (There (cut_to x stored) x) m))

pub at_point : (k : ConnId) (n point x : ℕ) (m : Machine) (stored : Stored) (promised : ℕ) → m.owner n ≡ None → m.logs n ≡ There stored promised → stored.exit ≡ None → first stored.records point ≡ Some x
    → can_cut x stored ≡ true → restarted k n point m ≡ silently (resumes_at k n x stored m)
at_point k n point x m stored promised free at going some can =
    at_going k n point m stored promised free at going ∙ (ap (λ (o : Option ℕ). resumed k n stored o m) some ∙ rw can refl)

-- ---- What the history says then

gone_not : (m : Machine) (job : Job) (restart : Restart) → AsksRestart m job restart → (n : ℕ) (l : Ledger) (act : Act) → act.job ≡ job
    → noted n l (Did act) ≡ heard_all false act.answers (if restart.log == n then restarted_by job.conn restart.point act.answers act.in_cut l else l)
gone_not m job restart a n l act is =
    let e : act.job.body ≡ body.Msg a.message = ap (λ (j : Job). j.body) is ∙ a.body_is in
    let c : act.job.conn ≡ job.conn = ap (λ (j : Job). j.conn) is in
    let r : request_of a.message ≡ Ok (request.Restart restart) = sym (ap request_in a.body_is) ∙ a.request_is in
    rw (e, c, r) refl

last_weaker : (k : ConnId) (answers : List Answer) (l : Ledger) → Last k answers → Weaker l (heard_all false answers l)
last_weaker k answers l (by_refusal why e) = rw e (record { head = refl; sent = refl; shown = refl; exit = refl; finished = refl; lower = lower_same l.promised })
last_weaker k answers l (by_shut e) = rw e (record { head = refl; sent = refl; shown = refl; exit = refl; finished = refl; lower = lower_same l.promised })

last_loud : (k : ConnId) (answers : List Answer) → Last k answers → is_silent answers ≡ false
last_loud k answers (by_refusal why e) = ap is_silent e
last_loud k answers (by_shut e) = ap is_silent e

if_alike : {A : Type 0} (b : Bool) (x : A) → (if b then x else x) ≡ x
if_alike true x = refl
if_alike false x = refl

-- a restart that ends its connection, and isn't marked
pub refused_weaker : (m : Machine) (job : Job) (restart : Restart) → AsksRestart m job restart → (n : ℕ) (l : Ledger) (act : Act) → act.job ≡ job → act.in_cut ≡ false → Last job.conn act.answers → Weaker l (noted n l (Did act))
refused_weaker m job restart a n l act is unmarked last =
    let loud = last_loud job.conn act.answers last in
    let same : (if restart.log == n then restarted_by job.conn restart.point act.answers act.in_cut l else l) ≡ l = rw (loud, unmarked) (if_alike (restart.log == n) l) in
    subst (λ (x : Ledger). Weaker l x) (sym (gone_not m job restart a n l act is ∙ ap (heard_all false act.answers) same)) (last_weaker job.conn act.answers l last)

-- one that is marked, of its log
pub marked_weaker : (m : Machine) (job : Job) (restart : Restart) → AsksRestart m job restart → (l : Ledger) (act : Act) → act.job ≡ job → act.in_cut ≡ true → Last job.conn act.answers
    → Weaker (record l { promised = lowered_to l.promised l.shown restart.point }) (noted restart.log l (Did act))
marked_weaker m job restart a l act is marked last =
    let loud = last_loud job.conn act.answers last in
    let lowered = record l { promised = lowered_to l.promised l.shown restart.point } in
    let same : (if restart.log == restart.log then restarted_by job.conn restart.point act.answers act.in_cut l else l) ≡ lowered = elim (eq_or restart.log restart.log) [ equal p t ↦ rw (t, loud, marked) refl | unequal p t ↦ absurd (p refl) ] in
    subst (λ (x : Ledger). Weaker lowered x) (sym (gone_not m job restart a restart.log l act is ∙ ap (heard_all false act.answers) same)) (last_weaker job.conn act.answers lowered last)

-- one that is accepted, of its log
pub silent_noted : (m : Machine) (job : Job) (restart : Restart) → AsksRestart m job restart → (l : Ledger) (act : Act) → act.job ≡ job → act.answers ≡ [] → l.shut job.conn ≡ false
    → noted restart.log l (Did act) ≡ resumed_by job.conn restart.point l
silent_noted m job restart a l act is silent open_yet =
    gone_not m job restart a restart.log l act is ∙
    (elim (eq_or restart.log restart.log) [ equal p t ↦ rw (t, silent, open_yet) refl | unequal p t ↦ absurd (p refl) ])

-- whether it settles a log
pub settles_refused : (m : Machine) (job : Job) (restart : Restart) → AsksRestart m job restart → (n : ℕ) (l : Ledger) (act : Act) → act.job ≡ job → Last job.conn act.answers → is_look act.answers ≡ false → settles n l (Did act) ≡ false
settles_refused m job restart a n l act is last no_look =
    let loud = last_loud job.conn act.answers last in
    let e : request_in act.job.body ≡ Ok (request.Restart restart) = ap (λ (j : Job). request_in j.body) is ∙ a.request_is in
    let untold : tells_log n act.answers ≡ false = tells_none last in
    rw (untold, e, loud, no_look) (and_false (restart.log == n))
  where
    and_false : (b : Bool) → b && false ≡ false
    and_false true = refl
    and_false false = refl

    tells_none : Last job.conn act.answers → tells_log n act.answers ≡ false
    tells_none (by_refusal why q) = ap (tells_log n) q
    tells_none (by_shut q) = ap (tells_log n) q

-- ---- What is good then

-- a log with a record that ends at the point was told of, and holds what was promised
pub record Outcome (l : Ledger) (stored : Stored) : Type 0 where
  pub told : ℕ
  pub promised : l.promised ≡ Some told
  pub keeps : Keeps l told stored

pub outcome_of : (l : Ledger) (stored : Stored) (point x : ℕ) → first stored.records point ≡ Some x → GoodLog l (Some stored) → Outcome l stored
outcome_of l stored point x some good = go l.promised refl good
  where
    go : (o : Option ℕ) → l.promised ≡ o → GoodFor l o (Some stored) → Outcome l stored
    go None e g = absurd (let b : first [] point ≡ Some x = subst (λ (rs : List Record). first rs point ≡ Some x) g.0 some in cc)
    go (Some q) e g = record { told = q; promised = e; keeps = g }

pub cut_is : (stored : Stored) (point x : ℕ) → first stored.records point ≡ Some x → cut_log stored point ≡ cut_to x stored
cut_is stored point x some = rw some refl

exit_none : (l l' : Ledger) (rs ss : List Record) (o p : Option (List ℕ)) → l'.finished ≡ l.finished → o ≡ None → p ≡ None → ExitIs l rs o → ExitIs l' ss p
exit_none l l' rs ss None None same e f h = same ∙ h
exit_none l l' rs ss None (Some t) same e f h = absurd (cc)
exit_none l l' rs ss (Some t) p same e f h = absurd (cc)

-- cut, for a history in which the restart was accepted
pub cut_good : (l : Ledger) (k : ConnId) (stored : Stored) (point x : ℕ) → first stored.records point ≡ Some x → stored.exit ≡ None → GoodLog l (Some stored) → GoodLog (resumed_by k point l) (Some (cut_to x stored))
cut_good l k stored point x some going good =
    let t = outcome_of l stored point x some good in
    let c = cut_alike stored.records l.shown point x t.keeps.prefix some in
    let within = c.within in
    let said : (resumed_by k point l).promised ≡ Some x = ap (λ (o : Option ℕ). becomes o (kept l.shown point)) t.promised ∙ ap Some c.kept_is in
    subst (λ (o : Option ℕ). GoodFor (resumed_by k point l) o (Some (cut_to x stored))) (sym said) (record {
      head = t.keeps.head;
      prefix = prefix_all (take x stored.records) (cut l.shown point) (sym c.cut_is);
      enough = grind (arith, common_steps);
      exit = exit_none l (resumed_by k point l) stored.records (take x stored.records) stored.exit stored.exit refl going going t.keeps.exit;
    })

-- this many first records of it, for a history in which the restart is marked
pub marked_good : (l : Ledger) (stored part : Stored) (point x left : ℕ) → first stored.records point ≡ Some x → stored.exit ≡ None → GoodLog l (Some stored)
    → part.head ≡ stored.head → part.records ≡ take left stored.records → part.exit ≡ None → (left ≡ x) ⊎ (left ≡ length stored.records)
    → GoodLog (record l { promised = lowered_to l.promised l.shown point }) (Some part)
marked_good l stored part point x left some going good head records exit either =
    let t = outcome_of l stored point x some good in
    let c = cut_alike stored.records l.shown point x t.keeps.prefix some in
    let within = c.within in
    let enough = t.keeps.enough in
    let lowered = record l { promised = lowered_to l.promised l.shown point } in
    let said : lowered.promised ≡ Some (min t.told x) = ap (λ (o : Option ℕ). lowered_to o l.shown point) t.promised ∙ ap (λ (o : Option ℕ). Some (min t.told (unwrap_or o t.told))) c.first_is in
    subst (λ (o : Option ℕ). GoodFor lowered o (Some part)) (sym said) (record {
      head = head ∙ t.keeps.head;
      prefix = subst (λ (rs : List Record). IsPrefix rs l.shown) (sym records) (prefix_trans (take left stored.records) stored.records l.shown (take_prefix left stored.records) t.keeps.prefix);
      enough = subst (λ (rs : List Record). min t.told x ≤ length rs) (sym records) (long_enough t.told enough within either);
      exit = exit_none l lowered stored.records part.records stored.exit part.exit refl going exit t.keeps.exit;
    })
  where
    long_enough : (told : ℕ) → told ≤ length stored.records → x ≤ length stored.records → (left ≡ x) ⊎ (left ≡ length stored.records) → min told x ≤ length (take left stored.records)
    long_enough told a b (inl e) = grind (arith, common_steps)
    long_enough told a b (inr e) = grind (arith, common_steps)
