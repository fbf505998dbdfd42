-- What an exit is of the machine's steps: as the table says, or with a fault at its event line or in its log.
use Rattle.std.proofs.Common.{◌≡◌, ◌+◌, ◌*◌, ℕ, List, [], ◌∷◌, length, refl, sym, ◌∙◌, ap, subst, inl, inr, Option, Some, None}
use Rattle.std.specs.Prelude.{◌||◌, not, Bool, true, false, if◌then◌else◌}
use Rattle.std.proofs.lemmas.List.Elements.{Contains-push}
use Rattle.lsv_base.specs.declared.time.TimeSpec.{TimeSpec}
use Rattle.lsv_disk.specs.declared.file.Owner.{Owner}
use Rattle.lsv_disk.specs.declared.file.Owner.TheVariants as owners
use Rattle.lsv_info.specs.Layout.{exit_text}
use Rattle.lsv_info.specs.declared.times.Exit.{Exit}
use Rattle.lsv_record.specs.Points.{Stored}
use Rattle.lsv_record.specs.Records.{elapsed}
use Rattle.lsv_request.specs.declared.refusal.Refusal.TheVariants as refusals
use Rattle.lsv_request.specs.declared.request.Request.TheVariants as request
use Rattle.lsv_session.specs.declared.connection.ConnState.{ConnState}
use Rattle.lsv_session.specs.declared.connection.ConnState.TheVariants.{Fresh, Greeted, Alerted, Running, Dead}
use Rattle.lsv_session.specs.declared.job.Body.{Body}
use Rattle.lsv_session.specs.declared.job.Body.TheVariants as body
use Rattle.lsv_session.specs.declared.job.Job.{Job}
use Rattle.lsv_machine.specs.Answers.{Answer, CommitPoint, Shut, is_refused, refusal, say}
use Rattle.lsv_machine.specs.Failures.{Act, AsksFor, Breaks, HasSet, IsRefused, LeavesLog, Step, WantsMemory, exit_in}
use Rattle.lsv_machine.specs.Machine.{LogState, LogState.There, Machine, Settings, is_dead, leaves, log_of, with_log}
use Rattle.lsv_machine.specs.Work.{Done, adds_line, before_line, ends, exited, finished, fits_file, line_fits, lined, next_number, plain, refused, sets_exit, with_exit}
use Rattle.lsv_keeper.specs.Value.{KeeperView, event_line, settings_of}
use Rattle.lsv_keeper.proofs.Leaving.{act_of, may_draw}
use Rattle.lsv_keeper.proofs.Recording.{plain_asked}

-- ---- An exit that is let through

-- an exit, by what it tells where all goes well, the machine then but for its connection, and the machine where its event line is refused
pub record Exits (v : KeeperView) (now : TimeSpec) (job : Job) (exit : Exit) (said : List Answer) (whole left m : Machine) : Type 0 where
  pub alive : is_dead (m.states job.conn) ≡ false
  pub owned : (n : ℕ) → log_of (m.states job.conn) ≡ Some n → m.owner n ≡ Some job.conn
  pub asks : AsksFor (m.states job.conn) job.body (request.Exit exit)
  pub does : (i : ℕ) → exited job.conn (log_of (m.states job.conn)) (exit_text exit) m ≡ ends job.conn said whole
  pub soft : is_refused said ≡ false
  pub before : (i : ℕ) → before_line (m.states job.conn) (request.Exit exit) i m ≡ left
  pub set_is : HasSet (log_of (m.states job.conn)) (exit_text exit) m left
  -- neither has other event lines
  pub lines : (whole.lines ≡ m.lines) × (left.lines ≡ m.lines)
  pub fresh : (whole.fresh ≡ m.fresh) × (left.fresh ≡ m.fresh)

-- its line names the log that the connection has
abbrev pub line_of_exit : KeeperView → TimeSpec → Job → Exit → Machine → List ℕ
line_of_exit v now job exit m = event_line v.kind now job.conn (request.Exit exit) (log_of (m.states job.conn))

-- its act, with this line
abbrev pub lined_act : Job → TimeSpec → List Answer → List ℕ → Act
lined_act job now answers line = record { job = job; answers = answers; failed = []; in_cut = false; line = line; now = now }

module _ (v : KeeperView) (now : TimeSpec) (job : Job) (exit : Exit) (said : List Answer) (whole left m : Machine) (x : Exits v now job exit said whole left m) where
  plain_is : (i : ℕ) → plain (settings_of v) now job i m ≡ lined (settings_of v) now job.conn (m.states job.conn) (request.Exit exit) i m (ends job.conn said whole)
  plain_is i = plain_asked (settings_of v) now job (request.Exit exit) i m x.alive x.asks ∙ ap (λ (d : Done). lined (settings_of v) now job.conn (m.states job.conn) (request.Exit exit) i m d) (x.does i)

  quiet_is : (i : ℕ) → v.log_exit ≡ false → plain (settings_of v) now job i m ≡ ends job.conn said whole
  quiet_is i none = plain_is i ∙ rw none refl

  lined_is : (i : ℕ) → v.log_exit ≡ true → line_fits (line_of_exit v now job exit m) m ≡ true
      → plain (settings_of v) now job i m ≡ record { answers = said; line = line_of_exit v now job exit m; machine = adds_line job.conn (line_of_exit v now job exit m) (leaves job.conn Dead whole) }
  lined_is i has fits = plain_is i ∙ rw (has, x.soft, fits) refl

  full_is : (i : ℕ) → v.log_exit ≡ true → line_fits (line_of_exit v now job exit m) m ≡ false → plain (settings_of v) now job i m ≡ refused job.conn refusals.LogFull left
  full_is i has full = plain_is i ∙ rw (has, x.soft, full) (ap (refused job.conn refusals.LogFull) (x.before i))

  pub step_quiet : v.log_exit ≡ false → Step (settings_of v) m (act_of job now said []) (leaves job.conn Dead whole)
  step_quiet none = inl (record {
    number = next_number (settings_of v) m + 0 * v.lanes;
    drawn = may_draw (settings_of v) m;
    answers = ap (λ (d : Done). d.answers) (sym (quiet_is (next_number (settings_of v) m + 0 * v.lanes) none));
    line = ap (λ (d : Done). d.line) (sym (quiet_is (next_number (settings_of v) m + 0 * v.lanes) none));
    sound = refl;
    unmarked = refl;
    now = ap (λ (d : Done). d.machine) (sym (quiet_is (next_number (settings_of v) m + 0 * v.lanes) none));
  })

  pub step_lined : v.log_exit ≡ true → line_fits (line_of_exit v now job exit m) m ≡ true
      → Step (settings_of v) m (lined_act job now said (line_of_exit v now job exit m)) (adds_line job.conn (line_of_exit v now job exit m) (leaves job.conn Dead whole))
  step_lined has fits = inl (record {
    number = next_number (settings_of v) m + 0 * v.lanes;
    drawn = may_draw (settings_of v) m;
    answers = ap (λ (d : Done). d.answers) (sym (lined_is (next_number (settings_of v) m + 0 * v.lanes) has fits));
    line = ap (λ (d : Done). d.line) (sym (lined_is (next_number (settings_of v) m + 0 * v.lanes) has fits));
    sound = refl;
    unmarked = refl;
    now = ap (λ (d : Done). d.machine) (sym (lined_is (next_number (settings_of v) m + 0 * v.lanes) has fits));
  })

  pub step_full : (answers : List Answer) → answers ≡ refusal job.conn refusals.LogFull → v.log_exit ≡ true → line_fits (line_of_exit v now job exit m) m ≡ false
      → Step (settings_of v) m (act_of job now answers []) (leaves job.conn Dead left)
  step_full answers e has full = inl (record {
    number = next_number (settings_of v) m + 0 * v.lanes;
    drawn = may_draw (settings_of v) m;
    answers = e ∙ ap (λ (d : Done). d.answers) (sym (full_is (next_number (settings_of v) m + 0 * v.lanes) has full));
    line = ap (λ (d : Done). d.line) (sym (full_is (next_number (settings_of v) m + 0 * v.lanes) has full));
    sound = refl;
    unmarked = refl;
    now = ap (λ (d : Done). d.machine) (sym (full_is (next_number (settings_of v) m + 0 * v.lanes) has full));
  })

set_leaves : (failed : List Owner) (o : Option ℕ) (text : List ℕ) (m left : Machine) → HasSet o text m left → LeavesLog failed o (Some text) m left
set_leaves failed None text m left now = now
set_leaves failed (Some n) text m left (log, is, now) = (log, inr is, now)

-- memory ran out, and the log is left so
pub step_wants : (set : Settings) (now : TimeSpec) (job : Job) (exit : Exit) (answers : List Answer) (failed : List Owner) (m left : Machine) → is_dead (m.states job.conn) ≡ false
    → AsksFor (m.states job.conn) job.body (request.Exit exit) → WantsMemory job.conn answers → LeavesLog failed (log_of (m.states job.conn)) (Some (exit_text exit)) m left
    → Step set m (act_of job now answers failed) (leaves job.conn Dead left)
step_wants set now job exit answers failed m left alive asks wants leaving = inr (record { alive = alive; no_line = refl; how = inl (refl, breaks job.body asks) })
  where
    breaks : (b : Body) → AsksFor (m.states job.conn) b (request.Exit exit) → Breaks set m (act_of job now answers failed) b (leaves job.conn Dead left)
    breaks (body.Msg message) e = record {
      left = left;
      why = inl (wants, inl (subst (λ (o : Option (List ℕ)). LeavesLog failed (log_of (m.states job.conn)) o m left) (ap exit_in (sym e)) leaving));
      now = refl;
    }
    breaks (body.Bad fault) e = absurd e
    breaks body.Gone e = absurd e

-- memory ran out at its event line
pub step_line_wants : (v : KeeperView) (now : TimeSpec) (job : Job) (exit : Exit) (said answers : List Answer) (whole left m : Machine) → Exits v now job exit said whole left m → WantsMemory job.conn answers
    → Step (settings_of v) m (act_of job now answers []) (leaves job.conn Dead left)
step_line_wants v now job exit said answers whole left m x wants =
    step_wants (settings_of v) now job exit answers [] m left x.alive x.asks wants (set_leaves [] (log_of (m.states job.conn)) (exit_text exit) m left x.set_is)

-- the event log failed at its line
pub step_line_lost : (v : KeeperView) (now : TimeSpec) (job : Job) (exit : Exit) (said answers : List Answer) (whole left m : Machine) → Exits v now job exit said whole left m → v.log_exit ≡ true
    → IsRefused job.conn answers → Step (settings_of v) m (act_of job now answers (owners.Events v.lane ∷ [])) (leaves job.conn Dead left)
step_line_lost v now job exit said answers whole left m x has refused_is = inr (record { alive = x.alive; no_line = refl; how = inl (refl, breaks job.body x.asks) })
  where
    breaks : (b : Body) → AsksFor (m.states job.conn) b (request.Exit exit) → Breaks (settings_of v) m (act_of job now answers (owners.Events v.lane ∷ [])) b (leaves job.conn Dead left)
    breaks (body.Msg message) e = record {
      left = left;
      why = inr (refused_is, record { request = request.Exit exit; asks = e; owner = owners.Events v.lane; did = Contains-push [] (owners.Events v.lane); leaves = (refl, has, x.set_is) });
      now = refl;
    }
    breaks (body.Bad fault) e = absurd e
    breaks body.Gone e = absurd e

-- its log failed
pub step_log_failed : (v : KeeperView) (now : TimeSpec) (job : Job) (exit : Exit) (n : ℕ) (answers : List Answer) (left m : Machine) → is_dead (m.states job.conn) ≡ false
    → AsksFor (m.states job.conn) job.body (request.Exit exit) → log_of (m.states job.conn) ≡ Some n → LeavesLog (owners.Log n ∷ []) (Some n) (Some (exit_text exit)) m left
    → IsRefused job.conn answers → Step (settings_of v) m (act_of job now answers (owners.Log n ∷ [])) (leaves job.conn Dead left)
step_log_failed v now job exit n answers left m alive asks own leaving refused_is = inr (record { alive = alive; no_line = refl; how = inl (refl, breaks job.body asks) })
  where
    breaks : (b : Body) → AsksFor (m.states job.conn) b (request.Exit exit) → Breaks (settings_of v) m (act_of job now answers (owners.Log n ∷ [])) b (leaves job.conn Dead left)
    breaks (body.Msg message) e = record {
      left = left;
      why = inr (refused_is, record { request = request.Exit exit; asks = e; owner = owners.Log n; did = Contains-push [] (owners.Log n); leaves = (own, leaving) });
      now = refl;
    }
    breaks (body.Bad fault) e = absurd e
    breaks body.Gone e = absurd e

-- ---- The two kinds of exits

running_of : (s : ConnState) (n : ℕ) → log_of s ≡ Some n → s ≡ Running (Some n)
running_of Fresh n e = absurd (cc)
running_of Greeted n e = absurd (cc)
running_of Alerted n e = absurd (cc)
running_of (Running log) n e = ap Running e
running_of Dead n e = absurd (cc)

no_log_before : (s : ConnState) (exit : Exit) (i : ℕ) (m : Machine) → log_of s ≡ None → before_line s (request.Exit exit) i m ≡ m
no_log_before Fresh exit i m e = refl
no_log_before Greeted exit i m e = refl
no_log_before Alerted exit i m e = refl
no_log_before (Running None) exit i m e = refl
no_log_before (Running (Some n)) exit i m e = absurd (cc)
no_log_before Dead exit i m e = refl

-- a session without a log
pub exits_none : (v : KeeperView) (now : TimeSpec) (job : Job) (exit : Exit) (m : Machine) → is_dead (m.states job.conn) ≡ false → AsksFor (m.states job.conn) job.body (request.Exit exit)
    → log_of (m.states job.conn) ≡ None → Exits v now job exit (say job.conn Shut ∷ []) m m m
exits_none v now job exit m alive asks none = record {
  alive = alive;
  owned = λ n own. absurd (let x : None ≡ Some n = sym none ∙ own in cc);
  asks = asks;
  does = λ i. ap (λ (o : Option ℕ). exited job.conn o (exit_text exit) m) none;
  soft = refl;
  before = λ i. no_log_before (m.states job.conn) exit i m none;
  set_is = subst (λ (o : Option ℕ). HasSet o (exit_text exit) m m) (sym none) refl;
  lines = (refl, refl);
  fresh = (refl, refl);
}

-- a log whose exit fits
pub exits_log : (v : KeeperView) (now : TimeSpec) (job : Job) (exit : Exit) (n promised : ℕ) (stored : Stored) (m : Machine) → is_dead (m.states job.conn) ≡ false → AsksFor (m.states job.conn) job.body (request.Exit exit)
    → log_of (m.states job.conn) ≡ Some n → ((i : ℕ) → log_of (m.states job.conn) ≡ Some i → m.owner i ≡ Some job.conn) → m.logs n ≡ There stored promised → fits_file (exit_text exit) ≡ true
    → Exits v now job exit (say job.conn (CommitPoint (elapsed stored.records)) ∷ say job.conn Shut ∷ []) (with_log n (There (with_exit (exit_text exit) stored) (length stored.records)) m)
    (with_log n (There (with_exit (exit_text exit) stored) promised) m) m
exits_log v now job exit n promised stored m alive asks own owned there fits = record {
  alive = alive;
  owned = owned;
  asks = asks;
  does = λ i. ap (λ (o : Option ℕ). exited job.conn o (exit_text exit) m) own ∙ ap (λ (x : LogState). finished job.conn n (exit_text exit) x m) there ∙ rw fits refl;
  soft = refl;
  before = λ i. ap (λ (s : ConnState). before_line s (request.Exit exit) i m) (running_of (m.states job.conn) n own) ∙ ap (λ (x : LogState). sets_exit n (exit_text exit) x m) there;
  set_is = subst (λ (o : Option ℕ). HasSet o (exit_text exit) m (with_log n (There (with_exit (exit_text exit) stored) promised) m)) (sym own)
      (There (with_exit (exit_text exit) stored) promised, record { fits = fits; stored = stored; promised = promised; was = there; now = refl }, refl);
  lines = (refl, refl);
  fresh = (refl, refl);
}

-- an exit that doesn't fit its file
pub plain_too_long : (v : KeeperView) (now : TimeSpec) (job : Job) (exit : Exit) (n i promised : ℕ) (stored : Stored) (m : Machine) → is_dead (m.states job.conn) ≡ false
    → AsksFor (m.states job.conn) job.body (request.Exit exit) → log_of (m.states job.conn) ≡ Some n → m.logs n ≡ There stored promised → fits_file (exit_text exit) ≡ false
    → plain (settings_of v) now job i m ≡ refused job.conn refusals.LogFull m
plain_too_long v now job exit n i promised stored m alive asks own there full =
    let too_long : finished job.conn n (exit_text exit) (There stored promised) m ≡ refused job.conn refusals.LogFull m = rw full refl in
    let does : exited job.conn (log_of (m.states job.conn)) (exit_text exit) m ≡ refused job.conn refusals.LogFull m =
    ap (λ (o : Option ℕ). exited job.conn o (exit_text exit) m) own ∙ ap (λ (x : LogState). finished job.conn n (exit_text exit) x m) there ∙ too_long in
    plain_asked (settings_of v) now job (request.Exit exit) i m alive asks
    ∙ ap (λ (d : Done). lined (settings_of v) now job.conn (m.states job.conn) (request.Exit exit) i m d) does ∙ refused_anyway (not v.log_exit)
  where
    refused_anyway : (b : Bool) → (if b || true then refused job.conn refusals.LogFull m
        else if line_fits (event_line v.kind now job.conn (request.Exit exit) (log_of (m.states job.conn))) m
        then record {
          answers = refusal job.conn refusals.LogFull;
          line = event_line v.kind now job.conn (request.Exit exit) (log_of (m.states job.conn));
          machine = adds_line job.conn (event_line v.kind now job.conn (request.Exit exit) (log_of (m.states job.conn))) (leaves job.conn Dead m);
        }
        else refused job.conn refusals.LogFull (before_line (m.states job.conn) (request.Exit exit) i m)) ≡ refused job.conn refusals.LogFull m
    refused_anyway true = refl
    refused_anyway false = refl
