-- Jobs with an event line: what they give.
use Rattle.std.proofs.Common.{◌≡◌, ◌+◌, ◌*◌, ℕ, List, [], ◌∷◌, refl, sym, ◌∙◌, ap, subst, inl, inr, Option, Some, None, ◌⊎◌}
use Rattle.std.specs.Prelude.{◌||◌, Bool, true, false, if◌then◌else◌, Result, Ok}
use Rattle.lsv_base.specs.declared.time.TimeSpec.{TimeSpec}
use Rattle.lsv_disk.specs.Throughout.{Jointly}
use Rattle.lsv_disk.specs.View.{DiskView, IsCrashImage}
use Rattle.lsv_disk.specs.declared.file.Owner.{Owner}
use Rattle.lsv_disk.specs.declared.file.Owner.TheVariants as owners
use Rattle.lsv_request.specs.declared.refusal.Refusal.{Refusal}
use Rattle.lsv_request.specs.declared.refusal.Refusal.TheVariants.{LogFull}
use Rattle.lsv_request.specs.declared.request.Request.{Request}
use Rattle.lsv_session.specs.declared.connection.ConnId.{ConnId}
use Rattle.lsv_session.specs.declared.connection.ConnState.{ConnState}
use Rattle.lsv_session.specs.declared.connection.ConnState.TheVariants.{Dead}
use Rattle.lsv_session.specs.declared.job.Job.{Job}
use Rattle.lsv_machine.specs.Answers.{Answer, is_refused, refusal}
use Rattle.lsv_machine.specs.Disks.{AllGood, AsBefore, GoodOr, Rests}
use Rattle.lsv_machine.specs.Durable.{GoodAt}
use Rattle.lsv_machine.specs.Failures.{Act, AsksFor, LeavesLog, Step, WantsMemory}
use Rattle.lsv_machine.specs.History.{Ledger, noted, reads_log, request_in, settles, tells_log}
use Rattle.lsv_machine.specs.Machine.{Machine, Settings, is_dead, leaves, log_of}
use Rattle.lsv_machine.specs.Silence.{AllTo}
use Rattle.lsv_machine.specs.Stands.{StandsFor}
use Rattle.lsv_machine.specs.Turns.{Happened.Did}
use Rattle.lsv_machine.specs.Work.{Done, adds_line, before_line, has_line, line_fits, line_in, lined, next_number, plain, refused, work}
use Rattle.lsv_machine.proofs.Weaken.{Weaker, weaker_same}
use Rattle.lsv_keeper.specs.declared.report.Next.{Next}
use Rattle.lsv_keeper.specs.declared.report.Next.TheVariants as next
use Rattle.lsv_keeper.specs.Accepting.{IsEventOf, done_by}
use Rattle.lsv_keeper.specs.Reading.{reading_of}
use Rattle.lsv_keeper.specs.Represents.{Represents}
use Rattle.lsv_keeper.specs.Rows.{AllRose, Beside, ClosedIf, Left, LineFault, RowIs}
use Rattle.lsv_keeper.specs.Value.{Keeps, KeeperView, event_line, settings_of}
use Rattle.lsv_keeper.proofs.Acting.{Ends, OwnIf, OwnKeeps, acted, closed_keeps, concerns_ends, concerns_silent, ends_refusal, ends_refused, ends_wants, keeps_after, keeps_rests, about_none, about_own}
use Rattle.lsv_keeper.proofs.Asking.{act_of, asks_alive, asks_in, contains_first, fault_step, leaves_more, next_may, plain_asks, plain_step, refused_step, silent_notes, wants_step}
use Rattle.lsv_keeper.proofs.Counting.{counts_did, owner_first, rose_both, rose_none, rose_one, rose_second}
use Rattle.lsv_keeper.proofs.Frames.{Laws, beside_on, beside_wider, resting}

-- ---- A keeper that is set as before

pub same_settings : (v v' : KeeperView) → Keeps v v' → settings_of v' ≡ settings_of v
same_settings v v' k = λ i. record { lane = k.lane i; lanes = k.lanes i; log_exit = k.log_exit i; line_of = λ now conn asked log. event_line (k.kind i) now conn asked log }

pub beside_as : (v v' : KeeperView) (o : Option ℕ) (a b : DiskView) → Keeps v v' → Beside v'.lane v'.lanes o a b → Beside v.lane v.lanes o a b
beside_as v v' o a b k is = subst (λ (x : ℕ). Beside x v.lanes o a b) k.lane (subst (λ (x : ℕ). Beside v'.lane x o a b) k.lanes is)

abbrev Settled : (i : ℕ) → Act → Machine → (old new : DiskView) → (lane lanes : ℕ) → Settings → Type 0
Settled i act m old new lane lanes set = (l : Ledger) → StandsFor set i m l → AllGood (reading_of lane lanes) l i (IsCrashImage old)
    → Jointly (GoodOr (reading_of lane lanes) l (noted i l (Did act)) i) old new × AllGood (reading_of lane lanes) (noted i l (Did act)) i (IsCrashImage new)

abbrev Unsettled : (i : ℕ) → Act → Machine → (old new : DiskView) → (lane lanes : ℕ) → Settings → Type 0
Unsettled i act m old new lane lanes set = (l : Ledger) → StandsFor set i m l → l.writers ≡ [] → GoodAt (reading_of lane lanes) l i old.reads
    → Jointly (λ images. AsBefore (reading_of lane lanes) i (IsCrashImage old) images ⊎ GoodOr (reading_of lane lanes) l (noted i l (Did act)) i images) old new
    × (AllGood (reading_of lane lanes) (noted i l (Did act)) i (IsCrashImage new) ⊎ ((settles i l (Did act) ≡ false) × Rests (reading_of lane lanes) i old new))

pub keeps_as : (v v' : KeeperView) (i : ℕ) (act : Act) (m : Machine) (a b : DiskView) → Keeps v v' → OwnKeeps v' i act m a b → OwnKeeps v i act m a b
keeps_as v v' i act m a b k is = record {
  settled = subst (λ (x : ℕ). Settled i act m a b x v.lanes (settings_of v)) k.lane (subst (λ (x : ℕ). Settled i act m a b v'.lane x (settings_of v)) k.lanes
      (subst (λ (s : Settings). Settled i act m a b v'.lane v'.lanes s) (same_settings v v' k) is.settled));
  unsettled = subst (λ (x : ℕ). Unsettled i act m a b x v.lanes (settings_of v)) k.lane (subst (λ (x : ℕ). Unsettled i act m a b v'.lane x (settings_of v)) k.lanes
      (subst (λ (s : Settings). Unsettled i act m a b v'.lane v'.lanes s) (same_settings v v' k) is.unsettled));
}

-- ---- The line

pub lined_by : (set : Settings) (now : TimeSpec) (k : ConnId) (s : ConnState) (what : Request) (n : ℕ) (m : Machine) (d : Done) (line : List ℕ) → has_line set what ≡ true → is_refused d.answers ≡ false → line_in set now k s what n ≡ line
    → lined set now k s what n m d ≡ (if line_fits line m then record { answers = d.answers; line = line; machine = adds_line k line d.machine } else refused k LogFull (before_line s what n m))
lined_by set now k s what n m d line has quiet is = rw (has, quiet, is) refl

quiet_done : (nx : Next) (k : ConnId) (m : Machine) → is_refused (done_by nx k m).answers ≡ false
quiet_done next.Stays k m = refl
quiet_done (next.Enters state) k m = refl
quiet_done next.Ends k m = refl

event_line_is : (set : Settings) (now : TimeSpec) (k : ConnId) (s : ConnState) (what : Request) (line : List ℕ) (nx : Next) (m : Machine) (n : ℕ) → IsEventOf set now k s what line nx m → line_in set now k s what n ≡ line
event_line_is set now k s what line nx m n is = let none = is.opens_none in rw (none, line_in) is.line_is

event_lined : (set : Settings) (now : TimeSpec) (k : ConnId) (s : ConnState) (what : Request) (line : List ℕ) (nx : Next) (m : Machine) (n : ℕ) → IsEventOf set now k s what line nx m
    → lined set now k s what n m (work k s what n m) ≡ (if line_fits line m then record { answers = (done_by nx k m).answers; line = line; machine = adds_line k line (done_by nx k m).machine } else refused k LogFull m)
event_lined set now k s what line nx m n is =
    ap (lined set now k s what n m) (is.does n) ∙ lined_by set now k s what n m (done_by nx k m) line is.has_one (quiet_done nx k m) (event_line_is set now k s what line nx m n is)
    ∙ ap (λ (x : Machine). if line_fits line m then record { answers = (done_by nx k m).answers; line = line; machine = adds_line k line (done_by nx k m).machine } else refused k LogFull x) (is.first n)

-- a job whose line is added
pub line_plain : (set : Settings) (now : TimeSpec) (job : Job) (what : Request) (line : List ℕ) (nx : Next) (m : Machine) (n : ℕ) → AsksFor (m.states job.conn) job.body what → IsEventOf set now job.conn (m.states job.conn) what line nx m
    → line_fits line m ≡ true → plain set now job n m ≡ record { answers = (done_by nx job.conn m).answers; line = line; machine = adds_line job.conn line (done_by nx job.conn m).machine }
line_plain set now job what line nx m n a is fits = plain_asks set now job n m what a ∙ event_lined set now job.conn (m.states job.conn) what line nx m n is ∙ rw fits refl

-- and one of which the event log doesn't take the line
pub full_plain : (set : Settings) (now : TimeSpec) (job : Job) (what : Request) (line : List ℕ) (nx : Next) (m : Machine) (n : ℕ) → AsksFor (m.states job.conn) job.body what → IsEventOf set now job.conn (m.states job.conn) what line nx m
    → line_fits line m ≡ false → plain set now job n m ≡ refused job.conn LogFull m
full_plain set now job what line nx m n a is full = plain_asks set now job n m what a ∙ event_lined set now job.conn (m.states job.conn) what line nx m n is ∙ rw full refl

-- ---- Rows

-- a connection that stays as it was
pub told_stays : (v v' : KeeperView) (old new : DiskView) (now : TimeSpec) (job : Job) (m : Machine) (what : Request) (line : List ℕ) → Laws old → Beside v.lane v.lanes None old new
    → line_fits line m ≡ true → Represents v' new (adds_line job.conn line m) → AsksFor (m.states job.conn) job.body what → IsEventOf (settings_of v) now job.conn (m.states job.conn) what line next.Stays m
    → (answers : List Answer) → answers ≡ [] → RowIs v now job answers m v' old new
told_stays v v' old new now job m what line laws b fits at a is answers e = (
  adds_line job.conn line m,
  acted v now job (log_of (m.states job.conn)) act m (adds_line job.conn line m) old new laws refl refl
      (plain_step (settings_of v) now job (next_number (settings_of v) m + 0 * v.lanes) m (adds_line job.conn line m) answers [] line (next_may (settings_of v) m) (line_plain (settings_of v) now job what line next.Stays m (next_number (settings_of v) m + 0 * v.lanes) a is fits) e)
      (counts_did act old new b.monotone (rose_none old new) refl)
      (about_own v.lane v.lanes m act (λ n own. at.sound.owned job.conn n own))
      (concerns_silent (log_of (m.states job.conn)) m act e (λ n own. own) reads_none)
      (beside_wider v.lane v.lanes (log_of (m.states job.conn)) old new b)
      (own (log_of (m.states job.conn))),
  at,
)
  where
    act : Act
    act = act_of job answers [] line now

    asks : request_in job.body ≡ Ok what
    asks = asks_in (m.states job.conn) job.body what a

    reads_none : (n : ℕ) → reads_log n (is_dead (m.states job.conn)) (request_in job.body) [] ≡ true → log_of (m.states job.conn) ≡ Some n
    reads_none n reads = absurd (let f = subst (λ (r : Result Request Refusal). reads_log n (is_dead (m.states job.conn)) r [] ≡ true) asks reads in let g = is.reads_none n (is_dead (m.states job.conn)) [] in let h : false ≡ true = sym g ∙ f in cc)

    notes : (i : ℕ) (l : Ledger) → noted i l (Did act) ≡ l
    notes i l = subst (λ (given : List Answer). noted i l (Did (act_of job given [] line now)) ≡ l) (sym e) (silent_notes i job.conn (m.states job.conn) job.body what l a (is.notes_none i l))

    settles_none : (i : ℕ) (l : Ledger) → settles i l (Did act) ≡ false
    settles_none i l = subst (λ (given : List Answer). settles i l (Did (act_of job given [] line now)) ≡ false) (sym e)
        (subst (λ (r : Result Request Refusal). tells_log i [] || reads_log i (l.shut job.conn) r [] ≡ false) (sym asks) (is.reads_none i (l.shut job.conn) []))

    own : (o : Option ℕ) → OwnIf v o act m old new
    own None = tt
    own (Some i) = keeps_rests v i act m old new (resting v.lane v.lanes None i old new laws (λ q. let x : None ≡ Some i = q in absurd (cc)) b)
        (λ l stands. (subst (Weaker l) (sym (notes i l)) (weaker_same l), settles_none i l))

-- a connection that writes no log comes into another state
pub moved : (v v1 v2 : KeeperView) (old mid new : DiskView) (now : TimeSpec) (job : Job) (m m1 : Machine) (its : List Answer) (line : List ℕ) (state : ConnState) (what : Request) → Laws old → Keeps v v1 → Beside v.lane v.lanes None old mid
    → Left job.conn state v1 m1 v2 mid new → AsksFor (m.states job.conn) job.body what → log_of (m.states job.conn) ≡ None → m1.states job.conn ≡ m.states job.conn
    → ((n : ℕ) → plain (settings_of v) now job n m ≡ record { answers = its; line = line; machine = leaves job.conn state m1 })
    → AllTo job.conn its → ((n : ℕ) → tells_log n its ≡ false) → ((n : ℕ) (shut : Bool) (answers : List Answer) → reads_log n shut (Ok what) answers ≡ false)
    → (answers : List Answer) → answers ≡ its → RowIs v now job answers m v2 old new
moved v v1 v2 old mid new now job m m1 its line state what laws k b left a idle states p to untold reads answers e = (
  leaves job.conn state left.left,
  acted v now job None act m (leaves job.conn state left.left) old new laws refl refl
      (plain_step (settings_of v) now job (next_number (settings_of v) m + 0 * v.lanes) m (leaves job.conn state left.left) answers its line (next_may (settings_of v) m)
      (p (next_number (settings_of v) m + 0 * v.lanes) ∙ ap (λ (x : Machine). record { answers = its; line = line; machine = leaves job.conn state x }) (sym stays)) e)
      (counts_did act old new all.monotone (rose_none old new) refl)
      (about_none v.lane v.lanes m act)
      (record {
        own = λ n own. absurd (let x : None ≡ Some n = sym idle ∙ own in cc);
        to = subst (AllTo job.conn) (sym e) to;
        told = λ n tells. absurd (let x : false ≡ true = sym (untold n) ∙ subst (λ (given : List Answer). tells_log n given ≡ true) e tells in cc);
        read = λ n read. absurd (let x : false ≡ true = sym (reads n (is_dead (m.states job.conn)) answers) ∙ subst (λ (r : Result Request Refusal). reads_log n (is_dead (m.states job.conn)) r answers ≡ true) asks read in cc);
      })
      all
      tt,
  left.represents,
)
  where
    act : Act
    act = act_of job answers [] line now

    asks : request_in job.body ≡ Ok what
    asks = asks_in (m.states job.conn) job.body what a

    none : log_of (m1.states job.conn) ≡ None
    none = ap log_of states ∙ idle

    stays : left.left ≡ m1
    stays = subst (λ (o : Option ℕ). LeavesLog left.failed o None m1 left.left) none left.log

    all : Beside v.lane v.lanes None old new
    all = beside_on v.lane v.lanes None old mid new b (beside_as v v1 None mid new k (subst (λ (o : Option ℕ). Beside v1.lane v1.lanes o mid new) none left.beside))

-- ---- A refusal

-- a connection that is refused since its line isn't added
pub line_refused : (v v1 v2 : KeeperView) (old mid new : DiskView) (now : TimeSpec) (job : Job) (m : Machine) (what : Request) (line : List ℕ) (nx : Next) (why : Refusal) → Laws old → Laws mid → Represents v1 mid m → Keeps v v1
    → LineFault v.lane line m why old mid → Beside v.lane v.lanes None old mid → Left job.conn Dead v1 m v2 mid new → AsksFor (m.states job.conn) job.body what → IsEventOf (settings_of v) now job.conn (m.states job.conn) what line nx m
    → (answers : List Answer) → (answers ≡ refusal job.conn why) ⊎ WantsMemory job.conn answers → RowIs v now job answers m v2 old new
line_refused v v1 v2 old mid new now job m what line nx why laws laws1 at1 k fault b left a is answers tells = elim tells [
  | inr wants ↦ wanting wants
  | inl e ↦ elim fault [
    | inl (full, unfit) ↦ refuses (e ∙ ap (refusal job.conn) full) unfit
    | inr (inl none) ↦ wanting (inl (e ∙ ap (refusal job.conn) none))
    | inr (inr (broken, rose)) ↦
        row (owners.Events v.lane ∷ left.failed) (rose_both (owners.Events v.lane ∷ []) left.failed old new (rose_one (owners.Events v.lane) old new (owner_first (owners.Events v.lane) old mid new left.beside.monotone rose)) its_rose)
        (ends_refused job.conn answers (inl (e ∙ ap (refusal job.conn) broken)))
        (fault_step set now job answers (owners.Events v.lane ∷ left.failed) what m left.left a (inl (e ∙ ap (refusal job.conn) broken)) (record {
          request = what;
          asks = refl;
          owner = owners.Events v.lane;
          did = contains_first (owners.Events v.lane) left.failed;
          leaves = (refl, is.has_one, is.loses_line (owners.Events v.lane ∷ left.failed) left.left (leaves_more left.failed (owners.Events v.lane) (log_of (m.states job.conn)) m left.left left.log));
        }))
  ]
]
  where
    set : Settings
    set = settings_of v

    all : Beside v.lane v.lanes (log_of (m.states job.conn)) old new
    all = beside_on v.lane v.lanes (log_of (m.states job.conn)) old mid new (beside_wider v.lane v.lanes (log_of (m.states job.conn)) old mid b) (beside_as v v1 (log_of (m.states job.conn)) mid new k left.beside)

    its_rose : AllRose left.failed old new
    its_rose = rose_second left.failed old mid new b.monotone left.rose

    own : (act : Act) → act.job ≡ job → Ends job.conn act.answers → (o : Option ℕ) → log_of (m.states job.conn) ≡ o → ClosedIf o m mid new → OwnIf v o act m old new
    own act is_job ends None writes closed = tt
    own act is_job ends (Some i) writes closed =
        let at_its : (j : Job) → act.job ≡ j → log_of (m.states j.conn) ≡ Some i → log_of (m.states act.job.conn) ≡ Some i = λ j q w. subst (λ (x : Job). log_of (m.states x.conn) ≡ Some i) (sym q) w in
        let ends_its : Ends act.job.conn act.answers = subst (λ (x : Job). Ends x.conn act.answers) (sym is_job) ends in
        keeps_after v i act m old mid new (resting v.lane v.lanes None i old mid laws (λ q. let x : None ≡ Some i = q in absurd (cc)) b)
        (keeps_as v v1 i act m mid new k (closed_keeps v1 i act m mid new at1 laws1 (at_its job is_job writes) closed ends_its))

    row : (failed : List Owner) → AllRose failed old new → Ends job.conn answers → Step set m (act_of job answers failed [] now) (leaves job.conn Dead left.left) → RowIs v now job answers m v2 old new
    row failed rose ends step = (
      leaves job.conn Dead left.left,
      acted v now job (log_of (m.states job.conn)) (act_of job answers failed [] now) m (leaves job.conn Dead left.left) old new laws refl refl step
          (counts_did (act_of job answers failed [] now) old new all.monotone rose refl)
          (about_own v.lane v.lanes m (act_of job answers failed [] now) (λ n own. at1.sound.owned job.conn n own))
          (concerns_ends (log_of (m.states job.conn)) m (act_of job answers failed [] now) (λ n own. own) ends)
          all
          (own (act_of job answers failed [] now) refl ends (log_of (m.states job.conn)) refl left.closed),
      left.represents,
    )

    wanting : WantsMemory job.conn answers → RowIs v now job answers m v2 old new
    wanting wants = row left.failed its_rose (ends_wants job.conn answers wants)
        (wants_step set now job answers left.failed what m left.left a wants (inl (is.lets_go left.failed left.left left.log)))

    refuses : answers ≡ refusal job.conn LogFull → line_fits line m ≡ false → RowIs v now job answers m v2 old new
    refuses e unfit =
        let n = next_number set m + 0 * v.lanes in
        let s = refused_step set now job n answers left.failed LogFull m left.left (next_may set m) (asks_alive (m.states job.conn) job.body what a) (full_plain set now job what line nx m n a is unfit) left.log e in
        row s.these (λ o c. its_rose o (s.fewer o c)) (subst (Ends job.conn) (sym e) (ends_refusal job.conn LogFull refl)) s.step
