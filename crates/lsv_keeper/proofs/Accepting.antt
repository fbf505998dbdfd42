-- An accept that opens a log: what the table says of it, and what it gives, however far it comes.
use Rattle.std.proofs.Common.{◌≡◌, ◌≤◌, ◌<◌, ℕ, List, [], ◌∷◌, refl, sym, ◌∙◌, ap, subst, inl, inr, arith, Option, Some, None, ◌⊎◌}
use Rattle.std.specs.Prelude.{◌==◌, ◌||◌, nat_lt, Bool, true, false, if◌then◌else◌, Result, Ok}
use Rattle.std.proofs.lemmas.Bool.Decides.{nat_tests}
use Rattle.lsv_base.specs.declared.time.TimeSpec.{TimeSpec}
use Rattle.lsv_disk.specs.Throughout.{Jointly}
use Rattle.lsv_disk.specs.View.{DiskView, Image, IsCrashImage}
use Rattle.lsv_disk.specs.declared.file.Owner.{Owner}
use Rattle.lsv_info.specs.Layout.{head_text}
use Rattle.lsv_info.specs.declared.times.Head.{Head}
use Rattle.lsv_iolog.specs.Moments.{IsEither}
use Rattle.lsv_iolog.specs.Value.{made}
use Rattle.lsv_request.specs.declared.refusal.Refusal.{Refusal}
use Rattle.lsv_request.specs.declared.refusal.Refusal.TheVariants.{DeviceFault, LogFull, NumbersSpent, OutOfMemory, UnexpectedMessage, MalformedMessage, MessageTooLarge, MissingKey, BadTime, BadSizeOrSignal, LogInUse, NoSuchLog, LogComplete, NoSuchResumePoint, LogDamaged}
use Rattle.lsv_request.specs.declared.request.Request.{Request}
use Rattle.lsv_request.specs.declared.request.Request.TheVariants as request
use Rattle.lsv_session.specs.declared.connection.ConnId.{ConnId}
use Rattle.lsv_session.specs.declared.connection.ConnState.{ConnState}
use Rattle.lsv_session.specs.declared.connection.ConnState.TheVariants.{Fresh, Greeted, Alerted, Running, Dead}
use Rattle.lsv_session.specs.declared.job.Body.{Body}
use Rattle.lsv_session.specs.declared.job.Body.TheVariants as body
use Rattle.lsv_session.specs.declared.job.Job.{Job}
use Rattle.lsv_machine.specs.Answers.{Answer, LogId, refusal, say}
use Rattle.lsv_machine.specs.Disks.{AllGood, AsBefore, GoodOr}
use Rattle.lsv_machine.specs.Durable.{GoodAt, GoodFor}
use Rattle.lsv_machine.specs.Failures.{Act, AsksFor, LeavesLog, MayDraw, Step, WantsMemory}
use Rattle.lsv_machine.specs.History.{Ledger, is_look, noted, request_in, tells_log}
use Rattle.lsv_machine.specs.History as history
use Rattle.lsv_machine.specs.Silence.{AllTo}
use Rattle.lsv_machine.specs.Machine.{Machine, Settings, is_dead, is_running, leaves, log_of, with_owner, with_state}
use Rattle.lsv_machine.specs.Turns.{Happened.Did}
use Rattle.lsv_machine.specs.Work.{Done, adds_line, draws, fits_file, last_number, line_fits, line_in, lined, makes, opened, opens, refused, work}
use Rattle.lsv_machine.proofs.Weaken.{Lower}
use Rattle.lsv_machine.proofs.Choices.{EqOr.equal, EqOr.unequal, eq_or}
use Rattle.lsv_keeper.specs.declared.outcome.Outcome.TheVariants as outcome
use Rattle.lsv_keeper.specs.Accepting.{Begun, Making, MakingIf, Stopped, StopsFor, accept_of}
use Rattle.lsv_keeper.specs.Reading.{reading_of}
use Rattle.lsv_keeper.specs.Rows.{AllRose, Beside, Left, RowGives, RowIs}
use Rattle.lsv_keeper.specs.Value.{Keeps, KeeperView, event_line, settings_of}
use Rattle.lsv_keeper.proofs.Acting.{Ends, OwnIf, OwnKeeps, acted, concerns_ends, ends_owes, ends_refusal, ends_refused, ends_wants, keeps_before, IsAbout, about_none, about_some}
use Rattle.lsv_keeper.proofs.Asking.{act_of, asks_in, fault_step, plain_asks, plain_step, wants_step}
use Rattle.lsv_keeper.proofs.Counting.{counts_did, rose_none, rose_first}
use Rattle.lsv_keeper.proofs.Frames.{Laws, beside_on, beside_wider, resting}
use Rattle.lsv_keeper.proofs.Telling.{beside_as, lined_by}

-- ---- What the table says

-- the accept of this head
abbrev pub asked : Head → Request
asked head = request.Accept (accept_of head)

pub idle_of : (s : ConnState) → is_running s ≡ false → log_of s ≡ None
idle_of Fresh r = refl
idle_of Greeted r = refl
idle_of Alerted r = refl
idle_of (Running log) r = absurd (cc)
idle_of Dead r = refl

pub opens_one : (s : ConnState) (head : Head) → is_running s ≡ false → opens s (asked head) ≡ true
opens_one s head r = rw r refl

work_opens : (k : ConnId) (s : ConnState) (head : Head) (n : ℕ) (m : Machine) → is_running s ≡ false → work k s (asked head) n m ≡ opened k (head_text head) n m
work_opens k s head n m r = rw r refl

line_names : (v : KeeperView) (now : TimeSpec) (k : ConnId) (s : ConnState) (head : Head) (n : ℕ) → is_running s ≡ false → line_in (settings_of v) now k s (asked head) n ≡ event_line v.kind now k (asked head) (Some n)
line_names v now k s head n r = rw r refl

pub spent_lined : (v : KeeperView) (now : TimeSpec) (k : ConnId) (s : ConnState) (head : Head) (n : ℕ) (m : Machine) → is_running s ≡ false → last_number < n
    → lined (settings_of v) now k s (asked head) n m (work k s (asked head) n m) ≡ refused k NumbersSpent m
spent_lined v now k s head n m r over =
    let low : nat_lt 2176782335 n ≡ true = grind (arith, nat_tests) in
    let e : opened k (head_text head) n m ≡ refused k NumbersSpent m = rw low refl in
    ap (lined (settings_of v) now k s (asked head) n m) (work_opens k s head n m r ∙ e)

pub head_lined : (v : KeeperView) (now : TimeSpec) (k : ConnId) (s : ConnState) (head : Head) (n : ℕ) (m : Machine) → is_running s ≡ false → n ≤ last_number → fits_file (head_text head) ≡ false
    → lined (settings_of v) now k s (asked head) n m (work k s (asked head) n m) ≡ refused k LogFull (draws n m)
head_lined v now k s head n m r within full =
    let low : nat_lt 2176782335 n ≡ false = grind (arith, nat_tests) in
    let e : opened k (head_text head) n m ≡ refused k LogFull (draws n m) = rw (low, full) refl in
    ap (lined (settings_of v) now k s (asked head) n m) (work_opens k s head n m r ∙ e)

-- what is done where the log is made
abbrev did_open : ConnId → Head → ℕ → Machine → Done
did_open k head n m = record { answers = say k (LogId n) ∷ []; line = []; machine = with_state k (Running (Some n)) (with_owner n (Some k) (makes n (head_text head) m)) }

made_lined : (v : KeeperView) (now : TimeSpec) (k : ConnId) (s : ConnState) (head : Head) (n : ℕ) (m : Machine) → is_running s ≡ false → n ≤ last_number → fits_file (head_text head) ≡ true
    → lined (settings_of v) now k s (asked head) n m (work k s (asked head) n m)
    ≡ (if line_fits (event_line v.kind now k (asked head) (Some n)) m
    then record { answers = say k (LogId n) ∷ []; line = event_line v.kind now k (asked head) (Some n); machine = adds_line k (event_line v.kind now k (asked head) (Some n)) (did_open k head n m).machine }
    else refused k LogFull (makes n (head_text head) m))
made_lined v now k s head n m r within fits =
    let low : nat_lt 2176782335 n ≡ false = grind (arith, nat_tests) in
    let e : opened k (head_text head) n m ≡ did_open k head n m = rw (low, fits) refl in
    let line = event_line v.kind now k (asked head) (Some n) in
    ap (lined (settings_of v) now k s (asked head) n m) (work_opens k s head n m r ∙ e)
    ∙ lined_by (settings_of v) now k s (asked head) n m (did_open k head n m) line refl refl (line_names v now k s head n r)
    ∙ ap (λ (b : Bool). if line_fits line m then record { answers = say k (LogId n) ∷ []; line = line; machine = adds_line k line (did_open k head n m).machine } else refused k LogFull (if b then makes n (head_text head) m else m)) (opens_one s head r)

pub line_lined : (v : KeeperView) (now : TimeSpec) (k : ConnId) (s : ConnState) (head : Head) (n : ℕ) (m : Machine) → is_running s ≡ false → n ≤ last_number → fits_file (head_text head) ≡ true
    → line_fits (event_line v.kind now k (asked head) (Some n)) m ≡ false → lined (settings_of v) now k s (asked head) n m (work k s (asked head) n m) ≡ refused k LogFull (makes n (head_text head) m)
line_lined v now k s head n m r within fits full = made_lined v now k s head n m r within fits ∙ rw full refl

begun_lined : (v : KeeperView) (now : TimeSpec) (k : ConnId) (s : ConnState) (head : Head) (n : ℕ) (m : Machine) → is_running s ≡ false → n ≤ last_number → fits_file (head_text head) ≡ true
    → line_fits (event_line v.kind now k (asked head) (Some n)) m ≡ true → lined (settings_of v) now k s (asked head) n m (work k s (asked head) n m)
    ≡ record { answers = say k (LogId n) ∷ []; line = event_line v.kind now k (asked head) (Some n); machine = adds_line k (event_line v.kind now k (asked head) (Some n)) (did_open k head n m).machine }
begun_lined v now k s head n m r within fits takes = made_lined v now k s head n m r within fits ∙ rw takes refl

-- ---- A log that was being made

-- nothing was told of it, so each such image is good
untold_good : (v : KeeperView) (l : Ledger) (i : ℕ) (head : List ℕ) (image : Image) → l.promised ≡ None → IsEither i None (Some (made head)) image → GoodAt (reading_of v.lane v.lanes) l i image
untold_good v l i head image none (inl absent) = record { found = None; is = absent; good = subst (λ (t : Option ℕ). GoodFor l t None) (sym none) tt }
untold_good v l i head image none (inr there) = record { found = Some (made head); is = there; good = subst (λ (t : Option ℕ). GoodFor l t (Some (made head))) (sym none) (refl, refl) }

moments_good : (v : KeeperView) (l l' : Ledger) (i : ℕ) (head : List ℕ) (m : Machine) (old new : DiskView) → l.promised ≡ None → Making i head v m old new → Jointly (GoodOr (reading_of v.lane v.lanes) l l' i) old new
moments_good v l l' i head m old new none making = record {
  later = making.moments.later;
  past = making.moments.past;
  keeps = making.moments.keeps;
  each = λ k from to image left. inl (untold_good v l i head image none (making.moments.each k from to image left));
}

either_good : (v : KeeperView) (l l' : Ledger) (i : ℕ) (before : Image → Type 0) (old new : DiskView) → Jointly (GoodOr (reading_of v.lane v.lanes) l l' i) old new
    → Jointly (λ images. AsBefore (reading_of v.lane v.lanes) i before images ⊎ GoodOr (reading_of v.lane v.lanes) l l' i images) old new
either_good v l l' i before old new j = record { later = j.later; past = j.past; keeps = j.keeps; each = λ k from to. inr (j.each k from to) }

-- what a job that ends its connection owes of such a log
making_ends : (v : KeeperView) (i : ℕ) (head : List ℕ) (act : Act) (m : Machine) (old new : DiskView) → Making i head v m old new → Ends act.job.conn act.answers → OwnKeeps v i act m old new
making_ends v i head act m old new making ends = record {
  settled = λ l stands all. (moments l (stands.untold making.of_lane making.above), now l (stands.untold making.of_lane making.above));
  unsettled = λ l stands free good. (either_good v l (noted i l (Did act)) i (IsCrashImage old) old new (moments l (stands.untold making.of_lane making.above)), inl (now l (stands.untold making.of_lane making.above)));
}
  where
    moments : (l : Ledger) → l.promised ≡ None → Jointly (GoodOr (reading_of v.lane v.lanes) l (noted i l (Did act)) i) old new
    moments l none = moments_good v l (noted i l (Did act)) i head m old new none making

    still_none : (o p : Option ℕ) → p ≡ None → Lower o p → o ≡ None
    still_none None p e low = refl
    still_none (Some q) None e low = absurd low
    still_none (Some q) (Some p) e low = absurd (cc)

    now : (l : Ledger) → l.promised ≡ None → AllGood (reading_of v.lane v.lanes) (noted i l (Did act)) i (IsCrashImage new)
    now l none image is =
        let owes = ends_owes i act ends l in
        untold_good v (noted i l (Did act)) i head image (still_none (noted i l (Did act)).promised l.promised none owes.lower) (making.now image is)

-- ---- Rows

-- an accept that stopped short: its connection is refused
pub stopped_row : (v v1 v2 : KeeperView) (old mid new : DiskView) (now : TimeSpec) (job : Job) (head : Head) (m : Machine) (why : Refusal) → Laws old → Laws mid → Keeps v v1 → is_running (m.states job.conn) ≡ false
    → AsksFor (m.states job.conn) job.body (asked head) → (x : Stopped v now job.conn (m.states job.conn) head m why v1 old mid) → Left job.conn Dead v1 x.left v2 mid new → RowGives v now job (outcome.Refused why) m v2 old new
stopped_row v v1 v2 old mid new now job head m why laws laws1 k r a x left answers tells = elim tells [
  | inr wants ↦ wanting wants
  | inl e ↦ telling why x.reason e
]
  where
    set : Settings
    set = settings_of v

    idle : log_of (m.states job.conn) ≡ None
    idle = idle_of (m.states job.conn) r

    none : log_of (x.left.states job.conn) ≡ None
    none = ap (λ (f : ConnId → ConnState). log_of (f job.conn)) x.states ∙ idle

    stays : left.left ≡ x.left
    stays = subst (λ (o : Option ℕ). LeavesLog left.failed o None x.left left.left) none left.log

    late : Beside v.lane v.lanes None mid new
    late = beside_as v v1 None mid new k (subst (λ (o : Option ℕ). Beside v1.lane v1.lanes o mid new) none left.beside)

    all : Beside v.lane v.lanes x.log old new
    all = beside_on v.lane v.lanes x.log old mid new x.beside (beside_wider v.lane v.lanes x.log mid new late)

    rose : AllRose x.failed old new
    rose = rose_first x.failed old mid new left.beside.monotone x.rose

    own : (o : Option ℕ) (act : Act) → MakingIf o (head_text head) v m old mid → Ends act.job.conn act.answers → Beside v.lane v.lanes None mid new → OwnIf v o act m old new
    own None act making ends b = tt
    own (Some i) act making ends b = keeps_before v i act m old mid new (making_ends v i (head_text head) act m old mid making ends)
        (resting v.lane v.lanes None i mid new laws1 (λ q. let y : None ≡ Some i = q in absurd (cc)) b)

    about_made : (o : Option ℕ) (act : Act) → MakingIf o (head_text head) v m old mid → IsAbout v.lane v.lanes o m act
    about_made None act making = about_none v.lane v.lanes m act
    about_made (Some i) act making = about_some v.lane v.lanes i m act (inl making.of_lane)

    row : (failed : List Owner) → AllRose failed old new → Ends job.conn answers → Step set m (act_of job answers failed [] now) (leaves job.conn Dead x.left) → RowIs v now job answers m v2 old new
    row failed up ends step = (
      leaves job.conn Dead left.left,
      acted v now job x.log (act_of job answers failed [] now) m (leaves job.conn Dead left.left) old new laws refl refl
          (subst (λ (y : Machine). Step set m (act_of job answers failed [] now) (leaves job.conn Dead y)) (sym stays) step)
          (counts_did (act_of job answers failed [] now) old new all.monotone up refl)
          (about_made x.log (act_of job answers failed [] now) x.making)
          (concerns_ends x.log m (act_of job answers failed [] now) (λ n writes. absurd (let y : None ≡ Some n = sym idle ∙ writes in cc)) ends)
          all
          (own x.log (act_of job answers failed [] now) x.making ends late),
      left.represents,
    )

    wanting : WantsMemory job.conn answers → RowIs v now job answers m v2 old new
    wanting wants = row x.failed rose (ends_wants job.conn answers wants) (wants_step set now job answers x.failed (asked head) m x.left a wants x.breaks)

    table : (which : Refusal) (n : ℕ) → MayDraw set m n → lined set now job.conn (m.states job.conn) (asked head) n m (work job.conn (m.states job.conn) (asked head) n m) ≡ refused job.conn which x.left → is_look (refusal job.conn which) ≡ false
        → answers ≡ refusal job.conn which → RowIs v now job answers m v2 old new
    table which n drawn p look e = row [] (rose_none old new) (subst (Ends job.conn) (sym e) (ends_refusal job.conn which look))
        (plain_step set now job n m (leaves job.conn Dead x.left) answers (refusal job.conn which) [] drawn (plain_asks set now job n m (asked head) a ∙ p) e)

    telling : (which : Refusal) → StopsFor set now job.conn (m.states job.conn) (accept_of head) x.failed m x.left which → answers ≡ refusal job.conn which → RowIs v now job answers m v2 old new
    telling OutOfMemory reason e = wanting (inl e)
    telling DeviceFault (o, did, fails) e = row x.failed rose (ends_refused job.conn answers (inl e))
        (fault_step set now job answers x.failed (asked head) m x.left a (inl e) (record { request = asked head; asks = refl; owner = o; did = did; leaves = fails }))
    telling NumbersSpent (n, drawn, p) e = table NumbersSpent n drawn p refl e
    telling LogFull (n, drawn, p) e = table LogFull n drawn p refl e
    telling UnexpectedMessage reason e = absurd reason
    telling MalformedMessage reason e = absurd reason
    telling MessageTooLarge reason e = absurd reason
    telling MissingKey reason e = absurd reason
    telling BadTime reason e = absurd reason
    telling BadSizeOrSignal reason e = absurd reason
    telling LogInUse reason e = absurd reason
    telling NoSuchLog reason e = absurd reason
    telling LogComplete reason e = absurd reason
    telling NoSuchResumePoint reason e = absurd reason
    telling LogDamaged reason e = absurd reason

-- ---- A log that is begun

-- the number is told, and so nothing else is noted of the log than what its accept says
begun_notes : (n : ℕ) (k : ConnId) (b : Body) (head : Head) (l : Ledger) → request_in b ≡ Ok (asked head) → history.is_gone b ≡ false → history.answered n k b (say k (LogId n) ∷ []) false l ≡ history.opened_by k (head_text head) l
begun_notes n k b head l is stays =
    let told_it : (n == n) ≡ true = elim (eq_or n n) [ equal p t ↦ t | unequal p t ↦ absurd (p refl) ] in
    ap (λ (gone : Bool). history.reopened k gone (history.asked n k (request_in b) (say k (LogId n) ∷ []) false l)) stays
    ∙ ap (λ (what : Result Request Refusal). history.asked n k what (say k (LogId n) ∷ []) false l) is ∙ rw told_it refl

not_gone : (s : ConnState) (b : Body) (what : Request) → AsksFor s b what → history.is_gone b ≡ false
not_gone s (body.Msg message) what a = refl
not_gone s (body.Bad fault) what a = refl
not_gone s body.Gone what a = absurd a

-- an accept that opened its log
pub begun_row : (v v' : KeeperView) (old new : DiskView) (now : TimeSpec) (job : Job) (head : Head) (m : Machine) (n : ℕ) (text : List ℕ) → Laws old → is_running (m.states job.conn) ≡ false
    → AsksFor (m.states job.conn) job.body (asked head) → Begun v now job.conn n head m v' old new → RowGives v now job (outcome.Log n text) m v' old new
begun_row v v' old new now job head m n text laws r a x answers e = (
  after,
  acted v now job (Some n) act m after old new laws refl refl
      (plain_step (settings_of v) now job n m after answers (say job.conn (LogId n) ∷ []) line x.drawn
      (plain_asks (settings_of v) now job n m (asked head) a ∙ begun_lined v now job.conn (m.states job.conn) head n m r x.within x.fits x.line_fits_in) e)
      (counts_did act old new x.beside.monotone (rose_none old new) refl)
      (about_some v.lane v.lanes n m act (inl x.making.of_lane))
      (record {
        own = λ i writes. absurd (let y : None ≡ Some i = sym (idle_of (m.states job.conn) r) ∙ writes in cc);
        to = subst (AllTo job.conn) (sym e) (refl, tt);
        told = λ i tells. its_number i (subst (λ (given : List Answer). tells_log i given ≡ true) e tells);
        read = λ i read. absurd (let y = subst (λ (what : Result Request Refusal). history.reads_log i (is_dead (m.states job.conn)) what answers ≡ true) asks read in let z : false ≡ true = y in cc);
      })
      x.beside
      (record {
        settled = λ l stands all. (moments l (stands.untold x.making.of_lane x.making.above), good l);
        unsettled = λ l stands free was. (either_good v l (noted n l (Did act)) n (IsCrashImage old) old new (moments l (stands.untold x.making.of_lane x.making.above)), inl (good l));
      }),
  x.represents,
)
  where
    line : List ℕ
    line = event_line v.kind now job.conn (asked head) (Some n)

    after : Machine
    after = adds_line job.conn line (did_open job.conn head n m).machine

    act : Act
    act = act_of job answers [] line now

    asks : request_in job.body ≡ Ok (asked head)
    asks = asks_in (m.states job.conn) job.body (asked head) a

    its_number : (i : ℕ) → (n == i) || false ≡ true → Some n ≡ Some i
    its_number i t = elim (eq_or n i) [ equal p u ↦ ap Some p | unequal p u ↦ absurd (let y : false ≡ true = rw u at t in cc) ]

    notes : (l : Ledger) → noted n l (Did act) ≡ history.opened_by job.conn (head_text head) l
    notes l = subst (λ (given : List Answer). noted n l (Did (act_of job given [] line now)) ≡ history.opened_by job.conn (head_text head) l) (sym e) (begun_notes n job.conn job.body head l asks (not_gone (m.states job.conn) job.body (asked head) a))

    moments : (l : Ledger) → l.promised ≡ None → Jointly (GoodOr (reading_of v.lane v.lanes) l (noted n l (Did act)) n) old new
    moments l none = moments_good v l (noted n l (Did act)) n (head_text head) m old new none x.making

    good : (l : Ledger) → AllGood (reading_of v.lane v.lanes) (noted n l (Did act)) n (IsCrashImage new)
    good l image is = subst (λ (y : Ledger). GoodAt (reading_of v.lane v.lanes) y n image) (sym (notes l)) (record {
      found = Some (made (head_text head));
      is = x.there image is;
      good = record { head = refl; prefix = record { rest = []; is = refl }; enough = omega arith; exit = refl };
    })
