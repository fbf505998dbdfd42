-- A record of a connection that writes a log.
use Rattle.std.proofs.Common.{◌≡◌, ◌≤◌, ◌<◌, ◌+◌, ◌^◌, ℕ, List, [], ◌∷◌, ◌++◌, length, map, refl, sym, ◌∙◌, ap, subst, inl, inr, arith, Option, Some, None, append_assoc}
use Rattle.std.specs.Prelude.{◌==◌, ◌&&◌, nat_lt, Bool, true, false, if◌then◌else◌, Result, Ok}
use Rattle.std.proofs.lemmas.Bool.Decides.{nat_tests}
use Rattle.std.proofs.lemmas.List.{take_at}
use Rattle.lsv_base.specs.declared.time.TimeSpec.{TimeSpec}
use Rattle.lsv_disk.specs.View.{DiskView, Elsewhere, IsCrashImage}
use Rattle.lsv_iolog.specs.Recovered.{Replays}
use Rattle.lsv_iolog.specs.Represents as logs
use Rattle.lsv_iolog.specs.Value as values
use Rattle.lsv_iolog.specs.Value.{IoLogView, LogValue, all_of, flushed}
use Rattle.lsv_iolog.proofs.Representing.{every_image, stages_represents}
use Rattle.lsv_mask.specs.Masking.{covered}
use Rattle.lsv_record.specs.Points.{Stored}
use Rattle.lsv_record.specs.Records.{IsGood, IsValid, delay_of}
use Rattle.lsv_record.specs.declared.records.Record.{Record}
use Rattle.lsv_request.specs.declared.refusal.Refusal.{Refusal}
use Rattle.lsv_request.specs.declared.request.Request.{Request}
use Rattle.lsv_request.specs.declared.request.Request.TheVariants as request
use Rattle.lsv_session.specs.declared.connection.ConnId.{ConnId}
use Rattle.lsv_session.specs.declared.connection.ConnState.{ConnState}
use Rattle.lsv_session.specs.declared.connection.ConnState.TheVariants.{Fresh, Greeted, Alerted, Running, Dead}
use Rattle.lsv_session.specs.declared.job.Body.{Body}
use Rattle.lsv_session.specs.declared.job.Body.TheVariants as body
use Rattle.lsv_session.specs.declared.job.Job.{Job}
use Rattle.lsv_machine.specs.Answers.{Answer, is_silent, reply_of}
use Rattle.lsv_machine.specs.Failures.{Act, AsksFor, Step}
use Rattle.lsv_machine.specs.History.{Ledger, asked, is_gone, noted, reads_log, reopened, request_in, sent_one, writes}
use Rattle.lsv_machine.specs.Keeping.{Acted}
use Rattle.lsv_machine.specs.Machine.{IsOfLane, LogState, LogState.There, Machine, Settings, insert_once, is_dead, log_of, with_log}
use Rattle.lsv_machine.specs.Stands.{StandsFor}
use Rattle.lsv_machine.specs.Turns.{Happened.Did}
use Rattle.lsv_machine.specs.Work.{Done, alive, answered, lined, next_number, plain, recorded, silently, taken, takes, waits, with_record, work}
use Rattle.lsv_machine.proofs.Changing.{owned_not_above}
use Rattle.lsv_machine.proofs.Choices.{EqOr.equal, EqOr.unequal, eq_or}
use Rattle.lsv_machine.proofs.Folds.{still}
use Rattle.lsv_machine.proofs.JudgedLemmas.{judged_ok}
use Rattle.lsv_machine.proofs.Silent.{step_sound}
use Rattle.lsv_keeper.specs.Logs.{TakesRecord, open_logs, with_open}
use Rattle.lsv_keeper.specs.Reading.{reading_of}
use Rattle.lsv_keeper.specs.Represents.{AllAbove, AllOwned, Held, LogIs, Masks, Represents, Rising}
use Rattle.lsv_keeper.specs.Rows.{AllParts, RowGives}
use Rattle.lsv_keeper.specs.Value.{KeeperView, log_in, settings_of}
use Rattle.lsv_keeper.specs.declared.logs.OpenLog.{OpenLog}
use Rattle.lsv_keeper.specs.declared.logs.OpenLogs.{OpenLogs}
use Rattle.lsv_keeper.specs.declared.outcome.Outcome.TheVariants as outcome
use Rattle.lsv_keeper.proofs.Acting.{Owned, acted, concerns_silent, keeps_parts, about_some}
use Rattle.lsv_keeper.proofs.Counting.{counts_did, rose_none}
use Rattle.lsv_keeper.proofs.Frames.{Laws, beside_none}
use Rattle.lsv_keeper.proofs.Masking.{masks_covered}
use Rattle.lsv_keeper.proofs.Numbering.{numbers_fit}
use Rattle.lsv_keeper.proofs.Opens.{one_open, put_its}
use Rattle.lsv_keeper.proofs.Sizes.{takes_it}
use Rattle.lsv_keeper.proofs.Standing.{Changes, events_stay, represents_one}

-- ---- Logs that wait

all_insert : (o : ℕ → Option ConnId) (n : ℕ) (ns : List ℕ) → ((k : ConnId) × (o n ≡ Some k)) → AllOwned o ns → AllOwned o (insert_once n ns)
all_insert o n [] own all = (own, tt)
all_insert o n (x ∷ ns) own all = go (all_insert o n ns own all.1) (n == x) refl (nat_lt n x) refl
  where
    go : AllOwned o (insert_once n ns) → (b : Bool) → (n == x) ≡ b → (d : Bool) → nat_lt n x ≡ d → AllOwned o (insert_once n (x ∷ ns))
    go rest true e d f = rw e all
    go rest false e true f = rw (e, f) (own, all)
    go rest false e false f = rw (e, f) (all.0, rest)

above_insert : (a n : ℕ) (ns : List ℕ) → a < n → AllAbove a ns → AllAbove a (insert_once n ns)
above_insert a n [] lo all = (lo, tt)
above_insert a n (x ∷ ns) lo all = go (above_insert a n ns lo all.1) (n == x) refl (nat_lt n x) refl
  where
    go : AllAbove a (insert_once n ns) → (b : Bool) → (n == x) ≡ b → (d : Bool) → nat_lt n x ≡ d → AllAbove a (insert_once n (x ∷ ns))
    go rest true e d f = rw e all
    go rest false e true f = rw (e, f) (lo, all)
    go rest false e false f = rw (e, f) (all.0, rest)

above_less : (a b : ℕ) (ns : List ℕ) → a < b → AllAbove b ns → AllAbove a ns
above_less a b [] lo all = tt
above_less a b (x ∷ ns) lo all = (let y = all.0 in omega arith, above_less a b ns lo all.1)

rising_insert : (n : ℕ) (ns : List ℕ) → Rising ns → Rising (insert_once n ns)
rising_insert n [] up = (tt, tt)
rising_insert n (x ∷ ns) up = go (rising_insert n ns up.1) (n == x) refl (nat_lt n x) refl
  where
    go : Rising (insert_once n ns) → (b : Bool) → (n == x) ≡ b → (d : Bool) → nat_lt n x ≡ d → Rising (insert_once n (x ∷ ns))
    go rest true e d f = rw e up
    go rest false e true f = rw (e, f) (let lo : n < x = grind (arith, nat_tests) in ((lo, above_less n x ns lo up.0), up))
    go rest false e false f = rw (e, f) (let lo : x < n = grind (arith, nat_tests) in (above_insert x n ns lo up.0, rest))

-- ---- What is asked

pub alive_of : (s : ConnState) (n : ℕ) → log_of s ≡ Some n → is_dead s ≡ false
alive_of Fresh n e = refl
alive_of Greeted n e = refl
alive_of Alerted n e = refl
alive_of (Running log) n e = refl
alive_of Dead n e = absurd (cc)

pub asked_in : (s : ConnState) (b : Body) (what : Request) → AsksFor s b what → request_in b ≡ Ok what
asked_in s (body.Msg message) what e = (judged_ok s message what e).0
asked_in s (body.Bad fault) what e = absurd e
asked_in s body.Gone what e = absurd e

alive_asked : (set : Settings) (now : TimeSpec) (k : ConnId) (b : Body) (what : Request) (i : ℕ) (m : Machine) → AsksFor (m.states k) b what
    → alive set now k b i m ≡ lined set now k (m.states k) what i m (work k (m.states k) what i m)
alive_asked set now k (body.Msg message) what i m e = ap (λ (w : Result Request Refusal). answered set now k (m.states k) w i m) e
alive_asked set now k (body.Bad fault) what i m e = absurd e
alive_asked set now k body.Gone what i m e = absurd e

-- a job of a connection that isn't dead does what its message asks
pub plain_asked : (set : Settings) (now : TimeSpec) (job : Job) (what : Request) (i : ℕ) (m : Machine) → is_dead (m.states job.conn) ≡ false → AsksFor (m.states job.conn) job.body what
    → plain set now job i m ≡ lined set now job.conn (m.states job.conn) what i m (work job.conn (m.states job.conn) what i m)
plain_asked set now job what i m alive_is e = rw alive_is (alive_asked set now job.conn job.body what i m e)

-- a record goes to the log that the connection writes
pub plain_record : (set : Settings) (now : TimeSpec) (job : Job) (r : Record) (n i promised : ℕ) (stored : Stored) (m : Machine) → log_of (m.states job.conn) ≡ Some n → m.logs n ≡ There stored promised
    → AsksFor (m.states job.conn) job.body (request.Record r) → plain set now job i m ≡ taken job.conn n r (There stored promised) m
plain_record set now job r n i promised stored m own there asks =
    plain_asked set now job (request.Record r) i m (alive_of (m.states job.conn) n own) asks ∙ ap (λ (o : Option ℕ). recorded job.conn o r m) own ∙ ap (λ (x : LogState). taken job.conn n r x m) there

-- ---- What is stored

-- what is committed of a log is a part of it
pub committed_part : (log : IoLogView) (value : LogValue) (disk : DiskView) (n promised : ℕ) → logs.Represents log value disk → log.number ≡ n → value.stored.exit ≡ None
    → promised ≤ length value.stored.records → AllParts n (flushed value) promised (IsCrashImage disk)
committed_part log value disk n promised at number going enough image is = (
  value.stored,
  subst (λ (x : ℕ). Replays image x (Some value.stored)) number (every_image log value disk at image is),
  record {
    head = refl;
    left = length value.stored.records;
    records = sym (take_at value.stored.records value.staged (length value.stored.records) refl);
    enough = enough;
    going = going;
  },
)

grown_owned : (b : Bool) (r : Record) (l : Ledger) (whole : Stored) (promised : ℕ) → Owned l whole promised → Owned (if b then sent_one r l else l) whole promised
grown_owned true r l whole promised o = record {
  head = o.head;
  shown = record {
    rest = o.shown.rest ++ covered l.texts l.shown r ∷ [];
    is = sym (append_assoc whole.records o.shown.rest (covered l.texts l.shown r ∷ [])) ∙ ap (λ (z : List Record). z ++ covered l.texts l.shown r ∷ []) o.shown.is;
  };
  told = o.told;
  is_told = o.is_told;
  enough = o.enough;
  unfinished = o.unfinished;
}
grown_owned false r l whole promised o = o

reopened_owned : (k : ConnId) (b : Bool) (l : Ledger) (whole : Stored) (promised : ℕ) → Owned l whole promised → Owned (reopened k b l) whole promised
reopened_owned k true l whole promised o = record { head = o.head; shown = o.shown; told = o.told; is_told = o.is_told; enough = o.enough; unfinished = o.unfinished }
reopened_owned k false l whole promised o = o

-- ---- A record that is staged

abbrev record_act : TimeSpec → Job → Act
record_act now job = record { job = job; answers = []; failed = []; in_cut = false; line = []; now = now }

-- the machine after it
abbrev grown : ℕ → Stored → ℕ → Record → Machine → Machine
grown n stored promised r m = waits n (with_log n (There (with_record (covered m.texts stored.records r) stored) promised) m)

record_step : (set : Settings) (now : TimeSpec) (job : Job) (r : Record) (n promised : ℕ) (stored : Stored) (m : Machine) → log_of (m.states job.conn) ≡ Some n → m.logs n ≡ There stored promised
    → AsksFor (m.states job.conn) job.body (request.Record r) → takes stored r ≡ true → Step set m (record_act now job) (grown n stored promised r m)
record_step set now job r n promised stored m own there asks fits =
    let p : plain set now job (next_number set m) m ≡ silently (grown n stored promised r m) = plain_record set now job r n (next_number set m) promised stored m own there asks ∙ rw fits refl in
    inl (record {
      number = next_number set m;
      drawn = record { passed = 0; few = omega arith; next = omega arith };
      answers = ap (λ (d : Done). d.answers) (sym p);
      line = ap (λ (d : Done). d.line) (sym p);
      sound = refl;
      unmarked = refl;
      now = ap (λ (d : Done). d.machine) (sym p);
    })

-- a record that its log took: no disk is touched, and the log waits for its commit point
pub record_staged : (v : KeeperView) (logs' : OpenLogs) (waiting' : List ℕ) (now : TimeSpec) (job : Job) (n : ℕ) (r : Record) (its after : OpenLog) (m : Machine) (disk : DiskView)
    → Laws disk → Represents v disk m → AsksFor (m.states job.conn) job.body (request.Record r) → log_of (m.states job.conn) ≡ Some n → IsValid r
    → log_in v n ≡ Some its → TakesRecord v.texts its r after → open_logs logs' ≡ with_open n (Some after) (open_logs v.logs) → waiting' ≡ insert_once n v.waiting
    → RowGives v now job outcome.Nothing m (record v { logs = logs'; waiting = waiting' }) disk disk
record_staged v logs' waiting' now job n r its after m disk laws at asks state valid here took is_logs is_waiting answers tells = (
  m',
  subst (λ (said : List Answer). Acted (reading_of v.lane v.lanes) (settings_of v) now job (map reply_of said) m m' disk disk) (sym tells) act_is,
  represents_one (Some n) v v' disk disk m m' (λ file. ⊥) at elsewhere (λ i other file own t. t) changes,
)
  where
    v' : KeeperView
    v' = record v { logs = logs'; waiting = waiting' }

    own : m.owner n ≡ Some job.conn
    own = at.sound.owned job.conn n state

    h : Held v disk m n
    h = subst (LogIs v disk m n) own (at.logs n)

    same : h.its ≡ its
    same = one_open (log_in v) n h.its its h.here here

    rep : logs.Represents its.log h.value disk
    rep = subst (λ (o : OpenLog). logs.Represents o.log h.value disk) same h.represents

    mask : Masks v.texts its.mask (all_of h.value)
    mask = subst (λ (o : OpenLog). Masks v.texts o.mask (all_of h.value)) same h.mask

    cover : (took.stored ≡ covered v.texts (all_of h.value) r) × Masks v.texts after.mask (all_of h.value ++ took.stored ∷ [])
    cover = masks_covered v.texts its.mask after.mask (all_of h.value) r took.stored mask took.covers.covered took.covers.behind

    in_time : its.log.elapsed + delay_of took.stored < 2 ^ 63
    in_time = subst (λ (x : ℕ). x < 2 ^ 63) took.stages.elapsed took.stages.in_time

    fits : takes (flushed h.value) r ≡ true
    fits = takes_it its.log h.value disk r took.stored laws.reads_itself rep took.covers.shape took.room in_time

    m' : Machine
    m' = grown n (flushed h.value) h.promised r m

    step : Step (settings_of v) m (record_act now job) (grown n (flushed h.value) h.promised r m)
    step = record_step (settings_of v) now job r n h.promised (flushed h.value) m state h.there asks fits

    parts : AllParts n (flushed h.value) h.promised (IsCrashImage disk)
    parts = committed_part h.its.log h.value disk n h.promised h.represents h.number h.going h.enough

    request_is : request_in job.body ≡ Ok (request.Record r)
    request_is = asked_in (m.states job.conn) job.body (request.Record r) asks

    says : (l : Ledger) → StandsFor (settings_of v) n m l → Owned l (flushed h.value) h.promised → Owned (noted n l (Did (record_act now job))) (flushed h.value) h.promised
    says l stands o = subst (λ (w : Result Request Refusal). Owned (reopened job.conn (is_gone job.body) (asked n job.conn w [] false l)) (flushed h.value) h.promised) (sym request_is)
        (reopened_owned job.conn (is_gone job.body) (if is_silent [] && writes l job.conn then sent_one r l else l) (flushed h.value) h.promised
        (grown_owned (is_silent [] && writes l job.conn) r l (flushed h.value) h.promised o))

    act_is : Acted (reading_of v.lane v.lanes) (settings_of v) now job (map reply_of []) m (grown n (flushed h.value) h.promised r m) disk disk
    act_is = acted v now job (Some n) (record_act now job) m (grown n (flushed h.value) h.promised r m) disk disk laws refl refl step
        (counts_did (record_act now job) disk disk (λ file. omega arith) (rose_none disk disk) refl)
        (about_some v.lane v.lanes n m (record_act now job) (inr (inl (job.conn, own))))
        (concerns_silent (Some n) m (record_act now job) refl (λ i e. sym state ∙ e)
        (λ i e. absurd (let f : reads_log i (is_dead (m.states job.conn)) (Ok (request.Record r)) [] ≡ true = subst (λ (w : Result Request Refusal). reads_log i (is_dead (m.states job.conn)) w [] ≡ true) request_is e in cc)))
        (beside_none v.lane v.lanes (Some n) disk laws (numbers_fit v disk m at))
        (keeps_parts v n job.conn (flushed h.value) h.promised (record_act now job) m disk disk at laws own h.there
        (still (AllParts n (flushed h.value) h.promised) disk (λ image left. parts image (laws.only_now image left))) parts says)

    elsewhere : Elsewhere (λ file. ⊥) disk disk
    elsewhere = record { same = λ file other. refl; crash = λ file other c left. left }

    whole : There (with_record (covered m.texts (all_of h.value) r) (flushed h.value)) h.promised ≡ There (flushed (values.with_record h.value took.stored)) h.promised
    whole =
        let text : covered m.texts (all_of h.value) r ≡ took.stored = ap (λ (t : List (List ℕ)). covered t (all_of h.value) r) at.texts ∙ sym cover.0 in
        let more : all_of h.value ++ covered m.texts (all_of h.value) r ∷ [] ≡ h.value.stored.records ++ (h.value.staged ++ took.stored ∷ []) =
        ap (λ (x : Record). all_of h.value ++ x ∷ []) text ∙ append_assoc h.value.stored.records h.value.staged (took.stored ∷ []) in
        ap (λ (rs : List Record). There (record { head = h.value.stored.head; records = rs; exit = h.value.stored.exit; cuts = h.value.stored.cuts }) h.promised) more

    held' : Held (record v { logs = logs'; waiting = waiting' }) disk (grown n (flushed h.value) h.promised r m) n
    held' = record {
      its = after;
      here = ap (λ (f : ℕ → Option OpenLog). f n) is_logs ∙ put_its (open_logs v.logs) n (Some after);
      value = values.with_record h.value took.stored;
      represents = stages_represents its.log after.log h.value took.stored disk took.stages (subst IsGood (sym took.covers.shape) valid) h.going rep;
      number = took.stages.number ∙ ap (λ (o : OpenLog). o.log.number) (sym same) ∙ h.number;
      going = h.going;
      mask = subst (Masks v.texts after.mask) (append_assoc h.value.stored.records h.value.staged (took.stored ∷ [])) cover.1;
      promised = h.promised;
      there = elim (eq_or n n) [ equal p t ↦ rw t whole | unequal p t ↦ absurd (p refl) ];
      enough = h.enough;
    }

    changes : Changes (Some n) v (record v { logs = logs'; waiting = waiting' }) disk m (grown n (flushed h.value) h.promised r m)
    changes = record {
      lane = refl;
      lanes = refl;
      keeps_texts = refl;
      sound = step_sound (settings_of v) m (record_act now job) (grown n (flushed h.value) h.promised r m) at.sound step;
      texts = refl;
      states = at.states;
      owner = at.owner;
      waiting = ap (insert_once n) at.waiting ∙ sym is_waiting;
      noting = at.noting;
      rising = rising_insert n m.waiting at.rising;
      waits = all_insert m.owner n m.waiting (job.conn, own) at.waits;
      others = λ i other. elim (eq_or i n) [
        | equal p t ↦ absurd (other (ap Some (sym p)))
        | unequal p t ↦ (rw t refl, refl, ap (λ (f : ℕ → Option OpenLog). f i) is_logs ∙ rw t refl)
      ];
      its = subst (LogIs (record v { logs = logs'; waiting = waiting' }) disk (grown n (flushed h.value) h.promised r m) n) (sym own) held';
      numbers = at.numbers;
      later = omega arith;
      made = λ i e is above. absurd (let p : n ≡ i = cc in
          owned_not_above (settings_of v) m n job.conn at.sound own (subst (λ (x : ℕ). IsOfLane v.lane v.lanes x) (sym p) is) (subst (λ (x : ℕ). m.last < x) (sym p) above));
      events = events_stay v.lane v.events disk disk m (grown n (flushed h.value) h.promised r m) (λ file. ⊥) elsewhere (λ file own t. t) refl refl (λ e. e) at.events;
    }
