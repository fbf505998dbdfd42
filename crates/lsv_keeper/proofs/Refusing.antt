-- A record that its log refuses, or for which memory runs out.
use Rattle.std.proofs.Common.{◌≡◌, ◌≢◌, ◌≤◌, ◌+◌, ℕ, List, [], ◌∷◌, length, refl, sym, ◌∙◌, ap, subst, inl, inr, arith, Option, Some, None}
use Rattle.std.specs.Prelude.{◌==◌, nat_lt, Bool, true, false}
use Rattle.lsv_base.specs.declared.time.TimeSpec.{TimeSpec}
use Rattle.lsv_disk.specs.View.{DiskView}
use Rattle.lsv_iolog.specs.Represents as logs
use Rattle.lsv_iolog.specs.Value.{flushed, is_complete}
use Rattle.lsv_iolog.specs.declared.fault.LogFault.{LogFault}
use Rattle.lsv_iolog.specs.declared.fault.LogFault.TheVariants as faults
use Rattle.lsv_record.specs.declared.records.Record.{Record}
use Rattle.lsv_request.specs.declared.refusal.Refusal.TheVariants.{LogFull, OutOfMemory}
use Rattle.lsv_request.specs.declared.request.Request.{Request}
use Rattle.lsv_request.specs.declared.request.Request.TheVariants as request
use Rattle.lsv_session.specs.declared.connection.ConnId.{ConnId}
use Rattle.lsv_session.specs.declared.connection.ConnState.{ConnState}
use Rattle.lsv_session.specs.declared.connection.ConnState.TheVariants.{Dead}
use Rattle.lsv_session.specs.declared.job.Body.{Body}
use Rattle.lsv_session.specs.declared.job.Body.TheVariants as body
use Rattle.lsv_session.specs.declared.job.Job.{Job}
use Rattle.lsv_machine.specs.Failures.{AsksFor, WantsMemory}
use Rattle.lsv_machine.specs.Machine.{Machine, insert_once, is_dead, leaves, log_of}
use Rattle.lsv_machine.specs.Work.{plain, refused, takes}
use Rattle.lsv_machine.proofs.JudgedLemmas.{judged_ok}
use Rattle.lsv_keeper.specs.Leaving.{TakenOut}
use Rattle.lsv_keeper.specs.Logs.{IsAppendFault, RefusesRecord, log_refusal, open_logs, with_open}
use Rattle.lsv_keeper.specs.Moved.{MaskMoved}
use Rattle.lsv_keeper.specs.Represents.{Held, LogIs, Represents}
use Rattle.lsv_keeper.specs.Rows.{Left, RowGives}
use Rattle.lsv_keeper.specs.Value.{Keeps, KeeperView, log_in, settings_of}
use Rattle.lsv_keeper.specs.declared.logs.OpenLog.{OpenLog}
use Rattle.lsv_keeper.specs.declared.logs.OpenLogs.{OpenLogs}
use Rattle.lsv_keeper.specs.declared.outcome.Outcome.TheVariants as outcome
use Rattle.lsv_keeper.proofs.Acting.{ends_wants}
use Rattle.lsv_keeper.proofs.Frames.{Laws}
use Rattle.lsv_keeper.proofs.Leaving.{act_of, ended_row, refused_row, wants_step}
use Rattle.lsv_keeper.proofs.Opens.{one_open, put_its, put_twice}
use Rattle.lsv_keeper.proofs.Recording.{alive_of, plain_record}
use Rattle.lsv_keeper.proofs.Sizes.{going_log, takes_not}

-- a job that asks for something didn't go
pub asks_stays : (s : ConnState) (b : Body) (what : Request) → AsksFor s b what → b ≡ body.Gone → ⊥
asks_stays s b what asks gone = subst (λ (x : Body). AsksFor s x what) gone asks

-- memory ran out, and the connection left
pub wanting_row : (v v' : KeeperView) (now : TimeSpec) (job : Job) (m : Machine) (old new : DiskView) → Laws old → Represents v old m → is_dead (m.states job.conn) ≡ false
    → (job.body ≡ body.Gone → ⊥) → Left job.conn Dead v m v' old new → RowGives v now job (outcome.Refused OutOfMemory) m v' old new
wanting_row v v' now job m old new laws at alive_is stays l answers tells =
    let wants : WantsMemory job.conn answers = elim tells [ inl e ↦ inl e | inr w ↦ w ] in
    ended_row v v' now (act_of job now answers l.failed) m (leaves job.conn Dead l.left) old new laws at refl refl (ends_wants job.conn answers wants)
    (wants_step (settings_of v) m (act_of job now answers l.failed) l.left alive_is refl refl stays wants l.log) l.rose l.beside l.closed l.represents

-- a connection that has a record stored writes a log
pub record_writes : (s : ConnState) (b : Body) (r : Record) → AsksFor s b (request.Record r) → log_of s ≡ None → ⊥
record_writes s (body.Msg message) r asks none = let (i, its) = (judged_ok s message (request.Record r) asks).1 in let e : None ≡ Some i = sym none ∙ its in cc
record_writes s (body.Bad fault) r asks none = asks
record_writes s body.Gone r asks none = asks

-- and that log is open, and isn't complete
pub written_open : (v : KeeperView) (disk : DiskView) (m : Machine) (k : ConnId) (n : ℕ) → Represents v disk m → log_of (m.states k) ≡ Some n → ((its : OpenLog) → log_in v n ≡ Some its → is_complete its.log ≡ true) → ⊥
written_open v disk m k n at state closed =
    let h : Held v disk m n = subst (LogIs v disk m n) (at.sound.owned k n state) (at.logs n) in
    let e : false ≡ true = sym (going_log h.its.log h.value disk h.represents h.going) ∙ closed h.its h.here in
    cc

-- a record that its log refused
pub record_refused : (v v' : KeeperView) (now : TimeSpec) (job : Job) (n : ℕ) (r : Record) (its after : OpenLog) (fault : LogFault) (m : Machine) (old new : DiskView) → Laws old → Represents v old m
    → AsksFor (m.states job.conn) job.body (request.Record r) → log_of (m.states job.conn) ≡ Some n → log_in v n ≡ Some its → RefusesRecord v.texts its r fault after → Left job.conn Dead v m v' old new
    → RowGives v now job (outcome.Refused (log_refusal fault)) m v' old new
record_refused v v' now job n r its after fault m old new laws at asks state here no_room l = go fault refl
  where
    h : Held v old m n
    h = subst (LogIs v old m n) (at.sound.owned job.conn n state) (at.logs n)

    rep : logs.Represents its.log h.value old
    rep = subst (λ (o : OpenLog). logs.Represents o.log h.value old) (one_open (log_in v) n h.its its h.here here) h.represents

    alive_is : is_dead (m.states job.conn) ≡ false
    alive_is = alive_of (m.states job.conn) n state

    full : fault ≢ faults.NoMem → (i : ℕ) → plain (settings_of v) now job i m ≡ refused job.conn LogFull m
    full ample i =
        let not_taken : takes (flushed h.value) r ≡ false = takes_not its.log h.value old r no_room.stored fault laws.reads_itself rep no_room.covers.shape no_room.why ample in
        plain_record (settings_of v) now job r n i h.promised (flushed h.value) m state h.there asks ∙ rw not_taken refl

    why_is : (f : LogFault) → fault ≡ f → IsAppendFault its.log no_room.stored f
    why_is f e = subst (IsAppendFault its.log no_room.stored) e no_room.why

    go : (f : LogFault) → fault ≡ f → RowGives v now job (outcome.Refused (log_refusal f)) m v' old new
    go (faults.TooLong point) e = refused_row v v' now job LogFull m old new laws at alive_is refl (full (λ z. let g : faults.TooLong point ≡ faults.NoMem = sym e ∙ z in cc)) l
    go (faults.Full part) e = refused_row v v' now job LogFull m old new laws at alive_is refl (full (λ z. let g : faults.Full part ≡ faults.NoMem = sym e ∙ z in cc)) l
    go faults.NoMem e = wanting_row v v' now job m old new laws at alive_is (asks_stays (m.states job.conn) job.body (request.Record r) asks) l
    go faults.Broken e = absurd (let broken : its.log.is_broken ≡ true = why_is faults.Broken e in let g : false ≡ true = sym rep.whole ∙ broken in cc)
    go faults.Absent e = absurd (why_is faults.Absent e)
    go (faults.Damaged part) e = absurd (why_is (faults.Damaged part) e)
    go faults.Complete e = absurd (why_is faults.Complete e)
    go (faults.NoPoint point) e = absurd (why_is (faults.NoPoint point) e)
    go faults.Disk e = absurd (why_is faults.Disk e)

-- a log that refused a record is open, with its mask moved on
pub refused_moved : (v : KeeperView) (logs' : OpenLogs) (n : ℕ) (r : Record) (its left : OpenLog) (fault : LogFault) → log_in v n ≡ Some its → RefusesRecord v.texts its r fault left
    → open_logs logs' ≡ with_open n (Some left) (open_logs v.logs) → MaskMoved n left v (record v { logs = logs' })
refused_moved v logs' n r its left fault here no_room is_logs = record {
  beside = record { lane = refl; lanes = refl; log_exit = refl; kind = refl; texts = refl; numbers = refl; events = refl; noting = refl };
  table = refl;
  waiting = refl;
  logs = is_logs;
  open_one = its;
  was = here;
  same = sym no_room.same;
}

-- it is the one that is there
pub moved_there : (v v' : KeeperView) (n : ℕ) (left : OpenLog) → MaskMoved n left v v' → log_in v' n ≡ Some left
moved_there v v' n left moved = ap (λ (f : ℕ → Option OpenLog). f n) moved.logs ∙ put_its (open_logs v.logs) n (Some left)

-- and then it was taken out
pub moved_out : (v v' : KeeperView) (logs' : OpenLogs) (n : ℕ) (left its : OpenLog) → MaskMoved n left v v' → Some its ≡ log_in v' n → open_logs logs' ≡ with_open n None (open_logs v'.logs)
    → TakenOut n its v (record v' { logs = logs' })
moved_out v v' logs' n left its moved took out =
    let one : its ≡ left = (let e : Some its ≡ Some left = took ∙ moved_there v v' n left moved in cc) in
    let gone : open_logs logs' ≡ with_open n None (open_logs v.logs) = out ∙ (ap (λ (f : ℕ → Option OpenLog). with_open n None f) moved.logs ∙ put_twice (open_logs v.logs) n (Some left) None) in
    record {
      beside = record {
        lane = moved.beside.lane;
        lanes = moved.beside.lanes;
        log_exit = moved.beside.log_exit;
        kind = moved.beside.kind;
        texts = moved.beside.texts;
        numbers = moved.beside.numbers;
        events = moved.beside.events;
        noting = moved.beside.noting;
      };
      table = moved.table;
      waiting = moved.waiting;
      logs = λ i. ap (λ (f : ℕ → Option OpenLog). f i) gone;
      open_one = moved.open_one;
      was = moved.was;
      same = moved.same ∙ ap (λ (o : OpenLog). o.log) (sym one);
    }

-- ---- What is kept

insert_longer : (n : ℕ) (ns : List ℕ) → length (insert_once n ns) ≤ length ns + 1
insert_longer n [] = omega arith
insert_longer n (x ∷ ns) = go (insert_longer n ns) (n == x) refl (nat_lt n x) refl
  where
    go : length (insert_once n ns) ≤ length ns + 1 → (b : Bool) → (n == x) ≡ b → (d : Bool) → nat_lt n x ≡ d → length (insert_once n (x ∷ ns)) ≤ length (x ∷ ns) + 1
    go rest true e d f = rw e (omega arith)
    go rest false e true f = rw (e, f) (omega arith)
    go rest false e false f = rw (e, f) (omega arith)

-- one log more waits at most
pub staged_keeps : (v : KeeperView) (logs' : OpenLogs) (waiting' : List ℕ) (n : ℕ) → waiting' ≡ insert_once n v.waiting → Keeps v (record v { logs = logs'; waiting = waiting' })
staged_keeps v logs' waiting' n is = record {
  lane = refl;
  lanes = refl;
  log_exit = refl;
  kind = refl;
  texts = refl;
  room_is = omega arith;
  owed = let x = insert_longer n v.waiting in let e : length waiting' ≡ length (insert_once n v.waiting) = ap length is in omega arith;
}

-- a keeper of which nothing is otherwise keeps all
pub keeps_same : (v : KeeperView) (logs' : OpenLogs) → Keeps v (record v { logs = logs' })
keeps_same v logs' = record { lane = refl; lanes = refl; log_exit = refl; kind = refl; texts = refl; room_is = omega arith; owed = omega arith }

-- the same logs wait
pub same_waiting : (v : KeeperView) (waiting' : List ℕ) → waiting' ≡ v.waiting → record v { waiting = waiting' } ≡ v
same_waiting v waiting' e = ap (λ (ns : List ℕ). record v { waiting = ns }) e
