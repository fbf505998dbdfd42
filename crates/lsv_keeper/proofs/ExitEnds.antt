-- The ways in which an exit may go, each as its row.
use Rattle.std.proofs.Common.{◌≡◌, ◌≢◌, ◌≤◌, ℕ, List, [], ◌∷◌, length, refl, sym, ◌∙◌, ap, subst, inl, inr, Option, Some, None, ◌⊎◌, arith, length-append}
use Rattle.std.specs.Prelude.{◌==◌, true, false, if◌then◌else◌, Ok}
use Rattle.lsv_base.specs.declared.time.TimeSpec.{TimeSpec}
use Rattle.lsv_bundle.specs.Calls.{IsFull}
use Rattle.lsv_disk.specs.Throughout.{Throughout}
use Rattle.lsv_disk.specs.View.{DiskView, Image, IsCrashImage}
use Rattle.lsv_disk.specs.declared.file.FileId.{FileId}
use Rattle.lsv_disk.specs.declared.file.Owner.TheVariants as owners
use Rattle.lsv_disk.specs.declared.file.Part.TheVariants as parts
use Rattle.lsv_info.specs.Layout.{exit_text}
use Rattle.lsv_info.specs.declared.times.Exit.{Exit}
use Rattle.lsv_iolog.specs.Moments.{IsEither}
use Rattle.lsv_iolog.specs.Recovered.{IsOfLog, Replays}
use Rattle.lsv_iolog.specs.Represents as logs
use Rattle.lsv_iolog.specs.Value.{IoLogView, LogValue, all_of, finished, flushed}
use Rattle.lsv_iolog.specs.declared.fault.LogFault.{LogFault}
use Rattle.lsv_iolog.specs.declared.fault.LogFault.TheVariants as faults
use Rattle.lsv_record.specs.Records.{elapsed}
use Rattle.lsv_record.specs.declared.records.Record.{Record}
use Rattle.lsv_request.specs.declared.refusal.Refusal.{Refusal}
use Rattle.lsv_request.specs.declared.refusal.Refusal.TheVariants as refusals
use Rattle.lsv_request.specs.declared.request.Request.TheVariants as request
use Rattle.lsv_session.specs.Table.{spare}
use Rattle.lsv_session.specs.declared.connection.ConnId.{ConnId}
use Rattle.lsv_session.specs.declared.connection.ConnState.{ConnState}
use Rattle.lsv_session.specs.declared.connection.ConnState.TheVariants.{Dead}
use Rattle.lsv_session.specs.declared.job.Job.{Job}
use Rattle.lsv_machine.specs.Answers.{Answer, Shut, say}
use Rattle.lsv_machine.specs.Failures.{AsksFor, LeavesLog}
use Rattle.lsv_machine.specs.History.{request_in}
use Rattle.lsv_machine.specs.Machine.{LogState.There, Machine, is_dead, leaves, log_of, with_log}
use Rattle.lsv_machine.specs.Work.{fits_file, with_exit}
use Rattle.lsv_keeper.specs.Exits.{LineAdded, LineRefused}
use Rattle.lsv_keeper.specs.Leaving.{Departs, TakenOut}
use Rattle.lsv_keeper.specs.Logs.{log_refusal, open_logs, with_open}
use Rattle.lsv_keeper.specs.Represents.{Held, LogIs, Represents}
use Rattle.lsv_keeper.specs.Rows.{Beside, Left, OwnerRose, RowGives, RowIs}
use Rattle.lsv_keeper.specs.Value.{Keeps, KeeperView, SameSessions, event_line, log_in, owed, room}
use Rattle.lsv_keeper.specs.declared.logs.OpenLog.{OpenLog}
use Rattle.lsv_keeper.specs.declared.logs.OpenLogs.{OpenLogs}
use Rattle.lsv_keeper.specs.declared.outcome.Outcome.TheVariants as outcome
use Rattle.lsv_keeper.proofs.Acting.{OwnIf}
use Rattle.lsv_keeper.proofs.ExitRows.{SetAlike, beside_end, keeps_ended, keeps_told, let_go_as, row_line_refused, row_log_failed, row_told, says_shut, says_told, told_end}
use Rattle.lsv_keeper.proofs.ExitSteps.{Exits, exits_log, exits_none, lined_act, plain_too_long}
use Rattle.lsv_keeper.proofs.Frames.{Laws}
use Rattle.lsv_keeper.proofs.Leaving.{act_of, refused_row}
use Rattle.lsv_keeper.proofs.Opens.{one_open}
use Rattle.lsv_keeper.proofs.Recording.{alive_of, asked_in}
use Rattle.lsv_keeper.proofs.Refusing.{asks_stays, wanting_row}
use Rattle.lsv_keeper.proofs.Sizes.{exit_fits, exit_full}

-- ---- A session without a log

-- what it stands for before its line
pub session_stands : (v v1 : KeeperView) (d0 d1 : DiskView) (m : Machine) (k : ConnId) → log_of (m.states k) ≡ None → Left k Dead v m v1 d0 d1 → Represents v1 d1 (leaves k Dead m)
session_stands v v1 d0 d1 m k none l =
    let same : l.left ≡ m = subst (λ (o : Option ℕ). LeavesLog l.failed o None m l.left) none l.log in
    subst (λ (y : Machine). Represents v1 d1 (leaves k Dead y)) same l.represents

module _ (v v1 v2 : KeeperView) (d0 d1 d2 : DiskView) (m : Machine) (now : TimeSpec) (job : Job) (exit : Exit) (laws : Laws d0) (laws' : Laws d1) (alive : is_dead (m.states job.conn) ≡ false)
    (asks : AsksFor (m.states job.conn) job.body (request.Exit exit)) (none : log_of (m.states job.conn) ≡ None) (l : Left job.conn Dead v m v1 d0 d1) (same : SetAlike v v1) (second : Beside v1.lane v1.lanes None d1 d2) where
  x : Exits v now job exit (say job.conn Shut ∷ []) m m m
  x = exits_none v now job exit m alive asks none

  request_is : request_in job.body ≡ Ok (request.Exit exit)
  request_is = asked_in (m.states job.conn) job.body (request.Exit exit) asks

  pub session_told : LineAdded job.conn (event_line v1.kind now job.conn (request.Exit exit) None) (leaves job.conn Dead m) v1 v2 d2 → RowGives v now job outcome.Shut m v2 d0 d2
  session_told added answers is = subst (λ (said : List Answer). RowIs v now job said m v2 d0 d2) (sym is)
      (row_told v v1 v2 now job exit (say job.conn Shut ∷ []) m m m d0 d1 d2 laws laws' request_is x same l.beside second (says_shut job.conn)
      (λ line. subst (λ (o : Option ℕ). OwnIf v o (lined_act job now (say job.conn Shut ∷ []) line) m d0 d1) (sym none) tt)
      (subst (λ (o : Option ℕ). LineAdded job.conn (event_line v1.kind now job.conn (request.Exit exit) o) (leaves job.conn Dead m) v1 v2 d2) (sym none) added))

  pub session_refused : (why : Refusal) → LineRefused (event_line v1.kind now job.conn (request.Exit exit) None) why (leaves job.conn Dead m) v1 v2 d1 d2 → RowGives v now job (outcome.Refused why) m v2 d0 d2
  session_refused why not_added = row_line_refused v v1 v2 now job exit (say job.conn Shut ∷ []) m m m d0 d1 d2 laws laws' request_is x same l.beside second why
      (λ answers failed ends. subst (λ (o : Option ℕ). OwnIf v o (act_of job now answers failed) m d0 d1) (sym none) tt)
      (subst (λ (o : Option ℕ). LineRefused (event_line v1.kind now job.conn (request.Exit exit) o) why (leaves job.conn Dead m) v1 v2 d1 d2) (sym none) not_added)

-- ---- A log

-- what an end of a log leaves of it at each moment
pub record EndsLog (log : IoLogView) (text : List ℕ) (old new : DiskView) : Type 0 where
  pub moments : (value : LogValue) → logs.Represents log value old → Throughout (IsOfLog log.number) (IsEither log.number (Some value.stored) (Some (finished value text))) old new
  pub monotone : (file : FileId) → old.faults file ≤ new.faults file
  pub room : IsFull log.bundle parts.Exit (length text) → ⊥

module _ (v v1 : KeeperView) (d0 d1 : DiskView) (m : Machine) (n : ℕ) (now : TimeSpec) (job : Job) (exit : Exit) (its : OpenLog) (laws : Laws d0) (laws' : Laws d1) (at : Represents v d0 m)
    (asks : AsksFor (m.states job.conn) job.body (request.Exit exit)) (state : log_of (m.states job.conn) ≡ Some n) (here : log_in v n ≡ Some its) (e : EndsLog its.log (exit_text exit) d0 d1)
    (d : Departs (Some n) job.conn Dead v v1) (open_ones : (i : ℕ) → log_in v1 i ≡ (if i == n then None else log_in v i)) where
  pub h : Held v d0 m n
  h = subst (LogIs v d0 m n) (at.sound.owned job.conn n state) (at.logs n)

  same_its : h.its ≡ its
  same_its = one_open (log_in v) n h.its its h.here here

  ends : EndsLog h.its.log (exit_text exit) d0 d1
  ends = subst (λ (o : OpenLog). EndsLog o.log (exit_text exit) d0 d1) (sym same_its) e

  moments : Throughout (IsOfLog n) (IsEither n (Some h.value.stored) (Some (finished h.value (exit_text exit)))) d0 d1
  moments = subst (λ (y : ℕ). Throughout (IsOfLog y) (IsEither y (Some h.value.stored) (Some (finished h.value (exit_text exit)))) d0 d1) h.number (ends.moments h.value h.represents)

  fits : fits_file (exit_text exit) ≡ true
  fits = exit_fits h.its.log h.value d0 (exit_text exit) laws.reads_itself h.represents h.going ends.room

  log_alive : is_dead (m.states job.conn) ≡ false
  log_alive = alive_of (m.states job.conn) n state

  log_request : request_in job.body ≡ Ok (request.Exit exit)
  log_request = asked_in (m.states job.conn) job.body (request.Exit exit) asks

  log_x : Exits v now job exit (told_end job.conn (elapsed (all_of h.value))) (with_log n (There (with_exit (exit_text exit) (flushed h.value)) (length (all_of h.value))) m)
      (with_log n (There (with_exit (exit_text exit) (flushed h.value)) h.promised) m) m
  log_x = exits_log v now job exit n h.promised (flushed h.value) m log_alive asks state (at.sound.owned job.conn) h.there fits

  set_alike : SetAlike v v1
  set_alike = record { lane = d.beside.lane; lanes = d.beside.lanes; log_exit = d.beside.log_exit; kind = d.beside.kind }

  first : Beside v.lane v.lanes (log_of (m.states job.conn)) d0 d1
  first = subst (λ (o : Option ℕ). Beside v.lane v.lanes o d0 d1) (sym state) (beside_end v d0 d1 m n now job exit laws laws' at state log_request h moments ends.monotone)

  -- the exit is set in each image
  abbrev pub AllSet : Type 0
  AllSet = (image : Image) → IsCrashImage d1 image → (value : LogValue) → logs.Represents its.log value d0 → Replays image its.log.number (Some (finished value (exit_text exit)))

  all_set : AllSet → (image : Image) → IsCrashImage d1 image → Replays image n (Some (finished h.value (exit_text exit)))
  all_set all image is =
      subst (λ (y : ℕ). Replays image y (Some (finished h.value (exit_text exit)))) (ap (λ (o : OpenLog). o.log.number) (sym same_its) ∙ h.number)
      (all image is h.value (subst (λ (o : OpenLog). logs.Represents o.log h.value d0) same_its h.represents))

  -- what it stands for before its line, where all its records are promised, and where no more are
  pub stands_told : AllSet → Represents v1 d1 (leaves job.conn Dead (with_log n (There (with_exit (exit_text exit) (flushed h.value)) (length (all_of h.value))) m))
  stands_told all = let_go_as v v1 d0 d1 m job.conn n (finished h.value (exit_text exit)) (length (all_of h.value)) at state d open_ones moments.elsewhere (all_set all d1.reads laws'.reads_itself) (least (length (all_of h.value)))
    where
      least : (y : ℕ) → y ≤ y
      least y = omega arith

  pub stands_set : AllSet → Represents v1 d1 (leaves job.conn Dead (with_log n (There (with_exit (exit_text exit) (flushed h.value)) h.promised) m))
  stands_set all = let_go_as v v1 d0 d1 m job.conn n (finished h.value (exit_text exit)) h.promised at state d open_ones moments.elsewhere (all_set all d1.reads laws'.reads_itself)
      (let y = h.enough in omega (arith, length-append {A = Record}))

  -- it ended
  pub log_told : (v2 : KeeperView) (d2 : DiskView) (point : ℕ) → AllSet → point ≡ its.log.elapsed → Beside v1.lane v1.lanes None d1 d2
      → ((y : Machine) → Represents v1 d1 y → LineAdded job.conn (event_line v1.kind now job.conn (request.Exit exit) (Some n)) y v1 v2 d2) → RowGives v now job (outcome.Finished point) m v2 d0 d2
  log_told v2 d2 point all point_is second added answers is =
      let time : point ≡ elapsed (all_of h.value) = point_is ∙ ap (λ (o : OpenLog). o.log.elapsed) (sym same_its) ∙ h.represents.time in
      subst (λ (said : List Answer). RowIs v now job said m v2 d0 d2) (sym (is ∙ ap (told_end job.conn) time))
      (row_told v v1 v2 now job exit (told_end job.conn (elapsed (all_of h.value))) (with_log n (There (with_exit (exit_text exit) (flushed h.value)) (length (all_of h.value))) m)
      (with_log n (There (with_exit (exit_text exit) (flushed h.value)) h.promised) m) m d0 d1 d2 laws laws' log_request log_x set_alike first second (says_told job.conn (elapsed (all_of h.value)))
      (λ line. subst (λ (o : Option ℕ). OwnIf v o (lined_act job now (told_end job.conn (elapsed (all_of h.value))) line) m d0 d1) (sym state)
      (keeps_told v d0 d1 m n now job exit laws laws' at state log_request h moments (elapsed (all_of h.value)) line (all_set all)))
      (subst (λ (o : Option ℕ). LineAdded job.conn (event_line v1.kind now job.conn (request.Exit exit) o) (leaves job.conn Dead (with_log n (There (with_exit (exit_text exit) (flushed h.value)) (length (all_of h.value))) m)) v1 v2 d2) (sym state)
      (added (leaves job.conn Dead (with_log n (There (with_exit (exit_text exit) (flushed h.value)) (length (all_of h.value))) m)) (stands_told all))))

  -- its line was refused
  pub log_line_refused : (v2 : KeeperView) (d2 : DiskView) (why : Refusal) → AllSet → Beside v1.lane v1.lanes None d1 d2
      → ((y : Machine) → Represents v1 d1 y → LineRefused (event_line v1.kind now job.conn (request.Exit exit) (Some n)) why y v1 v2 d1 d2) → RowGives v now job (outcome.Refused why) m v2 d0 d2
  log_line_refused v2 d2 why all second not_added =
      row_line_refused v v1 v2 now job exit (told_end job.conn (elapsed (all_of h.value))) (with_log n (There (with_exit (exit_text exit) (flushed h.value)) (length (all_of h.value))) m)
      (with_log n (There (with_exit (exit_text exit) (flushed h.value)) h.promised) m) m d0 d1 d2 laws laws' log_request log_x set_alike first second why
      (λ answers failed ended. subst (λ (o : Option ℕ). OwnIf v o (act_of job now answers failed) m d0 d1) (sym state)
      (keeps_ended v d0 d1 m n now job exit laws laws' at state log_request h moments answers failed ended))
      (subst (λ (o : Option ℕ). LineRefused (event_line v1.kind now job.conn (request.Exit exit) o) why (leaves job.conn Dead (with_log n (There (with_exit (exit_text exit) (flushed h.value)) h.promised) m)) v1 v2 d1 d2) (sym state)
      (not_added (leaves job.conn Dead (with_log n (There (with_exit (exit_text exit) (flushed h.value)) h.promised) m)) (stands_set all)))

  -- it failed
  pub log_failed : OwnerRose (owners.Log its.log.number) d0 d1 → RowGives v now job (outcome.Refused refusals.DeviceFault) m v1 d0 d1
  log_failed rose = row_log_failed v v1 d0 d1 m n now job exit laws laws' at log_alive asks state log_request h moments ends.monotone
      (subst (λ (y : ℕ). OwnerRose (owners.Log y) d0 d1) (ap (λ (o : OpenLog). o.log.number) (sym same_its) ∙ h.number) rose) fits d open_ones

-- its exit doesn't fit its file
pub log_full : (v v' : KeeperView) (old new : DiskView) (m : Machine) (n : ℕ) (now : TimeSpec) (job : Job) (exit : Exit) (its : OpenLog) → Laws old → Represents v old m
    → AsksFor (m.states job.conn) job.body (request.Exit exit) → log_of (m.states job.conn) ≡ Some n → log_in v n ≡ Some its → IsFull its.log.bundle parts.Exit (length (exit_text exit))
    → Left job.conn Dead v m v' old new → RowGives v now job (outcome.Refused refusals.LogFull) m v' old new
log_full v v' old new m n now job exit its laws at asks state here full l =
    refused_row v v' now job refusals.LogFull m old new laws at (alive_of (m.states job.conn) n state) refl
    (λ i. plain_too_long v now job exit n i held.promised (flushed held.value) m (alive_of (m.states job.conn) n state) asks state held.there too_long) l
  where
    held : Held v old m n
    held = subst (LogIs v old m n) (at.sound.owned job.conn n state) (at.logs n)

    too_long : fits_file (exit_text exit) ≡ false
    too_long = exit_full held.its.log held.value old (exit_text exit) laws.reads_itself held.represents held.going
        (subst (λ (o : OpenLog). IsFull o.log.bundle parts.Exit (length (exit_text exit))) (sym (one_open (log_in v) n held.its its held.here here)) full)

-- memory ran out for its text
pub log_wants : (v v' : KeeperView) (old new : DiskView) (m : Machine) (n : ℕ) (now : TimeSpec) (job : Job) (exit : Exit) → Laws old → Represents v old m
    → AsksFor (m.states job.conn) job.body (request.Exit exit) → log_of (m.states job.conn) ≡ Some n → Left job.conn Dead v m v' old new → RowGives v now job (outcome.Refused refusals.OutOfMemory) m v' old new
log_wants v v' old new m n now job exit laws at asks state l =
    wanting_row v v' now job m old new laws at (alive_of (m.states job.conn) n state) (asks_stays (m.states job.conn) job.body (request.Exit exit) asks) l

-- ---- What the calls leave

-- a connection that departs from a keeper of which a log was taken out departs from the keeper before
pub departs_from : (v v1 : KeeperView) (logs' : OpenLogs) (o : Option ℕ) (k : ConnId) (s : ConnState) → Departs o k s (record v { logs = logs' }) v1 → Departs o k s v v1
departs_from v v1 logs' o k s d = record {
  beside = record { lane = d.beside.lane; lanes = d.beside.lanes; log_exit = d.beside.log_exit; kind = d.beside.kind; texts = d.beside.texts; numbers = d.beside.numbers; events = d.beside.events; noting = d.beside.noting };
  states = d.states;
  owner = d.owner;
  waiting = d.waiting;
}

-- the log isn't open any more
pub closed_ones : (v v1 : KeeperView) (logs' : OpenLogs) (n : ℕ) → v1.logs ≡ logs' → open_logs logs' ≡ with_open n None (open_logs v.logs) → (i : ℕ) → log_in v1 i ≡ (if i == n then None else log_in v i)
closed_ones v v1 logs' n same is i = ap (λ (x : OpenLogs). open_logs x i) same ∙ ap (λ (f : ℕ → Option OpenLog). f i) is

-- what a keeper keeps of one of which a log was taken out
pub keeps_from : (v v1 : KeeperView) (logs' : OpenLogs) → Keeps (record v { logs = logs' }) v1 → Keeps v v1
keeps_from v v1 logs' k = record { lane = k.lane; lanes = k.lanes; log_exit = k.log_exit; kind = k.kind; texts = k.texts; room_is = k.room_is; owed = k.owed }

-- and then a line is added, or not
pub keeps_line : (a b c : KeeperView) → Keeps a b → owed b ≤ owed a → Keeps b c → SameSessions b c → Keeps a c
keeps_line a b c k less line same = record {
  lane = line.lane ∙ k.lane;
  lanes = line.lanes ∙ k.lanes;
  log_exit = line.log_exit ∙ k.log_exit;
  kind = line.kind ∙ k.kind;
  texts = line.texts ∙ k.texts;
  room_is = let x = k.room_is in let e : room c ≡ room b = ap spare same.table in omega arith;
  owed = let x = line.owed in omega arith;
}

-- a keeper that keeps is set as before
pub set_by : (v v1 : KeeperView) → Keeps v v1 → SetAlike v v1
set_by v v1 k = record { lane = k.lane; lanes = k.lanes; log_exit = k.log_exit; kind = k.kind }

-- its end was refused, and nothing was done: its exit doesn't fit, or memory ran out
pub log_not_ended : (v v' : KeeperView) (old new : DiskView) (m : Machine) (n : ℕ) (now : TimeSpec) (job : Job) (exit : Exit) (its : OpenLog) (fault : LogFault) → Laws old → Represents v old m
    → AsksFor (m.states job.conn) job.body (request.Exit exit) → log_of (m.states job.conn) ≡ Some n → log_in v n ≡ Some its
    → ((fault ≡ faults.Disk) ⊎ (fault ≡ faults.Broken) ⊎ (fault ≡ faults.Full parts.Exit) ⊎ (fault ≡ faults.NoMem)) → fault ≢ faults.Disk → (fault ≡ faults.Broken → its.log.is_broken ≡ true)
    → (fault ≡ faults.Full parts.Exit → IsFull its.log.bundle parts.Exit (length (exit_text exit))) → Left job.conn Dead v m v' old new → RowGives v now job (outcome.Refused (log_refusal fault)) m v' old new
log_not_ended v v' old new m n now job exit its fault laws at asks state here (inl e) alive broken full l = absurd (alive e)
log_not_ended v v' old new m n now job exit its fault laws at asks state here (inr (inl e)) alive broken full l = absurd (
    let held : Held v old m n = subst (LogIs v old m n) (at.sound.owned job.conn n state) (at.logs n) in
    let whole : its.log.is_broken ≡ false = ap (λ (o : OpenLog). o.log.is_broken) (sym (one_open (log_in v) n held.its its held.here here)) ∙ held.represents.whole in
    let f : false ≡ true = sym whole ∙ broken e in
    cc)
log_not_ended v v' old new m n now job exit its fault laws at asks state here (inr (inr (inl e))) alive broken full l =
    subst (λ (f : LogFault). RowGives v now job (outcome.Refused (log_refusal f)) m v' old new) (sym e) (log_full v v' old new m n now job exit its laws at asks state here (full e) l)
log_not_ended v v' old new m n now job exit its fault laws at asks state here (inr (inr (inr e))) alive broken full l =
    subst (λ (f : LogFault). RowGives v now job (outcome.Refused (log_refusal f)) m v' old new) (sym e) (log_wants v v' old new m n now job exit laws at asks state l)

-- the log that wasn't ended was taken out
pub unended_out : (v : KeeperView) (logs' : OpenLogs) (n : ℕ) (its left : OpenLog) → log_in v n ≡ Some its → left.log ≡ its.log → open_logs logs' ≡ with_open n None (open_logs v.logs)
    → TakenOut n left v (record v { logs = logs' })
unended_out v logs' n its left here same is = record {
  beside = record { lane = refl; lanes = refl; log_exit = refl; kind = refl; texts = refl; numbers = refl; events = refl; noting = refl };
  table = refl;
  waiting = refl;
  logs = λ i. ap (λ (f : ℕ → Option OpenLog). f i) is;
  open_one = its;
  was = here;
  same = sym same;
}
