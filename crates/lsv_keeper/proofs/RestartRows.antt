-- Rows of a restart: why it is refused, or what goes on.
use Rattle.std.proofs.Common.{◌≡◌, ◌⊎◌, ◌≤◌, ◌<◌, ◌+◌, ◌-◌, ◌^◌, ℕ, List, [], ◌∷◌, length, take, Option, Some, None, refl, sym, ◌∙◌, ap, subst, inl, inr, arith}
use Rattle.std.specs.Prelude.{min, nat_lt, Bool, true, false, is_some, unwrap_or, Ok}
use Rattle.std.proofs.lemmas.Bool.Decides.{nat_tests}
use Rattle.std.proofs.lemmas.Grind.{common_steps}
use Rattle.lsv_base.specs.declared.time.TimeSpec.{TimeSpec}
use Rattle.lsv_disk.specs.View.{DiskView}
use Rattle.lsv_disk.specs.declared.file.Owner.{Owner}
use Rattle.lsv_disk.specs.declared.file.Owner.TheVariants as owners
use Rattle.lsv_disk.proofs.Composition.{risen_first}
use Rattle.lsv_defs.specs.Causes.{HasRisen}
use Rattle.lsv_bundle.specs.Shape.{journal_of}
use Rattle.lsv_iolog.specs.Later.{cut_log, drops}
use Rattle.lsv_iolog.specs.Recovered.{Replays, owner_of}
use Rattle.lsv_iolog.specs.declared.fault.LogFault.{LogFault}
use Rattle.lsv_iolog.specs.declared.fault.LogFault.TheVariants as faults
use Rattle.lsv_record.specs.Points.{Stored, first}
use Rattle.lsv_record.specs.declared.records.Record.{Record}
use Rattle.lsv_record.proofs.Points.{first_some}
use Rattle.lsv_request.specs.declared.refusal.Refusal.{Refusal}
use Rattle.lsv_request.specs.declared.refusal.Refusal.TheVariants as refusals
use Rattle.lsv_request.specs.declared.request.Request.TheVariants as request
use Rattle.lsv_request.specs.declared.request.Restart.{Restart}
use Rattle.lsv_session.specs.declared.connection.ConnId.{ConnId}
use Rattle.lsv_session.specs.declared.connection.ConnState.TheVariants.{Dead}
use Rattle.lsv_session.specs.declared.job.Job.{Job}
use Rattle.lsv_machine.specs.Answers.{Answer, refusal}
use Rattle.lsv_machine.specs.Counts.{asks_for}
use Rattle.lsv_machine.specs.Durable.{GoodLog}
use Rattle.lsv_machine.specs.Failures.{Act, FailsInCut, IsRefused, LeavesLog, Step, WantsMemory}
use Rattle.lsv_machine.specs.History.{Ledger, is_look, lowered_to, noted, reads_log, request_in, tells_log}
use Rattle.lsv_machine.specs.Machine.{LogState, LogState.There, Machine, is_dead, leaves, log_of, with_log}
use Rattle.lsv_machine.specs.Silence.{AllTo}
use Rattle.lsv_machine.specs.Turns.{Happened.Did}
use Rattle.lsv_machine.specs.Work.{can_cut, cut_to, plain, refused}
use Rattle.lsv_machine.proofs.Choices.{EqOr.equal, EqOr.unequal, SomeOr.just, SomeOr.nothing, eq_or, some_or}
use Rattle.lsv_machine.proofs.JobFits.{Last, Last.by_refusal, Last.by_shut, refused_last, wants_last}
use Rattle.lsv_machine.proofs.Weaken.{Weaker, good_weaker}
use Rattle.lsv_keeper.specs.Represents.{Free, Represents}
use Rattle.lsv_keeper.specs.Resuming.{IsCutInto, IsFound, IsLooked, IsResumeFault, JournalRose, LogRose, restart_refusal}
use Rattle.lsv_keeper.specs.Rows.{AllRose, Beside, Left, RowIs, AnswersWith}
use Rattle.lsv_keeper.specs.Value.{IsReserved, KeeperView, settings_of}
use Rattle.lsv_keeper.specs.declared.outcome.Outcome.TheVariants as outcome
use Rattle.lsv_keeper.proofs.Acting.{Concerns, OwnKeeps, acted, keeps_before, keeps_rests, about_some}
use Rattle.lsv_keeper.proofs.Counting.{NoneFell, counts_did, counts_marked, none_fell_on, rose_first, rose_none, rose_one}
use Rattle.lsv_keeper.proofs.Frames.{Laws, beside_on, beside_wider, resting}
use Rattle.lsv_keeper.proofs.Numbering.{beside_asked}
use Rattle.lsv_keeper.proofs.Reopening.{absent_of, cut_stands, damaged_of, free_log, keeps_cut, keeps_found, looked_rests, looked_stands, made_of, there_of}
use Rattle.lsv_keeper.proofs.Restarting.{AsksRestart, asks_now, at_absent, at_complete, at_damaged, at_full, at_no_point, at_owned, breaks_off, cut_is, fails_cut, marked_good, marked_weaker, meets_fault, plain_is, plainly_refused, refused_weaker, restart_act, settles_refused}

-- ---- Who is told of what

last_to : (k : ConnId) (answers : List Answer) → Last k answers → AllTo k answers
last_to k answers (by_refusal why e) = subst (AllTo k) (sym e) (refl, (refl, tt))
last_to k answers (by_shut e) = subst (AllTo k) (sym e) (refl, tt)

last_untold : (k : ConnId) (answers : List Answer) (n : ℕ) → Last k answers → tells_log n answers ≡ false
last_untold k answers n (by_refusal why e) = ap (tells_log n) e
last_untold k answers n (by_shut e) = ap (tells_log n) e

-- a restart concerns the log that it names
pub concerns_restart : (now : TimeSpec) (m : Machine) (job : Job) (restart : Restart) → AsksRestart m job restart → (act : Act) → act.job ≡ job → AllTo job.conn act.answers
    → ((n : ℕ) → tells_log n act.answers ≡ false) → Concerns (Some restart.log) m act
concerns_restart now m job restart a act is to untold = record {
  own = λ n e. absurd (let x : None ≡ Some n = sym a.idle ∙ (sym (ap (λ (j : Job). log_of (m.states j.conn)) is) ∙ e) in cc);
  to = subst (λ (j : Job). AllTo j.conn act.answers) (sym is) to;
  told = λ n e. absurd (let x : false ≡ true = sym (untold n) ∙ e in cc);
  read = λ n e. named n (subst (λ what. reads_log n (is_dead (m.states act.job.conn)) what act.answers ≡ true) (ap (λ (j : Job). request_in j.body) is ∙ a.request_is) e);
}
  where
    named : (n : ℕ) → reads_log n (is_dead (m.states act.job.conn)) (Ok (request.Restart restart)) act.answers ≡ true → Some restart.log ≡ Some n
    named n e = elim (eq_or restart.log n) [ equal p t ↦ ap Some p | unequal p t ↦ absurd (let x : reads_log n (is_dead (m.states act.job.conn)) (Ok (request.Restart restart)) act.answers ≡ false = rw t refl in cc) ]

-- ---- The connection is let go

-- the connection that is refused writes no log
pub record Quits (v v' : KeeperView) (k : ConnId) (m : Machine) (mid new : DiskView) : Type 0 where
  pub beside : Beside v.lane v.lanes None mid new
  pub represents : Represents v' new (leaves k Dead m)

pub quits : (v v1 v' : KeeperView) (k : ConnId) (m : Machine) (mid new : DiskView) → IsReserved v v1 → log_of (m.states k) ≡ None → Left k Dead v1 m v' mid new → Quits v v' k m mid new
quits v v1 v' k m mid new res idle left = record {
  beside =
      let x : Beside v1.lane v1.lanes None mid new = subst (λ (o : Option ℕ). Beside v1.lane v1.lanes o mid new) idle left.beside in
      let y : Beside v.lane v1.lanes None mid new = subst (λ (l : ℕ). Beside l v1.lanes None mid new) (ap (λ (u : KeeperView). u.lane) res.others) x in
      subst (λ (l : ℕ). Beside v.lane l None mid new) (ap (λ (u : KeeperView). u.lanes) res.others) y;
  represents =
      let same : left.left ≡ m = (let z : LeavesLog left.failed None None m left.left = subst (λ (o : Option ℕ). LeavesLog left.failed o None m left.left) idle left.log in z) in
      subst (λ (x : Machine). Represents v' new (leaves k Dead x)) same left.represents;
}

-- ---- Cuts that can be counted, or can't

pub cannot : (stored : Stored) (point x : ℕ) → first stored.records point ≡ Some x → drops stored point ≡ true → 2 ^ 63 - 1 ≤ stored.cuts → can_cut x stored ≡ false
cannot stored point x some drop full =
    let d : nat_lt x (length stored.records) ≡ true = ap (λ (o : Option ℕ). nat_lt (unwrap_or o (length stored.records)) (length stored.records)) (sym some) ∙ drop in
    let c : nat_lt (stored.cuts + 1) (2 ^ 63) ≡ false = grind (arith, nat_tests) in
    rw (d, c) refl

pub can : (stored : Stored) (point x : ℕ) → first stored.records point ≡ Some x → (drops stored point ≡ true → stored.cuts < 2 ^ 63 - 1) → can_cut x stored ≡ true
can stored point x some counted = go (nat_lt x (length stored.records)) refl
  where
    go : (b : Bool) → nat_lt x (length stored.records) ≡ b → can_cut x stored ≡ true
    go false d = rw d refl
    go true d =
        let few : stored.cuts < 2 ^ 63 - 1 = counted (ap (λ (o : Option ℕ). nat_lt (unwrap_or o (length stored.records)) (length stored.records)) some ∙ d) in
        let c : nat_lt (stored.cuts + 1) (2 ^ 63) ≡ true = grind (arith, nat_tests) in
        rw (d, c) refl

-- what a cut that failed left: the log, or it cut
pub record LeftCut (n point : ℕ) (stored : Stored) (was : LogState) (promised x : ℕ) (disk : DiskView) : Type 0 where
  pub now : Stored
  pub fails : FailsInCut point was (There now (min promised x))
  pub reads : Replays disk.reads n (Some now)
  pub enough : min promised x ≤ length now.records

take_all : (rs : List Record) → take (length rs) rs ≡ rs
take_all [] = refl
take_all (r ∷ rs) = ap (λ (ss : List Record). r ∷ ss) (take_all rs)

pub left_cut : (n point x : ℕ) (stored : Stored) (promised : ℕ) (was : LogState) (disk : DiskView) → was ≡ There stored promised → promised ≤ length stored.records → stored.exit ≡ None → first stored.records point ≡ Some x
    → (drops stored point ≡ true → stored.cuts < 2 ^ 63 - 1) → Replays disk.reads n (Some stored) ⊎ Replays disk.reads n (Some (cut_log stored point)) → LeftCut n point stored was promised x disk
left_cut n point x stored promised was disk is enough going some counted (inl whole) = record {
  now = stored;
  fails = record {
    stored = stored;
    promised = promised;
    was = is;
    unfinished = going;
    kept = x;
    ends = some;
    left = length stored.records;
    enough = omega arith;
    cuts = stored.cuts;
    counted = inl refl;
    now = ap (λ (rs : List Record). There (record stored { records = rs }) (min promised x)) (sym (take_all stored.records));
  };
  reads = whole;
  enough = omega arith;
}
left_cut n point x stored promised was disk is enough going some counted (inr short) = record {
  now = cut_to x stored;
  fails = record {
    stored = stored;
    promised = promised;
    was = is;
    unfinished = going;
    kept = x;
    ends = some;
    left = x;
    enough = omega arith;
    cuts = (cut_to x stored).cuts;
    counted = go (nat_lt x (length stored.records)) refl;
    now = refl;
  };
  reads = subst (λ (y : Stored). Replays disk.reads n (Some y)) (cut_is stored point x some) short;
  enough = (let within = (first_some stored.records point x some).within in grind (arith, common_steps));
}
  where
    go : (b : Bool) → nat_lt x (length stored.records) ≡ b → ((cut_to x stored).cuts ≡ stored.cuts) ⊎ (((cut_to x stored).cuts ≡ stored.cuts + 1) × ((cut_to x stored).cuts < 2 ^ 63))
    go false d = inl (rw d refl)
    go true d =
        let few : stored.cuts < 2 ^ 63 - 1 = counted (ap (λ (o : Option ℕ). nat_lt (unwrap_or o (length stored.records)) (length stored.records)) some ∙ d) in
        inr (rw d refl, rw d (omega arith))

-- ---- Rows

module _ (v v1 v' : KeeperView) (old mid new : DiskView) (m : Machine) (job : Job) (now : TimeSpec) (restart : Restart)
    (laws : Laws old) (laws1 : Laws mid) (at : Represents v old m) (res : IsReserved v v1) (a : AsksRestart m job restart) (free : m.owner restart.log ≡ None) (up : NoneFell old mid) where
  looked_beside : IsLooked restart.log old mid → Beside v.lane v.lanes (Some restart.log) old mid
  looked_beside looked = beside_asked v m restart.log _ old mid laws laws1 at (λ of_lane over. looked.unmade (at.unmade restart.log of_lane over)) looked.run up

  -- a job that ends the connection, where its log was looked at
  ends_row : (answers : List Answer) (failed : List Owner) → Last job.conn answers → IsLooked restart.log old mid → Quits v v' job.conn m mid new → AllRose failed old mid
      → Step (settings_of v) m (restart_act (settings_of v) now m job restart a answers failed false) (leaves job.conn Dead m)
      → OwnKeeps v restart.log (restart_act (settings_of v) now m job restart a answers failed false) m old mid → RowIs v now job answers m v' old new
  ends_row answers failed last looked q rose step keeps =
      let act = restart_act (settings_of v) now m job restart a answers failed false in
      let up' : NoneFell old new = none_fell_on old mid new up q.beside.monotone in (
        leaves job.conn Dead m,
        acted v now job (Some restart.log) act m (leaves job.conn Dead m) old new laws refl refl step
            (counts_did act old new up' (rose_first failed old mid new q.beside.monotone rose) refl)
            (about_some v.lane v.lanes restart.log m act (inr (inr (restart, asks_now m job restart a, refl))))
            (concerns_restart now m job restart a act refl (last_to job.conn answers last) (λ i. last_untold job.conn answers i last))
            (beside_on v.lane v.lanes (Some restart.log) old mid new (looked_beside looked) (beside_wider v.lane v.lanes (Some restart.log) mid new q.beside))
            (keeps_before v restart.log act m old mid new keeps (resting v.lane v.lanes None restart.log mid new laws1 (λ e. cc) q.beside)),
        q.represents,
      )

  -- nothing was told of what the log holds
  unlooked : (answers : List Answer) (failed : List Owner) → Last job.conn answers → is_look answers ≡ false → IsLooked restart.log old mid → OwnKeeps v restart.log (restart_act (settings_of v) now m job restart a answers failed false) m old mid
  unlooked answers failed last no_look looked =
      let act = restart_act (settings_of v) now m job restart a answers failed false in
      keeps_rests v restart.log act m old mid (looked_rests v.lane v.lanes restart.log old mid laws1 looked)
      (λ l stands. (refused_weaker m job restart a restart.log l act refl refl last, settles_refused m job restart a restart.log l act refl last no_look))

  looked_found : (answers : List Answer) (failed : List Owner) (stored : Stored) → Last job.conn answers → IsFound restart.log stored old mid → OwnKeeps v restart.log (restart_act (settings_of v) now m job restart a answers failed false) m old mid
  looked_found answers failed stored last found =
      let act = restart_act (settings_of v) now m job restart a answers failed false in
      keeps_found v restart.log act m old mid stored laws laws1 found (λ l stands. refused_weaker m job restart a restart.log l act refl refl last)

  wants_no_look : (answers : List Answer) → WantsMemory job.conn answers → is_look answers ≡ false
  wants_no_look answers (inl e) = ap is_look e
  wants_no_look answers (inr e) = ap is_look e

  -- memory ran out
  wants_row : (answers : List Answer) → WantsMemory job.conn answers → IsLooked restart.log old mid → Quits v v' job.conn m mid new → RowIs v now job answers m v' old new
  wants_row answers wants looked q =
      ends_row answers [] (wants_last job.conn answers wants) looked q (rose_none old mid) (breaks_off (settings_of v) now m job restart a answers wants)
      (unlooked answers [] (wants_last job.conn answers wants) (wants_no_look answers wants) looked)

  -- the table refuses it, and says nothing of what the log holds
  plain_row : (why : Refusal) → is_look (refusal job.conn why) ≡ false → Step (settings_of v) m (restart_act (settings_of v) now m job restart a (refusal job.conn why) [] false) (leaves job.conn Dead m)
      → IsLooked restart.log old mid → Quits v v' job.conn m mid new → RowIs v now job (refusal job.conn why) m v' old new
  plain_row why no_look step looked q = ends_row (refusal job.conn why) [] (by_refusal why refl) looked q (rose_none old mid) step (unlooked (refusal job.conn why) [] (by_refusal why refl) no_look looked)

  -- or it does
  found_row : (why : Refusal) (stored : Stored) → Step (settings_of v) m (restart_act (settings_of v) now m job restart a (refusal job.conn why) [] false) (leaves job.conn Dead m)
      → IsFound restart.log stored old mid → Quits v v' job.conn m mid new → RowIs v now job (refusal job.conn why) m v' old new
  found_row why stored step found q = ends_row (refusal job.conn why) [] (by_refusal why refl) found.looked q (rose_none old mid) step (looked_found (refusal job.conn why) [] stored (by_refusal why refl) found)

  its_free : Free v old m restart.log
  its_free = free_log v old m restart.log at free

  log_rose : LogRose restart.log old mid → AllRose (owners.Log restart.log ∷ []) old mid
  log_rose rose = rose_one (owners.Log restart.log) old mid rose

  -- a call on the log failed while it was looked at
  disk_row : (answers : List Answer) → IsRefused job.conn answers → IsLooked restart.log old mid → LogRose restart.log old mid → Quits v v' job.conn m mid new → RowIs v now job answers m v' old new
  disk_row answers refused_so looked rose q =
      let last = refused_last job.conn answers refused_so in
      ends_row answers (owners.Log restart.log ∷ []) last looked q (log_rose rose) (meets_fault (settings_of v) now m job restart a answers free refused_so)
      (unlooked answers (owners.Log restart.log ∷ []) last (no_look refused_so) looked)
    where
      no_look : IsRefused job.conn answers → is_look answers ≡ false
      no_look (inl e) = ap is_look e
      no_look (inr w) = wants_no_look answers w

  -- what the machine is, where its log was cut into
  pub record CutLeft (stored : Stored) : Type 0 where
    pub promised : ℕ
    pub x : ℕ
    pub ends : first stored.records restart.point ≡ Some x
    pub there : m.logs restart.log ≡ There stored promised
    pub left : LeftCut restart.log restart.point stored (m.logs restart.log) promised x mid

  pub cut_left : (stored : Stored) → IsCutInto restart.log restart.point stored old mid → CutLeft stored
  cut_left stored into =
      let there = there_of v old m restart.log stored its_free into.was in
      elim (some_or (first stored.records restart.point)) [
        | nothing e ↦ absurd (into.ends e)
        | just x e ↦ record {
          promised = there.promised;
          x = x;
          ends = e;
          there = there.there;
          left = left_cut restart.log restart.point x stored there.promised (m.logs restart.log) mid there.there there.enough into.going e into.counted (into.now mid.reads laws1.reads_itself);
        }
      ]

  -- the machine after a fault: its log was looked at, and then this is the row of its refusal; or it was cut into
  pub data Behind (fault : LogFault) : Type 0 where
    as_was : IsLooked restart.log old mid → Represents v1 mid m → (Quits v v' job.conn m mid new → RowIs v now job (refusal job.conn (restart_refusal fault)) m v' old new) → Behind fault
    was_cut : (stored : Stored) (c : CutLeft stored) → fault ≡ faults.Disk → IsCutInto restart.log restart.point stored old mid → JournalRose restart.log old mid
        → Represents v1 mid (with_log restart.log (There c.left.now (min c.promised c.x)) m) → Behind fault

  stays : (fault : LogFault) → IsLooked restart.log old mid → (Quits v v' job.conn m mid new → RowIs v now job (refusal job.conn (restart_refusal fault)) m v' old new) → Behind fault
  stays fault looked row = as_was looked (looked_stands v v1 old mid m restart.log at res free looked) row

  pub behind : (fault : LogFault) → IsResumeFault restart.log restart.point fault old mid → Behind fault
  behind faults.Absent (looked, none) = stays faults.Absent looked
      (λ q. plain_row refusals.NoSuchLog refl (plainly_refused (settings_of v) now m job restart a refusals.NoSuchLog (at_absent job.conn restart.log restart.point m free (absent_of v old m restart.log its_free none))) looked q)
  behind (faults.Damaged part) (looked, none) = stays (faults.Damaged part) looked
      (λ q. plain_row refusals.LogDamaged refl (plainly_refused (settings_of v) now m job restart a refusals.LogDamaged (at_damaged job.conn restart.log restart.point m free (damaged_of v old m restart.log its_free none))) looked q)
  behind faults.Complete (stored, found, done) =
      let there = there_of v old m restart.log stored its_free found.was in
      stays faults.Complete found.looked
      (λ q. found_row refusals.LogComplete stored (plainly_refused (settings_of v) now m job restart a refusals.LogComplete (at_complete job.conn restart.log restart.point m stored there.promised free there.there done)) found q)
  behind (faults.NoPoint other) (stored, found, going, none) =
      let there = there_of v old m restart.log stored its_free found.was in
      stays (faults.NoPoint other) found.looked
      (λ q. found_row refusals.NoSuchResumePoint stored (plainly_refused (settings_of v) now m job restart a refusals.NoSuchResumePoint (at_no_point job.conn restart.log restart.point m stored there.promised free there.there going none)) found q)
  behind (faults.Full part) (stored, found, going, ends, drop, full) =
      let there = there_of v old m restart.log stored its_free found.was in
      stays (faults.Full part) found.looked (λ q. elim (some_or (first stored.records restart.point)) [
        | nothing e ↦ absurd (ends e)
        | just x e ↦ plain_row refusals.LogFull refl
            (plainly_refused (settings_of v) now m job restart a refusals.LogFull (at_full job.conn restart.log restart.point x m stored there.promised free there.there going e (cannot stored restart.point x e drop full))) found.looked q
      ])
  behind faults.NoMem looked = stays faults.NoMem looked (λ q. wants_row (refusal job.conn refusals.OutOfMemory) (inl refl) looked q)
  behind (faults.TooLong time) f = absurd f
  behind faults.Broken f = absurd f
  behind faults.Disk (inl (looked, rose)) = stays faults.Disk looked (λ q. disk_row (refusal job.conn refusals.DeviceFault) (inl refl) looked rose q)
  behind faults.Disk (inr (stored, into, rose)) =
      let c = cut_left stored into in
      was_cut stored c refl into rose (cut_stands v v1 old mid m restart.log restart.point stored c.left.now (min c.promised c.x) laws at res free into c.left.reads c.left.enough)

  -- ---- A cut that failed

  cut_into_beside : (stored : Stored) → IsCutInto restart.log restart.point stored old mid → Beside v.lane v.lanes (Some restart.log) old mid
  cut_into_beside stored into = beside_asked v m restart.log _ old mid laws laws1 at (λ of_lane over. absurd (made_of restart.log stored old laws into.was (at.unmade restart.log of_lane over))) into.run up

  marked_keeps : (answers : List Answer) (stored : Stored) → Last job.conn answers → IsCutInto restart.log restart.point stored old mid → CutLeft stored
      → OwnKeeps v restart.log (restart_act (settings_of v) now m job restart a answers (owners.Log restart.log ∷ []) true) m old mid
  marked_keeps answers stored last into c =
      keeps_cut v restart.log act m old mid restart.point stored laws into (λ l stands good. short l good)
      (λ l stands good image is. elim (into.now image is) [
        | inl whole ↦ record { found = Some stored; is = whole; good = all l good }
        | inr cuts ↦ record { found = Some (cut_log stored restart.point); is = cuts; good = short l good }
      ])
    where
      act : Act
      act = restart_act (settings_of v) now m job restart a answers (owners.Log restart.log ∷ []) true

      weaker : (l : Ledger) → Weaker (record l { promised = lowered_to l.promised l.shown restart.point }) (noted restart.log l (Did act))
      weaker l = marked_weaker m job restart a l act refl refl last

      all : (l : Ledger) → GoodLog l (Some stored) → GoodLog (noted restart.log l (Did act)) (Some stored)
      all l good = good_weaker (record l { promised = lowered_to l.promised l.shown restart.point }) (noted restart.log l (Did act)) (Some stored) (weaker l)
          (marked_good l stored stored restart.point c.x (length stored.records) c.ends into.going good refl (sym (take_all stored.records)) into.going (inr refl))

      short : (l : Ledger) → GoodLog l (Some stored) → GoodLog (noted restart.log l (Did act)) (Some (cut_log stored restart.point))
      short l good = good_weaker (record l { promised = lowered_to l.promised l.shown restart.point }) (noted restart.log l (Did act)) (Some (cut_log stored restart.point)) (weaker l)
          (subst (λ (y : Stored). GoodLog (record l { promised = lowered_to l.promised l.shown restart.point }) (Some y)) (sym (cut_is stored restart.point c.x c.ends))
          (marked_good l stored (cut_to c.x stored) restart.point c.x c.x c.ends into.going good refl refl into.going (inl refl)))

  cut_row : (answers : List Answer) (stored : Stored) (c : CutLeft stored) → IsRefused job.conn answers → IsCutInto restart.log restart.point stored old mid → JournalRose restart.log old mid
      → Quits v v' job.conn (with_log restart.log (There c.left.now (min c.promised c.x)) m) mid new → RowIs v now job answers m v' old new
  cut_row answers stored c refused_so into rose q =
      let act = restart_act (settings_of v) now m job restart a answers (owners.Log restart.log ∷ []) true in
      let after = leaves job.conn Dead (with_log restart.log (There c.left.now (min c.promised c.x)) m) in
      let last = refused_last job.conn answers refused_so in
      let up' : NoneFell old new = none_fell_on old mid new up q.beside.monotone in
      let all_rose : AllRose (owners.Log restart.log ∷ []) old mid = rose_one (owners.Log restart.log) old mid (journal_of (owner_of restart.log), refl, rose) in (
        after,
        acted v now job (Some restart.log) act m after old new laws refl refl
            (fails_cut (settings_of v) now m job restart a answers (There c.left.now (min c.promised c.x)) free c.left.fails refused_so)
            (counts_marked act old new up' (rose_first (owners.Log restart.log ∷ []) old mid new q.beside.monotone all_rose) journal)
            (about_some v.lane v.lanes restart.log m act (inr (inr (restart, asks_now m job restart a, refl))))
            (concerns_restart now m job restart a act refl (last_to job.conn answers last) (λ i. last_untold job.conn answers i last))
            (beside_on v.lane v.lanes (Some restart.log) old mid new (cut_into_beside stored into) (beside_wider v.lane v.lanes (Some restart.log) mid new q.beside))
            (keeps_before v restart.log act m old mid new (marked_keeps answers stored last into c) (resting v.lane v.lanes None restart.log mid new laws1 (λ e. cc) q.beside)),
        q.represents,
      )
    where
      named : (i : ℕ) → asks_for i (Ok (request.Restart restart)) ≡ true → restart.log ≡ i
      named i e = elim (eq_or restart.log i) [ equal p t ↦ p | unequal p t ↦ absurd (let x : asks_for i (Ok (request.Restart restart)) ≡ false = rw t refl in cc) ]

      risen : HasRisen (old.faults (journal_of (owner_of restart.log))) (new.faults (journal_of (owner_of restart.log)))
      risen = risen_first (old.faults (journal_of (owner_of restart.log))) (mid.faults (journal_of (owner_of restart.log))) (new.faults (journal_of (owner_of restart.log))) rose (q.beside.monotone (journal_of (owner_of restart.log)))

      journal : (i : ℕ) → asks_for i (request_in job.body) ≡ true → HasRisen (old.faults (journal_of (owner_of i))) (new.faults (journal_of (owner_of i)))
      journal i e = subst (λ (j : ℕ). HasRisen (old.faults (journal_of (owner_of j))) (new.faults (journal_of (owner_of j)))) (named i (subst (λ what. asks_for i what ≡ true) a.request_is e)) risen

  -- ---- All of them

  pub refused_row : (fault : LogFault) → IsResumeFault restart.log restart.point fault old mid → ((m1 : Machine) → Represents v1 mid m1 → Left job.conn Dead v1 m1 v' mid new)
      → (answers : List Answer) → AnswersWith job.conn (outcome.Refused (restart_refusal fault)) answers → RowIs v now job answers m v' old new
  refused_row fault f left answers tells = elim (behind fault f) [
    | as_was looked is row ↦ go (quits v v1 v' job.conn m mid new res a.idle (left m is)) looked row tells
    | was_cut stored c disk into rose is ↦
        let m1 = with_log restart.log (There c.left.now (min c.promised c.x)) m in
        cut_row answers stored c (by_disk disk tells) into rose (quits v v1 v' job.conn m1 mid new res a.idle (left m1 is))
  ]
    where
      by_disk : fault ≡ faults.Disk → AnswersWith job.conn (outcome.Refused (restart_refusal fault)) answers → IsRefused job.conn answers
      by_disk e t = subst (λ (x : LogFault). (answers ≡ refusal job.conn (restart_refusal x)) ⊎ WantsMemory job.conn answers) e t

      go : Quits v v' job.conn m mid new → IsLooked restart.log old mid → (Quits v v' job.conn m mid new → RowIs v now job (refusal job.conn (restart_refusal fault)) m v' old new)
          → AnswersWith job.conn (outcome.Refused (restart_refusal fault)) answers → RowIs v now job answers m v' old new
      go q looked row (inl e) = subst (λ (said : List Answer). RowIs v now job said m v' old new) (sym e) (row q)
      go q looked row (inr wants) = wants_row answers wants looked q

-- ---- A log that is written

some_of : {A : Type 0} (o : Option A) → is_some o ≡ true → (x : A) × (o ≡ Some x)
some_of None e = absurd (cc)
some_of (Some x) e = (x, refl)

pub none_of : {A : Type 0} (o : Option A) → is_some o ≡ false → o ≡ None
none_of None e = refl
none_of (Some x) e = absurd (cc)

-- it is refused
pub in_use : (v : KeeperView) (now : TimeSpec) (m : Machine) (job : Job) (restart : Restart) (conn : ConnId) → job.conn ≡ conn → AsksRestart m job restart → is_some (m.owner restart.log) ≡ true
    → (i : ℕ) → plain (settings_of v) now job i m ≡ refused conn refusals.LogInUse m
in_use v now m job restart conn is a owned i =
    let (j, own) = some_of (m.owner restart.log) owned in
    plain_is (settings_of v) now m job restart a i ∙ (at_owned job.conn j restart.log restart.point m own ∙ ap (λ (k : ConnId). refused k refusals.LogInUse m) is)
