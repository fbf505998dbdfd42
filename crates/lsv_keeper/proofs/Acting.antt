-- One job as one fact: its step, what is counted, and what it leaves of each log.
use Rattle.std.proofs.Common.{◌≡◌, ◌≢◌, ◌≤◌, ℕ, List, [], ◌∷◌, map, refl, sym, ◌∙◌, ap, subst, inl, inr, arith, Option, Some, None, ◌⊎◌}
use Rattle.std.specs.Prelude.{◌==◌, ◌&&◌, ◌||◌, Bool, true, false, if◌then◌else◌, Result, Ok, Err}
use Rattle.lsv_base.specs.declared.time.TimeSpec.{TimeSpec}
use Rattle.lsv_disk.specs.Throughout.{Jointly}
use Rattle.lsv_disk.specs.View.{DiskView, Image, IsCrashImage}
use Rattle.lsv_disk.proofs.Composition.{jointly_widened}
use Rattle.lsv_info.specs.Layout.{exit_text}
use Rattle.lsv_iolog.specs.Recovered.{Replays}
use Rattle.lsv_iolog.specs.Value.{flushed}
use Rattle.lsv_iolog.proofs.Replaying.{one_replay}
use Rattle.lsv_iolog.proofs.Representing.{every_image}
use Rattle.lsv_record.specs.Points.{Stored}
use Rattle.lsv_record.specs.declared.records.Record.{Record}
use Rattle.lsv_request.specs.declared.refusal.Refusal.{Refusal}
use Rattle.lsv_request.specs.declared.refusal.Refusal.TheVariants as refusals
use Rattle.lsv_request.specs.declared.request.Request.{Request}
use Rattle.lsv_request.specs.declared.request.Request.TheVariants as request
use Rattle.lsv_session.specs.declared.connection.ConnId.{ConnId}
use Rattle.lsv_session.specs.declared.job.Job.{Job}
use Rattle.lsv_machine.specs.Answers.{Answer, Saying.Shut, farewell, is_silent, refusal, reply_of, say}
use Rattle.lsv_machine.specs.Counts.{Counts}
use Rattle.lsv_machine.specs.Disks.{AllGood, AsBefore, GoodOr, Rests, IsToldBy}
use Rattle.lsv_machine.specs.Durable.{ExitIs, GoodAt, GoodFor, GoodLog, IsPrefix, Keeps, Reading}
use Rattle.lsv_machine.specs.Failures.{Act, IsRefused, Step, WantsMemory}
use Rattle.lsv_machine.specs.History.{Ledger, asked, heard_all, is_exit, is_gone, is_look, lowered_to, noted, reads_log, reopened, request_in, settles, tells_log, writes}
use Rattle.lsv_machine.specs.Keeping.{Acted}
use Rattle.lsv_machine.specs.Machine.{LogState, LogState.There, Machine, is_dead, log_of, IsOfLane}
use Rattle.lsv_machine.specs.Silence.{AllTo}
use Rattle.lsv_machine.specs.Stands.{HoldsAt, HoldsRecords, StandsFor, as_list}
use Rattle.lsv_machine.specs.Turns.{Happened.Did}
use Rattle.lsv_machine.proofs.Fits.{writes_none}
use Rattle.lsv_machine.proofs.Folds.{Down, as_before_on, before_down, each_down, either_down, moments_on, rests_on}
use Rattle.lsv_machine.proofs.RecordLemmas.{prefix_all, prefix_trans, take_prefix}
use Rattle.lsv_machine.proofs.Untouched.{job_untouched}
use Rattle.lsv_machine.proofs.Weaken.{Lower, Weaker, at_same, at_weaker, lower_on, lower_same}
use Rattle.lsv_keeper.specs.Reading.{reading_of}
use Rattle.lsv_keeper.specs.Represents.{Held, LogIs, Represents}
use Rattle.lsv_keeper.specs.Rows.{AllParts, Beside, Closed, IsPartOf}
use Rattle.lsv_keeper.specs.Value.{KeeperView, settings_of}
use Rattle.lsv_keeper.proofs.Frames.{Laws, Resting, resting, touches_store}
use Rattle.lsv_keeper.proofs.Standing.{its_or}

-- ---- What a job concerns

-- of no other log than i, if there is one: the connection writes it, it is told of, or it is read for a restart
pub record Concerns (i : Option ℕ) (m : Machine) (act : Act) : Type 0 where
  pub own : (n : ℕ) → log_of (m.states act.job.conn) ≡ Some n → i ≡ Some n
  pub to : AllTo act.job.conn act.answers
  pub told : (n : ℕ) → tells_log n act.answers ≡ true → i ≡ Some n
  pub read : (n : ℕ) → reads_log n (is_dead (m.states act.job.conn)) (request_in act.job.body) act.answers ≡ true → i ≡ Some n

-- l' has the head and the records of l, promises no more, and no commit point has answered an exit since
pub record Owes (l l' : Ledger) : Type 0 where
  pub head : l'.head ≡ l.head
  pub shown : l'.shown ≡ l.shown
  pub lower : Lower l'.promised l.promised
  pub finished : l'.finished ≡ l.finished

pub owes_same : (l : Ledger) → Owes l l
owes_same l = record { head = refl; shown = refl; lower = lower_same l.promised; finished = refl }

pub owes_on : (a b c : Ledger) → Owes a b → Owes b c → Owes a c
owes_on a b c s t = record { head = t.head ∙ s.head; shown = t.shown ∙ s.shown; lower = lower_on c.promised b.promised a.promised t.lower s.lower; finished = t.finished ∙ s.finished }

pub owes_weaker : (a b : Ledger) → Weaker a b → Owes a b
owes_weaker a b w = record { head = w.head; shown = w.shown; lower = w.lower; finished = w.finished }

-- answers by which a session ends: nothing is accepted, told of a log or promised
pub record Ends (k : ConnId) (answers : List Answer) : Type 0 where
  pub to : AllTo k answers
  pub loud : is_silent answers ≡ false
  pub no_log : (n : ℕ) → tells_log n answers ≡ false
  pub no_look : is_look answers ≡ false
  pub owes : (exits : Bool) (l : Ledger) → Owes l (heard_all exits answers l)

pub ends_refusal : (k : ConnId) (why : Refusal) → is_look (refusal k why) ≡ false → Ends k (refusal k why)
ends_refusal k why look = record {
  to = (refl, (refl, tt));
  loud = refl;
  no_log = λ n. refl;
  no_look = look;
  owes = λ exits l. record { head = refl; shown = refl; lower = lower_same l.promised; finished = refl };
}

pub ends_shut : (k : ConnId) → Ends k (say k Shut ∷ [])
ends_shut k = record {
  to = (refl, tt);
  loud = refl;
  no_log = λ n. refl;
  no_look = refl;
  owes = λ exits l. record { head = refl; shown = refl; lower = lower_same l.promised; finished = refl };
}

pub ends_farewell : (k : ConnId) → Ends k (farewell k)
ends_farewell k = record {
  to = (refl, tt);
  loud = refl;
  no_log = λ n. refl;
  no_look = refl;
  owes = λ exits l. record { head = refl; shown = refl; lower = lower_same l.promised; finished = refl };
}

pub ends_wants : (k : ConnId) (answers : List Answer) → WantsMemory k answers → Ends k answers
ends_wants k answers (inl e) = subst (Ends k) (sym e) (ends_refusal k refusals.OutOfMemory refl)
ends_wants k answers (inr e) = subst (Ends k) (sym e) (ends_shut k)

pub ends_refused : (k : ConnId) (answers : List Answer) → IsRefused k answers → Ends k answers
ends_refused k answers (inl e) = subst (Ends k) (sym e) (ends_refusal k refusals.DeviceFault refl)
ends_refused k answers (inr w) = ends_wants k answers w

and_false : (b : Bool) → b && false ≡ false
and_false true = refl
and_false false = refl

reads_loud : (n : ℕ) (shut : Bool) (what : Result Request Refusal) (answers : List Answer) → is_silent answers ≡ false → is_look answers ≡ false → reads_log n shut what answers ≡ false
reads_loud n shut (Ok request.Hello) answers e f = refl
reads_loud n shut (Ok (request.Accept accept)) answers e f = refl
reads_loud n shut (Ok (request.Reject report)) answers e f = refl
reads_loud n shut (Ok (request.Alert report)) answers e f = refl
reads_loud n shut (Ok (request.Restart restart)) answers e f = rw (e, f) (and_false (restart.log == n))
reads_loud n shut (Ok (request.Record r)) answers e f = refl
reads_loud n shut (Ok (request.Exit exit)) answers e f = refl
reads_loud n shut (Err why) answers e f = refl

apart_of : (b : Bool) → b ≡ false → b ≡ true → ⊥
apart_of b e f = let g : false ≡ true = sym e ∙ f in cc

-- a job with such answers concerns the log that its connection writes, if there is one
pub concerns_ends : (i : Option ℕ) (m : Machine) (act : Act) → ((n : ℕ) → log_of (m.states act.job.conn) ≡ Some n → i ≡ Some n) → Ends act.job.conn act.answers → Concerns i m act
concerns_ends i m act own ends = record {
  own = own;
  to = ends.to;
  told = λ n e. absurd (apart_of (tells_log n act.answers) (ends.no_log n) e);
  read = λ n e. absurd (apart_of (reads_log n (is_dead (m.states act.job.conn)) (request_in act.job.body) act.answers)
      (reads_loud n (is_dead (m.states act.job.conn)) (request_in act.job.body) act.answers ends.loud ends.no_look) e);
}

-- and a silent one besides the log that it restarts
pub concerns_silent : (i : Option ℕ) (m : Machine) (act : Act) → act.answers ≡ [] → ((n : ℕ) → log_of (m.states act.job.conn) ≡ Some n → i ≡ Some n)
    → ((n : ℕ) → reads_log n (is_dead (m.states act.job.conn)) (request_in act.job.body) [] ≡ true → i ≡ Some n) → Concerns i m act
concerns_silent i m act silent own read = record {
  own = own;
  to = subst (AllTo act.job.conn) (sym silent) tt;
  told = λ n e. absurd (let f : tells_log n [] ≡ true = subst (λ (said : List Answer). tells_log n said ≡ true) silent e in cc);
  read = λ n e. read n (subst (λ (said : List Answer). reads_log n (is_dead (m.states act.job.conn)) (request_in act.job.body) said ≡ true) silent e);
}

restart_owes : (it in_cut : Bool) (point : ℕ) (l : Ledger) → Owes l (if it then (if in_cut then record l { promised = lowered_to l.promised l.shown point } else l) else l)
restart_owes true true point l = record { head = refl; shown = refl; lower = lowered l.promised; finished = refl }
  where
    lowered : (o : Option ℕ) → Lower (lowered_to o l.shown point) o
    lowered None = tt
    lowered (Some p) = omega arith
restart_owes true false point l = owes_same l
restart_owes false in_cut point l = owes_same l

exit_owes : (it : Bool) (text : List ℕ) (l : Ledger) → Owes l (if it then record l { exit = Some text } else l)
exit_owes true text l = record { head = refl; shown = refl; lower = lower_same l.promised; finished = refl }
exit_owes false text l = owes_same l

asked_owes : (n : ℕ) (k : ConnId) (what : Result Request Refusal) (answers : List Answer) (in_cut : Bool) (l : Ledger) → is_silent answers ≡ false → tells_log n answers ≡ false
    → Owes l (asked n k what answers in_cut l)
asked_owes n k (Ok request.Hello) answers in_cut l e d = owes_same l
asked_owes n k (Ok (request.Accept accept)) answers in_cut l e d = rw d (owes_same l)
asked_owes n k (Ok (request.Reject report)) answers in_cut l e d = owes_same l
asked_owes n k (Ok (request.Alert report)) answers in_cut l e d = owes_same l
asked_owes n k (Ok (request.Restart restart)) answers in_cut l e d = rw e (restart_owes (restart.log == n) in_cut restart.point l)
asked_owes n k (Ok (request.Record r)) answers in_cut l e d = rw e (owes_same l)
asked_owes n k (Ok (request.Exit exit)) answers in_cut l e d = exit_owes (writes l k) (exit_text exit) l
asked_owes n k (Err why) answers in_cut l e d = owes_same l

reopened_owes : (k : ConnId) (b : Bool) (l : Ledger) → Owes l (reopened k b l)
reopened_owes k true l = record { head = refl; shown = refl; lower = lower_same l.promised; finished = refl }
reopened_owes k false l = owes_same l

-- after a job with such answers a log owes what it did
pub ends_owes : (n : ℕ) (act : Act) → Ends act.job.conn act.answers → (l : Ledger) → Owes l (noted n l (Did act))
ends_owes n act ends l =
    let what = request_in act.job.body in
    let one = asked n act.job.conn what act.answers act.in_cut l in
    let two = heard_all (is_exit what) act.answers one in
    let three = reopened act.job.conn (is_gone act.job.body) two in
    owes_on l one three (asked_owes n act.job.conn what act.answers act.in_cut l ends.loud (ends.no_log n))
    (owes_on one two three (ends.owes (is_exit what) one) (reopened_owes act.job.conn (is_gone act.job.body) two))

-- ---- One log

-- what a job owes of log i: the two fields of Acted
pub record OwnKeeps (v : KeeperView) (i : ℕ) (act : Act) (m : Machine) (old new : DiskView) : Type 0 where
  pub settled : (l : Ledger) → StandsFor (settings_of v) i m l → AllGood (reading_of v.lane v.lanes) l i (IsCrashImage old)
      → Jointly (GoodOr (reading_of v.lane v.lanes) l (noted i l (Did act)) i) old new × AllGood (reading_of v.lane v.lanes) (noted i l (Did act)) i (IsCrashImage new)
  pub unsettled : (l : Ledger) → StandsFor (settings_of v) i m l → l.writers ≡ [] → GoodAt (reading_of v.lane v.lanes) l i old.reads
      → Jointly (λ images. AsBefore (reading_of v.lane v.lanes) i (IsCrashImage old) images ⊎ GoodOr (reading_of v.lane v.lanes) l (noted i l (Did act)) i images) old new
      × (AllGood (reading_of v.lane v.lanes) (noted i l (Did act)) i (IsCrashImage new) ⊎ ((settles i l (Did act) ≡ false) × Rests (reading_of v.lane v.lanes) i old new))

abbrev pub OwnIf : KeeperView → Option ℕ → Act → Machine → DiskView → DiskView → Type 0
OwnIf v None act m old new = Unit {0}
OwnIf v (Some i) act m old new = OwnKeeps v i act m old new

-- images that hold of the log what good ones held are good
pub was_good : (r : Reading) (i : ℕ) (l : Ledger) (old : DiskView) (images : Image → Type 0) → AllGood r l i (IsCrashImage old) → AsBefore r i (IsCrashImage old) images → AllGood r l i images
was_good r i l old images all before image is = let (was, crash, same) = before image is in at_same r l i was image same (all was crash)

-- a log that rests, of which the job says nothing new
pub keeps_rests : (v : KeeperView) (i : ℕ) (act : Act) (m : Machine) (old new : DiskView) → Resting v.lane v.lanes i old new
    → ((l : Ledger) → StandsFor (settings_of v) i m l → Weaker l (noted i l (Did act)) × (settles i l (Did act) ≡ false)) → OwnKeeps v i act m old new
keeps_rests v i act m old new rests says = record {
  settled = λ l stands all. (
    jointly_widened (AsBefore r i (IsCrashImage old)) (GoodOr r l (noted i l (Did act)) i) old new (λ images before image is. inl (was_good r i l old images all before image is)) rests.moments,
    λ image is. at_weaker r l (noted i l (Did act)) i image (says l stands).0 (was_good r i l old (IsCrashImage new) all rests.rests.images image is),
  );
  unsettled = λ l stands free good. (
    jointly_widened (AsBefore r i (IsCrashImage old)) (λ images. AsBefore r i (IsCrashImage old) images ⊎ GoodOr r l (noted i l (Did act)) i images) old new (λ images before. inl before) rests.moments,
    inr ((says l stands).1, rests.rests),
  );
}
  where
    r : Reading
    r = reading_of v.lane v.lanes

-- a log that is written owes the first field alone
pub keeps_owned : (v : KeeperView) (i : ℕ) (k : ConnId) (act : Act) (m : Machine) (old new : DiskView) → m.owner i ≡ Some k
    → ((l : Ledger) → StandsFor (settings_of v) i m l → AllGood (reading_of v.lane v.lanes) l i (IsCrashImage old)
    → Jointly (GoodOr (reading_of v.lane v.lanes) l (noted i l (Did act)) i) old new × AllGood (reading_of v.lane v.lanes) (noted i l (Did act)) i (IsCrashImage new))
    → OwnKeeps v i act m old new
keeps_owned v i k act m old new own settled = record {
  settled = settled;
  unsettled = λ l stands free good. absurd (let e : [] ≡ k ∷ [] = sym free ∙ stands.agrees.writers ∙ ap as_list own in cc);
}

good_down : (r : Reading) (i : ℕ) (l l' : Ledger) → Down (GoodOr r l l' i)
good_down r i l l' = each_down (λ image. GoodAt r l i image ⊎ GoodAt r l' i image)

-- calls before, or after, in which the log rests
pub keeps_after : (v : KeeperView) (i : ℕ) (act : Act) (m : Machine) (a b c : DiskView) → Resting v.lane v.lanes i a b → OwnKeeps v i act m b c → OwnKeeps v i act m a c
keeps_after v i act m a b c rests keeps = record {
  settled = λ l stands all.
      let (moments, now) = keeps.settled l stands (was_good r i l a (IsCrashImage b) all rests.rests.images) in (
        moments_on (AsBefore r i (IsCrashImage a)) (GoodOr r l (noted i l (Did act)) i) (GoodOr r l (noted i l (Did act)) i) a b c (good_down r i l (noted i l (Did act)))
            (λ images before image is. inl (was_good r i l a images all before image is)) (λ images x. x) rests.moments moments,
        now,
      );
  unsettled = λ l stands free good.
      let (moments, now) = keeps.unsettled l stands free (at_same r l i a.reads b.reads rests.rests.reads good) in (
        moments_on (AsBefore r i (IsCrashImage a)) (λ images. AsBefore r i (IsCrashImage b) images ⊎ GoodOr r l (noted i l (Did act)) i images)
            (λ images. AsBefore r i (IsCrashImage a) images ⊎ GoodOr r l (noted i l (Did act)) i images) a b c
            (either_down (AsBefore r i (IsCrashImage a)) (GoodOr r l (noted i l (Did act)) i) (before_down r i (IsCrashImage a)) (good_down r i l (noted i l (Did act))))
            (λ images x. inl x) (λ images x. elim x [ inl y ↦ inl (as_before_on r i (IsCrashImage a) (IsCrashImage b) images rests.rests.images y) | inr y ↦ inr y ]) rests.moments moments,
        elim now [ inl all ↦ inl all | inr rested ↦ inr (rested.0, rests_on r i a b c rests.rests rested.1) ],
      );
}
  where
    r : Reading
    r = reading_of v.lane v.lanes

pub keeps_before : (v : KeeperView) (i : ℕ) (act : Act) (m : Machine) (a b c : DiskView) → OwnKeeps v i act m a b → Resting v.lane v.lanes i b c → OwnKeeps v i act m a c
keeps_before v i act m a b c keeps rests = record {
  settled = λ l stands all.
      let (moments, now) = keeps.settled l stands all in (
        moments_on (GoodOr r l (noted i l (Did act)) i) (AsBefore r i (IsCrashImage b)) (GoodOr r l (noted i l (Did act)) i) a b c (good_down r i l (noted i l (Did act)))
            (λ images x. x) (λ images before image is. inr (was_good r i (noted i l (Did act)) b images now before image is)) moments rests.moments,
        was_good r i (noted i l (Did act)) b (IsCrashImage c) now rests.rests.images,
      );
  unsettled = λ l stands free good. (let (moments, now) = keeps.unsettled l stands free good in unsettled l moments now);
}
  where
    r : Reading
    r = reading_of v.lane v.lanes

    unsettled : (l : Ledger) → Jointly (λ images. AsBefore r i (IsCrashImage a) images ⊎ GoodOr r l (noted i l (Did act)) i images) a b
        → AllGood r (noted i l (Did act)) i (IsCrashImage b) ⊎ ((settles i l (Did act) ≡ false) × Rests r i a b)
        → Jointly (λ images. AsBefore r i (IsCrashImage a) images ⊎ GoodOr r l (noted i l (Did act)) i images) a c
        × (AllGood r (noted i l (Did act)) i (IsCrashImage c) ⊎ ((settles i l (Did act) ≡ false) × Rests r i a c))
    unsettled l moments (inl now) = (
      moments_on (λ images. AsBefore r i (IsCrashImage a) images ⊎ GoodOr r l (noted i l (Did act)) i images) (AsBefore r i (IsCrashImage b))
          (λ images. AsBefore r i (IsCrashImage a) images ⊎ GoodOr r l (noted i l (Did act)) i images) a b c
          (either_down (AsBefore r i (IsCrashImage a)) (GoodOr r l (noted i l (Did act)) i) (before_down r i (IsCrashImage a)) (good_down r i l (noted i l (Did act))))
          (λ images x. x) (λ images before. inr (λ image is. inr (was_good r i (noted i l (Did act)) b images now before image is))) moments rests.moments,
      inl (was_good r i (noted i l (Did act)) b (IsCrashImage c) now rests.rests.images),
    )
    unsettled l moments (inr (not_settled, rested)) = (
      moments_on (λ images. AsBefore r i (IsCrashImage a) images ⊎ GoodOr r l (noted i l (Did act)) i images) (AsBefore r i (IsCrashImage b))
          (λ images. AsBefore r i (IsCrashImage a) images ⊎ GoodOr r l (noted i l (Did act)) i images) a b c
          (either_down (AsBefore r i (IsCrashImage a)) (GoodOr r l (noted i l (Did act)) i) (before_down r i (IsCrashImage a)) (good_down r i l (noted i l (Did act))))
          (λ images x. x) (λ images before. inl (as_before_on r i (IsCrashImage a) (IsCrashImage b) images rested.images before)) moments rests.moments,
      inr (not_settled, rests_on r i a b c rested rests.rests),
    )

-- ---- A log that is written

-- what a history says of a log that holds these records, and promises this many
pub record Owned (l : Ledger) (whole : Stored) (promised : ℕ) : Type 0 where
  pub head : whole.head ≡ l.head
  pub shown : IsPrefix whole.records l.shown
  pub told : ℕ
  pub is_told : l.promised ≡ Some told
  pub enough : told ≤ promised
  pub unfinished : l.finished ≡ false

-- a written log is so, with all that was shown
pub owned : (v : KeeperView) (disk : DiskView) (m : Machine) (i : ℕ) (k : ConnId) (whole : Stored) (promised : ℕ) (l : Ledger) → Represents v disk m → Laws disk → m.owner i ≡ Some k
    → m.logs i ≡ There whole promised → StandsFor (settings_of v) i m l → GoodAt (reading_of v.lane v.lanes) l i disk.reads → Owned l whole promised × (whole.records ≡ l.shown)
owned v disk m i k whole promised l at laws own there stands good =
    let h : Held v disk m i = subst (LogIs v disk m i) own (at.logs i) in
    let same : There (flushed h.value) h.promised ≡ There whole promised = sym h.there ∙ there in
    let is_whole : flushed h.value ≡ whole = cc in
    let holds : HoldsRecords whole promised (m.owner i) l.shown l.promised = subst (λ (x : LogState). HoldsAt x (m.owner i) l.shown l.promised) there stands.holds in
    let shown : whole.records ≡ l.shown = holds.whole k own in
    let told = holds.is_told k own in
    let reads : Replays disk.reads i (Some h.value.stored) = subst (λ (x : ℕ). Replays disk.reads x (Some h.value.stored)) h.number (every_image h.its.log h.value disk h.represents disk.reads laws.reads_itself) in
    let found : good.found ≡ Some h.value.stored = one_replay disk.reads i good.found (Some h.value.stored) good.is reads in
    let kept : Keeps l told.0 h.value.stored = subst (λ (t : Option ℕ). GoodFor l t (Some h.value.stored)) told.1 (subst (GoodLog l) found good.good) in (
      record {
        head = ap (λ (x : Stored). x.head) (sym is_whole) ∙ kept.head;
        shown = prefix_all whole.records l.shown shown;
        told = told.0;
        is_told = told.1;
        enough = holds.alike told.0 told.1;
        unfinished = subst (ExitIs l h.value.stored.records) h.going kept.exit;
      },
      shown,
    )

lower_told : (o o' : Option ℕ) (p : ℕ) → o ≡ Some p → Lower o' o → (q : ℕ) × (o' ≡ Some q) × (q ≤ p)
lower_told None o' p e low = absurd (cc)
lower_told (Some x) None p e low = absurd low
lower_told (Some x) (Some q) p e low = (q, refl, (let f : x ≡ p = cc in omega arith))

pub owned_owes : (l l' : Ledger) (whole : Stored) (promised : ℕ) → Owes l l' → Owned l whole promised → Owned l' whole promised
owned_owes l l' whole promised w o =
    let (p, is, le) = lower_told l.promised l'.promised o.told o.is_told w.lower in
    record {
      head = o.head ∙ sym w.head;
      shown = record { rest = o.shown.rest; is = o.shown.is ∙ sym w.shown };
      told = p;
      is_told = is;
      enough = let x = o.enough in omega arith;
      unfinished = w.finished ∙ o.unfinished;
    }

-- an image with a part of it is good
pub part_good : (lane lanes i : ℕ) (l : Ledger) (whole part : Stored) (promised : ℕ) (image : Image) → Owned l whole promised → IsPartOf whole promised part → Replays image i (Some part)
    → GoodAt (reading_of lane lanes) l i image
part_good lane lanes i l whole part promised image o p is = record {
  found = Some part;
  is = is;
  good = subst (λ (t : Option ℕ). GoodFor l t (Some part)) (sym o.is_told) (record {
    head = p.head ∙ o.head;
    prefix = prefix_trans part.records whole.records l.shown (subst (λ (rs : List Record). IsPrefix rs whole.records) (sym p.records) (take_prefix p.left whole.records)) o.shown;
    enough = let x = o.enough in let y = p.enough in omega arith;
    exit = subst (ExitIs l part.records) (sym p.going) o.unfinished;
  });
}

-- a written log of which each image has a part, for a history that says of it what it did, or more records
pub keeps_parts : (v : KeeperView) (i : ℕ) (k : ConnId) (whole : Stored) (promised : ℕ) (act : Act) (m : Machine) (old new : DiskView) → Represents v old m → Laws old → m.owner i ≡ Some k
    → m.logs i ≡ There whole promised → Jointly (AllParts i whole promised) old new → AllParts i whole promised (IsCrashImage new)
    → ((l : Ledger) → StandsFor (settings_of v) i m l → Owned l whole promised → Owned (noted i l (Did act)) whole promised) → OwnKeeps v i act m old new
keeps_parts v i k whole promised act m old new at laws own there moments now says = keeps_owned v i k act m old new own settled
  where
    r : Reading
    r = reading_of v.lane v.lanes

    settled : (l : Ledger) → StandsFor (settings_of v) i m l → AllGood r l i (IsCrashImage old) → Jointly (GoodOr r l (noted i l (Did act)) i) old new × AllGood r (noted i l (Did act)) i (IsCrashImage new)
    settled l stands all =
        let o : Owned l whole promised = (owned v old m i k whole promised l at laws own there stands (all old.reads laws.reads_itself)).0 in (
          jointly_widened (AllParts i whole promised) (GoodOr r l (noted i l (Did act)) i) old new
              (λ images parts image is. (let (part, reads, p) = parts image is in inl (part_good v.lane v.lanes i l whole part promised image o p reads))) moments,
          λ image is. (let (part, reads, p) = now image is in part_good v.lane v.lanes i (noted i l (Did act)) whole part promised image (says l stands o) p reads),
        )

-- a log that its connection lets go, with answers by which a session ends
pub closed_keeps : (v : KeeperView) (i : ℕ) (act : Act) (m : Machine) (old new : DiskView) → Represents v old m → Laws old → log_of (m.states act.job.conn) ≡ Some i → Closed i m old new
    → Ends act.job.conn act.answers → OwnKeeps v i act m old new
closed_keeps v i act m old new at laws own closed ends =
    keeps_parts v i act.job.conn closed.whole closed.promised act m old new at laws (at.sound.owned act.job.conn i own) closed.was closed.moments closed.now
    (λ l stands o. owned_owes l (noted i l (Did act)) closed.whole closed.promised (ends_owes i act ends l) o)

-- ---- All logs

is_false : (b : Bool) → (b ≡ true → ⊥) → b ≡ false
is_false true no_way = absurd (no_way refl)
is_false false no_way = refl

-- a log that a job doesn't concern
pub unconcerned : (v : KeeperView) (i : Option ℕ) (n : ℕ) (act : Act) (m : Machine) (l : Ledger) → Concerns i m act → i ≢ Some n → StandsFor (settings_of v) n m l
    → Weaker l (noted n l (Did act)) × (settles n l (Did act) ≡ false)
unconcerned v i n act m l concerns other stands =
    let k = act.job.conn in
    let writes_not : writes l k ≡ false = writes_none l k (m.owner n) stands.agrees.writers (λ e. other (concerns.own n (stands.sound.owns n k e))) in
    let tells : tells_log n act.answers ≡ false = is_false (tells_log n act.answers) (λ e. other (concerns.told n e)) in
    let reads : reads_log n (is_dead (m.states k)) (request_in act.job.body) act.answers ≡ false =
    is_false (reads_log n (is_dead (m.states k)) (request_in act.job.body) act.answers) (λ e. other (concerns.read n e)) in
    let reads' : reads_log n (l.shut k) (request_in act.job.body) act.answers ≡ false =
    subst (λ (b : Bool). reads_log n b (request_in act.job.body) act.answers ≡ false) (sym (stands.agrees.shut k)) reads in
    let settles_not : settles n l (Did act) ≡ false = ap (λ (b : Bool). b || reads_log n (l.shut k) (request_in act.job.body) act.answers) tells ∙ reads' in
    ((job_untouched n l act writes_not concerns.to settles_not).weaker, settles_not)

-- the files that a job may touch are the lane's: its log, if there is one, is the lane's own, or is written, or is one that the job asks to go on with
abbrev pub IsAbout : (lane lanes : ℕ) → Option ℕ → Machine → Act → Type 0
IsAbout lane lanes i m act = (n : ℕ) → i ≡ Some n → IsOfLane lane lanes n ⊎ IsToldBy m act n

pub about_none : (lane lanes : ℕ) (m : Machine) (act : Act) → IsAbout lane lanes None m act
about_none lane lanes m act n e = absurd (let x : None ≡ Some n = e in cc)

pub about_own : (lane lanes : ℕ) (m : Machine) (act : Act) → ((n : ℕ) → log_of (m.states act.job.conn) ≡ Some n → m.owner n ≡ Some act.job.conn) → IsAbout lane lanes (log_of (m.states act.job.conn)) m act
about_own lane lanes m act owned n e = inr (inl (act.job.conn, owned n e))

pub about_some : (lane lanes i : ℕ) (m : Machine) (act : Act) → IsOfLane lane lanes i ⊎ IsToldBy m act i → IsAbout lane lanes (Some i) m act
about_some lane lanes i m act is n e = subst (λ (x : ℕ). IsOfLane lane lanes x ⊎ IsToldBy m act x) (let x : Some i ≡ Some n = e in cc) is

-- a job is acted: what it concerns keeps what it owes, and every other log rests
pub acted : (v : KeeperView) (now : TimeSpec) (job : Job) (i : Option ℕ) (act : Act) (m after : Machine) (old new : DiskView) → Laws old → act.job ≡ job → act.now ≡ now
    → Step (settings_of v) m act after → Counts (Did act ∷ []) old new → IsAbout v.lane v.lanes i m act → Concerns i m act → Beside v.lane v.lanes i old new → OwnIf v i act m old new
    → Acted (reading_of v.lane v.lanes) (settings_of v) now job (map reply_of act.answers) m after old new
acted v now job i act m after old new laws job_is now_is step counts about concerns beside own = record {
  act = act;
  job_is = job_is;
  now_is = now_is;
  replies_are = refl;
  step = step;
  counts = counts;
  settled_logs = λ l n. (keeps n).settled l;
  unsettled_logs = λ l n. (keeps n).unsettled l;
  files = touches_store v.lane v.lanes (IsToldBy m act) i old new about beside;
  numbers = beside.numbers;
  lines = beside.lines;
}
  where
    keeps : (n : ℕ) → OwnKeeps v n act m old new
    keeps n = elim (its_or i n) [
      | inl e ↦ subst (λ (x : Option ℕ). OwnIf v x act m old new) e own
      | inr other ↦ keeps_rests v n act m old new (resting v.lane v.lanes i n old new laws other beside) (λ l stands. unconcerned v i n act m l concerns other stands)
    ]
