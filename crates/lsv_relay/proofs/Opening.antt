-- A relay is opened: the log is only read, and then what is kept is opened.
use Rattle.std.proofs.Common.{◌≡◌, ◌≢◌, ◌≤◌, inl, inr, ℕ, List, [], Option, None, Some, Bool, true, false, if◌then◌else◌, arith, Result, Ok, Err, IfOk, IfErr, IsErr, IsErrAnd, refl, sym, ◌∙◌, ap, subst}
use Rattle.lsv_disk.specs.declared.file.FileId.{FileId}
use Rattle.lsv_disk.specs.declared.file.Owner.TheVariants as owners
use Rattle.lsv_disk.specs.declared.file.Part.TheVariants.{Slots}
use Rattle.lsv_iolog.specs.Recovered as logs
use Rattle.lsv_journal.specs.Last.{IsOwn}
use Rattle.lsv_journal.proofs.Laws.{own_cases}
use Rattle.lsv_disk.specs.Throughout.{OnlyReads, Throughout}
use Rattle.lsv_disk.specs.View.{DiskView, Image, IsCrashImage}
use Rattle.lsv_disk.proofs.Composition.{followed, unchanged_crash, widened}
use Rattle.lsv_kept.specs.Aim.{AimView}
use Rattle.lsv_kept.specs.Kept.{IsAsBefore, IsMarkedAt, IsOfRelay, Keeps}
use Rattle.lsv_kept.specs.declared.state.State.{State}
use Rattle.lsv_kept.specs.declared.state.State.TheVariants as states
use Rattle.lsv_kept.proofs.Opening.{reads_as_before, same_image}
use Rattle.lsv_kept.proofs.Unique.{marked_keeps}
use Rattle.lsv_bundle.specs.Body.{IsBody, encoded}
use Rattle.lsv_bundle.specs.Value.{BundleView}
use Rattle.lsv_bundle.specs.declared.body.Body.{Body}
use Rattle.lsv_bundle.proofs.Laws.{one_body}
use Rattle.lsv_iolog.specs.Reading.{ViewState}
use Rattle.lsv_journal.specs.Last.{LastAt}
use Rattle.lsv_kept.specs.Value as keeping
use Rattle.lsv_kept.specs.Value.{KeepingView, is_done}
use Rattle.lsv_record.specs.declared.records.Record.{Record}
use Rattle.lsv_bundle.specs.declared.fault.BundleFault.TheVariants as bundles
use Rattle.lsv_iolog.specs.declared.fault.ViewFault.TheVariants as reads
use Rattle.lsv_relay.specs.Complete.{IsComplete, IsReadable, IsRelayed, IsTimed}
use Rattle.lsv_relay.specs.Faults.{IsOpenCause, IsUndoneCause}
use Rattle.lsv_relay.specs.declared.fault.RelayFault.TheVariants as faults
use Rattle.lsv_relay.specs.Inner.{first_place}
use Rattle.lsv_relay.specs.Talks.{HasLog, IsOpened, Stands}
use Rattle.lsv_relay.specs.Value.{RelayView, aim_of, state_of}
use Rattle.lsv_relay.specs.declared.relay.Place.{Place}
use Rattle.lsv_relay.specs.declared.relay.Place.TheVariants as places
use Rattle.lsv_relay.proofs.Logs.{log_elsewhere, log_stays}
use Rattle.lsv_relay.specs.declared.fault.RelayFault.{RelayFault}

-- what is said of how a disk reads was so before it was only read
pub as_read : (P : Image → Type 0) (old new : DiskView) → OnlyReads old new → P new.reads → P old.reads
as_read P old new reads is = subst P (same_image old new reads) is

-- and it is so after it
pub still_read : (P : Image → Type 0) (old new : DiskView) → OnlyReads old new → P old.reads → P new.reads
still_read P old new reads is = subst P (sym (same_image old new reads)) is

-- it is only read, and then opened
pub then_as_before : (n : ℕ) (old mid new : DiskView) → OnlyReads old mid → Throughout (IsOfRelay n) (IsAsBefore n mid) mid new → Throughout (IsOfRelay n) (IsAsBefore n old) old new
then_as_before n old mid new reads run = followed (IsOfRelay n) (IsAsBefore n old) old mid new (reads_as_before n old mid reads)
    (widened (IsOfRelay n) (IsOfRelay n) (IsAsBefore n mid) (IsAsBefore n old) mid new (λ g own. own) (λ image held beside. record { before = held.before; was = unchanged_crash old mid reads.unchanged held.before held.was; entry = held.entry; same = held.same; back = held.back }) run)

-- what is kept of a log that isn't marked isn't that it is relayed
pub unmarked_undone : (n : ℕ) (aim : AimView) (image : Image) (state : State) → (IsMarkedAt n aim.total image → ⊥) → Keeps n aim image state → state ≢ states.Done
unmarked_undone n aim image state unmarked keeps done = unmarked ((marked_keeps n aim image).1 (subst (Keeps n aim image) done keeps))

-- the files of the log's journal are its own
pub slots_own : (n m : ℕ) (slots : FileId) → slots ≡ record { owner = owners.Log m; part = Slots } → m ≡ n → (g : FileId) → IsOwn slots g → logs.IsOfLog n g
slots_own n m slots is same g own = elim (own_cases slots g own) [
  | inl one ↦ ap (λ (f : FileId). f.owner) one ∙ (ap (λ (f : FileId). f.owner) is ∙ ap owners.Log same)
  | inr two ↦ ap (λ (f : FileId). f.owner) two ∙ (ap (λ (f : FileId). f.owner) is ∙ ap owners.Log same)
]

pub is_err : {T E : Type 0} (r : Result T E) → ((x : T) → r ≡ Ok x → ⊥) → IsErr r
is_err (Ok x) never = absurd (never x refl)
is_err (Err e) never = refl

-- ---- why it isn't opened

pub err_same : {T : Type 0} (r : Result T RelayFault) (e d : RelayFault) → IsErrAnd r (λ x. x ≡ e) → r ≡ Err d → e ≡ d
err_same (Ok x) e d is same = absurd is
err_same (Err y) e d is same = let at : y ≡ d = cc in sym is ∙ at

-- ---- what is kept when it is opened

-- of a log that is marked, that it is relayed
pub done_kept : (n : ℕ) (relay : RelayView) (old mid new : DiskView) → state_of relay ≡ states.Done → OnlyReads old mid → OnlyReads mid new → IsMarkedAt n (aim_of relay).total mid.reads
    → Keeps n (aim_of relay) old.reads (state_of relay) × Keeps n (aim_of relay) new.reads (state_of relay)
done_kept n relay old mid new done first second is =
    subst (λ (s : State). Keeps n (aim_of relay) old.reads s × Keeps n (aim_of relay) new.reads s) (sym done) (
      as_read (λ (image : Image). Keeps n (aim_of relay) image states.Done) old mid first here,
      still_read (λ (image : Image). Keeps n (aim_of relay) image states.Done) mid new second here,
    )
  where
    here : Keeps n (aim_of relay) mid.reads states.Done
    here = (marked_keeps n (aim_of relay) mid.reads).0 is

-- ---- the time of a log

pub timed_of : (n m : ℕ) (slots : FileId) (o : Option (List ℕ)) (bytes : List ℕ) (body : Body) (image : Image) → slots ≡ record { owner = owners.Log m; part = Slots } → m ≡ n → o ≡ LastAt 89 slots image → o ≡ Some bytes → encoded body ≡ bytes → IsBody body → body.kind ≡ 3 → IsTimed n body.elapsed image
timed_of n m slots o bytes body image is same last some from sound kind = record {
  complete = record {
    body = body;
    entry = record {
      is_body = sound;
      last = ap (λ (f : FileId). LastAt 89 f image) (sym (is ∙ ap (λ (k : ℕ). let f : FileId = record { owner = owners.Log k; part = Slots } in f) same)) ∙ (sym last ∙ (some ∙ ap (λ (b : List ℕ). Some b) (sym from)));
    };
    kind = kind;
  };
  time = refl;
}

some_bytes : (a b : List ℕ) → Some a ≡ Some b → a ≡ b
some_bytes a b e = cc

one_time : (n : ℕ) (image : Image) (one two : IsComplete n image) → one.body.elapsed ≡ two.body.elapsed
one_time n image one two = ap (λ (b : Body). b.elapsed) (one_body one.body two.body one.entry.is_body two.entry.is_body (some_bytes (encoded one.body) (encoded two.body) (sym one.entry.last ∙ two.entry.last)))

-- it is marked with its time
pub relayed_of : (n total : ℕ) (image : Image) → IsTimed n total image → IsMarkedAt n total image → IsRelayed n image
relayed_of n total image timed mark = record { complete = timed.complete; mark = subst (λ (k : ℕ). IsMarkedAt n k image) (sym timed.time) mark }

-- a mark of a log is of its time
pub mark_of : (n total : ℕ) (image : Image) → IsTimed n total image → IsRelayed n image → IsMarkedAt n total image
mark_of n total image timed is = subst (λ (k : ℕ). IsMarkedAt n k image) (one_time n image is.complete timed.complete ∙ timed.time) is.mark

pub unrelayed_of : (n total : ℕ) (image : Image) → IsTimed n total image → (IsMarkedAt n total image → ⊥) → IsRelayed n image → ⊥
unrelayed_of n total image timed unmarked is = unmarked (mark_of n total image timed is)

-- of a log that was opened
pub log_timed : (n : ℕ) (view : ViewState) (records : List Record) (disk : DiskView) (total : ℕ) → HasLog n view records disk → view.body.elapsed ≡ total → IsTimed n total disk.reads
log_timed n view records disk total log time = record { complete = record { body = view.body; entry = log.entry; kind = log.complete }; time = time }

-- a log that is read again has its time
pub same_time : (n total : ℕ) (view : ViewState) (records : List Record) (old new : DiskView) → OnlyReads old new → HasLog n view records new → IsTimed n total old.reads → view.body.elapsed ≡ total
same_time n total view records old new reads log timed =
    let one : IsTimed n view.body.elapsed new.reads = log_timed n view records new view.body.elapsed log refl in
    let two : IsTimed n total new.reads = still_read (IsTimed n total) old new reads timed in
    sym one.time ∙ (one_time n new.reads one.complete two.complete ∙ two.time)

-- ---- what is opened, and made

-- what was as before is so from an earlier disk on
as_before_trans : (n : ℕ) (old mid : DiskView) (image : Image) → ((other : Image) → IsCrashImage mid other → IsAsBefore n old other) → IsAsBefore n mid image → IsAsBefore n old image
as_before_trans n old mid image each a =
    let b = each a.before a.was in
    record { before = b.before; was = b.was; entry = a.entry ∙ b.entry; same = λ aim state keeps. a.same aim state (b.same aim state keeps); back = λ aim state keeps. b.back aim state (a.back aim state keeps) }

pub ready_before : (n m : ℕ) (old mid new : DiskView) → m ≡ n → ((image : Image) → IsCrashImage mid image → mid.crash_images_at mid.moment image) → Throughout (IsOfRelay n) (IsAsBefore n old) old mid → Throughout (IsOfRelay m) (IsAsBefore m mid) mid new → Throughout (IsOfRelay n) (IsAsBefore n old) old new
ready_before n m old mid new same now first second =
    followed (IsOfRelay n) (IsAsBefore n old) old mid new first
    (widened (IsOfRelay n) (IsOfRelay n) (IsAsBefore n mid) (IsAsBefore n old) mid new (λ g own. own)
    (λ image held beside. as_before_trans n old mid image (λ other left. let later = first.later in first.each mid.moment other later (let h : mid.moment ≤ mid.moment = omega arith in h) (now other left)) held)
    (subst (λ (k : ℕ). Throughout (IsOfRelay k) (IsAsBefore k mid) mid new) same second))

pub keeps_at : (m n : ℕ) (aim : AimView) (old new : DiskView) → m ≡ n → ((any : AimView) (state : State) → Keeps m any old.reads state → Keeps m any new.reads state) → (any : AimView) (state : State) → Keeps n any old.reads state → Keeps n any new.reads state
keeps_at m n aim old new same keeps = subst (λ (k : ℕ). (any : AimView) (state : State) → Keeps k any old.reads state → Keeps k any new.reads state) same keeps

first_opened : (n : ℕ) (done : Bool) (view : ViewState) (disk : DiskView) → HasLog n view [] disk → IsOpened n (if done then places.Idle else places.Starts view) disk
first_opened n true view disk log = tt
first_opened n false view disk log = log

-- a relay of a log that was opened stands
pub undone_stands : (n : ℕ) (r : RelayView) (k : KeepingView) (view : ViewState) (mid new : DiskView) → (r.number ≡ n) × (r.keeping ≡ k) × (r.at ≡ first_place k.state view) → HasLog n view [] mid → Throughout (IsOfRelay n) (IsAsBefore n mid) mid new → keeping.Stands k new → Stands r new
undone_stands n r k view mid new parts log run stands = record {
  kept = subst (λ (x : KeepingView). keeping.Stands x new) (sym parts.1) stands;
  log = subst (λ (p : Place). IsOpened r.number p new) (sym parts.2) (subst (λ (j : ℕ). IsOpened j (first_place k.state view) new) (sym parts.0)
      (first_opened n (is_done k.state) view new (log_stays n mid new (log_elsewhere n mid new run.elsewhere) view [] log)));
}

-- a relay of a log that is marked stands
pub done_stands : (r : RelayView) (disk : DiskView) → state_of r ≡ states.Done → r.keeping.files ≡ None → r.at ≡ places.Idle → Stands r disk
done_stands r disk done bare idle = record {
  kept = subst (λ (files : Option BundleView). keeping.StandsBy r.keeping.number r.keeping.aim r.keeping.state files disk) (sym bare) (inl done);
  log = subst (λ (p : Place). IsOpened r.number p disk) (sym idle) tt;
}

pub done_readable : (n total : ℕ) (r : RelayView) (image : Image) → (aim_of r).total ≡ total → state_of r ≡ states.Done → IsTimed n total image → IsReadable n (aim_of r).total (state_of r) image
done_readable n total r image same done timed = record {
  timed = subst (λ (k : ℕ). IsTimed n k image) (sym same) timed;
  sound = λ undone part damage. absurd (of_done (state_of r) done undone);
}
  where
    parted : (b : Bool) → b ≡ true → b ≡ false → ⊥
    parted true one two = cc (two)
    parted false one two = cc (one)

    of_done : (s : State) → s ≡ states.Done → is_done s ≡ false → ⊥
    of_done s is undone = parted (is_done s) (ap is_done is) undone

pub undone_kept : (n : ℕ) (aim : AimView) (r : RelayView) (k : KeepingView) (old mid new : DiskView) → r.keeping ≡ k → k.aim ≡ aim → OnlyReads old mid → Keeps n aim mid.reads k.state → ((any : AimView) (state : State) → Keeps n any mid.reads state → Keeps n any new.reads state)
    → Keeps n (aim_of r) old.reads (state_of r) × Keeps n (aim_of r) new.reads (state_of r)
undone_kept n aim r k old mid new parts aimed reads kept on =
    subst (λ (x : KeepingView). Keeps n x.aim old.reads x.state × Keeps n x.aim new.reads x.state) (sym parts) (
      subst (λ (a : AimView). Keeps n a old.reads k.state) (sym aimed) (as_read (λ (image : Image). Keeps n aim image k.state) old mid reads kept),
      subst (λ (a : AimView). Keeps n a new.reads k.state) (sym aimed) (on aim k.state kept),
    )

pub undone_timed : (n : ℕ) (r : RelayView) (k : KeepingView) (view : ViewState) (old mid : DiskView) → r.keeping ≡ k → view.body.elapsed ≡ k.aim.total → OnlyReads old mid → HasLog n view [] mid → IsTimed n (aim_of r).total old.reads
undone_timed n r k view old mid parts time reads log =
    subst (λ (x : KeepingView). IsTimed n x.aim.total old.reads) (sym parts) (as_read (IsTimed n k.aim.total) old mid reads (log_timed n view [] mid k.aim.total log time))

-- why a log that isn't marked isn't opened
pub undone_open_cause : (n : ℕ) (image : Image) (e : RelayFault) → IsComplete n image → (IsRelayed n image → ⊥) → IsUndoneCause n image e → IsOpenCause n image e
undone_open_cause n image faults.Incomplete complete unmarked is = is
undone_open_cause n image (faults.Log reads.Absent) complete unmarked is = is
undone_open_cause n image (faults.Log (reads.Damaged part)) complete unmarked is = record { complete = complete; unmarked = unmarked; damage = is }
undone_open_cause n image (faults.Log reads.Disk) complete unmarked is = is
undone_open_cause n image (faults.Log reads.NoMem) complete unmarked is = is
undone_open_cause n image (faults.State bundles.Disk) complete unmarked is = is
undone_open_cause n image (faults.State bundles.Broken) complete unmarked is = is
undone_open_cause n image (faults.State (bundles.Damaged part)) complete unmarked is = is
undone_open_cause n image (faults.State (bundles.Full part)) complete unmarked is = is
undone_open_cause n image (faults.State bundles.NoMem) complete unmarked is = is
undone_open_cause n image faults.NoMem complete unmarked is = is

pub if_err_step : {T : Type 0} (r : Result T RelayFault) (P Q : RelayFault → Type 0) → ((e : RelayFault) → P e → Q e) → IfErr r P → IfErr r Q
if_err_step (Ok x) P Q step p = tt
if_err_step (Err e) P Q step p = step e p

pub if_ok_step : {T : Type 0} (r : Result T RelayFault) (P Q : T → Type 0) → ((x : T) → P x → Q x) → IfOk r P → IfOk r Q
if_ok_step (Ok x) P Q step p = step x p
if_ok_step (Err e) P Q step p = tt

pub if_ok_two : {T : Type 0} (r : Result T RelayFault) (P Q S : T → Type 0) → ((x : T) → P x → Q x → S x) → IfOk r P → IfOk r Q → IfOk r S
if_ok_two (Ok x) P Q S step p q = step x p q
if_ok_two (Err e) P Q S step p q = tt
