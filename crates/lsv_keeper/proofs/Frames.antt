-- What calls of a job leave as it was: the files of other logs, the numbers and the event log.
use Rattle.std.proofs.Common.{◌⊎◌, ◌≡◌, ◌≢◌, ◌≤◌, ◌<◌, ℕ, List, refl, sym, ◌∙◌, ap, subst, inl, inr, arith, Option, Some, None}
use Rattle.std.specs.Prelude.{Bool, true, false, if◌then◌else◌}
use Rattle.lsv_disk.specs.Throughout.{Jointly, OnlyReads, Throughout}
use Rattle.lsv_disk.specs.View.{DiskView, Elsewhere, Image, IsCrashImage}
use Rattle.lsv_disk.specs.declared.file.FileId.{FileId}
use Rattle.lsv_disk.specs.declared.file.Owner.{Owner}
use Rattle.lsv_disk.specs.declared.file.Owner.TheVariants as owners
use Rattle.lsv_disk.proofs.Composition.{OnlyNow, followed, started, widened}
use Rattle.lsv_eventlog.specs.Moments.{IsAsBefore}
use Rattle.lsv_eventlog.specs.Recovered.{HoldsLines, IsOfEventLog}
use Rattle.lsv_eventlog.proofs.Laws.{local_text, of_lane}
use Rattle.lsv_iolog.specs.Recovered.{IsOfLog, IsUnmade, SameFiles}
use Rattle.lsv_iolog.proofs.Replaying.{local_replay}
use Rattle.lsv_seq.specs.Drawn.{numbers_file}
use Rattle.lsv_seq.proofs.Images.{entry_local}
use Rattle.lsv_seq.proofs.Laws.{drawn_alone, numbers_owner}
use Rattle.lsv_machine.specs.Counts.{same_owner}
use Rattle.lsv_machine.specs.Disks.{AsBefore, IsOfLaneStore, KeepsNumbers, LinesAsBefore, LinesRest, NumbersFit, Rests, SameLines, SameLog, TouchesStore}
use Rattle.lsv_machine.specs.Machine.{IsOfLane}
use Rattle.lsv_machine.proofs.Choices.{EqOr.equal, EqOr.unequal, eq_or}
use Rattle.lsv_machine.proofs.Folds.{as_before_on, before_down, lines_rest_on, lines_still, moments_on, numbers_down, numbers_on, rests_on, rests_still, same_log, still}
use Rattle.lsv_keeper.specs.Reading.{IsBare, IsDrawn, reading_of}
use Rattle.lsv_keeper.specs.Rows.{Beside, IsOfJob}

-- what the laws of a disk say of it. In an Answers file, of a disk d that tells (told : g.D.Disk.tells) it is
--   record { reads_itself = g.met.D.Disk.reads_itself told d; is_now = g.met.D.Disk.is_now told d; only_now = g.met.D.Disk.only_now told d }
pub record Laws (disk : DiskView) : Type 0 where
  pub reads_itself : IsCrashImage disk disk.reads
  pub is_now : (image : Image) → IsCrashImage disk image → disk.crash_images_at disk.moment image
  pub only_now : OnlyNow disk

-- ---- Files

-- none of log n's files is among these
abbrev pub IsApart : ℕ → (FileId → Type 0) → Type 0
IsApart n Touched = (file : FileId) → IsOfLog n file → Touched file → ⊥

-- a job about another log, or about none, touches no file of log n
pub job_apart : (lane n : ℕ) (i : Option ℕ) → i ≢ Some n → IsApart n (IsOfJob lane i)
job_apart lane n None other file own (inl t) = let e : owners.Log n ≡ owners.Numbers lane = sym own ∙ t in absurd (cc)
job_apart lane n None other file own (inr t) = let e : owners.Log n ≡ owners.Events lane = sym own ∙ t in absurd (cc)
job_apart lane n (Some i) other file own (inl t) = let e : owners.Log n ≡ owners.Log i = sym own ∙ t in let f : n ≡ i = cc in other (ap Some (sym f))
job_apart lane n (Some i) other file own (inr (inl t)) = let e : owners.Log n ≡ owners.Numbers lane = sym own ∙ t in absurd (cc)
job_apart lane n (Some i) other file own (inr (inr t)) = let e : owners.Log n ≡ owners.Events lane = sym own ∙ t in absurd (cc)

-- the files of a job are of the lane's store, where its log is the lane's or it was told of it
job_store : (lane lanes : ℕ) (A : ℕ → Type 0) (o : Option ℕ) → ((n : ℕ) → o ≡ Some n → IsOfLane lane lanes n ⊎ A n) → (file : FileId) → IsOfJob lane o file → IsOfLaneStore lane lanes A file
job_store lane lanes A None about file t = inr t
job_store lane lanes A (Some i) about file (inl t) = inl (i, about i refl, t)
job_store lane lanes A (Some i) about file (inr t) = inr t

pub touches_store : (lane lanes : ℕ) (A : ℕ → Type 0) (o : Option ℕ) (old new : DiskView) → ((n : ℕ) → o ≡ Some n → IsOfLane lane lanes n ⊎ A n) → Beside lane lanes o old new → TouchesStore lane lanes A old new
touches_store lane lanes A o old new about b = widened (IsOfJob lane o) (IsOfLaneStore lane lanes A) (λ image. Unit {0}) (λ image. Unit {0}) old new (job_store lane lanes A o about) (λ image t rest. t) b.run

-- so are those of the event log
pub events_touch : (lane lanes : ℕ) (A : ℕ → Type 0) (P : Image → Type 0) (old new : DiskView) → Throughout (IsOfEventLog lane) P old new → TouchesStore lane lanes A old new
events_touch lane lanes A P old new run = widened (IsOfEventLog lane) (IsOfLaneStore lane lanes A) P (λ image. Unit {0}) old new (λ file own. inr (inr (of_lane lane file own))) (λ image p rest. tt) run

-- nor do calls on the files of another log
pub log_apart : (n i : ℕ) → n ≢ i → IsApart n (IsOfLog i)
log_apart n i other file own t = let e : owners.Log n ≡ owners.Log i = sym own ∙ t in let f : n ≡ i = cc in other f

-- ---- Images that agree on an owner's files

owner_self : (o : Owner) → same_owner o o ≡ true
owner_self (owners.Log n) = elim (eq_or n n) [ equal p t ↦ t | unequal p t ↦ absurd (p refl) ]
owner_self (owners.Events n) = elim (eq_or n n) [ equal p t ↦ t | unequal p t ↦ absurd (p refl) ]
owner_self (owners.Numbers n) = elim (eq_or n n) [ equal p t ↦ t | unequal p t ↦ absurd (p refl) ]
owner_self (owners.Relay n) = elim (eq_or n n) [ equal p t ↦ t | unequal p t ↦ absurd (p refl) ]

pub owner_is : (o p : Owner) → same_owner o p ≡ true → p ≡ o
owner_is (owners.Log n) (owners.Log i) e = elim (eq_or n i) [ equal q t ↦ ap owners.Log (sym q) | unequal q t ↦ absurd (cc) ]
owner_is (owners.Log n) (owners.Events i) e = absurd (cc)
owner_is (owners.Log n) (owners.Numbers i) e = absurd (cc)
owner_is (owners.Log n) (owners.Relay i) e = absurd (cc)
owner_is (owners.Events n) (owners.Events i) e = elim (eq_or n i) [ equal q t ↦ ap owners.Events (sym q) | unequal q t ↦ absurd (cc) ]
owner_is (owners.Events n) (owners.Log i) e = absurd (cc)
owner_is (owners.Events n) (owners.Numbers i) e = absurd (cc)
owner_is (owners.Events n) (owners.Relay i) e = absurd (cc)
owner_is (owners.Numbers n) (owners.Numbers i) e = elim (eq_or n i) [ equal q t ↦ ap owners.Numbers (sym q) | unequal q t ↦ absurd (cc) ]
owner_is (owners.Numbers n) (owners.Log i) e = absurd (cc)
owner_is (owners.Numbers n) (owners.Events i) e = absurd (cc)
owner_is (owners.Numbers n) (owners.Relay i) e = absurd (cc)
owner_is (owners.Relay n) (owners.Relay i) e = elim (eq_or n i) [ equal q t ↦ ap owners.Relay (sym q) | unequal q t ↦ absurd (cc) ]
owner_is (owners.Relay n) (owners.Log i) e = absurd (cc)
owner_is (owners.Relay n) (owners.Events i) e = absurd (cc)
owner_is (owners.Relay n) (owners.Numbers i) e = absurd (cc)

-- the files of an owner from one image, all others from another
abbrev pub mix : Owner → Image → Image → Image
mix o a b file = if same_owner o file.owner then a file else b file

pub mix_same : (o : Owner) (a b : Image) (file : FileId) → file.owner ≡ o → a file ≡ mix o a b file
mix_same o a b file own = let e : same_owner o file.owner ≡ true = ap (same_owner o) own ∙ owner_self o in rw e refl

pub mix_image : (o : Owner) (a : Image) (disk : DiskView) → Laws disk → ((file : FileId) → file.owner ≡ o → disk.crash_states file (a file)) → IsCrashImage disk (mix o a disk.reads)
mix_image o a disk laws own file = go (same_owner o file.owner) refl
  where
    go : (b : Bool) → same_owner o file.owner ≡ b → disk.crash_states file (if same_owner o file.owner then a file else disk.reads file)
    go true e = rw e (own file (owner_is o file.owner e))
    go false e = rw e (laws.reads_itself file)

pub same_log_files : (lane lanes n : ℕ) (a b : Image) → SameFiles n a b → SameLog (reading_of lane lanes) n a b
same_log_files lane lanes n a b same = record { to = λ found is. local_replay a b n found same is; back = λ found is. local_replay b a n found (λ file own. sym (same file own)) is }

pub same_lines_files : (lane lanes : ℕ) (a b : Image) → ((file : FileId) → file.owner ≡ owners.Events lane → b file ≡ a file) → SameLines (reading_of lane lanes) a b
same_lines_files lane lanes a b same = record {
  to = λ text is. local_text a b lane text (λ file own. same file (of_lane lane file own)) is;
  back = λ text is. local_text b a lane text (λ file own. sym (same file (of_lane lane file own))) is;
}

pub drawn_same : (lane lanes last : ℕ) (a b : Image) → ((file : FileId) → file.owner ≡ owners.Numbers lane → b file ≡ a file) → IsDrawn lane lanes a last → IsDrawn lane lanes b last
drawn_same lane lanes last a b same (inl d) = inl (drawn_alone lane lanes last a b (λ g own. same g (numbers_owner lane g own)) d)
drawn_same lane lanes last a b same (inr (none, zero)) = inr (entry_local lane a b (λ g own. same g (numbers_owner lane g own)) ∙ none, zero)

-- images of which the log's files are as a crash could leave them before
pub as_before_files : (lane lanes n : ℕ) (old : DiskView) (images : Image → Type 0) → Laws old → ((image : Image) → images image → (file : FileId) → IsOfLog n file → old.crash_states file (image file))
    → AsBefore (reading_of lane lanes) n (IsCrashImage old) images
as_before_files lane lanes n old images laws left image is = (
  mix (owners.Log n) image old.reads,
  mix_image (owners.Log n) image old laws (λ file own. left image is file own),
  same_log_files lane lanes n (mix (owners.Log n) image old.reads) image (λ file own. mix_same (owners.Log n) image old.reads file own),
)

-- ---- Log n, where its files aren't touched

-- of log n each image holds at each moment what one held before, and so at the end; and it reads as it did
pub record Resting (lane lanes n : ℕ) (old new : DiskView) : Type 0 where
  pub moments : Jointly (AsBefore (reading_of lane lanes) n (IsCrashImage old)) old new
  pub rests : Rests (reading_of lane lanes) n old new

pub resting_none : (lane lanes n : ℕ) (disk : DiskView) → Laws disk → Resting lane lanes n disk disk
resting_none lane lanes n disk laws = record {
  moments = still (AsBefore (reading_of lane lanes) n (IsCrashImage disk)) disk (λ image is. (image, laws.only_now image is, same_log (reading_of lane lanes) n image));
  rests = rests_still (reading_of lane lanes) n disk;
}

pub resting_on : (lane lanes n : ℕ) (a b c : DiskView) → Resting lane lanes n a b → Resting lane lanes n b c → Resting lane lanes n a c
resting_on lane lanes n a b c s t =
    let r = reading_of lane lanes in
    record {
      moments = moments_on (AsBefore r n (IsCrashImage a)) (AsBefore r n (IsCrashImage b)) (AsBefore r n (IsCrashImage a)) a b c (before_down r n (IsCrashImage a)) (λ images x. x)
          (λ images x. as_before_on r n (IsCrashImage a) (IsCrashImage b) images s.rests.images x) s.moments t.moments;
      rests = rests_on r n a b c s.rests t.rests;
    }

-- where calls touch other files only
pub resting_apart : (lane lanes n : ℕ) (Touched : FileId → Type 0) (P : Image → Type 0) (old new : DiskView) → Laws old → IsApart n Touched → Throughout Touched P old new → Resting lane lanes n old new
resting_apart lane lanes n Touched P old new laws apart run = record {
  moments = record {
    later = run.later;
    past = run.past;
    keeps = run.keeps;
    each = λ k from to. as_before_files lane lanes n old (new.crash_images_at k) laws (λ image left file own. run.beside k image from to left file (apart file own));
  };
  rests = record {
    images = as_before_files lane lanes n old (IsCrashImage new) laws (λ image left file own. run.elsewhere.crash file (apart file own) (image file) (left file));
    reads = same_log_files lane lanes n old.reads new.reads (λ file own. run.elsewhere.same file (apart file own));
  };
}

-- where a job isn't about it
pub resting : (lane lanes : ℕ) (i : Option ℕ) (n : ℕ) (old new : DiskView) → Laws old → i ≢ Some n → Beside lane lanes i old new → Resting lane lanes n old new
resting lane lanes i n old new laws other b = resting_apart lane lanes n (IsOfJob lane i) (λ image. Unit {0}) old new laws (job_apart lane n i other) b.run

-- its files are as they were, and a crash leaves of them what it left before
pub files_same : (lane lanes : ℕ) (i : Option ℕ) (n : ℕ) (old new : DiskView) → i ≢ Some n → Beside lane lanes i old new → (file : FileId) → IsOfLog n file
    → (new.reads file ≡ old.reads file) × ((c : Option (List ℕ)) → new.crash_states file c → old.crash_states file c)
files_same lane lanes i n old new other b file own = (b.run.elsewhere.same file (job_apart lane n i other file own), λ c left. b.run.elsewhere.crash file (job_apart lane n i other file own) c left)

-- and a log without files stays so
pub unmade_stays : (n : ℕ) (Touched : FileId → Type 0) (old new : DiskView) → IsApart n Touched → Elsewhere Touched old new → IsUnmade n old → IsUnmade n new
unmade_stays n Touched old new apart e none file own c left = none file own c (e.crash file (apart file own) c left)

-- ---- Where the numbers fit

-- log n is above the last number of no image
abbrev pub IsBelow : (lane lanes n : ℕ) → DiskView → Type 0
IsBelow lane lanes n disk = (image : Image) (last : ℕ) → IsCrashImage disk image → IsDrawn lane lanes image last → IsOfLane lane lanes n → last < n → ⊥

-- where log n is above the last number of an image, calls only read
abbrev pub ReadsAbove : (lane lanes n : ℕ) → (old new : DiskView) → Type 0
ReadsAbove lane lanes n old new = (image : Image) (last : ℕ) → IsCrashImage old image → IsDrawn lane lanes image last → IsOfLane lane lanes n → last < n → OnlyReads old new

-- images of which the number file is as a crash could leave it before, and so is each log that is above the last number of some image
pub numbers_as : (lane lanes : ℕ) (old : DiskView) (images : Image → Type 0) → Laws old → NumbersFit (reading_of lane lanes) lane lanes (IsCrashImage old)
    → ((image : Image) → images image → (file : FileId) → file.owner ≡ owners.Numbers lane → old.crash_states file (image file))
    → ((n : ℕ) (was : Image) (last : ℕ) → IsCrashImage old was → IsDrawn lane lanes was last → IsOfLane lane lanes n → last < n
    → (image : Image) → images image → (file : FileId) → IsOfLog n file → old.crash_states file (image file))
    → NumbersFit (reading_of lane lanes) lane lanes images
numbers_as lane lanes old images laws fit drawn logs = record {
  told = λ image is. (let (last, d) = fit.told (was image) (left image is) in (last, drawn_same lane lanes last (was image) image (λ file own. mix_same (owners.Numbers lane) image old.reads file own) d));
  none_above = λ a b last n a_is b_is d of_lane above.
      let d' : IsDrawn lane lanes (was a) last = drawn_same lane lanes last a (was a) (λ file own. sym (mix_same (owners.Numbers lane) a old.reads file own)) d in
      let its : IsCrashImage old (mix (owners.Log n) b old.reads) = mix_image (owners.Log n) b old laws (λ file own. logs n (was a) last (left a a_is) d' of_lane above b b_is file own) in
      let bare : IsBare (mix (owners.Log n) b old.reads) n = fit.none_above (was a) (mix (owners.Log n) b old.reads) last n (left a a_is) its d' of_lane above in
      λ file own. mix_same (owners.Log n) b old.reads file own ∙ bare file own;
}
  where
    was : Image → Image
    was image = mix (owners.Numbers lane) image old.reads

    left : (image : Image) → images image → IsCrashImage old (mix (owners.Numbers lane) image old.reads)
    left image is = mix_image (owners.Numbers lane) image old laws (λ file own. drawn image is file own)

-- the same of calls that don't touch the number file
pub keeps_files : (lane lanes : ℕ) (Touched : FileId → Type 0) (P : Image → Type 0) (old new : DiskView) → Laws old → Laws new → NumbersFit (reading_of lane lanes) lane lanes (IsCrashImage old)
    → Throughout Touched P old new → ((file : FileId) → file.owner ≡ owners.Numbers lane → Touched file → ⊥)
    → ((n : ℕ) (was : Image) (last : ℕ) → IsCrashImage old was → IsDrawn lane lanes was last → IsOfLane lane lanes n → last < n
    → (k : ℕ) (image : Image) → old.moment ≤ k → k ≤ new.moment → new.crash_images_at k image → (file : FileId) → IsOfLog n file → old.crash_states file (image file))
    → KeepsNumbers (reading_of lane lanes) lane lanes old new
keeps_files lane lanes Touched P old new laws laws' fit run apart logs = record {
  moments = record { later = run.later; past = run.past; keeps = run.keeps; each = fits };
  now = numbers_down (reading_of lane lanes) lane lanes (new.crash_images_at new.moment) (IsCrashImage new) laws'.is_now (fits new.moment run.later (omega arith));
}
  where
    fits : (k : ℕ) → old.moment ≤ k → k ≤ new.moment → NumbersFit (reading_of lane lanes) lane lanes (new.crash_images_at k)
    fits k from to = numbers_as lane lanes old (new.crash_images_at k) laws fit (λ image left file own. run.beside k image from to left file (apart file own))
        (λ n was last is d of_lane above image left file own. logs n was last is d of_lane above k image from to left file own)

-- ---- The event log

-- calls that don't touch the event log's files
pub lines_apart : (lane lanes : ℕ) (Touched : FileId → Type 0) (P : Image → Type 0) (old new : DiskView) → Laws old → Laws new → ((file : FileId) → file.owner ≡ owners.Events lane → Touched file → ⊥)
    → Throughout Touched P old new → LinesRest (reading_of lane lanes) old new
lines_apart lane lanes Touched P old new laws laws' apart run = record {
  moments = record { later = run.later; past = run.past; keeps = run.keeps; each = each };
  now = λ image is. each new.moment run.later (omega arith) image (laws'.is_now image is);
  reads = same_lines_files lane lanes old.reads new.reads (λ file own. run.elsewhere.same file (apart file own));
}
  where
    each : (k : ℕ) → old.moment ≤ k → k ≤ new.moment → LinesAsBefore (reading_of lane lanes) (IsCrashImage old) (new.crash_images_at k)
    each k from to image left = (
      mix (owners.Events lane) image old.reads,
      mix_image (owners.Events lane) image old laws (λ file own. run.beside k image from to left file (apart file own)),
      same_lines_files lane lanes (mix (owners.Events lane) image old.reads) image (λ file own. mix_same (owners.Events lane) image old.reads file own),
    )

-- ---- Calls of a job

-- none was made
pub beside_none : (lane lanes : ℕ) (i : Option ℕ) (disk : DiskView) → Laws disk → NumbersFit (reading_of lane lanes) lane lanes (IsCrashImage disk) → Beside lane lanes i disk disk
beside_none lane lanes i disk laws fit =
    let r = reading_of lane lanes in
    record {
      run = started (IsOfJob lane i) (λ image. Unit {0}) disk laws.only_now (λ image is. tt);
      lines = lines_still r disk laws.only_now;
      numbers = record { moments = still (NumbersFit r lane lanes) disk (numbers_down r lane lanes (IsCrashImage disk) (disk.crash_images_at disk.moment) laws.only_now fit); now = fit };
      monotone = λ file. omega arith;
    }

-- some, and then others
pub beside_on : (lane lanes : ℕ) (i : Option ℕ) (a b c : DiskView) → Beside lane lanes i a b → Beside lane lanes i b c → Beside lane lanes i a c
beside_on lane lanes i a b c s t = record {
  run = followed (IsOfJob lane i) (λ image. Unit {0}) a b c s.run t.run;
  lines = lines_rest_on (reading_of lane lanes) a b c s.lines t.lines;
  numbers = numbers_on (reading_of lane lanes) lane lanes a b c s.numbers t.numbers;
  monotone = λ file. let x = s.monotone file in let y = t.monotone file in omega arith;
}

job_wider : (lane : ℕ) (i : Option ℕ) (file : FileId) → IsOfJob lane None file → IsOfJob lane i file
job_wider lane None file t = t
job_wider lane (Some i) file t = inr t

-- a job about one log may do what a job about none does
pub beside_wider : (lane lanes : ℕ) (i : Option ℕ) (old new : DiskView) → Beside lane lanes None old new → Beside lane lanes i old new
beside_wider lane lanes i old new b = record {
  run = widened (IsOfJob lane None) (IsOfJob lane i) (λ image. Unit {0}) (λ image. Unit {0}) old new (job_wider lane i) (λ image _ _. tt) b.run;
  lines = b.lines;
  numbers = b.numbers;
  monotone = b.monotone;
}

not_numbers : (lane i : ℕ) (file : FileId) → file.owner ≡ owners.Numbers lane → file.owner ≡ owners.Log i → ⊥
not_numbers lane i file own t = let e : owners.Numbers lane ≡ owners.Log i = sym own ∙ t in cc

not_events : (lane i : ℕ) (file : FileId) → file.owner ≡ owners.Events lane → file.owner ≡ owners.Log i → ⊥
not_events lane i file own t = let e : owners.Events lane ≡ owners.Log i = sym own ∙ t in cc

not_both : (lane other : ℕ) (file : FileId) → file.owner ≡ owners.Events lane → file.owner ≡ owners.Numbers other → ⊥
not_both lane other file own t = let e : owners.Events lane ≡ owners.Numbers other = sym own ∙ t in cc

-- calls on the files of log i, which only read where it is above the last number
pub beside_restart : (lane lanes i : ℕ) (P : Image → Type 0) (old new : DiskView) → Laws old → Laws new → NumbersFit (reading_of lane lanes) lane lanes (IsCrashImage old) → ReadsAbove lane lanes i old new
    → Throughout (IsOfLog i) P old new → ((file : FileId) → old.faults file ≤ new.faults file) → Beside lane lanes (Some i) old new
beside_restart lane lanes i P old new laws laws' fit reads run up = record {
  run = widened (IsOfLog i) (IsOfJob lane (Some i)) P (λ image. Unit {0}) old new (λ file t. inl t) (λ image _ _. tt) run;
  lines = lines_apart lane lanes (IsOfLog i) P old new laws laws' (not_events lane i) run;
  numbers = keeps_files lane lanes (IsOfLog i) P old new laws laws' fit run (not_numbers lane i) logs;
  monotone = up;
}
  where
    logs : (n : ℕ) (was : Image) (last : ℕ) → IsCrashImage old was → IsDrawn lane lanes was last → IsOfLane lane lanes n → last < n
        → (k : ℕ) (image : Image) → old.moment ≤ k → k ≤ new.moment → new.crash_images_at k image → (file : FileId) → IsOfLog n file → old.crash_states file (image file)
    logs n was last is d of_lane above k image from to left file own = elim (eq_or n i) [
      | equal p t ↦ (reads was last is d (subst (λ x. IsOfLane lane lanes x) p of_lane) (omega arith)).unchanged.beside k image from to left file (λ none. none)
      | unequal p t ↦ run.beside k image from to left file (log_apart n i p file own)
    ]

-- calls on the files of log i, which isn't above the last number
pub beside_log : (lane lanes i : ℕ) (P : Image → Type 0) (old new : DiskView) → Laws old → Laws new → NumbersFit (reading_of lane lanes) lane lanes (IsCrashImage old) → IsBelow lane lanes i old
    → Throughout (IsOfLog i) P old new → ((file : FileId) → old.faults file ≤ new.faults file) → Beside lane lanes (Some i) old new
beside_log lane lanes i P old new laws laws' fit below run up =
    beside_restart lane lanes i P old new laws laws' fit (λ image last is d of_lane above. absurd (below image last is d of_lane above)) run up

-- calls on the files of the event log, as its opening makes them
pub beside_events : (lane lanes : ℕ) (old new : DiskView) → Laws old → Laws new → NumbersFit (reading_of lane lanes) lane lanes (IsCrashImage old)
    → Throughout (IsOfEventLog lane) (IsAsBefore lane old) old new
    → ((text : List ℕ) → HoldsLines old.reads lane text → HoldsLines new.reads lane text) → ((text : List ℕ) → HoldsLines new.reads lane text → HoldsLines old.reads lane text)
    → ((file : FileId) → old.faults file ≤ new.faults file) → Beside lane lanes None old new
beside_events lane lanes old new laws laws' fit run to back up = record {
  run = widened (IsOfEventLog lane) (IsOfJob lane None) (IsAsBefore lane old) (λ image. Unit {0}) old new (λ file t. inr (of_lane lane file t)) (λ image _ _. tt) run;
  lines = record {
    moments = record { later = run.later; past = run.past; keeps = run.keeps; each = each };
    now = λ image is. each new.moment run.later (omega arith) image (laws'.is_now image is);
    reads = record { to = to; back = back };
  };
  numbers = keeps_files lane lanes (IsOfEventLog lane) (IsAsBefore lane old) old new laws laws' fit run (λ file own t. not_both lane lane file (of_lane lane file t) own)
      (λ n was last is d of_lane' above k image from to' left file own. run.beside k image from to' left file (λ t. not_events lane n file (of_lane lane file t) own));
  monotone = up;
}
  where
    each : (k : ℕ) → old.moment ≤ k → k ≤ new.moment → LinesAsBefore (reading_of lane lanes) (IsCrashImage old) (new.crash_images_at k)
    each k from to' image left = let w = run.each k image from to' left in (w.before, w.was, record { to = w.same; back = w.back })

-- calls on the number file by which the numbers still fit
pub beside_numbers : (lane lanes : ℕ) (P : Image → Type 0) (old new : DiskView) → Laws old → Laws new → KeepsNumbers (reading_of lane lanes) lane lanes old new
    → Throughout (λ g. g ≡ numbers_file lane) P old new → ((file : FileId) → old.faults file ≤ new.faults file) → Beside lane lanes None old new
beside_numbers lane lanes P old new laws laws' numbers run up = record {
  run = widened (λ g. g ≡ numbers_file lane) (IsOfJob lane None) P (λ image. Unit {0}) old new (λ file t. inl (owned file t)) (λ image _ _. tt) run;
  lines = lines_apart lane lanes (λ g. g ≡ numbers_file lane) P old new laws laws' (λ file own t. not_both lane lane file own (owned file t)) run;
  numbers = numbers;
  monotone = up;
}
  where
    owned : (file : FileId) → file ≡ numbers_file lane → file.owner ≡ owners.Numbers lane
    owned file e = ap (λ (f : FileId). f.owner) e
