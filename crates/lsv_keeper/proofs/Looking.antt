-- A log that is opened, read and cut: what the disk shows of each step, taken together.
use Rattle.std.proofs.Common.{◌≡◌, ◌≢◌, ◌⊎◌, ◌≤◌, ◌<◌, ◌-◌, ◌^◌, ℕ, List, Option, Some, None, true, refl, sym, ◌∙◌, ap, subst, inl, inr, arith}
use Rattle.std.specs.Prelude.{◌==◌, false, Result, Ok, Err, IfErr, IsErrAnd}
use Rattle.std.specs.Option.{option_map_or}
use Rattle.std.proofs.lemmas.Bool.Decides.{nat_tests}
use Rattle.lsv_disk.specs.Throughout.{OnlyReads, Throughout}
use Rattle.lsv_disk.specs.View.{DiskView, IsCrashImage}
use Rattle.lsv_disk.specs.declared.file.FileId.{FileId}
use Rattle.lsv_disk.specs.declared.file.Part.{Part}
use Rattle.lsv_disk.specs.declared.file.Part.TheVariants.{Exit, Slots}
use Rattle.lsv_disk.proofs.Composition.{OnlyNow, followed, jointly_of_each, reads_trans, risen_first, risen_second, started, unchanged_crash, unchanged_reads, unchanged_throughout, widened}
use Rattle.lsv_bundle.specs.declared.body.Body.{Body}
use Rattle.lsv_bundle.specs.Shape.{journal_of}
use Rattle.lsv_iolog.specs.Later.{cut_log, drops}
use Rattle.lsv_iolog.specs.Moments.{IsAsBefore, IsCutFault, IsEither}
use Rattle.lsv_iolog.specs.Recovered.{HasExit, IsOfLog, Replays, ReplaysNothing, owner_of}
use Rattle.lsv_iolog.specs.Faults.{IsOpenFault}
use Rattle.lsv_iolog.specs.Represents.{Represents}
use Rattle.lsv_iolog.specs.declared.fault.LogFault.{LogFault}
use Rattle.lsv_iolog.specs.declared.fault.LogFault.TheVariants as faults
use Rattle.lsv_iolog.specs.Value.{IoLogView, bare, is_complete}
use Rattle.lsv_iolog.proofs.Flushing.{entry_body}
use Rattle.lsv_iolog.proofs.Replaying.{same_files}
use Rattle.lsv_iolog.proofs.Representing.{every_image, log_stays}
use Rattle.lsv_iolog.proofs.Scans.{reads_nothing}
use Rattle.lsv_record.specs.Points.{Stored, first}
use Rattle.lsv_machine.proofs.Folds.{each_down, either_down, moments_on}
use Rattle.lsv_keeper.specs.Resuming.{AllAsBefore, AllCut, AllHold, IsCutInto, IsFound, IsLooked, IsResumeFault, LogRose}
use Rattle.lsv_keeper.proofs.Frames.{Laws}

-- ---- A log that is looked at

-- nothing was called
pub looked_none : (n : ℕ) (disk : DiskView) → OnlyNow disk → IsLooked n disk disk
looked_none n disk only_now = record {
  run = started (IsOfLog n) (IsAsBefore n disk) disk only_now (λ image is. record { before = image; was = is; same = record { forth = λ found x. x; back = λ found x. x } });
  reads = record { forth = λ found x. x; back = λ found x. x };
  unmade = λ unmade. reads_nothing disk only_now;
  others = λ file other. refl;
  unwritten = λ some file. refl;
}

-- and then it was read
pub looked_reads : (n : ℕ) (old mid new : DiskView) → Laws mid → IsLooked n old mid → OnlyReads mid new → IsLooked n old new
looked_reads n old mid new laws looked reads = record {
  run = followed (IsOfLog n) (IsAsBefore n old) old mid new looked.run
      (unchanged_throughout (IsOfLog n) (IsAsBefore n old) mid new (λ image is. looked.run.each mid.moment image looked.run.later (omega arith) (laws.is_now image is)) reads.unchanged);
  reads =
      let same = same_files mid.reads new.reads n (λ file own. unchanged_reads mid new reads.unchanged file) in
      record { forth = λ found is. same.forth found (looked.reads.forth found is); back = λ found is. looked.reads.back found (same.back found is) };
  unmade = λ unmade. reads_trans old mid new (looked.unmade unmade) reads;
  others = λ file other. reads.counts.writes file ∙ looked.others file other;
  unwritten = λ some file. reads.counts.writes file ∙ looked.unwritten some file;
}

-- an open log is what each image holds
pub open_holds : (n : ℕ) (log : IoLogView) (stored : Stored) (disk : DiskView) → log.number ≡ n → Represents log (bare stored) disk → AllHold n stored (IsCrashImage disk)
open_holds n log stored disk number at image is = subst (λ (i : ℕ). Replays image i (Some stored)) number (every_image log (bare stored) disk at image is)

pub holds_read : (n : ℕ) (stored : Stored) (mid new : DiskView) → OnlyReads mid new → AllHold n stored (IsCrashImage mid) → AllHold n stored (IsCrashImage new)
holds_read n stored mid new reads all image is = all image (unchanged_crash mid new reads.unchanged image is)

-- it was opened, and then read
pub found_read : (n : ℕ) (log : IoLogView) (stored : Stored) (old mid new : DiskView) → Laws mid → log.number ≡ n → IsLooked n old mid → Replays old.reads n (Some stored) → Represents log (bare stored) mid → OnlyReads mid new
    → IsFound n stored old new
found_read n log stored old mid new laws number looked was at reads = record {
  looked = looked_reads n old mid new laws looked reads;
  was = was;
  now = holds_read n stored mid new reads (open_holds n log stored mid number at);
}

-- and then it was cut, or that failed
pub cut_into : (n point : ℕ) (stored : Stored) (old mid new : DiskView) → Laws new → IsFound n stored old mid → stored.exit ≡ None → first stored.records point ≢ None → (drops stored point ≡ true → stored.cuts < 2 ^ 63 - 1)
    → Throughout (IsOfLog n) (IsEither n (Some stored) (Some (cut_log stored point))) mid new → IsCutInto n point stored old new
cut_into n point stored old mid new laws found going ends counted run = record {
  was = found.was;
  going = going;
  ends = ends;
  counted = counted;
  run = followed (IsOfLog n) (λ image. Unit {0}) old mid new
      (widened (IsOfLog n) (IsOfLog n) (IsAsBefore n old) (λ image. Unit {0}) old mid (λ file own. own) (λ image is beside. tt) found.looked.run)
      (widened (IsOfLog n) (IsOfLog n) (IsEither n (Some stored) (Some (cut_log stored point))) (λ image. Unit {0}) mid new (λ file own. own) (λ image is beside. tt) run);
  moments = moments_on (AllAsBefore n old) (AllCut n point stored) (λ images. AllAsBefore n old images ⊎ AllCut n point stored images) old mid new
      (either_down (AllAsBefore n old) (AllCut n point stored) (each_down (IsAsBefore n old)) (each_down (IsEither n (Some stored) (Some (cut_log stored point)))))
      (λ images before. inl before) (λ images cuts. inr cuts)
      (jointly_of_each (IsOfLog n) (IsAsBefore n old) old mid found.looked.run)
      (jointly_of_each (IsOfLog n) (IsEither n (Some stored) (Some (cut_log stored point))) mid new run);
  now = λ image is. run.each new.moment image run.later (omega arith) (laws.is_now image is);
}

-- ---- Counts

pub rose_in_first : (n : ℕ) (old mid new : DiskView) → ((file : FileId) → mid.faults file ≤ new.faults file) → LogRose n old mid → LogRose n old new
rose_in_first n old mid new up (file, own, risen) = (file, own, risen_first (old.faults file) (mid.faults file) (new.faults file) risen (up file))

pub rose_in_second : (n : ℕ) (old mid new : DiskView) → ((file : FileId) → old.faults file ≤ mid.faults file) → LogRose n mid new → LogRose n old new
rose_in_second n old mid new up (file, own, risen) = (file, own, risen_second (old.faults file) (mid.faults file) (new.faults file) (up file) risen)

-- ---- Why it isn't gone on with

-- an answer that passes a fault on
pub err_as : {T : Type 0} (r : Result T LogFault) (e : LogFault) (P : LogFault → Type 0) → IsErrAnd r (λ x. x ≡ e) → P e → IfErr r P
err_as (Ok x) e P is p = tt
err_as (Err x) e P is p = subst P (sym is) p

-- it wasn't opened
pub opened_fault : (n point : ℕ) (e : LogFault) (old new : DiskView) → IsOpenFault e → IsLooked n old new → (e ≡ faults.Absent → Replays old.reads n None) → ((part : Part) → e ≡ faults.Damaged part → ReplaysNothing old.reads n)
    → (e ≡ faults.Disk → LogRose n old new) → IsResumeFault n point e old new
opened_fault n point faults.Absent old new is looked absent damaged rose = (looked, absent refl)
opened_fault n point (faults.Damaged part) old new is looked absent damaged rose = (looked, damaged part refl)
opened_fault n point faults.Disk old new is looked absent damaged rose = inl (looked, rose refl)
opened_fault n point faults.NoMem old new is looked absent damaged rose = looked
opened_fault n point faults.Complete old new is looked absent damaged rose = absurd is
opened_fault n point (faults.NoPoint p) old new is looked absent damaged rose = absurd is
opened_fault n point faults.Broken old new is looked absent damaged rose = absurd is
opened_fault n point (faults.Full part) old new is looked absent damaged rose = absurd is
opened_fault n point (faults.TooLong p) old new is looked absent damaged rose = absurd is

-- its records weren't read through the point
pub read_fault : (n point : ℕ) (stored : Stored) (e : LogFault) (old new : DiskView) → (e ≡ faults.NoPoint point) ⊎ IsOpenFault e → IsFound n stored old new → stored.exit ≡ None → (e ≡ faults.Absent → ⊥)
    → ((part : Part) → e ≡ faults.Damaged part → ⊥) → (e ≡ faults.NoPoint point → first stored.records point ≡ None) → (e ≡ faults.Disk → LogRose n old new) → IsResumeFault n point e old new
read_fault n point stored e old new (inl is) found going absent damaged none rose = subst (λ (x : LogFault). IsResumeFault n point x old new) (sym is) (stored, found, going, none is)
read_fault n point stored e old new (inr is) found going absent damaged none rose = opened_fault n point e old new is found.looked (λ x. absurd (absent x)) (λ part x. absurd (damaged part x)) rose

-- it wasn't cut
pub cut_fault : (n point : ℕ) (stored : Stored) (e : LogFault) (old mid new : DiskView) → Laws mid → Laws new → IsFound n stored old mid → stored.exit ≡ None
    → (e ≡ faults.Broken) ⊎ (e ≡ faults.Complete) ⊎ (e ≡ faults.NoPoint point) ⊎ (e ≡ faults.Full Slots) ⊎ (e ≡ faults.Disk) ⊎ (e ≡ faults.NoMem)
    → (e ≡ faults.Broken → ⊥) → (e ≡ faults.Complete → ⊥) → (e ≡ faults.NoPoint point → first stored.records point ≡ None)
    → (e ≡ faults.Full Slots → (first stored.records point ≢ None) × (drops stored point ≡ true) × (2 ^ 63 - 1 ≤ stored.cuts))
    → (e ≢ faults.Disk → OnlyReads mid new) → (e ≡ faults.Disk → IsCutFault n point stored mid new) → (e ≡ faults.Disk → LogRose n mid new)
    → Throughout (IsOfLog n) (IsEither n (Some stored) (Some (cut_log stored point))) mid new → ((file : FileId) → old.faults file ≤ mid.faults file)
    → IsResumeFault n point e old new
cut_fault n point stored e old mid new laws laws' found going is whole incomplete none full reads blame rose run up = go is
  where
    read_on : OnlyReads mid new → IsFound n stored old new
    read_on r = record { looked = looked_reads n old mid new laws found.looked r; was = found.was; now = holds_read n stored mid new r found.now }

    same_as : (x : LogFault) → e ≡ x → IsResumeFault n point x old new → IsResumeFault n point e old new
    same_as x same f = subst (λ (y : LogFault). IsResumeFault n point y old new) (sym same) f

    by_blame : IsCutFault n point stored mid new → LogRose n mid new → IsResumeFault n point faults.Disk old new
    by_blame (inl (ends, counted, cause)) risen =
        inr (stored, cut_into n point stored old mid new laws' found going ends counted run, risen_second (old.faults (journal_of (owner_of n))) (mid.faults (journal_of (owner_of n))) (new.faults (journal_of (owner_of n))) (up (journal_of (owner_of n))) (cause.risen tt))
    by_blame (inr r) risen = inl (looked_reads n old mid new laws found.looked r, rose_in_second n old mid new up risen)

    go : (e ≡ faults.Broken) ⊎ (e ≡ faults.Complete) ⊎ (e ≡ faults.NoPoint point) ⊎ (e ≡ faults.Full Slots) ⊎ (e ≡ faults.Disk) ⊎ (e ≡ faults.NoMem) → IsResumeFault n point e old new
    go (inl x) = absurd (whole x)
    go (inr (inl x)) = absurd (incomplete x)
    go (inr (inr (inl x))) = same_as (faults.NoPoint point) x (stored, read_on (reads (λ d. let y : faults.NoPoint point ≡ faults.Disk = sym x ∙ d in cc)), going, none x)
    go (inr (inr (inr (inl x)))) = let f = full x in same_as (faults.Full Slots) x (stored, read_on (reads (λ d. let y : faults.Full Slots ≡ faults.Disk = sym x ∙ d in cc)), going, f.0, f.1, f.2)
    go (inr (inr (inr (inr (inl x))))) = same_as faults.Disk x (by_blame (blame x) (rose x))
    go (inr (inr (inr (inr (inr x))))) = same_as faults.NoMem x (looked_reads n old mid new laws found.looked (reads (λ d. let y : faults.NoMem ≡ faults.Disk = sym x ∙ d in cc)))

some_exit : (kind : ℕ) (bytes : List ℕ) (exit : Option (List ℕ)) → HasExit kind bytes exit → (kind == 3) ≡ true → exit ≢ None
some_exit kind bytes None has three none = has.0 (grind (arith, nat_tests))
some_exit kind bytes (Some t) has three none = cc

-- a log that is complete has an exit
pub complete_exit : (log : IoLogView) (stored : Stored) (disk : DiskView) → Represents log (bare stored) disk → is_complete log ≡ true → stored.exit ≢ None
complete_exit log stored disk at done =
    some_exit at.entry.body.kind (at.entry.bytes Exit) stored.exit at.is.exit
    (ap (λ (o : Option Body). option_map_or (λ (b : Body). b.kind == 3) o false) (sym (entry_body log.bundle disk at.entry at.committed)) ∙ done)

-- it stays represented while it is read
pub open_read : (log : IoLogView) (stored : Stored) (mid new : DiskView) → Represents log (bare stored) mid → OnlyReads mid new → Represents log (bare stored) new
open_read log stored mid new at reads = log_stays log (bare stored) (λ file. ⊥) mid new reads.unchanged.elsewhere (λ file own none. none) at
