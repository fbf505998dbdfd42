-- All is written, and then synced.
use Rattle.std.proofs.Common.{rules, false, ◌≡◌, ◌≢◌, ◌⊎◌, inl, inr, ◌+◌, List, Err, is_err, refl, sym, ◌∙◌, ap, subst, arith}
use Rattle.std.proofs.lemmas.Bool.{false≢true}
use Rattle.lsv_disk.specs.declared.file.FileId.{FileId}
use Rattle.lsv_disk.specs.View.{HasCause}
use Rattle.lsv_disk.specs.Throughout.{CallsAtMost}
use Rattle.lsv_disk.proofs.Composition.{cause_second, cause_widened, cause_of_file}
use Rattle.lsv_journal.specs.declared.fault.JournalFault.TheVariants as faults
use Rattle.lsv_journal.specs.Value as journals
use Rattle.lsv_journal.specs.Represents as represents
use Rattle.lsv_journal.proofs.Laws.{represents_stays}
use Rattle.lsv_bundle.specs.Value.{FileView}
use Rattle.lsv_bundle.specs.Represents.{Each, IsWritten}
use Rattle.lsv_bundle.specs.InnerFiles.{IsAmong, IsStagedAmong, IsSyncedOnce}
use Rattle.lsv_bundle.proofs.Results.{on_ok_map}
use Rattle.lsv_bundle.proofs.DataFiles.{staged_among, then_unchanged}
use Rattle.lsv_bundle.proofs.Putting.{disk_failed, not_slots, files_put, journal_at_one, slot_put, written_by, once_by, slots_once_by, calls_one, calls_two, calls_three, calls_four}
use Rattle.lsv_bundle.proofs.commit.write_then_sync.Goals as goal

pub put_slot-requires : goal.put_slot-requires
put_slot-requires g c = (search rules, (search rules, (search rules, held))) where
  held : g.D.Disk.tells → journals.is_broken c.args.journal.now ≡ false → represents.Represents c.args.journal.now (g.D.Disk.view c.write_all.new.disk)
  held told whole =
      let files : List FileView = c.args.files.now in
      journal_at_one c.args.owner files c.args.journal.now (g.D.Disk.view c.args.disk.now) (c.requires.represents told) c.requires.apart (g.D.Disk.view c.write_all.new.disk) (c.write_all.ensures.any_moment told)

pub sync_slot-requires : goal.sync_slot-requires
sync_slot-requires g c = (search rules, (held, λ whole none. let is = c.in_ok-put_slot.ensures.written in cc)) where
  held : g.D.Disk.tells → journals.is_broken c.put_slot.new.self ≡ false → represents.Represents c.put_slot.new.self (g.D.Disk.view c.sync_all.new.disk)
  held told whole =
      represents_stays 89 c.put_slot.new.self (λ _. ⊥) (g.D.Disk.view c.put_slot.new.disk) (g.D.Disk.view c.sync_all.new.disk) (c.put_slot.ensures.represents told whole)
      (c.sync_all.ensures.unchanged told).elsewhere (λ h own no. no)

pub returns-in_err-write_all-clause-any_moment : goal.returns-in_err-write_all-clause-any_moment
returns-in_err-write_all-clause-any_moment g c told =
    let owner = c.args.owner in
    let files : List FileView = c.args.files.now in
    let journal = c.args.journal.now in
    let old = g.D.Disk.view c.args.disk.now in
    let one = g.D.Disk.view c.write_all.new.disk in
    files_put owner files journal old (c.requires.represents told) c.requires.apart one (c.write_all.ensures.any_moment told)

pub returns-in_err-put_slot-clause-any_moment : goal.returns-in_err-put_slot-clause-any_moment
returns-in_err-put_slot-clause-any_moment g c told =
    let owner = c.args.owner in
    let files : List FileView = c.args.files.now in
    let journal = c.args.journal.now in
    let old = g.D.Disk.view c.args.disk.now in
    let one = g.D.Disk.view c.write_all.new.disk in
    let two = g.D.Disk.view c.put_slot.new.disk in
    slot_put owner files journal old (c.requires.represents told) c.requires.apart one (c.write_all.ensures.any_moment told) (g.met.D.Disk.reads_itself told c.write_all.new.disk) (g.met.D.Disk.is_now told c.write_all.new.disk) two (c.put_slot.ensures.any_moment told c.requires.whole)

pub returns-in_err-sync_all-clause-any_moment : goal.returns-in_err-sync_all-clause-any_moment
returns-in_err-sync_all-clause-any_moment g c told =
    let owner = c.args.owner in
    let files : List FileView = c.args.files.now in
    let journal = c.args.journal.now in
    let old = g.D.Disk.view c.args.disk.now in
    let one = g.D.Disk.view c.write_all.new.disk in
    let two = g.D.Disk.view c.put_slot.new.disk in
    let three = g.D.Disk.view c.sync_all.new.disk in
    then_unchanged _ _ old two three (g.met.D.Disk.is_now told c.put_slot.new.disk) (slot_put owner files journal old (c.requires.represents told) c.requires.apart one (c.write_all.ensures.any_moment told) (g.met.D.Disk.reads_itself told c.write_all.new.disk) (g.met.D.Disk.is_now told c.write_all.new.disk) two (c.put_slot.ensures.any_moment told c.requires.whole)) (c.sync_all.ensures.unchanged told)

pub returns-clause-any_moment : goal.returns-clause-any_moment
returns-clause-any_moment g c told =
    let owner = c.args.owner in
    let files : List FileView = c.args.files.now in
    let journal = c.args.journal.now in
    let old = g.D.Disk.view c.args.disk.now in
    let one = g.D.Disk.view c.write_all.new.disk in
    let two = g.D.Disk.view c.put_slot.new.disk in
    let three = g.D.Disk.view c.sync_all.new.disk in
    let four = g.D.Disk.view c.sync_slot.new.disk in
    then_unchanged _ _ old three four (g.met.D.Disk.is_now told c.sync_all.new.disk)
    (then_unchanged _ _ old two three (g.met.D.Disk.is_now told c.put_slot.new.disk) (slot_put owner files journal old (c.requires.represents told) c.requires.apart one (c.write_all.ensures.any_moment told) (g.met.D.Disk.reads_itself told c.write_all.new.disk) (g.met.D.Disk.is_now told c.write_all.new.disk) two (c.put_slot.ensures.any_moment told c.requires.whole)) (c.sync_all.ensures.unchanged told))
    (c.sync_slot.ensures.unchanged told c.in_ok-put_slot.ensures.whole)

pub returns-in_err-write_all-clause-calls : goal.returns-in_err-write_all-clause-calls
returns-in_err-write_all-clause-calls g c told =
    let owner = c.args.owner in
    let files : List FileView = c.args.files.now in
    let journal = c.args.journal.now in
    let old = g.D.Disk.view c.args.disk.now in
    let one = g.D.Disk.view c.write_all.new.disk in
    let apart : (h : FileId) → IsAmong owner files h → h ≢ journals.file journal = not_slots owner files journal old (c.requires.represents told) c.requires.apart in
    let staged : (h : FileId) → IsStagedAmong owner files h → h ≡ journals.file journal → ⊥ = λ h is same. apart h (staged_among owner files h is) same in
    let A : FileId → Type 0 = IsStagedAmong owner files in
    let B : FileId → Type 0 = λ h. h ≡ journals.file journal in
    calls_one A B staged old one (c.write_all.ensures.calls told)

pub returns-in_err-put_slot-clause-calls : goal.returns-in_err-put_slot-clause-calls
returns-in_err-put_slot-clause-calls g c told =
    let owner = c.args.owner in
    let files : List FileView = c.args.files.now in
    let journal = c.args.journal.now in
    let old = g.D.Disk.view c.args.disk.now in
    let one = g.D.Disk.view c.write_all.new.disk in
    let two = g.D.Disk.view c.put_slot.new.disk in
    let apart : (h : FileId) → IsAmong owner files h → h ≢ journals.file journal = not_slots owner files journal old (c.requires.represents told) c.requires.apart in
    let staged : (h : FileId) → IsStagedAmong owner files h → h ≡ journals.file journal → ⊥ = λ h is same. apart h (staged_among owner files h is) same in
    let A : FileId → Type 0 = IsStagedAmong owner files in
    let B : FileId → Type 0 = λ h. h ≡ journals.file journal in
    calls_two A B staged old one two (c.write_all.ensures.calls told) (c.put_slot.ensures.calls told)

pub returns-in_err-sync_all-clause-calls : goal.returns-in_err-sync_all-clause-calls
returns-in_err-sync_all-clause-calls g c told =
    let owner = c.args.owner in
    let files : List FileView = c.args.files.now in
    let journal = c.args.journal.now in
    let old = g.D.Disk.view c.args.disk.now in
    let one = g.D.Disk.view c.write_all.new.disk in
    let two = g.D.Disk.view c.put_slot.new.disk in
    let three = g.D.Disk.view c.sync_all.new.disk in
    let apart : (h : FileId) → IsAmong owner files h → h ≢ journals.file journal = not_slots owner files journal old (c.requires.represents told) c.requires.apart in
    let staged : (h : FileId) → IsStagedAmong owner files h → h ≡ journals.file journal → ⊥ = λ h is same. apart h (staged_among owner files h is) same in
    let A : FileId → Type 0 = IsStagedAmong owner files in
    let B : FileId → Type 0 = λ h. h ≡ journals.file journal in
    calls_three A B staged old one two (c.write_all.ensures.calls told) (c.put_slot.ensures.calls told) three (c.sync_all.ensures.calls told)

pub returns-clause-calls : goal.returns-clause-calls
returns-clause-calls g c told =
    let owner = c.args.owner in
    let files : List FileView = c.args.files.now in
    let journal = c.args.journal.now in
    let old = g.D.Disk.view c.args.disk.now in
    let one = g.D.Disk.view c.write_all.new.disk in
    let two = g.D.Disk.view c.put_slot.new.disk in
    let three = g.D.Disk.view c.sync_all.new.disk in
    let four = g.D.Disk.view c.sync_slot.new.disk in
    let apart : (h : FileId) → IsAmong owner files h → h ≢ journals.file journal = not_slots owner files journal old (c.requires.represents told) c.requires.apart in
    let staged : (h : FileId) → IsStagedAmong owner files h → h ≡ journals.file journal → ⊥ = λ h is same. apart h (staged_among owner files h is) same in
    let A : FileId → Type 0 = IsStagedAmong owner files in
    let B : FileId → Type 0 = λ h. h ≡ journals.file journal in
    calls_four A B staged old one two (c.write_all.ensures.calls told) (c.put_slot.ensures.calls told) three four (c.sync_all.ensures.calls told) (subst (λ (f : FileId). CallsAtMost 0 1 (λ h. h ≡ f) three four) c.put_slot.ensures.kept.file_is (c.sync_slot.ensures.calls told))

pub returns-clause-written : goal.returns-clause-written
returns-clause-written g c told =
    let owner = c.args.owner in
    let files : List FileView = c.args.files.now in
    let journal = c.args.journal.now in
    let old = g.D.Disk.view c.args.disk.now in
    let one = g.D.Disk.view c.write_all.new.disk in
    let two = g.D.Disk.view c.put_slot.new.disk in
    let three = g.D.Disk.view c.sync_all.new.disk in
    let four = g.D.Disk.view c.sync_slot.new.disk in
    let apart : (h : FileId) → IsAmong owner files h → h ≢ journals.file journal = not_slots owner files journal old (c.requires.represents told) c.requires.apart in
    on_ok_map c.sync_slot.result _ (Each (IsWritten owner four) files)
    (λ _. written_by owner files (journals.file journal) apart old one two three four (c.requires.durable told) (c.in_ok-write_all.ensures.appended told) (c.put_slot.ensures.any_moment told c.requires.whole).elsewhere
    (c.sync_all.ensures.unchanged told) (c.in_ok-sync_all.ensures.durable told) (c.sync_slot.ensures.unchanged told c.in_ok-put_slot.ensures.whole))
    c.sync_slot.ensures.whole

pub returns-clause-once : goal.returns-clause-once
returns-clause-once g c told =
    let owner = c.args.owner in
    let files : List FileView = c.args.files.now in
    let journal = c.args.journal.now in
    let old = g.D.Disk.view c.args.disk.now in
    let one = g.D.Disk.view c.write_all.new.disk in
    let two = g.D.Disk.view c.put_slot.new.disk in
    let three = g.D.Disk.view c.sync_all.new.disk in
    let four = g.D.Disk.view c.sync_slot.new.disk in
    let apart : (h : FileId) → IsAmong owner files h → h ≢ journals.file journal = not_slots owner files journal old (c.requires.represents told) c.requires.apart in
    on_ok_map c.sync_slot.result _ (Each (IsSyncedOnce owner old four) files)
    (λ _. once_by owner files (journals.file journal) apart old one two three four (c.write_all.ensures.calls told) (c.put_slot.ensures.calls told) (c.in_ok-sync_all.ensures.once told) (subst (λ (f : FileId). CallsAtMost 0 1 (λ h. h ≡ f) three four) c.put_slot.ensures.kept.file_is (c.sync_slot.ensures.calls told)))
    c.sync_slot.ensures.whole

pub returns-clause-slots_once : goal.returns-clause-slots_once
returns-clause-slots_once g c told =
    let owner = c.args.owner in
    let files : List FileView = c.args.files.now in
    let journal = c.args.journal.now in
    let old = g.D.Disk.view c.args.disk.now in
    let one = g.D.Disk.view c.write_all.new.disk in
    let two = g.D.Disk.view c.put_slot.new.disk in
    let three = g.D.Disk.view c.sync_all.new.disk in
    let four = g.D.Disk.view c.sync_slot.new.disk in
    let apart : (h : FileId) → IsAmong owner files h → h ≢ journals.file journal = not_slots owner files journal old (c.requires.represents told) c.requires.apart in
    on_ok_map c.sync_slot.result _ _
    (λ once. slots_once_by owner files (journals.file journal) apart old one two three four (c.write_all.ensures.calls told) (c.put_slot.ensures.calls told) (c.sync_all.ensures.calls told)
    (subst (λ (f : FileId). four.syncs f ≡ three.syncs f + 1) c.put_slot.ensures.kept.file_is once))
    (c.sync_slot.ensures.synced told)

pub returns-in_err-write_all-clause-cause : goal.returns-in_err-write_all-clause-cause
returns-in_err-write_all-clause-cause g c =
    let owner = c.args.owner in
    let files : List FileView = c.args.files.now in
    let journal = c.args.journal.now in
    let old = g.D.Disk.view c.args.disk.now in
    let one = g.D.Disk.view c.write_all.new.disk in
    let Own : FileId → Type 0 = λ h. IsStagedAmong owner files h ⊎ (h ≡ journals.file journal) in
    cause_widened (IsStagedAmong owner files) Own _ _ old one (λ h staged. inl staged) (λ _. refl) c.in_err-write_all.ensures.cause

pub returns-in_err-put_slot-clause-cause : goal.returns-in_err-put_slot-clause-cause
returns-in_err-put_slot-clause-cause g c =
    let owner = c.args.owner in
    let files : List FileView = c.args.files.now in
    let journal = c.args.journal.now in
    let old = g.D.Disk.view c.args.disk.now in
    let one = g.D.Disk.view c.write_all.new.disk in
    let two = g.D.Disk.view c.put_slot.new.disk in
    let Own : FileId → Type 0 = λ h. IsStagedAmong owner files h ⊎ (h ≡ journals.file journal) in
    cause_second Own _ old one two c.write_all.ensures.cause.monotone
    (cause_widened (λ h. h ≡ journals.file journal) Own _ _ one two (λ h is. inr is) (λ _. disk_failed c.put_slot.result (λ broken. false≢true (sym c.requires.whole ∙ c.put_slot.ensures.broken.0 broken)) (ap is_err c.in_err-put_slot.was))
    (cause_of_file (λ h. h ≡ journals.file journal) (journals.file journal) _ one two refl c.put_slot.ensures.blame))

pub returns-in_err-sync_all-clause-cause : goal.returns-in_err-sync_all-clause-cause
returns-in_err-sync_all-clause-cause g c =
    let owner = c.args.owner in
    let files : List FileView = c.args.files.now in
    let journal = c.args.journal.now in
    let old = g.D.Disk.view c.args.disk.now in
    let one = g.D.Disk.view c.write_all.new.disk in
    let two = g.D.Disk.view c.put_slot.new.disk in
    let three = g.D.Disk.view c.sync_all.new.disk in
    let Own : FileId → Type 0 = λ h. IsStagedAmong owner files h ⊎ (h ≡ journals.file journal) in
    cause_second Own _ old two three (λ h. omega (arith, c.write_all.ensures.cause.monotone h, c.put_slot.ensures.cause.monotone h))
    (cause_widened (IsStagedAmong owner files) Own _ _ two three (λ h staged. inl staged) (λ _. refl) c.in_err-sync_all.ensures.cause)

pub returns-clause-cause : goal.returns-clause-cause
returns-clause-cause g c =
    let owner = c.args.owner in
    let files : List FileView = c.args.files.now in
    let journal = c.args.journal.now in
    let old = g.D.Disk.view c.args.disk.now in
    let one = g.D.Disk.view c.write_all.new.disk in
    let two = g.D.Disk.view c.put_slot.new.disk in
    let three = g.D.Disk.view c.sync_all.new.disk in
    let four = g.D.Disk.view c.sync_slot.new.disk in
    let Own : FileId → Type 0 = λ h. IsStagedAmong owner files h ⊎ (h ≡ journals.file journal) in
    cause_second Own _ old three four (λ h. omega (arith, c.write_all.ensures.cause.monotone h, c.put_slot.ensures.cause.monotone h, c.sync_all.ensures.cause.monotone h))
    (cause_widened (λ h. h ≡ journals.file journal) Own _ _ three four (λ h is. inr is) (disk_failed c.sync_slot.result (λ broken. false≢true (sym c.in_ok-put_slot.ensures.whole ∙ c.sync_slot.ensures.broken.0 broken)))
    (cause_of_file (λ h. h ≡ journals.file journal) (journals.file journal) _ three four refl (subst (λ (f : FileId). HasCause f (c.sync_slot.result ≡ Err faults.Disk) three four) c.put_slot.ensures.kept.file_is c.sync_slot.ensures.blame)))

pub returns-clause-prepared : goal.returns-clause-prepared
returns-clause-prepared g c =
    on_ok_map c.sync_slot.result _ _ (λ is. is ∙ c.in_ok-put_slot.ensures.written) c.sync_slot.ensures.prepared

pub returns-clause-still_represented : goal.returns-clause-still_represented
returns-clause-still_represented g c told =
    on_ok_map c.sync_slot.result _ _ (c.sync_slot.ensures.represents told) c.sync_slot.ensures.whole
