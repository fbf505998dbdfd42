-- Making the files together, and then beginning the journal.
use Rattle.std.proofs.Common.{◌≡◌, ◌⊎◌, inr, List, map, None, Some, refl, sym, subst, ◌∙◌, ap}
use Rattle.lsv_disk.specs.declared.file.FileId.{FileId}
use Rattle.lsv_disk.specs.declared.file.Part.{Part}
use Rattle.lsv_disk.specs.Files.{file_of, IsOneOf, IsNew}
use Rattle.lsv_disk.specs.Throughout.{Throughout, CallsAtMost}
use Rattle.lsv_disk.proofs.Composition.{cause_second, cause_of_file, cause_widened}
use Rattle.lsv_bundle.specs.Shape.{parts_of, journal_of, IsWritable, IsOwnFile}
use Rattle.lsv_bundle.specs.Value.{FileView}
use Rattle.lsv_bundle.specs.Represents.{IsDurable}
use Rattle.lsv_bundle.specs.InnerFiles.{all_parts_of, EachPart}
use Rattle.lsv_bundle.proofs.Shapes.{made_is_writable, each_made}
use Rattle.lsv_bundle.proofs.Journals.{writable_own}
use Rattle.lsv_bundle.proofs.Making.{files_run, files_may, all_made, made_durable, zeros, zero_lengths, fresh_parts, made_calls, files_alone}
use Rattle.lsv_bundle.proofs.bundle.Bundle.create.Goals as goal

pub returns-in_err-make_files-clause-again : goal.returns-in_err-make_files-clause-again
returns-in_err-make_files-clause-again g c told =
    let owner = c.args.owner in
    let s = c.args.shape in
    let old = g.D.Disk.view c.args.disk.now in
    let mid = g.D.Disk.view c.make_files.new.disk in
    let reads = g.met.D.Disk.reads_itself told c.args.disk.now in
    let run : Throughout (IsOneOf owner (all_parts_of s)) (λ image. (f : FileId) → IsOneOf owner (all_parts_of s) f → old.crash_states f (image f) ⊎ IsNew f (image f)) old mid =
    subst (λ (ps : List Part). Throughout (IsOneOf owner ps) (λ image. (f : FileId) → IsOneOf owner ps f → old.crash_states f (image f) ⊎ IsNew f (image f)) old mid) c.all_parts.ensures (c.make_files.ensures.any_moment told) in
    files_may owner s old mid reads (c.requires.may_be_made told) run
    (subst (λ (ps : List Part). (f : FileId) → IsOneOf owner ps f → (mid.reads f ≡ old.reads f) ⊎ IsNew f (mid.reads f)) c.all_parts.ensures (c.make_files.ensures.reads told))

pub returns-in_err-make_files-clause-any_moment : goal.returns-in_err-make_files-clause-any_moment
returns-in_err-make_files-clause-any_moment g c told =
    let owner = c.args.owner in
    let s = c.args.shape in
    let old = g.D.Disk.view c.args.disk.now in
    let mid = g.D.Disk.view c.make_files.new.disk in
    let reads = g.met.D.Disk.reads_itself told c.args.disk.now in
    let run : Throughout (IsOneOf owner (all_parts_of s)) (λ image. (f : FileId) → IsOneOf owner (all_parts_of s) f → old.crash_states f (image f) ⊎ IsNew f (image f)) old mid =
    subst (λ (ps : List Part). Throughout (IsOneOf owner ps) (λ image. (f : FileId) → IsOneOf owner ps f → old.crash_states f (image f) ⊎ IsNew f (image f)) old mid) c.all_parts.ensures (c.make_files.ensures.any_moment told) in
    files_run owner s old mid reads (c.requires.may_be_made told) run

pub returns-in_err-make_files-clause-calls : goal.returns-in_err-make_files-clause-calls
returns-in_err-make_files-clause-calls g c told =
    let owner = c.args.owner in
    let s = c.args.shape in
    let old = g.D.Disk.view c.args.disk.now in
    let mid = g.D.Disk.view c.make_files.new.disk in
    files_alone owner s old mid (subst (λ (ps : List Part). CallsAtMost 0 1 (IsOneOf owner ps) old mid) c.all_parts.ensures (c.make_files.ensures.calls told))

pub returns-in_err-make_files-clause-cause : goal.returns-in_err-make_files-clause-cause
returns-in_err-make_files-clause-cause g c =
    let owner = c.args.owner in
    let s = c.args.shape in
    cause_widened (IsOneOf owner c.all_parts.result.now) (IsOwnFile owner s) _ _ (g.D.Disk.view c.args.disk.now) (g.D.Disk.view c.make_files.new.disk)
    (λ f one. writable_own owner s f (made_is_writable owner s f (subst (λ (ps : List Part). IsOneOf owner ps f) c.all_parts.ensures one)))
    (λ _. refl) c.in_err-make_files.ensures.cause

pub returns-in_err-make_files-clause-blame : goal.returns-in_err-make_files-clause-blame
returns-in_err-make_files-clause-blame g c =
    let owner = c.args.owner in
    let s = c.args.shape in
    cause_widened (IsOneOf owner c.all_parts.result.now) (IsWritable owner s) _ _ (g.D.Disk.view c.args.disk.now) (g.D.Disk.view c.make_files.new.disk)
    (λ f one. made_is_writable owner s f (subst (λ (ps : List Part). IsOneOf owner ps f) c.all_parts.ensures one))
    (λ _. refl) c.in_err-make_files.ensures.cause

pub begin_journal-requires : goal.begin_journal-requires
begin_journal-requires g c =
    record {
      may_be_made = λ told.
          let owner = c.args.owner in
          let s = c.args.shape in
          let old = g.D.Disk.view c.args.disk.now in
          let mid = g.D.Disk.view c.make_files.new.disk in
          let reads = g.met.D.Disk.reads_itself told c.args.disk.now in
          let run : Throughout (IsOneOf owner (all_parts_of s)) (λ image. (f : FileId) → IsOneOf owner (all_parts_of s) f → old.crash_states f (image f) ⊎ IsNew f (image f)) old mid =
          subst (λ (ps : List Part). Throughout (IsOneOf owner ps) (λ image. (f : FileId) → IsOneOf owner ps f → old.crash_states f (image f) ⊎ IsNew f (image f)) old mid) c.all_parts.ensures (c.make_files.ensures.any_moment told) in
          files_may owner s old mid reads (c.requires.may_be_made told) run
          (subst (λ (ps : List Part). (f : FileId) → IsOneOf owner ps f → (mid.reads f ≡ old.reads f) ⊎ IsNew f (mid.reads f)) c.all_parts.ensures (c.make_files.ensures.reads told));
      there = λ told none.
          let owner = c.args.owner in
          let s = c.args.shape in
          let old = g.D.Disk.view c.args.disk.now in
          let mid = g.D.Disk.view c.make_files.new.disk in
          let each : EachPart (λ part. IsDurable mid (file_of owner part) 0) (all_parts_of s) =
          subst (λ (ps : List Part). EachPart (λ part. IsDurable mid (file_of owner part) 0) ps) c.all_parts.ensures (c.in_ok-make_files.ensures.there told) in
          let slots = (each_made (λ part. IsDurable mid (file_of owner part) 0) s each).1 in
          let no : None ≡ Some slots.content = sym none ∙ slots.there in
          cc;
      synced_before = λ told.
          let owner = c.args.owner in
          let s = c.args.shape in
          let old = g.D.Disk.view c.args.disk.now in
          let mid = g.D.Disk.view c.make_files.new.disk in
          let each : EachPart (λ part. IsDurable mid (file_of owner part) 0) (all_parts_of s) =
          subst (λ (ps : List Part). EachPart (λ part. IsDurable mid (file_of owner part) 0) ps) c.all_parts.ensures (c.in_ok-make_files.ensures.there told) in
          (each_made (λ part. IsDurable mid (file_of owner part) 0) s each).1.synced;
    }

pub returns-in_err-journal-clause-any_moment : goal.returns-in_err-journal-clause-any_moment
returns-in_err-journal-clause-any_moment g c told =
    let owner = c.args.owner in
    let s = c.args.shape in
    let old = g.D.Disk.view c.args.disk.now in
    let mid = g.D.Disk.view c.make_files.new.disk in
    let reads = g.met.D.Disk.reads_itself told c.args.disk.now in
    let run : Throughout (IsOneOf owner (all_parts_of s)) (λ image. (f : FileId) → IsOneOf owner (all_parts_of s) f → old.crash_states f (image f) ⊎ IsNew f (image f)) old mid =
    subst (λ (ps : List Part). Throughout (IsOneOf owner ps) (λ image. (f : FileId) → IsOneOf owner ps f → old.crash_states f (image f) ⊎ IsNew f (image f)) old mid) c.all_parts.ensures (c.make_files.ensures.any_moment told) in
    let new = g.D.Disk.view c.begin_journal.new.disk in
    let mid_reads = g.met.D.Disk.reads_itself told c.make_files.new.disk in
    let is_now = g.met.D.Disk.is_now told c.make_files.new.disk in
    all_made owner s old mid reads (c.requires.may_be_made told) run new mid_reads is_now (c.begin_journal.ensures.any_moment told)

pub returns-in_err-journal-clause-calls : goal.returns-in_err-journal-clause-calls
returns-in_err-journal-clause-calls g c told =
    let owner = c.args.owner in
    let s = c.args.shape in
    let old = g.D.Disk.view c.args.disk.now in
    let mid = g.D.Disk.view c.make_files.new.disk in
    let new = g.D.Disk.view c.begin_journal.new.disk in
    made_calls owner s old mid new (subst (λ (ps : List Part). CallsAtMost 0 1 (IsOneOf owner ps) old mid) c.all_parts.ensures (c.make_files.ensures.calls told)) (c.begin_journal.ensures.calls told)

pub returns-clause-any_moment : goal.returns-clause-any_moment
returns-clause-any_moment g c told =
    let owner = c.args.owner in
    let s = c.args.shape in
    let old = g.D.Disk.view c.args.disk.now in
    let mid = g.D.Disk.view c.make_files.new.disk in
    let reads = g.met.D.Disk.reads_itself told c.args.disk.now in
    let run : Throughout (IsOneOf owner (all_parts_of s)) (λ image. (f : FileId) → IsOneOf owner (all_parts_of s) f → old.crash_states f (image f) ⊎ IsNew f (image f)) old mid =
    subst (λ (ps : List Part). Throughout (IsOneOf owner ps) (λ image. (f : FileId) → IsOneOf owner ps f → old.crash_states f (image f) ⊎ IsNew f (image f)) old mid) c.all_parts.ensures (c.make_files.ensures.any_moment told) in
    let new = g.D.Disk.view c.begin_journal.new.disk in
    let mid_reads = g.met.D.Disk.reads_itself told c.make_files.new.disk in
    let is_now = g.met.D.Disk.is_now told c.make_files.new.disk in
    all_made owner s old mid reads (c.requires.may_be_made told) run new mid_reads is_now (c.begin_journal.ensures.any_moment told)

pub returns-clause-calls : goal.returns-clause-calls
returns-clause-calls g c told =
    let owner = c.args.owner in
    let s = c.args.shape in
    let old = g.D.Disk.view c.args.disk.now in
    let mid = g.D.Disk.view c.make_files.new.disk in
    let new = g.D.Disk.view c.begin_journal.new.disk in
    made_calls owner s old mid new (subst (λ (ps : List Part). CallsAtMost 0 1 (IsOneOf owner ps) old mid) c.all_parts.ensures (c.make_files.ensures.calls told)) (c.begin_journal.ensures.calls told)

pub returns-clause-represents : goal.returns-clause-represents
returns-clause-represents g c told =
    let owner = c.args.owner in
    let s = c.args.shape in
    let old = g.D.Disk.view c.args.disk.now in
    let mid = g.D.Disk.view c.make_files.new.disk in
    let reads = g.met.D.Disk.reads_itself told c.args.disk.now in
    let run : Throughout (IsOneOf owner (all_parts_of s)) (λ image. (f : FileId) → IsOneOf owner (all_parts_of s) f → old.crash_states f (image f) ⊎ IsNew f (image f)) old mid =
    subst (λ (ps : List Part). Throughout (IsOneOf owner ps) (λ image. (f : FileId) → IsOneOf owner ps f → old.crash_states f (image f) ⊎ IsNew f (image f)) old mid) c.all_parts.ensures (c.make_files.ensures.any_moment told) in
    let new = g.D.Disk.view c.begin_journal.new.disk in
    let mid_reads = g.met.D.Disk.reads_itself told c.make_files.new.disk in
    let is_now = g.met.D.Disk.is_now told c.make_files.new.disk in
    let each : EachPart (λ part. IsDurable mid (file_of owner part) 0) (all_parts_of s) =
    subst (λ (ps : List Part). EachPart (λ part. IsDurable mid (file_of owner part) 0) ps) c.all_parts.ensures (c.in_ok-make_files.ensures.there told) in
    record {
      well_formed = record { parts = ap (λ (fs : List FileView). map (λ f. f.part) fs) c.in_ok-files.ensures.items ∙ fresh_parts zeros (parts_of s); at = c.in_ok-journal.ensures.file; whole = λ _. c.in_ok-journal.ensures.whole; last_body = λ body e. cc; prepared = λ _. c.in_ok-journal.ensures.prepared; prepared_body = λ body e. cc };
      journal = c.in_ok-journal.ensures.represents told;
      entry = c.in_ok-journal.ensures.last;
      files = made_durable owner s old mid reads (c.requires.may_be_made told) run new mid_reads is_now (c.begin_journal.ensures.any_moment told) c.in_ok-files.files.items zeros zero_lengths c.in_ok-files.ensures.items
          (each_made (λ part. IsDurable mid (file_of owner part) 0) s each).0;
      lengths = λ body e. cc;
    }

pub returns-in_err-journal-clause-cause : goal.returns-in_err-journal-clause-cause
returns-in_err-journal-clause-cause g c =
    let owner = c.args.owner in
    let s = c.args.shape in
    let old = g.D.Disk.view c.args.disk.now in
    let mid = g.D.Disk.view c.make_files.new.disk in
    let new = g.D.Disk.view c.begin_journal.new.disk in
    cause_second (IsOwnFile owner s) _ old mid new c.make_files.ensures.cause.monotone
    (cause_widened (λ h. h ≡ journal_of owner) (IsOwnFile owner s) _ _ mid new (λ h is. writable_own owner s h (inr is)) (λ _. refl)
    (cause_of_file (λ h. h ≡ journal_of owner) (journal_of owner) _ mid new refl c.in_err-journal.ensures.cause))
