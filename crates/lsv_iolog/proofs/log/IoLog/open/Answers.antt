-- The journal is looked at, the files are opened, and what they hold is read and judged.
use Rattle.std.proofs.Common.{◌≡◌, ◌≤◌, ◌^◌, inl, inr, ℕ, List, Ok, Err, IsErrOf, Result, false, refl, sym, ◌∙◌, ap, subst, arith}
use Rattle.lsv_disk.specs.declared.file.Part.TheVariants.{Head, Timing}
use Rattle.lsv_disk.specs.View.{Image, DiskView}
use Rattle.lsv_disk.proofs.Composition.{cause_second, unchanged_reads}
use Rattle.lsv_journal.proofs.Laws.{own_alone}
use Rattle.lsv_bundle.specs.declared.body.Body.{Body}
use Rattle.lsv_bundle.specs.declared.bundle.Bundle.{Bundle}
use Rattle.lsv_bundle.specs.declared.shape.Shape.TheVariants as shapes
use Rattle.lsv_bundle.specs.declared.view.View.{View}
use Rattle.lsv_bundle.specs.Body.{length_of}
use Rattle.lsv_bundle.specs.Shape.{journal_of}
use Rattle.lsv_bundle.specs.Value.{BundleView, committed_length}
use Rattle.lsv_bundle.specs.Committed.{HoldsEntry, HasEntry, IsDamaged}
use Rattle.lsv_info.specs.declared.times.Head as info
use Rattle.lsv_info.specs.Reading.{head_of}
use Rattle.lsv_record.specs.declared.records.Shaped.{Shaped}
use Rattle.lsv_record.specs.Tally.{Totals}
use Rattle.lsv_iolog.specs.declared.fault.LogFault.{LogFault}
use Rattle.lsv_iolog.specs.declared.fault.LogFault.TheVariants as logs
use Rattle.lsv_iolog.specs.declared.fault.ViewFault.{ViewFault}
use Rattle.lsv_iolog.specs.declared.fault.ViewFault.TheVariants as views
use Rattle.lsv_iolog.specs.Faults.{IsOpenFault, of_view}
use Rattle.lsv_iolog.specs.Recovered.{IsOfLog, owner_of}
use Rattle.lsv_iolog.specs.Damage.{IsFault}
use Rattle.lsv_iolog.specs.Value.{IoLogView}
use Rattle.lsv_iolog.specs.Inner.Invariant.{IsSettled}
use Rattle.lsv_iolog.specs.Inner.Scanning.{text_of, entry_of, IsWholeView, IsScanned, ExitIsWhole, AllCounted}
use Rattle.lsv_iolog.proofs.Results.{err_holds, given_view, same_fault, view_cause, view_damaged, view_opens, view_there}
use Rattle.lsv_iolog.proofs.Scans.{reads_nothing}
use Rattle.lsv_iolog.proofs.Judging.{judged_log}
use Rattle.lsv_iolog.proofs.Representing.{settled_represents, settled_invariant, settled_small}
use Rattle.lsv_iolog.proofs.Opening.{open_moment, open_reads, read_moment, only_read, unmade_last, settled_as, whole_view, holds_old, committed_new, unwritten}
use Rattle.lsv_iolog.proofs.log.IoLog.open.Goals as goal

pub returns-in_err-check_entry-clause-reads : goal.returns-in_err-check_entry-clause-reads
returns-in_err-check_entry-clause-reads g c told = only_read c.args.number (g.D.Disk.view c.args.disk.now) (g.D.Disk.view c.check_entry.new.disk) (c.check_entry.ensures.reads told)

pub returns-in_err-check_entry-clause-any_moment : goal.returns-in_err-check_entry-clause-any_moment
returns-in_err-check_entry-clause-any_moment g c told = read_moment c.args.number (g.D.Disk.view c.args.disk.now) (g.D.Disk.view c.check_entry.new.disk) (c.check_entry.ensures.reads told)

pub returns-in_err-bundle-clause-reads : goal.returns-in_err-bundle-clause-reads
returns-in_err-bundle-clause-reads g c told =
    let n : ℕ = c.args.number in
    let old : DiskView = g.D.Disk.view c.args.disk.now in
    let one : DiskView = g.D.Disk.view c.check_entry.new.disk in
    let two : DiskView = g.D.Disk.view c.open_files.new.disk in
    let first = c.check_entry.ensures.reads told in
    let run = c.open_files.ensures.any_moment told in
    let last = reads_nothing two (g.met.D.Disk.only_now told c.open_files.new.disk) in
    open_reads n (owner_of n) old one two two refl first (c.open_files.ensures.reads told) run.elsewhere.same last

pub returns-in_err-bundle-clause-any_moment : goal.returns-in_err-bundle-clause-any_moment
returns-in_err-bundle-clause-any_moment g c told =
    let n : ℕ = c.args.number in
    let old : DiskView = g.D.Disk.view c.args.disk.now in
    let one : DiskView = g.D.Disk.view c.check_entry.new.disk in
    let two : DiskView = g.D.Disk.view c.open_files.new.disk in
    let first = c.check_entry.ensures.reads told in
    let run = c.open_files.ensures.any_moment told in
    let last = reads_nothing two (g.met.D.Disk.only_now told c.open_files.new.disk) in
    open_moment n (owner_of n) old one two two refl (g.met.D.Disk.only_now told c.open_files.new.disk) (g.met.D.Disk.is_now told c.open_files.new.disk) first run last

pub returns-in_err-bundle-clause-absent : goal.returns-in_err-bundle-clause-absent
returns-in_err-bundle-clause-absent g c told is_absent =
    let n : ℕ = c.args.number in
    let old : DiskView = g.D.Disk.view c.args.disk.now in
    let one : DiskView = g.D.Disk.view c.check_entry.new.disk in
    let two : DiskView = g.D.Disk.view c.open_files.new.disk in
    let first = c.check_entry.ensures.reads told in
    let run = c.open_files.ensures.any_moment told in
    let last = reads_nothing two (g.met.D.Disk.only_now told c.open_files.new.disk) in
    let e : c.in_err-bundle.field-0.0 ≡ logs.Absent = same_fault c.from_residual-in_err-bundle.result c.in_err-bundle.field-0.0 logs.Absent c.from_residual-in_err-bundle.ensures.1 is_absent in
    let none = c.in_err-bundle.ensures.absent told (ap (λ (x : LogFault). let y : Result Bundle LogFault = Err x in y) e) in
    absurd (c.in_ok-check_entry.ensures.there told (sym (own_alone 89 (journal_of (owner_of n)) old.reads one.reads (λ f own. unchanged_reads old one first.unchanged f)) ∙ none))

pub returns-in_err-bundle-clause-damaged : goal.returns-in_err-bundle-clause-damaged
returns-in_err-bundle-clause-damaged g c told part is_damaged =
    let n : ℕ = c.args.number in
    let old : DiskView = g.D.Disk.view c.args.disk.now in
    let one : DiskView = g.D.Disk.view c.check_entry.new.disk in
    let two : DiskView = g.D.Disk.view c.open_files.new.disk in
    let first = c.check_entry.ensures.reads told in
    let run = c.open_files.ensures.any_moment told in
    let last = reads_nothing two (g.met.D.Disk.only_now told c.open_files.new.disk) in
    let e : c.in_err-bundle.field-0.0 ≡ logs.Damaged part = same_fault c.from_residual-in_err-bundle.result c.in_err-bundle.field-0.0 (logs.Damaged part) c.from_residual-in_err-bundle.ensures.1 is_damaged in
    let same : one.reads ≡ old.reads = λ i f. unchanged_reads old one first.unchanged f i in
    inl (subst (λ (image : Image). IsDamaged (owner_of n) shapes.Log image part) same (c.in_err-bundle.ensures.damaged told part (ap (λ (x : LogFault). let y : Result Bundle LogFault = Err x in y) e)))

pub returns-in_err-bundle-clause-unmade : goal.returns-in_err-bundle-clause-unmade
returns-in_err-bundle-clause-unmade g c told unmade =
    absurd (c.in_ok-check_entry.ensures.there told (unmade_last c.args.number (g.D.Disk.view c.args.disk.now) (g.met.D.Disk.reads_itself told c.args.disk.now) unmade))

pub returns-in_err-head-clause-unmade : goal.returns-in_err-head-clause-unmade
returns-in_err-head-clause-unmade g c told unmade =
    absurd (c.in_ok-check_entry.ensures.there told (unmade_last c.args.number (g.D.Disk.view c.args.disk.now) (g.met.D.Disk.reads_itself told c.args.disk.now) unmade))

pub returns-clause-unmade : goal.returns-clause-unmade
returns-clause-unmade g c told unmade =
    absurd (c.in_ok-check_entry.ensures.there told (unmade_last c.args.number (g.D.Disk.view c.args.disk.now) (g.met.D.Disk.reads_itself told c.args.disk.now) unmade))

pub returns-in_err-head-clause-reads : goal.returns-in_err-head-clause-reads
returns-in_err-head-clause-reads g c told =
    let n : ℕ = c.args.number in
    let old : DiskView = g.D.Disk.view c.args.disk.now in
    let one : DiskView = g.D.Disk.view c.check_entry.new.disk in
    let two : DiskView = g.D.Disk.view c.open_files.new.disk in
    let new : DiskView = g.D.Disk.view c.read_stored.new.disk in
    let first = c.check_entry.ensures.reads told in
    let run = c.open_files.ensures.any_moment told in
    let last = c.read_stored.ensures.reads told in
    open_reads n (owner_of n) old one two new refl first (c.open_files.ensures.reads told) run.elsewhere.same last

pub returns-in_err-head-clause-any_moment : goal.returns-in_err-head-clause-any_moment
returns-in_err-head-clause-any_moment g c told =
    let n : ℕ = c.args.number in
    let old : DiskView = g.D.Disk.view c.args.disk.now in
    let one : DiskView = g.D.Disk.view c.check_entry.new.disk in
    let two : DiskView = g.D.Disk.view c.open_files.new.disk in
    let new : DiskView = g.D.Disk.view c.read_stored.new.disk in
    let first = c.check_entry.ensures.reads told in
    let run = c.open_files.ensures.any_moment told in
    let last = c.read_stored.ensures.reads told in
    open_moment n (owner_of n) old one two new refl (g.met.D.Disk.only_now told c.open_files.new.disk) (g.met.D.Disk.is_now told c.open_files.new.disk) first run last

pub returns-clause-reads : goal.returns-clause-reads
returns-clause-reads g c told =
    let n : ℕ = c.args.number in
    let old : DiskView = g.D.Disk.view c.args.disk.now in
    let one : DiskView = g.D.Disk.view c.check_entry.new.disk in
    let two : DiskView = g.D.Disk.view c.open_files.new.disk in
    let new : DiskView = g.D.Disk.view c.read_stored.new.disk in
    let first = c.check_entry.ensures.reads told in
    let run = c.open_files.ensures.any_moment told in
    let last = c.read_stored.ensures.reads told in
    open_reads n (owner_of n) old one two new refl first (c.open_files.ensures.reads told) run.elsewhere.same last

pub returns-clause-any_moment : goal.returns-clause-any_moment
returns-clause-any_moment g c told =
    let n : ℕ = c.args.number in
    let old : DiskView = g.D.Disk.view c.args.disk.now in
    let one : DiskView = g.D.Disk.view c.check_entry.new.disk in
    let two : DiskView = g.D.Disk.view c.open_files.new.disk in
    let new : DiskView = g.D.Disk.view c.read_stored.new.disk in
    let first = c.check_entry.ensures.reads told in
    let run = c.open_files.ensures.any_moment told in
    let last = c.read_stored.ensures.reads told in
    open_moment n (owner_of n) old one two new refl (g.met.D.Disk.only_now told c.open_files.new.disk) (g.met.D.Disk.is_now told c.open_files.new.disk) first run last

pub returns-in_err-head-clause-damaged : goal.returns-in_err-head-clause-damaged
returns-in_err-head-clause-damaged g c told part is_damaged =
    let n : ℕ = c.args.number in
    let old : DiskView = g.D.Disk.view c.args.disk.now in
    let one : DiskView = g.D.Disk.view c.check_entry.new.disk in
    let two : DiskView = g.D.Disk.view c.open_files.new.disk in
    let new : DiskView = g.D.Disk.view c.read_stored.new.disk in
    let first = c.check_entry.ensures.reads told in
    let run = c.open_files.ensures.any_moment told in
    let last = c.read_stored.ensures.reads told in
    let b : BundleView = c.in_ok-bundle.bundle in
    let body : Body = c.last.result in
    let view : View = record { owner = owner_of n; shape = shapes.Log; body = body } in
    let was = c.in_ok-bundle.ensures.settled in
    let settled : IsSettled n body b = settled_as n was.0 body b was.1 c.last.ensures.last in
    let entry : HasEntry (owner_of n) body one.reads = c.in_ok-bundle.ensures.last told body c.last.ensures.last in
    let enough = c.in_ok-bundle.ensures.enough told in
    let whole : IsWholeView view two = whole_view n b body old one two new settled first entry enough run.elsewhere.same last in
    let holds : HoldsEntry (owner_of n) shapes.Log (entry_of view two) old.reads = holds_old n b body old one two new settled first entry enough run.elsewhere.same last in
    let e : c.in_err-head.field-0.0 ≡ views.Damaged part = view_damaged c.in_err-head.field-0.0 part (given_view c.from_residual-in_err-head.result c.in_err-head.field-0.0 (logs.Damaged part) c.from_residual-in_err-head.ensures.1 is_damaged) in
    inr (record {
      entry = entry_of view two;
      holds = holds;
      fault = subst (λ (v : View). IsWholeView v two → IsFault (entry_of v two) part) c.view_of-view.ensures
          (c.in_err-head.ensures.damaged told part (ap (λ (x : ViewFault). let y : Result (info.Head × Totals) ViewFault = Err x in y) e)) whole;
    })

pub returns-in_err-head-clause-absent : goal.returns-in_err-head-clause-absent
returns-in_err-head-clause-absent g c told is_absent =
    absurd (view_there c.in_err-head.field-0.0 c.in_err-head.ensures.fault (given_view c.from_residual-in_err-head.result c.in_err-head.field-0.0 logs.Absent c.from_residual-in_err-head.ensures.1 is_absent))

pub returns-in_err-head-clause-fault : goal.returns-in_err-head-clause-fault
returns-in_err-head-clause-fault g c = err_holds c.from_residual-in_err-head.result (of_view c.in_err-head.field-0.0) IsOpenFault c.from_residual-in_err-head.ensures.1 (view_opens c.in_err-head.field-0.0)

pub returns-in_err-head-clause-cause : goal.returns-in_err-head-clause-cause
returns-in_err-head-clause-cause g c =
    let old : DiskView = g.D.Disk.view c.args.disk.now in
    let two : DiskView = g.D.Disk.view c.open_files.new.disk in
    cause_second (IsOfLog c.args.number) (IsErrOf c.from_residual-in_err-head.result logs.Disk) old two (g.D.Disk.view c.read_stored.new.disk)
    (λ f. let a = c.check_entry.ensures.cause.monotone f in let b = c.open_files.ensures.cause.monotone f in omega (arith, a, b))
    (view_cause {U = info.Head × Totals} (λ f. f.owner ≡ c.view_of-view.result.owner) (IsOfLog c.args.number) c.from_residual-in_err-head.result c.in_err-head.field-0.0 two (g.D.Disk.view c.read_stored.new.disk)
    (λ f own. own ∙ ap (λ (v : View). v.owner) c.view_of-view.ensures) c.from_residual-in_err-head.ensures.1 c.in_err-head.ensures.cause)

pub invariant_of-result : goal.invariant_of-result
invariant_of-result g c =
    let n : ℕ = c.args.number in
    let b : BundleView = c.in_ok-bundle.bundle in
    let body : Body = c.last.result in
    let was = c.in_ok-bundle.ensures.settled in
    let settled : IsSettled n body b = settled_as n was.0 body b was.1 c.last.ensures.last in
    let log : IoLogView = record { number = n; head = c.in_ok-head.head; count = c.count.result; elapsed = c.elapsed.result; is_broken = false; bundle = b } in
    let long : length_of body Timing ≡ committed_length b Timing = settled.files.lengths body c.last.ensures.last Timing tt in
    let timing : c.in_ok-head.tally.timing ≡ length_of body Timing = c.in_ok-head.ensures.timing ∙ ap (λ (v : View). length_of v.body Timing) c.view_of-view.ensures in
    let small : length_of body Timing ≤ 2 ^ 40 = subst (λ (v : View). length_of v.body Timing ≤ 2 ^ 40) c.view_of-view.ensures c.in_ok-head.ensures.small in
    let few = c.count.ensures.few in
    settled_invariant log body settled c.elapsed.ensures.small (omega (arith, few, timing, long)) (omega (arith, small, long))

pub returns-clause-found : goal.returns-clause-found
returns-clause-found g c told =
    let n : ℕ = c.args.number in
    let old : DiskView = g.D.Disk.view c.args.disk.now in
    let one : DiskView = g.D.Disk.view c.check_entry.new.disk in
    let two : DiskView = g.D.Disk.view c.open_files.new.disk in
    let new : DiskView = g.D.Disk.view c.read_stored.new.disk in
    let first = c.check_entry.ensures.reads told in
    let run = c.open_files.ensures.any_moment told in
    let last = c.read_stored.ensures.reads told in
    let b : BundleView = c.in_ok-bundle.bundle in
    let body : Body = c.last.result in
    let view : View = record { owner = owner_of n; shape = shapes.Log; body = body } in
    let was = c.in_ok-bundle.ensures.settled in
    let settled : IsSettled n body b = settled_as n was.0 body b was.1 c.last.ensures.last in
    let entry : HasEntry (owner_of n) body one.reads = c.in_ok-bundle.ensures.last told body c.last.ensures.last in
    let enough = c.in_ok-bundle.ensures.enough told in
    let whole : IsWholeView view two = whole_view n b body old one two new settled first entry enough run.elsewhere.same last in
    let holds : HoldsEntry (owner_of n) shapes.Log (entry_of view two) old.reads = holds_old n b body old one two new settled first entry enough run.elsewhere.same last in
    let log : IoLogView = record { number = n; head = c.in_ok-head.head; count = c.count.result; elapsed = c.elapsed.result; is_broken = false; bundle = b } in
    let small : length_of body Timing ≤ 2 ^ 40 = subst (λ (v : View). length_of v.body Timing ≤ 2 ^ 40) c.view_of-view.ensures c.in_ok-head.ensures.small in
    let long : length_of body Timing ≡ committed_length b Timing = settled.files.lengths body c.last.ensures.last Timing tt in
    let scanned = subst (λ (v : View). IsWholeView v two → (lines : List Shaped) × IsScanned v two lines c.in_ok-head.tally) c.view_of-view.ensures (c.in_ok-head.ensures.told told) whole in
    let judged = judged_log view two refl c.in_ok-head.head scanned.0 c.in_ok-head.tally
    (subst (λ (v : View). head_of (text_of v two Head) ≡ Ok c.in_ok-head.head) c.view_of-view.ensures (c.in_ok-head.ensures.head told)) whole
    (subst (λ (v : View). ExitIsWhole v.body) c.view_of-view.ensures c.in_ok-head.ensures.exit) scanned.1
    (subst (λ (v : View). v.body.count ≡ c.in_ok-head.tally.count) c.view_of-view.ensures c.in_ok-head.ensures.counts.0)
    (subst (λ (v : View). v.body.elapsed ≡ c.in_ok-head.tally.elapsed) c.view_of-view.ensures c.in_ok-head.ensures.counts.1) small
    (subst (λ (v : View). AllCounted v.body c.in_ok-head.tally) c.view_of-view.ensures c.in_ok-head.ensures.streams) in (
      judged.0,
      record { entry = entry_of view two; holds = holds; is = judged.1 },
      settled_represents log judged.0 body new refl settled
          (committed_new n b body old one two new settled first entry enough run.elsewhere.same last judged.0 judged.1 (c.in_ok-bundle.ensures.represents told))
          (settled_small n body b settled (omega (arith, small, long))) judged.2 (c.count.ensures.value ∙ judged.3) (c.elapsed.ensures.value ∙ judged.4),
    )

pub returns-in_err-bundle-clause-unwritten : goal.returns-in_err-bundle-clause-unwritten
returns-in_err-bundle-clause-unwritten g c told =
    let two : DiskView = g.D.Disk.view c.open_files.new.disk in
    unwritten c.args.number (g.D.Disk.view c.args.disk.now) (g.D.Disk.view c.check_entry.new.disk) two two (c.check_entry.ensures.reads told) (c.open_files.ensures.unwritten told) (reads_nothing two (g.met.D.Disk.only_now told c.open_files.new.disk))

pub returns-in_err-head-clause-unwritten : goal.returns-in_err-head-clause-unwritten
returns-in_err-head-clause-unwritten g c told =
    let two : DiskView = g.D.Disk.view c.open_files.new.disk in
    unwritten c.args.number (g.D.Disk.view c.args.disk.now) (g.D.Disk.view c.check_entry.new.disk) two (g.D.Disk.view c.read_stored.new.disk) (c.check_entry.ensures.reads told) (c.open_files.ensures.unwritten told) (c.read_stored.ensures.reads told)

pub returns-clause-unwritten : goal.returns-clause-unwritten
returns-clause-unwritten g c told =
    let two : DiskView = g.D.Disk.view c.open_files.new.disk in
    unwritten c.args.number (g.D.Disk.view c.args.disk.now) (g.D.Disk.view c.check_entry.new.disk) two (g.D.Disk.view c.read_stored.new.disk) (c.check_entry.ensures.reads told) (c.open_files.ensures.unwritten told) (c.read_stored.ensures.reads told)
