-- The point is found, and then the files are cut.
use Rattle.std.proofs.Common.{◌≡◌, ◌≢◌, ◌≤◌, ◌<◌, ◌^◌, ◌-◌, inl, inr, ℕ, true, false, Option, Some, None, Result, Err, IsErrOf, sym, ◌∙◌, ap, subst, arith}
use Rattle.lsv_disk.specs.declared.file.Owner.{Owner}
use Rattle.lsv_disk.specs.Throughout.{Throughout, CallsAtMost}
use Rattle.lsv_disk.specs.View.{DiskView, HasCause}
use Rattle.lsv_disk.proofs.Composition.{followed, calls_trans, uncounted_at_most, cause_second, cause_widened, risen_second}
use Rattle.lsv_bundle.specs.Shape.{journal_of}
use Rattle.lsv_bundle.specs.Committed.{committed}
use Rattle.lsv_bundle.specs.Represents as bundles
use Rattle.lsv_bundle.proofs.Laws.{of_owner}
use Rattle.lsv_journal.specs.Last.{IsOwn}
use Rattle.lsv_record.specs.Points.{first}
use Rattle.lsv_record.specs.Tally.{Totals}
use Rattle.lsv_iolog.specs.declared.fault.LogFault.{LogFault}
use Rattle.lsv_iolog.specs.declared.fault.LogFault.TheVariants as logs
use Rattle.lsv_iolog.specs.Recovered.{owner_of, IsOfLog}
use Rattle.lsv_iolog.specs.Later.{cut_log, drops}
use Rattle.lsv_iolog.specs.Moments.{IsEither}
use Rattle.lsv_iolog.specs.Value.{IoLogView, LogValue, bare}
use Rattle.lsv_iolog.specs.Represents.{Represents}
use Rattle.lsv_iolog.specs.Inner.Next.{cuts_in}
use Rattle.lsv_iolog.specs.Inner.Cutting.{IsFound, IsCutTo, entry_behind}
use Rattle.std.specs.Prelude.{◌==◌}
use Rattle.std.specs.Option.{option_map_or}
use Rattle.std.proofs.lemmas.Result.{on_err_weaker, on_ok_weaker}
use Rattle.lsv_bundle.specs.declared.body.Body.{Body}
use Rattle.lsv_iolog.proofs.Flushing.{idle_moment, either_later, last_kind, on_ok_always}
use Rattle.lsv_iolog.proofs.Finishing.{going_exit}
use Rattle.lsv_iolog.proofs.Results.{same_fault}
use Rattle.lsv_iolog.proofs.Scans.{none_there}
use Rattle.lsv_iolog.proofs.Dropping.{read_stays, read_moment, none_left, on_ok_five, some_first, cut_later, cut_moment, cut_represents, cuts_are, drops_is, has_body}
use Rattle.lsv_iolog.proofs.log.IoLog.cut_at.Goals as goal

pub returns-then-is_complete-clause-any_moment : goal.returns-then-is_complete-clause-any_moment
returns-then-is_complete-clause-any_moment g c told value at =
    idle_moment c.args.self.now value (cut_log value.stored c.args.point) (g.D.Disk.view c.args.disk.now) (g.met.D.Disk.only_now told c.args.disk.now) at

pub returns-then-is_complete-clause-later : goal.returns-then-is_complete-clause-later
returns-then-is_complete-clause-later g c told value at =
    either_later c.args.self.now.number value.stored (cut_log value.stored c.args.point) (g.D.Disk.view c.args.disk.now) (g.D.Disk.view c.args.disk.now) (cut_later value.stored c.args.point) (returns-then-is_complete-clause-any_moment g c told value at)

pub returns-in_err-kept-clause-any_moment : goal.returns-in_err-kept-clause-any_moment
returns-in_err-kept-clause-any_moment g c told value at =
    let old : DiskView = g.D.Disk.view c.args.disk.now in
    let mid : DiskView = g.D.Disk.view c.find.new.disk in
    let log : IoLogView = c.args.self.now in
    read_moment log value (cut_log value.stored c.args.point) old mid (c.find.ensures.reads told) at

pub returns-in_err-kept-clause-later : goal.returns-in_err-kept-clause-later
returns-in_err-kept-clause-later g c told value at =
    either_later c.args.self.now.number value.stored (cut_log value.stored c.args.point) (g.D.Disk.view c.args.disk.now) (g.D.Disk.view c.find.new.disk) (cut_later value.stored c.args.point) (returns-in_err-kept-clause-any_moment g c told value at)

pub returns-in_default-clause-any_moment : goal.returns-in_default-clause-any_moment
returns-in_default-clause-any_moment g c told value at =
    let old : DiskView = g.D.Disk.view c.args.disk.now in
    let mid : DiskView = g.D.Disk.view c.find.new.disk in
    let log : IoLogView = c.args.self.now in
    read_moment log value (cut_log value.stored c.args.point) old mid (c.find.ensures.reads told) at

pub returns-in_default-clause-later : goal.returns-in_default-clause-later
returns-in_default-clause-later g c told value at =
    either_later c.args.self.now.number value.stored (cut_log value.stored c.args.point) (g.D.Disk.view c.args.disk.now) (g.D.Disk.view c.find.new.disk) (cut_later value.stored c.args.point) (returns-in_default-clause-any_moment g c told value at)

pub returns-in_err-cuts-clause-any_moment : goal.returns-in_err-cuts-clause-any_moment
returns-in_err-cuts-clause-any_moment g c told value at =
    let old : DiskView = g.D.Disk.view c.args.disk.now in
    let mid : DiskView = g.D.Disk.view c.find.new.disk in
    let log : IoLogView = c.args.self.now in
    read_moment log value (cut_log value.stored c.args.point) old mid (c.find.ensures.reads told) at

pub returns-in_err-cuts-clause-later : goal.returns-in_err-cuts-clause-later
returns-in_err-cuts-clause-later g c told value at =
    either_later c.args.self.now.number value.stored (cut_log value.stored c.args.point) (g.D.Disk.view c.args.disk.now) (g.D.Disk.view c.find.new.disk) (cut_later value.stored c.args.point) (returns-in_err-cuts-clause-any_moment g c told value at)

pub returns-in_err-kept-clause-none : goal.returns-in_err-kept-clause-none
returns-in_err-kept-clause-none g c told is value at =
    let fault : c.in_err-kept.field-0.0 ≡ logs.NoPoint c.args.point = same_fault c.from_residual.result c.in_err-kept.field-0.0 (logs.NoPoint c.args.point) c.from_residual.ensures.1 is in
    absurd (c.in_err-kept.ensures.none told (ap (λ (x : LogFault). let y : Result (Option Totals) LogFault = Err x in y) fault) value at)

pub returns-in_default-clause-none : goal.returns-in_default-clause-none
returns-in_default-clause-none g c told is value at =
    let none : c.in_ok-kept.field-0 ≡ None = none_there c.in_ok-kept.field-0 (λ kept is. c.in_default.not-Some kept is) in
    subst (λ (o : Option Totals). IsFound value.stored.records c.args.point o) none (c.in_ok-kept.ensures.found told value at)

pub returns-in_err-cuts-clause-full : goal.returns-in_err-cuts-clause-full
returns-in_err-cuts-clause-full g c told is value at =
    let old : DiskView = g.D.Disk.view c.args.disk.now in
    let mid : DiskView = g.D.Disk.view c.find.new.disk in
    let log : IoLogView = c.args.self.now in
    let files : IoLogView = c.find.new.self in
    let same : files ≡ log = c.in_ok-kept.ensures.same in
    let there : Represents files value mid = subst (λ (v : IoLogView). Represents v value mid) (sym same) (read_stays log value old mid (c.find.ensures.reads told) at) in
    let found : IsFound value.stored.records c.args.point (Some c.in-Some.kept) = subst (λ (o : Option Totals). IsFound value.stored.records c.args.point o) c.in-Some.is (c.in_ok-kept.ensures.found told value at) in
    let going = going_exit log value old at (sym c.is_complete.ensures ∙ c.if-is_complete.false) in
    let none = none_left log value old at c.requires.flushed in
    let full = c.in_err-cuts.ensures.fault in
    let last : cuts_in files.bundle.last ≡ value.stored.cuts = ap cuts_in (has_body files value mid there c.in-Some.kept c.args.point 0 found going) ∙ there.is.cuts in (
      some_first (first value.stored.records c.args.point) c.in-Some.kept.count found.0,
      sym (drops_is files value mid there c.in-Some.kept c.args.point 0 found going none) ∙ full.1,
      subst (λ (n : ℕ). 2 ^ 63 - 1 ≤ n) last full.2,
    )

pub cut_behind-requires-clause-represents : goal.cut_behind-requires-clause-represents
cut_behind-requires-clause-represents g c told =
    let old : DiskView = g.D.Disk.view c.args.disk.now in
    let mid : DiskView = g.D.Disk.view c.find.new.disk in
    let log : IoLogView = c.args.self.now in
    let files : IoLogView = c.find.new.self in
    let same : files ≡ log = c.in_ok-kept.ensures.same in
    let at = c.requires.represents told (ap (λ (v : IoLogView). v.is_broken) (sym c.self.view_is) ∙ c.if-self.false) in
    subst (λ (v : IoLogView). bundles.Represents v.bundle mid) (sym same) (read_stays log at.0 old mid (c.find.ensures.reads told) at.1).bundle

pub returns-clause-found : goal.returns-clause-found
returns-clause-found g c told =
    let old : DiskView = g.D.Disk.view c.args.disk.now in
    let mid : DiskView = g.D.Disk.view c.find.new.disk in
    let log : IoLogView = c.args.self.now in
    let files : IoLogView = c.find.new.self in
    let same : files ≡ log = c.in_ok-kept.ensures.same in
    on_ok_always c.cut_behind.result ((value : LogValue) → Represents log value old → first value.stored.records c.args.point ≢ None) (λ value at.
    let there : Represents files value mid = subst (λ (v : IoLogView). Represents v value mid) (sym same) (read_stays log value old mid (c.find.ensures.reads told) at) in
    let found : IsFound value.stored.records c.args.point (Some c.in-Some.kept) = subst (λ (o : Option Totals). IsFound value.stored.records c.args.point o) c.in-Some.is (c.in_ok-kept.ensures.found told value at) in
    let going = going_exit log value old at (sym c.is_complete.ensures ∙ c.if-is_complete.false) in
    let none = none_left log value old at c.requires.flushed in
    some_first (first value.stored.records c.args.point) c.in-Some.kept.count found.0)

pub returns-clause-counted : goal.returns-clause-counted
returns-clause-counted g c told =
    let old : DiskView = g.D.Disk.view c.args.disk.now in
    let mid : DiskView = g.D.Disk.view c.find.new.disk in
    let log : IoLogView = c.args.self.now in
    let files : IoLogView = c.find.new.self in
    let same : files ≡ log = c.in_ok-kept.ensures.same in
    on_ok_always c.cut_behind.result ((value : LogValue) → Represents log value old → drops value.stored c.args.point ≡ true → value.stored.cuts < 2 ^ 63 - 1) (λ value at is.
    let there : Represents files value mid = subst (λ (v : IoLogView). Represents v value mid) (sym same) (read_stays log value old mid (c.find.ensures.reads told) at) in
    let found : IsFound value.stored.records c.args.point (Some c.in-Some.kept) = subst (λ (o : Option Totals). IsFound value.stored.records c.args.point o) c.in-Some.is (c.in_ok-kept.ensures.found told value at) in
    let going = going_exit log value old at (sym c.is_complete.ensures ∙ c.if-is_complete.false) in
    let none = none_left log value old at c.requires.flushed in
    let last : cuts_in files.bundle.last ≡ value.stored.cuts = ap cuts_in (has_body files value mid there c.in-Some.kept c.args.point 0 found going) ∙ there.is.cuts in
    subst (λ (n : ℕ). n < 2 ^ 63 - 1) last (c.in_ok-cuts.ensures.room (drops_is files value mid there c.in-Some.kept c.args.point 0 found going none ∙ is)))

pub returns-clause-represents : goal.returns-clause-represents
returns-clause-represents g c told =
    let old : DiskView = g.D.Disk.view c.args.disk.now in
    let mid : DiskView = g.D.Disk.view c.find.new.disk in
    let log : IoLogView = c.args.self.now in
    let files : IoLogView = c.find.new.self in
    let same : files ≡ log = c.in_ok-kept.ensures.same in
    let new : DiskView = g.D.Disk.view c.cut_behind.new.disk in
    let left : IoLogView = c.cut_behind.new.self in
    on_ok_five c.cut_behind.result ((left.count ≡ c.in-Some.kept.count) × (left.elapsed ≡ c.in-Some.kept.elapsed)) (left.is_broken ≡ false) (IsCutTo c.in-Some.kept c.in_ok-cuts.cuts files.bundle left.bundle) (committed left.bundle new ≡ Some (entry_behind files.bundle mid c.in-Some.kept c.in_ok-cuts.cuts)) (bundles.Represents left.bundle new)
    ((value : LogValue) → Represents log value old → Represents left (bare (cut_log value.stored c.args.point)) new)
    (λ counts whole is has represents value at.
    let there : Represents files value mid = subst (λ (v : IoLogView). Represents v value mid) (sym same) (read_stays log value old mid (c.find.ensures.reads told) at) in
    let found : IsFound value.stored.records c.args.point (Some c.in-Some.kept) = subst (λ (o : Option Totals). IsFound value.stored.records c.args.point o) c.in-Some.is (c.in_ok-kept.ensures.found told value at) in
    let going = going_exit log value old at (sym c.is_complete.ensures ∙ c.if-is_complete.false) in
    let none = none_left log value old at c.requires.flushed in
    let counted = cuts_are files value mid there c.in-Some.kept c.args.point c.in_ok-cuts.cuts found going none c.in_ok-cuts.ensures.cuts in
    cut_represents files value mid there c.in-Some.kept c.args.point c.in_ok-cuts.cuts found going left new counted c.cut_behind.ensures.same.0 c.cut_behind.ensures.same.1 counts.0 counts.1 whole is has represents)
    c.cut_behind.ensures.counts c.cut_behind.ensures.whole c.cut_behind.ensures.value (c.cut_behind.ensures.committed told) (c.cut_behind.ensures.represents told)

pub returns-clause-any_moment : goal.returns-clause-any_moment
returns-clause-any_moment g c told value at =
    let old : DiskView = g.D.Disk.view c.args.disk.now in
    let mid : DiskView = g.D.Disk.view c.find.new.disk in
    let log : IoLogView = c.args.self.now in
    let files : IoLogView = c.find.new.self in
    let same : files ≡ log = c.in_ok-kept.ensures.same in
    let new : DiskView = g.D.Disk.view c.cut_behind.new.disk in
    let there : Represents files value mid = subst (λ (v : IoLogView). Represents v value mid) (sym same) (read_stays log value old mid (c.find.ensures.reads told) at) in
    let found : IsFound value.stored.records c.args.point (Some c.in-Some.kept) = subst (λ (o : Option Totals). IsFound value.stored.records c.args.point o) c.in-Some.is (c.in_ok-kept.ensures.found told value at) in
    let going = going_exit log value old at (sym c.is_complete.ensures ∙ c.if-is_complete.false) in
    let none = none_left log value old at c.requires.flushed in
    let counted = cuts_are files value mid there c.in-Some.kept c.args.point c.in_ok-cuts.cuts found going none c.in_ok-cuts.ensures.cuts in
    followed (IsOfLog log.number) (IsEither log.number (Some value.stored) (Some (cut_log value.stored c.args.point))) old mid new (read_moment log value (cut_log value.stored c.args.point) old mid (c.find.ensures.reads told) at)
    (subst (λ (v : IoLogView). Throughout (IsOfLog v.number) (IsEither v.number (Some value.stored) (Some (cut_log value.stored c.args.point))) mid new) same
    (cut_moment files value mid there c.in-Some.kept c.args.point c.in_ok-cuts.cuts found going new counted (c.cut_behind.ensures.any_moment told)))

pub returns-clause-later : goal.returns-clause-later
returns-clause-later g c told value at =
    either_later c.args.self.now.number value.stored (cut_log value.stored c.args.point) (g.D.Disk.view c.args.disk.now) (g.D.Disk.view c.cut_behind.new.disk) (cut_later value.stored c.args.point) (returns-clause-any_moment g c told value at)

pub returns-clause-calls : goal.returns-clause-calls
returns-clause-calls g c told =
    let old : DiskView = g.D.Disk.view c.args.disk.now in
    let mid : DiskView = g.D.Disk.view c.find.new.disk in
    let log : IoLogView = c.args.self.now in
    let files : IoLogView = c.find.new.self in
    let same : files ≡ log = c.in_ok-kept.ensures.same in
    let new : DiskView = g.D.Disk.view c.cut_behind.new.disk in
    let own : files.bundle.owner ≡ owner_of log.number = ap (λ (v : IoLogView). v.bundle.owner) same ∙ subst (λ (v : IoLogView). v.bundle.owner ≡ owner_of v.number) c.self.view_is c.self.invariant.0.files.owner in
    calls_trans 0 0 2 2 (λ f. f ≡ journal_of (owner_of log.number)) old mid new (uncounted_at_most 0 0 (λ f. f ≡ journal_of (owner_of log.number)) old mid (c.find.ensures.reads told).counts)
    (subst (λ (o : Owner). CallsAtMost 2 2 (λ f. f ≡ journal_of o) mid new) own (c.cut_behind.ensures.calls told))

pub returns-clause-cause : goal.returns-clause-cause
returns-clause-cause g c =
    let old : DiskView = g.D.Disk.view c.args.disk.now in
    let mid : DiskView = g.D.Disk.view c.find.new.disk in
    let log : IoLogView = c.args.self.now in
    let files : IoLogView = c.find.new.self in
    let same : files ≡ log = c.in_ok-kept.ensures.same in
    let new : DiskView = g.D.Disk.view c.cut_behind.new.disk in
    let own : files.bundle.owner ≡ owner_of log.number = ap (λ (v : IoLogView). v.bundle.owner) same ∙ subst (λ (v : IoLogView). v.bundle.owner ≡ owner_of v.number) c.self.view_is c.self.invariant.0.files.owner in
    cause_second (IsOfLog log.number) (IsErrOf c.cut_behind.result logs.Disk) old mid new c.find.ensures.cause.monotone
    (cause_widened (IsOwn (journal_of files.bundle.owner)) (IsOfLog log.number) (IsErrOf c.cut_behind.result logs.Disk) (IsErrOf c.cut_behind.result logs.Disk) mid new
    (λ f is. of_owner files.bundle.owner files.bundle.shape f (inr is) ∙ own) (λ is. is) c.cut_behind.ensures.cause)

pub returns-clause-blame : goal.returns-clause-blame
returns-clause-blame g c told failed value at =
    let old : DiskView = g.D.Disk.view c.args.disk.now in
    let mid : DiskView = g.D.Disk.view c.find.new.disk in
    let log : IoLogView = c.args.self.now in
    let files : IoLogView = c.find.new.self in
    let same : files ≡ log = c.in_ok-kept.ensures.same in
    let new : DiskView = g.D.Disk.view c.cut_behind.new.disk in
    let own : files.bundle.owner ≡ owner_of log.number = ap (λ (v : IoLogView). v.bundle.owner) same ∙ subst (λ (v : IoLogView). v.bundle.owner ≡ owner_of v.number) c.self.view_is c.self.invariant.0.files.owner in
    let there : Represents files value mid = subst (λ (v : IoLogView). Represents v value mid) (sym same) (read_stays log value old mid (c.find.ensures.reads told) at) in
    let found : IsFound value.stored.records c.args.point (Some c.in-Some.kept) = subst (λ (o : Option Totals). IsFound value.stored.records c.args.point o) c.in-Some.is (c.in_ok-kept.ensures.found told value at) in
    let going = going_exit log value old at (sym c.is_complete.ensures ∙ c.if-is_complete.false) in
    let none = none_left log value old at c.requires.flushed in
    let last : cuts_in files.bundle.last ≡ value.stored.cuts = ap cuts_in (has_body files value mid there c.in-Some.kept c.args.point 0 found going) ∙ there.is.cuts in
    inl (
      some_first (first value.stored.records c.args.point) c.in-Some.kept.count found.0,
      λ is. subst (λ (n : ℕ). n < 2 ^ 63 - 1) last (c.in_ok-cuts.ensures.room (drops_is files value mid there c.in-Some.kept c.args.point 0 found going none ∙ is)),
      subst (λ (o : Owner). HasCause (journal_of o) (Unit {0}) old new) own (record {
        monotone = λ f. omega (arith, c.find.ensures.cause.monotone f, c.cut_behind.ensures.blame.monotone f);
        risen = λ is. risen_second (old.faults (journal_of files.bundle.owner)) (mid.faults (journal_of files.bundle.owner)) (new.faults (journal_of files.bundle.owner)) (c.find.ensures.cause.monotone (journal_of files.bundle.owner)) (c.cut_behind.ensures.blame.risen failed);
      }),
    )

pub returns-clause-kept : goal.returns-clause-kept
returns-clause-kept g c =
    on_err_weaker c.cut_behind.result
    (λ last. ap (λ (o : Option Body). option_map_or (λ (body : Body). body.kind == 3) o false) (last ∙ ap (λ (v : IoLogView). v.bundle.last) c.in_ok-kept.ensures.same)) c.cut_behind.ensures.last

pub returns-clause-kind : goal.returns-clause-kind
returns-clause-kind g c = on_ok_weaker c.cut_behind.result (λ value. last_kind c.cut_behind.new.self _ value.last) c.cut_behind.ensures.value
