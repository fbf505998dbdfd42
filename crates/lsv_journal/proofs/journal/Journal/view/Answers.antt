use Rattle.std.proofs.Common.{refl, sym, ◌∙◌, ap}
use Rattle.lsv_disk.proofs.Composition.{cause_second, unchanged_reads}
use Rattle.lsv_disk.specs.declared.file.FileId.{FileId}
use Rattle.lsv_journal.specs.Last.{IsOwn, last_gated}
use Rattle.lsv_journal.proofs.Words.{rose_at, own_itself, own_by, last_found, none_found, last_old}
use Rattle.lsv_journal.proofs.journal.Journal.view.Goals as goal

pub returns-in_err-found-clause-cause : goal.returns-in_err-found-clause-cause
returns-in_err-found-clause-cause g c = rose_at c.args.f c.args.f _ (g.D.Disk.view c.args.disk.now) (g.D.Disk.view c.find.new.disk) (own_itself c.args.f) c.find.ensures.cause.monotone (c.in_err-found.ensures.cause.risen refl)

pub returns-then-is_some-clause-last : goal.returns-then-is_some-clause-last
returns-then-is_some-clause-last g c told = last_found g.row.N c.args.f ((g.D.Disk.view c.args.disk.now).reads) c.in_ok-found.found.last (c.in_ok-found.ensures.last told) (sym c.is_some.ensures ∙ c.if-is_some.true)

pub returns-in_err-last_gated-clause-cause : goal.returns-in_err-last_gated-clause-cause
returns-in_err-last_gated-clause-cause g c =
    let old = g.D.Disk.view c.args.disk.now in
    let mid = g.D.Disk.view c.find.new.disk in
    let new = g.D.Disk.view c.last_gated.new.disk in
    cause_second (IsOwn c.args.f) _ old mid new c.find.ensures.cause.monotone
    (rose_at c.args.f c.old_file.result _ mid new (own_by c.args.f c.old_file.result c.old_file.ensures) c.last_gated.ensures.cause.monotone (c.in_err-last_gated.ensures.cause.risen refl))

pub returns-clause-last : goal.returns-clause-last
returns-clause-last g c told =
    let old = g.D.Disk.view c.args.disk.now in
    let mid = g.D.Disk.view c.find.new.disk in
    let none = none_found c.in_ok-found.found.last (sym c.is_some.ensures ∙ c.if-is_some.false) in
    c.in_ok-last_gated.ensures.last told
    ∙ ap (last_gated g.row.N) (unchanged_reads old mid (c.find.ensures.reads told).unchanged c.old_file.result)
    ∙ ap (λ (h : FileId). last_gated g.row.N (old.reads h)) c.old_file.ensures
    ∙ sym (last_old g.row.N c.args.f old.reads (sym (c.in_ok-found.ensures.last told) ∙ none))
