use Rattle.std.proofs.Common.{ℕ, Result, Ok, Err, IfOk, sym, ap, subst, ◌∙◌, refl}
use Rattle.lsv_disk.specs.View.{Image, DiskView, IsCrashImage}
use Rattle.lsv_seq.specs.declared.entry.Entry.{Entry}
use Rattle.lsv_seq.specs.declared.fault.SeqFault.{SeqFault}
use Rattle.lsv_seq.specs.declared.numbers.Numbers.{Numbers}
use Rattle.lsv_seq.specs.Drawn.{LastDrawn}
use Rattle.lsv_seq.specs.Value.{last_of}
use Rattle.lsv_seq.specs.Represents.{Represents}
use Rattle.std.specs.Option.{option_map}
use Rattle.lsv_journal.specs.Last.{IsOwn, OpeningCalls}
use Rattle.lsv_seq.specs.Entry.{entry_in}
use Rattle.lsv_seq.specs.Inner.{last_in, IsOpened}
use Rattle.lsv_seq.proofs.Images.{last_now}
use Rattle.lsv_seq.proofs.Openings.{made_reads, kept_moments, made_moments, opened_moments, opened_calls, resumed_represents, same_entry}
use Rattle.lsv_seq.proofs.Runs.{draw_calls, reopened_entry}
use Rattle.lsv_seq.proofs.numbers.Numbers.open.Goals as goal

pub returns-in_default-clause-read : goal.returns-in_default-clause-read
returns-in_default-clause-read g c told =
    let reads = (g.D.Disk.view c.args.disk.now).reads in
    let found = reopened_entry c.args.lane c.numbers_file.result reads c.in_ok-journal.field-0 c.numbers_file.ensures (c.in_ok-journal.ensures.absent told).0 (c.in_ok-journal.ensures.last told) in
    made_reads c.args.lane c.args.lanes reads c.fresh.result c.fresh.ensures.opened (sym found ∙ ap (λ o. option_map entry_in (last_in o)) c.in_default.is)

pub returns-in_default-clause-any_moment : goal.returns-in_default-clause-any_moment
returns-in_default-clause-any_moment g c told =
    let reads = (g.D.Disk.view c.args.disk.now).reads in
    let found = reopened_entry c.args.lane c.numbers_file.result reads c.in_ok-journal.field-0 c.numbers_file.ensures (c.in_ok-journal.ensures.absent told).0 (c.in_ok-journal.ensures.last told) in
    made_moments c.args.lane c.args.lanes c.numbers_file.result c.numbers_file.ensures (g.D.Disk.view c.args.disk.now) (g.D.Disk.view c.open.new.disk) (g.D.Disk.view c.fresh.new.disk)
    (g.met.D.Disk.reads_itself told c.args.disk.now) (g.met.D.Disk.is_now told c.open.new.disk) (sym found ∙ ap (λ o. option_map entry_in (last_in o)) c.in_default.is)
    (c.open.ensures.any_moment told) (c.fresh.ensures.any_moment told)

pub returns-in_default-clause-calls : goal.returns-in_default-clause-calls
returns-in_default-clause-calls g c told =
    draw_calls 3 5 3 4 c.args.lane c.args.lane (g.D.Disk.view c.args.disk.now) (g.D.Disk.view c.open.new.disk) (g.D.Disk.view c.fresh.new.disk) refl
    (opened_calls 3 5 c.args.lane c.numbers_file.result (g.D.Disk.view c.args.disk.now) (g.D.Disk.view c.open.new.disk) c.numbers_file.ensures ((c.open.ensures.calls told).at_most)) (c.fresh.ensures.calls told)

pub returns-in_default-last-clause-any_moment : goal.returns-in_default-last-clause-any_moment
returns-in_default-last-clause-any_moment g c told =
    let reads = (g.D.Disk.view c.args.disk.now).reads in
    let found = reopened_entry c.args.lane c.numbers_file.result reads c.in_ok-journal.field-0 c.numbers_file.ensures (c.in_ok-journal.ensures.absent told).0 (c.in_ok-journal.ensures.last told) in
    made_moments c.args.lane c.args.lanes c.numbers_file.result c.numbers_file.ensures (g.D.Disk.view c.args.disk.now) (g.D.Disk.view c.open.new.disk) (g.D.Disk.view c.fresh-in_default-last.new.disk)
    (g.met.D.Disk.reads_itself told c.args.disk.now) (g.met.D.Disk.is_now told c.open.new.disk)
    (sym found ∙ ap (λ o. option_map entry_in (last_in o)) c.in-Some.is ∙ ap (option_map entry_in) (sym c.last.ensures ∙ c.in_default-last.is))
    (c.open.ensures.any_moment told) (c.fresh-in_default-last.ensures.any_moment told)

pub returns-in_default-last-clause-calls : goal.returns-in_default-last-clause-calls
returns-in_default-last-clause-calls g c told =
    draw_calls 3 5 3 4 c.args.lane c.args.lane (g.D.Disk.view c.args.disk.now) (g.D.Disk.view c.open.new.disk) (g.D.Disk.view c.fresh-in_default-last.new.disk) refl
    (opened_calls 3 5 c.args.lane c.numbers_file.result (g.D.Disk.view c.args.disk.now) (g.D.Disk.view c.open.new.disk) c.numbers_file.ensures ((c.open.ensures.calls told).at_most)) (c.fresh-in_default-last.ensures.calls told)

pub returns-clause-represents : goal.returns-clause-represents
returns-clause-represents g c told =
    resumed_represents c.args.lane c.args.lanes c.in-Some.journal (g.D.Disk.view c.open.new.disk) c.resumed.result c.resumed.ensures.opened (rw c.in-Some.is at (c.in_ok-journal.ensures.represents told))

pub returns-clause-any_moment : goal.returns-clause-any_moment
returns-clause-any_moment g c told =
    opened_moments c.args.lane c.args.lanes c.numbers_file.result c.numbers_file.ensures (g.D.Disk.view c.args.disk.now) (g.D.Disk.view c.open.new.disk) (c.open.ensures.any_moment told)

pub returns-in_default-clause-kept : goal.returns-in_default-clause-kept
returns-in_default-clause-kept g c told some =
    let reads = (g.D.Disk.view c.args.disk.now).reads in
    let found = reopened_entry c.args.lane c.numbers_file.result reads c.in_ok-journal.field-0 c.numbers_file.ensures (c.in_ok-journal.ensures.absent told).0 (c.in_ok-journal.ensures.last told) in
    absurd (some (sym found ∙ ap (λ o. option_map entry_in (last_in o)) c.in_default.is))

pub returns-in_default-last-clause-kept : goal.returns-in_default-last-clause-kept
returns-in_default-last-clause-kept g c told some =
    let reads = (g.D.Disk.view c.args.disk.now).reads in
    let found = reopened_entry c.args.lane c.numbers_file.result reads c.in_ok-journal.field-0 c.numbers_file.ensures (c.in_ok-journal.ensures.absent told).0 (c.in_ok-journal.ensures.last told) in
    absurd (some (sym found ∙ ap (λ o. option_map entry_in (last_in o)) c.in-Some.is ∙ ap (option_map entry_in) (sym c.last.ensures ∙ c.in_default-last.is)))

pub returns-clause-kept : goal.returns-clause-kept
returns-clause-kept g c told some =
    kept_moments c.args.lane c.args.lanes c.numbers_file.result c.numbers_file.ensures (g.D.Disk.view c.args.disk.now) (g.D.Disk.view c.open.new.disk) (c.open.ensures.any_moment told)

pub returns-in_err-journal-clause-opened : goal.returns-in_err-journal-clause-opened
returns-in_err-journal-clause-opened g c told some =
    subst (λ h. OpeningCalls 12 h (IsOwn h) (g.D.Disk.view c.args.disk.now) (g.D.Disk.view c.open.new.disk)) c.numbers_file.ensures (c.open.ensures.calls told)

pub returns-in_default-clause-opened : goal.returns-in_default-clause-opened
returns-in_default-clause-opened g c told some =
    let reads = (g.D.Disk.view c.args.disk.now).reads in
    let found = reopened_entry c.args.lane c.numbers_file.result reads c.in_ok-journal.field-0 c.numbers_file.ensures (c.in_ok-journal.ensures.absent told).0 (c.in_ok-journal.ensures.last told) in
    absurd (some (sym found ∙ ap (λ o. option_map entry_in (last_in o)) c.in_default.is))

pub returns-in_default-last-clause-opened : goal.returns-in_default-last-clause-opened
returns-in_default-last-clause-opened g c told some =
    let reads = (g.D.Disk.view c.args.disk.now).reads in
    let found = reopened_entry c.args.lane c.numbers_file.result reads c.in_ok-journal.field-0 c.numbers_file.ensures (c.in_ok-journal.ensures.absent told).0 (c.in_ok-journal.ensures.last told) in
    absurd (some (sym found ∙ ap (λ o. option_map entry_in (last_in o)) c.in-Some.is ∙ ap (option_map entry_in) (sym c.last.ensures ∙ c.in_default-last.is)))

pub returns-clause-opened : goal.returns-clause-opened
returns-clause-opened g c told some =
    subst (λ h. OpeningCalls 12 h (IsOwn h) (g.D.Disk.view c.args.disk.now) (g.D.Disk.view c.open.new.disk)) c.numbers_file.ensures (c.open.ensures.calls told)

pub returns-in_err-journal-clause-same : goal.returns-in_err-journal-clause-same
returns-in_err-journal-clause-same g c told some =
    same_entry c.args.lane c.numbers_file.result (g.D.Disk.view c.args.disk.now).reads (g.D.Disk.view c.open.new.disk).reads c.numbers_file.ensures (c.open.ensures.reads told)

pub returns-in_default-clause-same : goal.returns-in_default-clause-same
returns-in_default-clause-same g c told some =
    let reads = (g.D.Disk.view c.args.disk.now).reads in
    let found = reopened_entry c.args.lane c.numbers_file.result reads c.in_ok-journal.field-0 c.numbers_file.ensures (c.in_ok-journal.ensures.absent told).0 (c.in_ok-journal.ensures.last told) in
    absurd (some (sym found ∙ ap (λ o. option_map entry_in (last_in o)) c.in_default.is))

pub returns-in_default-last-clause-same : goal.returns-in_default-last-clause-same
returns-in_default-last-clause-same g c told some =
    let reads = (g.D.Disk.view c.args.disk.now).reads in
    let found = reopened_entry c.args.lane c.numbers_file.result reads c.in_ok-journal.field-0 c.numbers_file.ensures (c.in_ok-journal.ensures.absent told).0 (c.in_ok-journal.ensures.last told) in
    absurd (some (sym found ∙ ap (λ o. option_map entry_in (last_in o)) c.in-Some.is ∙ ap (option_map entry_in) (sym c.last.ensures ∙ c.in_default-last.is)))

pub returns-clause-same : goal.returns-clause-same
returns-clause-same g c told some =
    same_entry c.args.lane c.numbers_file.result (g.D.Disk.view c.args.disk.now).reads (g.D.Disk.view c.open.new.disk).reads c.numbers_file.ensures (c.open.ensures.reads told)

-- a crash leaves the last number of numbers that were made
fresh_durable : (lane lanes : ℕ) (disk : DiskView) (r : Result Numbers SeqFault) → IfOk r (IsOpened lane lanes 0) → IfOk r (λ n. Represents n disk) → IfOk r (λ n. (image : Image) → IsCrashImage disk image → LastDrawn lane lanes (last_of n) image)
fresh_durable lane lanes disk (Ok n) is at = λ image crash. subst (λ (e : Entry). LastDrawn e.lane e.lanes (last_of n) image) is.kept_is (last_now n disk at is.pending_is image crash)
fresh_durable lane lanes disk (Err e) is at = tt

pub returns-in_default-last-clause-durable : goal.returns-in_default-last-clause-durable
returns-in_default-last-clause-durable g c told =
    fresh_durable c.args.lane c.args.lanes (g.D.Disk.view c.fresh-in_default-last.new.disk) c.fresh-in_default-last.result c.fresh-in_default-last.ensures.opened (c.fresh-in_default-last.ensures.represents told)
