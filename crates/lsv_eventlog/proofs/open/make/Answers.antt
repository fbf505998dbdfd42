use Rattle.std.proofs.Common.{refl, arith}
use Rattle.lsv_disk.specs.declared.file.Owner.TheVariants.{Events}
use Rattle.lsv_disk.proofs.Composition.{followed}
use Rattle.lsv_bundle.specs.Shape.{journal_of}
use Rattle.lsv_disk.specs.declared.file.Part.TheVariants.{Lines}
use Rattle.lsv_eventlog.specs.Recovered.{IsOfEventLog}
use Rattle.lsv_eventlog.proofs.Making.{IsEmpty, begins, calls_more, calls_within, create_calls, entry_calls, made_empty, made_log, made_opened, makes}
use Rattle.lsv_eventlog.proofs.open.make.Goals as goal

pub returns-in_err-bundle-clause-calls : goal.returns-in_err-bundle-clause-calls
returns-in_err-bundle-clause-calls g c told =
    let old = g.D.Disk.view c.args.disk.now in
    let mid = g.D.Disk.view c.create.new.disk in
    calls_more (journal_of (Events c.args.lane)) (IsOfEventLog c.args.lane) 1 2 3 4 old mid (omega arith) (omega arith) (create_calls c.args.lane old mid (c.create.ensures.calls told))

pub returns-in_err-flush-clause-any_moment : goal.returns-in_err-flush-clause-any_moment
returns-in_err-flush-clause-any_moment g c told =
    let old = g.D.Disk.view c.args.disk.now in
    let mid = g.D.Disk.view c.create.new.disk in
    let new = g.D.Disk.view c.flush.new.disk in
    let fresh = c.in_ok-bundle.ensures.fresh in
    followed (IsOfEventLog c.args.lane) (IsEmpty c.args.lane) old mid new (makes c.args.lane old mid (c.requires.no_entry told) (c.create.ensures.any_moment told))
    (begins c.args.lane c.in_ok-bundle.bundle mid new fresh c.in_ok-bundle.ensures.last (c.in_ok-bundle.ensures.lengths Lines refl) (c.flush.ensures.any_moment told fresh.whole))

pub returns-clause-any_moment : goal.returns-clause-any_moment
returns-clause-any_moment g c told =
    let old = g.D.Disk.view c.args.disk.now in
    let mid = g.D.Disk.view c.create.new.disk in
    let new = g.D.Disk.view c.flush.new.disk in
    let fresh = c.in_ok-bundle.ensures.fresh in
    followed (IsOfEventLog c.args.lane) (IsEmpty c.args.lane) old mid new (makes c.args.lane old mid (c.requires.no_entry told) (c.create.ensures.any_moment told))
    (begins c.args.lane c.in_ok-bundle.bundle mid new fresh c.in_ok-bundle.ensures.last (c.in_ok-bundle.ensures.lengths Lines refl) (c.flush.ensures.any_moment told fresh.whole))

pub returns-in_err-flush-clause-calls : goal.returns-in_err-flush-clause-calls
returns-in_err-flush-clause-calls g c told =
    let old = g.D.Disk.view c.args.disk.now in
    let mid = g.D.Disk.view c.create.new.disk in
    let new = g.D.Disk.view c.flush.new.disk in
    calls_within (journal_of (Events c.args.lane)) (IsOfEventLog c.args.lane) 1 2 2 2 old mid new (create_calls c.args.lane old mid (c.create.ensures.calls told)) (entry_calls c.args.lane c.in_ok-bundle.bundle mid new c.in_ok-bundle.ensures.fresh (c.flush.ensures.calls told))

pub returns-clause-calls : goal.returns-clause-calls
returns-clause-calls g c told =
    let old = g.D.Disk.view c.args.disk.now in
    let mid = g.D.Disk.view c.create.new.disk in
    let new = g.D.Disk.view c.flush.new.disk in
    calls_within (journal_of (Events c.args.lane)) (IsOfEventLog c.args.lane) 1 2 2 2 old mid new (create_calls c.args.lane old mid (c.create.ensures.calls told)) (entry_calls c.args.lane c.in_ok-bundle.bundle mid new c.in_ok-bundle.ensures.fresh (c.flush.ensures.calls told))

pub invariant_of-result : goal.invariant_of-result
invariant_of-result g c = made_log c.args.lane c.in_ok-bundle.bundle c.flush.new.self _ _ c.in_ok-bundle.ensures.fresh c.in_ok-flush.ensures.value

pub returns-clause-value : goal.returns-clause-value
returns-clause-value g c = made_opened c.args.lane c.in_ok-bundle.bundle c.flush.new.self _ _ c.in_ok-bundle.ensures.fresh c.in_ok-flush.ensures.value

pub returns-clause-empty : goal.returns-clause-empty
returns-clause-empty g c told = made_empty c.args.lane c.in_ok-bundle.bundle c.flush.new.self _ _ c.in_ok-bundle.ensures.fresh c.in_ok-flush.ensures.value (g.D.Disk.view c.create.new.disk) (g.D.Disk.view c.flush.new.disk) (c.in_ok-bundle.ensures.lengths Lines refl) (c.in_ok-flush.ensures.committed told)

pub returns-in_err-bundle-clause-any_moment : goal.returns-in_err-bundle-clause-any_moment
returns-in_err-bundle-clause-any_moment g c told = makes c.args.lane (g.D.Disk.view c.args.disk.now) (g.D.Disk.view c.create.new.disk) (c.requires.no_entry told) (c.create.ensures.any_moment told)

pub returns-clause-sound : goal.returns-clause-sound
returns-clause-sound g c = made_log c.args.lane c.in_ok-bundle.bundle c.flush.new.self _ _ c.in_ok-bundle.ensures.fresh c.in_ok-flush.ensures.value
