use Rattle.std.proofs.Common.{ℕ, sym, subst}
use Rattle.std.proofs.lemmas.Result.{IfOk-weaker}
use Rattle.lsv_disk.specs.declared.file.Owner.TheVariants.{Events}
use Rattle.lsv_bundle.specs.Shape.{journal_of}
use Rattle.lsv_eventlog.specs.Recovered.{HoldsLines, IsOfEventLog}
use Rattle.lsv_eventlog.proofs.Opening.{counts_none}
use Rattle.lsv_eventlog.proofs.Making.{both_empty, calls_within, made_as_before, reads_empty}
use Rattle.lsv_eventlog.proofs.log.EventLog.open.Goals as goal

pub returns-in-None-clause-held : goal.returns-in-None-clause-held
returns-in-None-clause-held g c told =
    IfOk-weaker c.make.result _ _ (λ log empty. subst (HoldsLines (g.D.Disk.view c.args.disk.now).reads c.args.lane) (sym empty) (c.in_ok-log.ensures.none told c.in-None.is)) (c.make.ensures.empty told)

pub returns-in-None-clause-any_moment : goal.returns-in-None-clause-any_moment
returns-in-None-clause-any_moment g c told =
    let old = g.D.Disk.view c.args.disk.now in
    let mid = g.D.Disk.view c.find.new.disk in
    let new = g.D.Disk.view c.make.new.disk in
    made_as_before c.args.lane old mid new (g.met.D.Disk.reads_itself told c.args.disk.now) (c.in_ok-log.ensures.none told c.in-None.is) (c.find.ensures.any_moment told) (c.make.ensures.any_moment told)

pub returns-in-None-clause-reads : goal.returns-in-None-clause-reads
returns-in-None-clause-reads g c told text holds =
    let old = g.D.Disk.view c.args.disk.now in
    let mid = g.D.Disk.view c.find.new.disk in
    let new = g.D.Disk.view c.make.new.disk in
    both_empty c.args.lane old.reads new.reads text (c.in_ok-log.ensures.none told c.in-None.is)
    (reads_empty c.args.lane mid new (g.met.D.Disk.reads_itself told c.make.new.disk) (g.met.D.Disk.is_now told c.make.new.disk) (c.make.ensures.any_moment told)) holds

pub returns-in-None-clause-reads_back : goal.returns-in-None-clause-reads_back
returns-in-None-clause-reads_back g c told text holds =
    let old = g.D.Disk.view c.args.disk.now in
    let mid = g.D.Disk.view c.find.new.disk in
    let new = g.D.Disk.view c.make.new.disk in
    both_empty c.args.lane new.reads old.reads text
    (reads_empty c.args.lane mid new (g.met.D.Disk.reads_itself told c.make.new.disk) (g.met.D.Disk.is_now told c.make.new.disk) (c.make.ensures.any_moment told)) (c.in_ok-log.ensures.none told c.in-None.is) holds

pub returns-in-None-clause-calls : goal.returns-in-None-clause-calls
returns-in-None-clause-calls g c told =
    let old = g.D.Disk.view c.args.disk.now in
    let mid = g.D.Disk.view c.find.new.disk in
    let new = g.D.Disk.view c.make.new.disk in
    calls_within (journal_of (Events c.args.lane)) (IsOfEventLog c.args.lane) 3 5 3 4 old mid new (c.find.ensures.calls told) (c.make.ensures.calls told)

pub returns-in-None-clause-counted : goal.returns-in-None-clause-counted
returns-in-None-clause-counted g c told =
    IfOk-weaker c.make.result _ _ (λ log made. counts_none c.args.lane (g.D.Disk.view c.args.disk.now).reads log (c.in_ok-log.ensures.none_read told c.in-None.is) made) c.make.ensures.count
