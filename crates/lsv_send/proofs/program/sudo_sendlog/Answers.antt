use Rattle.std.proofs.Common.{[], inl, inr, append-nil, refl, sym}
use Rattle.lsv_send_args.specs.Asked.{asked_in}
use Rattle.lsv_send.specs.Words.{IsUsage}
use Rattle.lsv_send.specs.declared.status.SendStatus.TheVariants as statuses
use Rattle.lsv_send.proofs.Running.{asks_not, read_nothing, read_only, rooted_cause, runs_asked}
use Rattle.lsv_send.proofs.Talking.{link_none}
use Rattle.lsv_send.proofs.program.sudo_sendlog.Goals as goal

pub returns-in-Err-Refused-clause-usage : goal.returns-in-Err-Refused-clause-usage
returns-in-Err-Refused-clause-usage g c = λ e. (rw c.in-Err-Refused.field-0-is at c.in-Err-Refused.ensures.usage) (inl refl)

pub returns-in-Err-Refused-clause-runs : goal.returns-in-Err-Refused-clause-runs
returns-in-Err-Refused-clause-runs g c = λ d l k.
    let usage : IsUsage c.args.words.now = (rw c.in-Err-Refused.field-0-is at c.in-Err-Refused.ensures.usage) (inl refl) in
    ([], sym (append-nil (g.K.Sink.put c.args.sink.now)), inl (usage, refl, record { link = refl; printed = refl }))

pub returns-in-Err-Refused-clause-reads : goal.returns-in-Err-Refused-clause-reads
returns-in-Err-Refused-clause-reads g c = λ d. read_nothing (g.D.Disk.view c.args.disk.now) (g.met.D.Disk.only_now d c.args.disk.now)

pub returns-in-Err-Refused-clause-link : goal.returns-in-Err-Refused-clause-link
returns-in-Err-Refused-clause-link g c = link_none statuses.Usage _ (λ e. cc, λ e. cc, λ e. cc)

pub returns-in-Err-Refused-clause-places : goal.returns-in-Err-Refused-clause-places
returns-in-Err-Refused-clause-places g c = λ d asked asks. absurd (asks_not c.args.words.now asked asks ((rw c.in-Err-Refused.field-0-is at c.in-Err-Refused.ensures.usage) (inl refl)))

pub returns-in-Err-Unfit-clause-usage : goal.returns-in-Err-Unfit-clause-usage
returns-in-Err-Unfit-clause-usage g c = λ e. (rw c.in-Err-Unfit.field-0-is at c.in-Err-Unfit.ensures.usage) (inr (_, refl))

pub returns-in-Err-Unfit-clause-runs : goal.returns-in-Err-Unfit-clause-runs
returns-in-Err-Unfit-clause-runs g c = λ d l k.
    let usage : IsUsage c.args.words.now = (rw c.in-Err-Unfit.field-0-is at c.in-Err-Unfit.ensures.usage) (inr (_, refl)) in
    ([], sym (append-nil (g.K.Sink.put c.args.sink.now)), inl (usage, refl, record { link = refl; printed = refl }))

pub returns-in-Err-Unfit-clause-reads : goal.returns-in-Err-Unfit-clause-reads
returns-in-Err-Unfit-clause-reads g c = λ d. read_nothing (g.D.Disk.view c.args.disk.now) (g.met.D.Disk.only_now d c.args.disk.now)

pub returns-in-Err-Unfit-clause-link : goal.returns-in-Err-Unfit-clause-link
returns-in-Err-Unfit-clause-link g c = link_none statuses.Usage _ (λ e. cc, λ e. cc, λ e. cc)

pub returns-in-Err-Unfit-clause-places : goal.returns-in-Err-Unfit-clause-places
returns-in-Err-Unfit-clause-places g c = λ d asked asks. absurd (asks_not c.args.words.now asked asks ((rw c.in-Err-Unfit.field-0-is at c.in-Err-Unfit.ensures.usage) (inr (_, refl))))

pub returns-in-Err-NoMem-clause-runs : goal.returns-in-Err-NoMem-clause-runs
returns-in-Err-NoMem-clause-runs g c = λ d l k. ([], sym (append-nil (g.K.Sink.put c.args.sink.now)), inr (inl (refl, record { link = refl; printed = refl })))

pub returns-in-Err-NoMem-clause-reads : goal.returns-in-Err-NoMem-clause-reads
returns-in-Err-NoMem-clause-reads g c = λ d. read_nothing (g.D.Disk.view c.args.disk.now) (g.met.D.Disk.only_now d c.args.disk.now)

pub returns-in-Err-NoMem-clause-link : goal.returns-in-Err-NoMem-clause-link
returns-in-Err-NoMem-clause-link g c = link_none statuses.NoMem _ (λ e. cc, λ e. cc, λ e. cc)

pub returns-clause-runs : goal.returns-clause-runs
returns-clause-runs g c = λ d l k.
    let s = c.send_log.ensures.sends d l k in
    (s.0, s.1, runs_asked _ c.args.words.now (asked_in c.in-Ok.request) (g.D.Disk.view c.args.disk.now) (g.D.Disk.view c.root.new.self) c.send_log.result _ c.in-Ok.ensures.ok (c.root.ensures.frame.untouched d) s.2)

pub returns-clause-reads : goal.returns-clause-reads
returns-clause-reads g c = λ d. read_only (g.D.Disk.view c.args.disk.now) (g.D.Disk.view c.root.new.self) (g.D.Disk.view c.send_log.new.disk) (c.root.ensures.frame.untouched d) (c.send_log.ensures.reads d)

pub returns-clause-disk : goal.returns-clause-disk
returns-clause-disk g c = rooted_cause _ (g.D.Disk.view c.args.disk.now) (g.D.Disk.view c.root.new.self) (g.D.Disk.view c.send_log.new.disk) c.root.ensures.frame.faults c.send_log.ensures.disk
