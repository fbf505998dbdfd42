use Rattle.std.proofs.Common.{◌≡◌, ◌++◌, false, subst, sym, ◌∙◌, ap}
use Rattle.lsv_eventlog.specs.Inner.{IsEventLog}
use Rattle.lsv_eventlog.specs.Recovered.{HoldsLines}
use Rattle.lsv_eventlog.specs.Value.{EventLogView, added_text, committed_text}
use Rattle.lsv_eventlog.proofs.Laws.{every_image}
use Rattle.lsv_eventlog.proofs.Moments.{Flushes, after_text, flushed, flushes, none_left, now_committed, rests, unbroken, with_none}
use Rattle.lsv_eventlog.proofs.log.EventLog.flush.Goals as goal

pub returns-in_err-flush-clause-any_moment : goal.returns-in_err-flush-clause-any_moment
returns-in_err-flush-clause-any_moment g c told whole =
    let old = g.D.Disk.view c.args.disk.now in
    let new = g.D.Disk.view c.flush.new.disk in
    subst (λ (l : EventLogView). Flushes l old new) c.self.view_is (flushes _ old new 1 c.saturating_add-lines.result 0 0 c.self.invariant
    (c.flush.ensures.any_moment told (subst (λ (l : EventLogView). l.bundle.is_broken ≡ false) (sym c.self.view_is) whole)))

pub returns-clause-any_moment : goal.returns-clause-any_moment
returns-clause-any_moment g c told whole =
    let old = g.D.Disk.view c.args.disk.now in
    let new = g.D.Disk.view c.flush.new.disk in
    subst (λ (l : EventLogView). Flushes l old new) c.self.view_is (flushes _ old new 1 c.saturating_add-lines.result 0 0 c.self.invariant
    (c.flush.ensures.any_moment told (subst (λ (l : EventLogView). l.bundle.is_broken ≡ false) (sym c.self.view_is) whole)))

pub returns-then-self-eq0-clause-any_moment : goal.returns-then-self-eq0-clause-any_moment
returns-then-self-eq0-clause-any_moment g c told whole =
    let old = g.D.Disk.view c.args.disk.now in
    rests c.args.self.now old (subst IsEventLog c.self.view_is c.self.invariant) (c.requires.represents told whole) (g.met.D.Disk.only_now told c.args.disk.now)

pub returns-then-self-eq0-clause-acknowledged : goal.returns-then-self-eq0-clause-acknowledged
returns-then-self-eq0-clause-acknowledged g c told image left =
    let old = g.D.Disk.view c.args.disk.now in
    let is : IsEventLog c.args.self.now = subst IsEventLog c.self.view_is c.self.invariant in
    let none : c.args.self.now.added ≡ 0 = subst (λ (l : EventLogView). l.added ≡ 0) c.self.view_is c.if-self-eq0.true in
    with_none c.args.self.now old image (is.none none) (every_image c.args.self.now old is (c.requires.represents told (unbroken c.args.self.now is none)) image left)

pub invariant_of-self-2 : goal.invariant_of-self-2
invariant_of-self-2 g c = flushed _ c.flush.new.self _ _ c.self.invariant c.in_ok-flush.ensures.value

pub returns-clause-none_left : goal.returns-clause-none_left
returns-clause-none_left g c = none_left _ c.flush.new.self _ _ c.self.invariant c.in_ok-flush.ensures.value

pub returns-clause-committed : goal.returns-clause-committed
returns-clause-committed g c told =
    let old = g.D.Disk.view c.args.disk.now in
    let new = g.D.Disk.view c.flush.new.disk in
    now_committed _ c.flush.new.self old new 1 c.saturating_add-lines.result 0 0 _ _ c.self.invariant c.in_ok-flush.ensures.value (c.in_ok-flush.ensures.committed told)
    ∙ ap (λ (l : EventLogView). committed_text l old ++ added_text l) c.self.view_is

pub returns-clause-acknowledged : goal.returns-clause-acknowledged
returns-clause-acknowledged g c told image left =
    let old = g.D.Disk.view c.args.disk.now in
    subst (λ (l : EventLogView). HoldsLines image l.lane (committed_text l old ++ added_text l)) c.self.view_is
    (after_text _ old image 1 c.saturating_add-lines.result 0 0 c.self.invariant (c.in_ok-flush.ensures.acknowledged told image (λ file own. left file)))

pub returns-clause-sound : goal.returns-clause-sound
returns-clause-sound g c = flushed _ c.flush.new.self _ _ c.self.invariant c.in_ok-flush.ensures.value
