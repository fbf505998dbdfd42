-- Where nothing is staged nothing happens; else one entry commits it.
use Rattle.std.proofs.Common.{◌≡◌, ◌≢◌, length, Some, false, refl, sym, ◌∙◌, ap, subst}
use Rattle.std.proofs.lemmas.Result.{on_ok_weaker}
use Rattle.lsv_disk.specs.declared.file.Part.TheVariants.{Timing}
use Rattle.lsv_disk.specs.View.{DiskView}
use Rattle.lsv_bundle.specs.Represents as bundles
use Rattle.lsv_bundle.specs.Value.{staged, next_length, IsCommitted}
use Rattle.lsv_bundle.specs.Committed.{committed, committed_as}
use Rattle.lsv_iolog.specs.Value.{IoLogView, LogValue, bare, flushed}
use Rattle.lsv_iolog.specs.Represents.{Represents}
use Rattle.lsv_iolog.specs.Inner.Next.{next_entry}
use Rattle.lsv_iolog.proofs.Flushing.{idle_moment, idle_value, no_timing, some_timing, later_same, later_more, either_later, flush_represents, flush_moment, idle_kind, flush_kind, on_ok_four}
use Rattle.lsv_iolog.proofs.log.IoLog.flush.Goals as goal

pub returns-then-self-eq0-clause-represents : goal.returns-then-self-eq0-clause-represents
returns-then-self-eq0-clause-represents g c told value at =
    let none : length (staged c.args.self.now.bundle Timing) ≡ 0 = ap (λ (v : IoLogView). length (staged v.bundle Timing)) (sym c.self.view_is) ∙ c.self.invariant.1 ∙ c.if-self-eq0.true in
    subst (λ (v : LogValue). Represents c.args.self.now v (g.D.Disk.view c.args.disk.now)) (idle_value value (no_timing c.args.self.now value (g.D.Disk.view c.args.disk.now) at none)) at

pub returns-then-self-eq0-clause-any_moment : goal.returns-then-self-eq0-clause-any_moment
returns-then-self-eq0-clause-any_moment g c told value at = idle_moment c.args.self.now value (flushed value) (g.D.Disk.view c.args.disk.now) (g.met.D.Disk.only_now told c.args.disk.now) at

pub returns-then-self-eq0-clause-later : goal.returns-then-self-eq0-clause-later
returns-then-self-eq0-clause-later g c told value at =
    let disk : DiskView = g.D.Disk.view c.args.disk.now in
    either_later c.args.self.now.number value.stored value.stored disk disk (later_same value.stored) (idle_moment c.args.self.now value value.stored disk (g.met.D.Disk.only_now told c.args.disk.now) at)

pub returns-clause-represents : goal.returns-clause-represents
returns-clause-represents g c told =
    let old : DiskView = g.D.Disk.view c.args.disk.now in
    let new : DiskView = g.D.Disk.view c.commit.new.disk in
    let log : IoLogView = c.args.self.now in
    let left : IoLogView = c.commit.new.self in
    let some : length (staged log.bundle Timing) ≢ 0 = λ none. c.if-self-eq0.false (sym c.self.invariant.1 ∙ ap (λ (v : IoLogView). length (staged v.bundle Timing)) c.self.view_is ∙ none) in
    on_ok_four c.commit.result (left.is_broken ≡ false) (IsCommitted (next_entry log 1) (next_length log.bundle) log.bundle left.bundle) (committed left.bundle new ≡ Some (committed_as log.bundle old (next_entry log 1))) (bundles.Represents left.bundle new)
    ((value : LogValue) → Represents log value old → Represents left (bare (flushed value)) new)
    (λ whole is has represents value at. flush_represents log left value old new c.commit.ensures.counts (some_timing log value old at some) at whole is has represents)
    c.commit.ensures.whole c.commit.ensures.value (c.commit.ensures.committed told) (c.commit.ensures.represents told)

pub returns-clause-any_moment : goal.returns-clause-any_moment
returns-clause-any_moment g c told value at =
    let old : DiskView = g.D.Disk.view c.args.disk.now in
    let log : IoLogView = c.args.self.now in
    let some : length (staged log.bundle Timing) ≢ 0 = λ none. c.if-self-eq0.false (sym c.self.invariant.1 ∙ ap (λ (v : IoLogView). length (staged v.bundle Timing)) c.self.view_is ∙ none) in
    flush_moment log value old (g.D.Disk.view c.commit.new.disk) (some_timing log value old at some) at (c.commit.ensures.any_moment told)

pub returns-clause-later : goal.returns-clause-later
returns-clause-later g c told value at =
    let old : DiskView = g.D.Disk.view c.args.disk.now in
    either_later c.args.self.now.number value.stored (flushed value) old (g.D.Disk.view c.commit.new.disk) (later_more value.stored (flushed value) value.staged refl refl) (returns-clause-any_moment g c told value at)

pub returns-then-self-eq0-clause-kind : goal.returns-then-self-eq0-clause-kind
returns-then-self-eq0-clause-kind g c =
    idle_kind c.args.self.now (ap (λ (v : IoLogView). length (staged v.bundle Timing)) (sym c.self.view_is) ∙ c.self.invariant.1 ∙ c.if-self-eq0.true)

pub returns-clause-kind : goal.returns-clause-kind
returns-clause-kind g c =
    let log : IoLogView = c.args.self.now in
    let left : IoLogView = c.commit.new.self in
    let some : length (staged log.bundle Timing) ≢ 0 = λ none. c.if-self-eq0.false (sym c.self.invariant.1 ∙ ap (λ (v : IoLogView). length (staged v.bundle Timing)) c.self.view_is ∙ none) in
    on_ok_weaker c.commit.result (λ (value : IsCommitted (next_entry log 1) (next_length log.bundle) log.bundle left.bundle). flush_kind log left some value) c.commit.ensures.value
