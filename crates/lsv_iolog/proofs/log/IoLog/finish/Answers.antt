-- The exit is written and staged, and one entry commits all that is.
use Rattle.std.proofs.Common.{◌≡◌, ℕ, List, ◌++◌, length, Some, false, OnOk, refl, sym, ◌∙◌, ap, subst}
use Rattle.std.proofs.lemmas.Result.{on_ok_weaker}
use Rattle.lsv_disk.specs.declared.file.Part.TheVariants.{Exit}
use Rattle.lsv_disk.specs.View.{DiskView}
use Rattle.lsv_disk.specs.Throughout.{Throughout}
use Rattle.lsv_bundle.specs.Calls.{IsFull}
use Rattle.lsv_bundle.specs.Committed.{IsBeforeOrAfter, committed, committed_as}
use Rattle.lsv_bundle.specs.Represents as bundles
use Rattle.lsv_bundle.specs.Shape.{IsWritable}
use Rattle.lsv_bundle.specs.Value.{BundleView, staged, next_length, IsStaged, IsCommitted}
use Rattle.lsv_bundle.proofs.Laws.{staging_represents}
use Rattle.lsv_info.specs.Layout.{exit_text}
use Rattle.lsv_iolog.specs.Value.{IoLogView, LogValue, bare, finished, SameCounts}
use Rattle.lsv_iolog.specs.Inner.Next.{next_entry}
use Rattle.lsv_iolog.specs.Represents.{Represents}
use Rattle.lsv_iolog.proofs.Flushing.{idle_moment, later_same, later_more, either_later, last_kind, on_ok_four, on_ok_always}
use Rattle.lsv_iolog.proofs.Finishing.{with_files, timing_as, exit_invariant, going_exit, exit_some, finish_moment, finish_represents}
use Rattle.lsv_iolog.proofs.log.IoLog.finish.Goals as goal

pub returns-in_err-text-clause-any_moment : goal.returns-in_err-text-clause-any_moment
returns-in_err-text-clause-any_moment g c told value at = idle_moment c.args.self.now value (finished value (exit_text c.args.exit.now)) (g.D.Disk.view c.args.disk.now) (g.met.D.Disk.only_now told c.args.disk.now) at

pub returns-in_err-text-clause-later : goal.returns-in_err-text-clause-later
returns-in_err-text-clause-later g c told value at =
    let disk : DiskView = g.D.Disk.view c.args.disk.now in
    either_later c.args.self.now.number value.stored value.stored disk disk (later_same value.stored) (idle_moment c.args.self.now value value.stored disk (g.met.D.Disk.only_now told c.args.disk.now) at)

pub returns-in_err-stage-clause-any_moment : goal.returns-in_err-stage-clause-any_moment
returns-in_err-stage-clause-any_moment g c told value at = idle_moment c.args.self.now value (finished value (exit_text c.args.exit.now)) (g.D.Disk.view c.args.disk.now) (g.met.D.Disk.only_now told c.args.disk.now) at

pub returns-in_err-stage-clause-later : goal.returns-in_err-stage-clause-later
returns-in_err-stage-clause-later g c told value at =
    let disk : DiskView = g.D.Disk.view c.args.disk.now in
    either_later c.args.self.now.number value.stored value.stored disk disk (later_same value.stored) (idle_moment c.args.self.now value value.stored disk (g.met.D.Disk.only_now told c.args.disk.now) at)

pub invariant_of-self-2 : goal.invariant_of-self-2
invariant_of-self-2 g c =
    let old : IoLogView = record { number = c.self.inside.number; head = c.self.inside.head; count = c.self.inside.count; elapsed = c.self.inside.elapsed; is_broken = c.self.inside.is_broken; bundle = c.self.inside.bundle } in
    let is = c.in_ok-stage.ensures.value in (
      exit_invariant old c.stage.new.self c.as_slice.result.now c.self.invariant.0.files.shape is c.self.invariant.0,
      ap length (timing_as old c.stage.new.self c.as_slice.result.now c.self.invariant.0.files.shape is) ∙ c.self.invariant.1,
    )

pub commit-requires-clause-represents : goal.commit-requires-clause-represents
commit-requires-clause-represents g c told =
    let old : DiskView = g.D.Disk.view c.args.disk.now in
    let log : IoLogView = c.args.self.now in
    let files : BundleView = c.stage.new.self in
    let text : List ℕ = exit_text c.args.exit.now in
    let was : IoLogView = record { number = c.self.inside.number; head = c.self.inside.head; count = c.self.inside.count; elapsed = c.self.inside.elapsed; is_broken = c.self.inside.is_broken; bundle = c.self.inside.bundle } in
    let is : IsStaged Exit (staged log.bundle Exit ++ text) log.bundle files =
    subst (λ (w : IoLogView). IsStaged Exit (staged w.bundle Exit ++ text) w.bundle files) c.self.view_is
    (subst (λ (xs : List ℕ). IsStaged Exit (staged was.bundle Exit ++ xs) was.bundle files) (c.as_slice.ensures ∙ c.in_ok-text.ensures) c.in_ok-stage.ensures.value) in
    let at = c.requires.represents told (ap (λ (v : IoLogView). v.is_broken) (sym c.self.view_is) ∙ c.if-self.false) in
    staging_represents log.bundle files old is.same at.1.bundle

pub returns-clause-fits : goal.returns-clause-fits
returns-clause-fits g c =
    let old : DiskView = g.D.Disk.view c.args.disk.now in
    let log : IoLogView = c.args.self.now in
    let files : BundleView = c.stage.new.self in
    let text : List ℕ = exit_text c.args.exit.now in
    let was : IoLogView = record { number = c.self.inside.number; head = c.self.inside.head; count = c.self.inside.count; elapsed = c.self.inside.elapsed; is_broken = c.self.inside.is_broken; bundle = c.self.inside.bundle } in
    let is : IsStaged Exit (staged log.bundle Exit ++ text) log.bundle files =
    subst (λ (w : IoLogView). IsStaged Exit (staged w.bundle Exit ++ text) w.bundle files) c.self.view_is
    (subst (λ (xs : List ℕ). IsStaged Exit (staged was.bundle Exit ++ xs) was.bundle files) (c.as_slice.ensures ∙ c.in_ok-text.ensures) c.in_ok-stage.ensures.value) in
    on_ok_always c.commit.result (IsFull log.bundle Exit (length text) → ⊥)
    (λ full. c.in_ok-stage.ensures.room.1 (subst (λ (xs : List ℕ). IsFull c.self.inside.bundle Exit (length xs)) (sym (c.as_slice.ensures ∙ c.in_ok-text.ensures))
    (subst (λ (w : IoLogView). IsFull w.bundle Exit (length text)) (sym c.self.view_is) full)))

pub returns-clause-room : goal.returns-clause-room
returns-clause-room g c failed full =
    let log : IoLogView = c.args.self.now in
    let text : List ℕ = exit_text c.args.exit.now in
    c.in_ok-stage.ensures.room.1 (subst (λ (xs : List ℕ). IsFull c.self.inside.bundle Exit (length xs)) (sym (c.as_slice.ensures ∙ c.in_ok-text.ensures))
    (subst (λ (w : IoLogView). IsFull w.bundle Exit (length text)) (sym c.self.view_is) full))

pub returns-clause-represents : goal.returns-clause-represents
returns-clause-represents g c told =
    let old : DiskView = g.D.Disk.view c.args.disk.now in
    let log : IoLogView = c.args.self.now in
    let files : BundleView = c.stage.new.self in
    let text : List ℕ = exit_text c.args.exit.now in
    let was : IoLogView = record { number = c.self.inside.number; head = c.self.inside.head; count = c.self.inside.count; elapsed = c.self.inside.elapsed; is_broken = c.self.inside.is_broken; bundle = c.self.inside.bundle } in
    let is : IsStaged Exit (staged log.bundle Exit ++ text) log.bundle files =
    subst (λ (w : IoLogView). IsStaged Exit (staged w.bundle Exit ++ text) w.bundle files) c.self.view_is
    (subst (λ (xs : List ℕ). IsStaged Exit (staged was.bundle Exit ++ xs) was.bundle files) (c.as_slice.ensures ∙ c.in_ok-text.ensures) c.in_ok-stage.ensures.value) in
    let new : DiskView = g.D.Disk.view c.commit.new.disk in
    let left : IoLogView = c.commit.new.self in
    let counts : SameCounts log left = subst (λ (w : IoLogView). SameCounts w left) c.self.view_is (record { number = c.commit.ensures.counts.number; head = c.commit.ensures.counts.head; count = c.commit.ensures.counts.count; elapsed = c.commit.ensures.counts.elapsed }) in
    on_ok_four c.commit.result (left.is_broken ≡ false) (IsCommitted (next_entry (with_files log files) 3) (next_length files) files left.bundle) (committed left.bundle new ≡ Some (committed_as files old (next_entry (with_files log files) 3))) (bundles.Represents left.bundle new)
    ((value : LogValue) → Represents log value old → Represents left (bare (finished value text)) new)
    (λ whole value_is has represents value at. finish_represents log files text at.shape is left value old new counts at (going_exit log value old at c.requires.going) (exit_some c.args.exit.now) whole value_is has represents)
    c.commit.ensures.whole
    (subst (λ (w : IoLogView). OnOk c.commit.result (IsCommitted (next_entry (with_files w files) 3) (next_length files) files left.bundle)) c.self.view_is c.commit.ensures.value)
    (subst (λ (w : IoLogView). OnOk c.commit.result (committed left.bundle new ≡ Some (committed_as files old (next_entry (with_files w files) 3)))) c.self.view_is (c.commit.ensures.committed told))
    (c.commit.ensures.represents told)

pub returns-clause-any_moment : goal.returns-clause-any_moment
returns-clause-any_moment g c told value at =
    let old : DiskView = g.D.Disk.view c.args.disk.now in
    let log : IoLogView = c.args.self.now in
    let files : BundleView = c.stage.new.self in
    let text : List ℕ = exit_text c.args.exit.now in
    let was : IoLogView = record { number = c.self.inside.number; head = c.self.inside.head; count = c.self.inside.count; elapsed = c.self.inside.elapsed; is_broken = c.self.inside.is_broken; bundle = c.self.inside.bundle } in
    let is : IsStaged Exit (staged log.bundle Exit ++ text) log.bundle files =
    subst (λ (w : IoLogView). IsStaged Exit (staged w.bundle Exit ++ text) w.bundle files) c.self.view_is
    (subst (λ (xs : List ℕ). IsStaged Exit (staged was.bundle Exit ++ xs) was.bundle files) (c.as_slice.ensures ∙ c.in_ok-text.ensures) c.in_ok-stage.ensures.value) in
    let new : DiskView = g.D.Disk.view c.commit.new.disk in
    finish_moment log files text at.shape is value old new at (going_exit log value old at c.requires.going) (exit_some c.args.exit.now)
    (subst (λ (w : IoLogView). Throughout (IsWritable files.owner files.shape) (IsBeforeOrAfter files.owner files.shape (committed files old) (Some (committed_as files old (next_entry (with_files w files) 3)))) old new) c.self.view_is (c.commit.ensures.any_moment told))

pub returns-clause-later : goal.returns-clause-later
returns-clause-later g c told value at =
    either_later c.args.self.now.number value.stored (finished value (exit_text c.args.exit.now)) (g.D.Disk.view c.args.disk.now) (g.D.Disk.view c.commit.new.disk) (later_more value.stored (finished value (exit_text c.args.exit.now)) value.staged refl refl) (returns-clause-any_moment g c told value at)

pub returns-clause-kind : goal.returns-clause-kind
returns-clause-kind g c = on_ok_weaker c.commit.result (λ value. last_kind c.commit.new.self _ value.last) c.commit.ensures.value
