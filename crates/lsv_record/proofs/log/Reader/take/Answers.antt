use Rattle.std.proofs.Common.{ℕ, ◌+◌, refl, sym, ◌∙◌, ap, arith}
use Rattle.lsv_record.specs.Lines.{told_delay}
use Rattle.lsv_record.proofs.Readers.{taken_within, data_taken, nothing_taken}
use Rattle.lsv_record.proofs.log.Reader.take.Goals as goal

pub data_at-requires : goal.data_at-requires
data_at-requires c =
    rw (c.as_slice.ensures, c.stream.ensures, c.event-event.ensures) (taken_within c.args.l.now c.args.self.now c.in-Io.stream c.requires.behind)

pub returns-in-Some-clause-ok : goal.returns-in-Some-clause-ok
returns-in-Some-clause-ok c =
    let found = rw (c.in-Some.is, c.as_slice.ensures, c.stream.ensures) at c.in_ok-bytes-in-Io.ensures in
    data_taken c.args.l.now c.args.told c.args.self.now _ c.in-Io.delay c.in-Io.stream c.in-Some.bytes c.in-Io.count c.event-event.result c.requires.behind c.event-event.ensures c.in-Io.is found.0 found.1
    refl refl (ap (λ (n : ℕ). c.args.self.now.elapsed + n) (c.delay.ensures ∙ ap told_delay c.in-Io.is)) (omega arith) refl

pub returns-in-Winsize-clause-ok : goal.returns-in-Winsize-clause-ok
returns-in-Winsize-clause-ok c =
    nothing_taken _ _ _ _ _ c.requires.behind (sym c.in-Winsize.is) refl refl (ap (λ (n : ℕ). c.args.self.now.elapsed + n) (c.delay.ensures ∙ ap told_delay c.in-Winsize.is)) (omega arith) refl (λ s. refl)

pub returns-in-Suspend-clause-ok : goal.returns-in-Suspend-clause-ok
returns-in-Suspend-clause-ok c =
    nothing_taken _ _ _ _ _ c.requires.behind (sym c.in-Suspend.is) refl refl (ap (λ (n : ℕ). c.args.self.now.elapsed + n) (c.delay.ensures ∙ ap told_delay c.in-Suspend.is)) (omega arith) refl (λ s. refl)
