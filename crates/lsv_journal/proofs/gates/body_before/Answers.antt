use Rattle.std.proofs.Common.{replicate, ℕ, subst, ◌≡◌, ◌++◌, ◌-◌, drop, length}
use Rattle.std.proofs.lemmas.List.{length-replicate}
use Rattle.lsv_defs.specs.Pieces.{piece}
use Rattle.lsv_disk.specs.Bytes.{bytes_of}
use Rattle.lsv_journal.proofs.Fronts.{body_read}
use Rattle.lsv_journal.proofs.gates.body_before.Goals as goal

pub returns-clause-body : goal.returns-clause-body
returns-clause-body g c told =
    body_read g.row.N c.args.end c.in_ok-read_at.field-0 (bytes_of ((g.D.Disk.view c.args.disk.now).reads c.args.f)) (replicate {A = ℕ} g.row.N 0) c.read_at.new.buf c.requires.size.0 (c.requires.end told) c.if-end.false
    (subst (λ (k : ℕ). c.in_ok-read_at.field-0 ≡ length (piece (bytes_of ((g.D.Disk.view c.args.disk.now).reads c.args.f)) (c.args.end - g.row.N) k)) (length-replicate g.row.N 0) (c.in_ok-read_at.ensures.count told))
    (subst (λ (k : ℕ). c.read_at.new.buf ≡ piece (bytes_of ((g.D.Disk.view c.args.disk.now).reads c.args.f)) (c.args.end - g.row.N) k ++ drop c.in_ok-read_at.field-0 (replicate {A = ℕ} g.row.N 0)) (length-replicate g.row.N 0) (c.in_ok-read_at.ensures.bytes told))
    (length-replicate g.row.N 0)
