use Rattle.std.proofs.Common.{sym}
use Rattle.lsv_journal.proofs.Words.{absent_gated, no_size}
use Rattle.lsv_journal.proofs.gates.last_gated.Goals as goal

pub returns-in_default-clause-last : goal.returns-in_default-clause-last
returns-in_default-clause-last g c told =
    let file = (g.D.Disk.view c.args.disk.now).reads c.args.f in
    sym (absent_gated g.row.N file (no_size file (rw c.in_default.is at (c.in_ok-total.ensures.size told))))
