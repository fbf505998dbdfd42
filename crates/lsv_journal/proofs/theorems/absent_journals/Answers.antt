use Rattle.lsv_journal.proofs.Laws.{absent_may_be_made, empty_may_be_made, reads_absent_may_be_made}
use Rattle.lsv_journal.proofs.theorems.absent_journals.Goals as goal

pub returns-clause-absent : goal.returns-clause-absent
returns-clause-absent g c told f absent = absent_may_be_made g.row.N f (g.D.Disk.view c.args.disk.now) (g.met.D.Disk.reads_itself told c.args.disk.now) absent

pub returns-clause-no_entry : goal.returns-clause-no_entry
returns-clause-no_entry g c at none = empty_may_be_made g.row.N c.args.journal.now (g.D.Disk.view c.args.disk.now) at none

pub returns-clause-reads : goal.returns-clause-reads
returns-clause-reads g c told f absent = reads_absent_may_be_made g.row.N f (g.D.Disk.view c.args.disk.now) (g.met.D.Disk.absent_or_empty told c.args.disk.now) absent
