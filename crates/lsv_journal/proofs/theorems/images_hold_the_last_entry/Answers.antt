use Rattle.lsv_journal.proofs.Laws.{crash_holds, own_alone, absent_last}
use Rattle.lsv_journal.proofs.theorems.images_hold_the_last_entry.Goals as goal

pub returns-clause-crash : goal.returns-clause-crash
returns-clause-crash g c at image left = crash_holds g.row.N c.args.journal.now (g.D.Disk.view c.args.disk.now) at image left

pub returns-clause-reads : goal.returns-clause-reads
returns-clause-reads g c told at = crash_holds g.row.N c.args.journal.now (g.D.Disk.view c.args.disk.now) at ((g.D.Disk.view c.args.disk.now).reads) (λ f _. g.met.D.Disk.reads_itself told c.args.disk.now f)

pub returns-clause-own_alone : goal.returns-clause-own_alone
returns-clause-own_alone g c f image other same = own_alone g.row.N f image other same

pub returns-clause-absent : goal.returns-clause-absent
returns-clause-absent g c f image absent = absent_last g.row.N f image absent
