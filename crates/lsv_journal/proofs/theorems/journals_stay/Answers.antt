use Rattle.lsv_journal.proofs.Laws.{represents_stays, may_be_made_stays}
use Rattle.lsv_journal.proofs.theorems.journals_stay.Goals as goal

pub returns-clause-represents : goal.returns-clause-represents
returns-clause-represents g c at elsewhere apart = represents_stays g.row.N c.args.journal.now g.C.Claim.touched (g.D.Disk.view c.args.old.now) (g.D.Disk.view c.args.new.now) at elsewhere apart

pub returns-clause-may_be_made : goal.returns-clause-may_be_made
returns-clause-may_be_made g c f may elsewhere apart = may_be_made_stays g.row.N f g.C.Claim.touched (g.D.Disk.view c.args.old.now) (g.D.Disk.view c.args.new.now) may elsewhere apart
