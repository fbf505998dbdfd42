use Rattle.lsv_bundle.proofs.Laws.{staging_represents, staging_lengths, staging_committed}
use Rattle.lsv_bundle.proofs.theorems.staging_commits_nothing.Goals as goal

pub returns-clause-represents : goal.returns-clause-represents
returns-clause-represents g c same at = staging_represents c.args.old.now c.args.new.now (g.D.Disk.view c.args.disk.now) same at

pub returns-clause-lengths : goal.returns-clause-lengths
returns-clause-lengths g c same part = staging_lengths c.args.old.now c.args.new.now same part

pub returns-clause-committed : goal.returns-clause-committed
returns-clause-committed g c same = staging_committed c.args.old.now c.args.new.now (g.D.Disk.view c.args.disk.now) same
