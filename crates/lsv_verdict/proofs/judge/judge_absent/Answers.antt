use Rattle.std.proofs.Common.{inr, refl}
use Rattle.lsv_disk.specs.View.{DiskView}
use Rattle.lsv_verdict.proofs.Judging.{unread_look}
use Rattle.lsv_verdict.specs.Verdicts.{counts_of}
use Rattle.lsv_verdict.proofs.judge.judge_absent.Goals as goal

pub returns-in-Err-clause-judged : goal.returns-in-Err-clause-judged
returns-in-Err-clause-judged g c told found form =
    let old : DiskView = g.D.Disk.view c.args.disk.now in
    unread_look form c.args.whole old.reads (counts_of old (g.D.Disk.view c.is_drawn.new.disk)) c.args.number c.unread.result c.unread.ensures (inr (found, c.in-Err.ensures.cause.risen refl))
