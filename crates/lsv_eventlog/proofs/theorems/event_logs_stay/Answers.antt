use Rattle.std.proofs.Common.{subst}
use Rattle.lsv_eventlog.specs.Inner.{IsEventLog}
use Rattle.lsv_eventlog.proofs.Laws.{every_image, log_added, log_stays, text_is_long}
use Rattle.lsv_eventlog.proofs.theorems.event_logs_stay.Goals as goal

pub returns : goal.returns
returns g c =
    let is = subst IsEventLog c.log.view_is c.log.invariant in
    record {
      every_image = λ at image left. every_image c.args.log.now (g.D.Disk.view c.args.old.now) is at image left;
      untouched = λ elsewhere other at. log_stays c.args.log.now g.C.Claim.touched (g.D.Disk.view c.args.old.now) (g.D.Disk.view c.args.new.now) is elsewhere other at;
      added = λ line is at. log_added c.args.log.now c.args.next.now (g.D.Disk.view c.args.old.now) line is at;
      length = λ at. text_is_long c.args.log.now (g.D.Disk.view c.args.old.now) is at;
    }
