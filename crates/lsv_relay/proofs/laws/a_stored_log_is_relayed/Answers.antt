use Rattle.std.proofs.Common.{subst}
use Rattle.lsv_relay.specs.Inner.{IsRelay}
use Rattle.lsv_relay.proofs.Done.{done_said}
use Rattle.lsv_relay.proofs.Stored.{part_said, whole_said}
use Rattle.lsv_relay.proofs.laws.a_stored_log_is_relayed.Goals as goal

pub returns-clause-part : goal.returns-clause-part
returns-clause-part g c state events talks stored head text exit holds head_ok some exit_ok =
    part_said (g.D.Disk.view c.args.began.now) state c.args.relay.now (g.D.Disk.view c.args.disk.now) events stored head text exit holds head_ok some exit_ok talks

pub returns-clause-whole : goal.returns-clause-whole
returns-clause-whole g c state events talks quiet stored head text exit holds head_ok some exit_ok =
    whole_said (g.D.Disk.view c.args.began.now) state c.args.relay.now (g.D.Disk.view c.args.disk.now) events stored head text exit holds head_ok some exit_ok talks quiet

pub returns-clause-relayed : goal.returns-clause-relayed
returns-clause-relayed g c state events talks whole =
    done_said (g.D.Disk.view c.args.began.now) state c.args.relay.now (g.D.Disk.view c.args.disk.now) events (subst IsRelay c.relay.view_is c.relay.invariant) talks whole
