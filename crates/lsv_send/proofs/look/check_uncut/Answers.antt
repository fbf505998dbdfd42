use Rattle.lsv_play.proofs.ReadAhead.{one_count}
use Rattle.lsv_send.proofs.look.check_uncut.Goals as goal

pub returns-in-Ok-Cut-clause-uncut : goal.returns-in-Ok-Cut-clause-uncut
returns-in-Ok-Cut-clause-uncut g c = λ told has.
    let was = c.in-Ok-Cut.ensures.cut told c.in-Ok-Cut.field-0-0 c.in-Ok-Cut.field-0-is in
    absurd (was.1 (one_count c.args.log.now.number c.in-Ok-Cut.field-0-0 c.args.log.now.body.extra (g.D.Disk.view c.args.disk.now).reads was.0 has))
