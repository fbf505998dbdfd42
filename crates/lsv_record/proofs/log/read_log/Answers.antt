use Rattle.lsv_record.proofs.Readers.{at_start}
use Rattle.lsv_record.proofs.log.read_log.Goals as goal

pub loop-reader-init : goal.loop-reader-init
loop-reader-init c = at_start c.args.l.now c.new.result c.new.ensures
