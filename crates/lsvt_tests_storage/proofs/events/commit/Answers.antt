use Rattle.lsv_eventlog.proofs.Laws.{log_added}
use Rattle.lsvt_tests_storage.proofs.events.commit.Goals as goal

pub flush-requires : goal.flush-requires
flush-requires g c = record { represents = λ told whole. (log_added c.args.log.now c.add.new.self (g.D.Disk.view c.args.disk.now) c.args.line.now c.in_ok-add.ensures.value (c.requires.represents told)).0 }
