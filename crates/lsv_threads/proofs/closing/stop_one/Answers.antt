use Rattle.lsv_threads.proofs.closing.stop_one.Goals as goal

pub stop-requires : goal.stop-requires
stop-requires g c = record { begun = c.requires.begun c.if-stopped.false }
