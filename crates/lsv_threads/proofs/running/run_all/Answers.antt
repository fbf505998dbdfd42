use denote.Param.Send.{sendable}
use Rattle.lsv_threads.proofs.running.run_all.Goals as goal

pub scoped-requires : goal.scoped-requires
scoped-requires g c = record { at = λ a. (c.requires.ready, (c.requires.room, (search sendable, search sendable, search sendable, search sendable))) }
