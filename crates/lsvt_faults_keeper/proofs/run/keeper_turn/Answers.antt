use Rattle.lsv_keeper.specs.Views.{view_of}
use Rattle.lsvt_faults_keeper.proofs.run.keeper_turn.Goals as goal

pub returns-in_err-ready : goal.returns-in_err-ready
returns-in_err-ready c = c.more_room_changes_nothing.ensures.rests (view_of c.args.keeper.now) (view_of c.ready.new.self) c.ready.ensures.same c.requires

pub turn-requires-clause-rests : goal.turn-requires-clause-rests
turn-requires-clause-rests c = c.more_room_changes_nothing.ensures.rests (view_of c.args.keeper.now) (view_of c.ready.new.self) c.ready.ensures.same c.requires
