-- A log that refused a record is there to be taken.
use Rattle.std.proofs.Common.{◌∙◌, arith, refl, None, sym}
use Rattle.lsv_session.specs.declared.connection.ConnState.TheVariants.{Dead}
use Rattle.lsv_keeper.specs.Value.{sessions_of}
use Rattle.lsv_keeper.specs.Views.{view_of}
use Rattle.lsv_keeper.proofs.Departing.{room_one}
use Rattle.lsv_keeper.proofs.ExitEnds.{keeps_from}
use Rattle.lsv_keeper.proofs.Refusing.{keeps_same, moved_out, moved_there}
use Rattle.lsv_keeper.proofs.Causes.{at_each, does_none, none_of, none_taken, taken_then}
use Rattle.lsv_keeper.specs.Logs.{open_logs, with_open}
use Rattle.lsv_keeper.proofs.keeper.Keeper.release_refused.Goals as goal

pub let_go-requires : goal.let_go-requires
let_go-requires g c = record {
  taken_out = λ told.
      let (before, left, m, moved, at) = c.requires.moved told in
      (before, m, moved_out before (view_of c.args.self.now) c.take.new.self c.args.log left c.in-Some.its moved c.in-Some.ensures.taken c.take.ensures.rest, at);
  writes_none = refl;
  room = let x = room_one ((sessions_of (view_of c.args.self.now)).states c.args.conn) Dead in let y = c.requires.room in omega arith;
}

pub returns-in_default : goal.returns-in_default
returns-in_default g c = record {
  keeps = keeps_same (view_of c.args.self.now) c.take.new.self;
  left = λ told before m (left, moved) at state.
      absurd (c.in_default.not-Some left (c.take.ensures.taken ∙ moved_there before (view_of c.args.self.now) c.args.log left moved));
  syncs = λ told before m (left, moved) at state.
      absurd (c.in_default.not-Some left (c.take.ensures.taken ∙ moved_there before (view_of c.args.self.now) c.args.log left moved));
  does = λ is.
      none_taken c.args.log c.take.new.self (sym c.take.ensures.taken ∙ none_of c.take.result c.in_default.not-Some) c.take.ensures.rest (does_none (λ none. none));
}

pub returns : goal.returns
returns g c = record {
  keeps = keeps_from (view_of c.args.self.now) (view_of c.let_go.new.self) c.take.new.self c.let_go.ensures.gone.keeps;
  left = λ told before m (left, moved) at state.
      c.let_go.ensures.gone.left told before m (moved_out before (view_of c.args.self.now) c.take.new.self c.args.log left c.in-Some.its moved c.in-Some.ensures.taken c.take.ensures.rest) at state;
  syncs = λ told before m (left, moved) at state.
      c.let_go.ensures.gone.syncs told before m (moved_out before (view_of c.args.self.now) c.take.new.self c.args.log left c.in-Some.its moved c.in-Some.ensures.taken c.take.ensures.rest) at state;
  does = λ is.
      taken_then c.args.log c.take.new.self (λ all none. absurd none) (at_each (open_logs c.take.new.self) (with_open c.args.log None (open_logs c.args.self.now.logs)) c.take.ensures.rest) (c.let_go.ensures.gone.does is);
}
