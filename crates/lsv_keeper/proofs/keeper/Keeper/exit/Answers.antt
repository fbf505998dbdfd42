use Rattle.std.proofs.Common.{◌∙◌, ap, sym}
use Rattle.lsv_machine.specs.Machine.{log_of}
use Rattle.lsv_keeper.proofs.Requests.{exit_timed}
use Rattle.lsv_keeper.proofs.SparingLemmas.{spares_none}
use Rattle.lsv_keeper.proofs.Syncing.{of_none}
use Rattle.lsv_keeper.specs.Syncing.{GoesOnWith}
use Rattle.lsv_request.specs.declared.request.Request.TheVariants as request
use Rattle.lsv_keeper.specs.Views.{view_of}
use Rattle.lsv_keeper.proofs.keeper.Keeper.exit.Goals as goal

pub end_log-requires : goal.end_log-requires
end_log-requires g c = record {
  stands = c.requires.stands;
  room = c.requires.room;
  timed = c.requires.timed;
  run = let (message, asked) = c.requires.asked in exit_timed c.args.state message c.args.exit asked;
}

pub end_session-requires : goal.end_session-requires
end_session-requires g c = record {
  stands = c.requires.stands;
  room = c.requires.room;
  timed = c.requires.timed;
  run = let (message, asked) = c.requires.asked in exit_timed c.args.state message c.args.exit asked;
}

pub returns-in-Some : goal.returns-in-Some
returns-in-Some g c = record {
  done = c.end_log.ensures.done (ap log_of (sym c.requires.state) ∙ sym c.log_of.ensures ∙ c.in-Some.is);
}

pub returns-in-None : goal.returns-in-None
returns-in-None g c = record {
  done =
      let v = view_of c.args.self.now in
      let v' = view_of c.end_session.new.self in
      let old = g.D.Disk.view c.args.disk.now in
      let new = g.D.Disk.view c.end_session.new.disk in
      record {
        keeps = c.end_session.ensures.frame.keeps;
        named = c.end_session.ensures.named;
        row = λ told m job at is asks. c.end_session.ensures.row told m job at is (ap log_of (at.states c.args.conn ∙ sym c.requires.state) ∙ sym c.log_of.ensures ∙ c.in-None.is, asks);
        syncs = λ told m at. of_none (GoesOnWith (request.Exit c.args.exit)) v v' old new (c.end_session.ensures.frame.syncs told m at);
        spared = λ told m at. spares_none v v' old new m at (c.end_session.ensures.frame.syncs told m at);
        does = c.end_session.ensures.frame.does;
      };
}
