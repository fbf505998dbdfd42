use Rattle.std.proofs.Common.{refl, rules}
use Rattle.lsv_keeper.specs.Views.{view_of}
use Rattle.lsv_keeper.proofs.Departing.{released_departs}
use Rattle.lsv_keeper.proofs.keeper.Keeper.release.Goals as goal

pub returns : goal.returns
returns g c = record {
  departs =
      let old = c.args.self.now in
      released_departs c.set.result (view_of old) _ c.release_log.new.self c.args.log c.args.conn c.args.state
      (record { lane = refl; lanes = refl; log_exit = refl; kind = refl; texts = refl; numbers = refl; events = refl; noting = refl })
      c.remove.ensures c.release_log.ensures.free c.release_log.ensures.states c.set.ensures.ok c.set.ensures.room c.requires.room;
  logs = search rules;
  room = search rules;
}
