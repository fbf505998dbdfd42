use Rattle.std.proofs.Common.{◌≡◌, ap, refl, rules, subst}
use Rattle.lsv_lane.specs.Store.{lane_settings}
use Rattle.lsv_service.specs.InnerRun.{IsRefused}
use Rattle.lsv_service.specs.Lanes.{bay_by}
use Rattle.lsv_service.proofs.Stores.{refused, refused_untouched}
use Rattle.lsv_service.proofs.run.open_lane.Goals as goal

pub returns-in_default-clause-refused : goal.returns-in_default-clause-refused
returns-in_default-clause-refused g c =
    refused_untouched g.D.Disk.tells g.G.Tape.tells (lane_settings c.args.lane.number c.args.lane.of c.args.policy.now.formatter.kind c.args.policy.now.log_exit) c.args.policy.now.texts c.args.lane.number c.args.lane.of (bay_by g.D.Disk g.G.Tape c.args.bay)
    (λ told. g.met.D.Disk.only_now told c.args.bay.disk) c.requires.fresh

pub returns-in-Err-clause-refused : goal.returns-in-Err-clause-refused
returns-in-Err-clause-refused g c =
    let kind : c.by_ref.result.kind ≡ c.args.policy.now.formatter.kind = search rules in
    let texts : c.in-Ok.texts ≡ c.args.policy.now.texts = search rules in
    subst (λ k. IsRefused g.D.Disk.tells g.G.Tape.tells (lane_settings c.args.lane.number c.args.lane.of k c.args.policy.now.log_exit) c.args.policy.now.texts c.args.lane.number c.args.lane.of (bay_by g.D.Disk g.G.Tape c.args.bay) (bay_by g.D.Disk g.G.Tape c.in-Err.unopened.bay) c.in-Err.unopened.fault) kind
    (subst (λ t. IsRefused g.D.Disk.tells g.G.Tape.tells (lane_settings c.args.lane.number c.args.lane.of c.by_ref.result.kind c.args.policy.now.log_exit) t c.args.lane.number c.args.lane.of (bay_by g.D.Disk g.G.Tape c.args.bay) (bay_by g.D.Disk g.G.Tape c.in-Err.unopened.bay) c.in-Err.unopened.fault) texts
    (refused g.D.Disk.tells g.G.Tape.tells (lane_settings c.args.lane.number c.args.lane.of c.by_ref.result.kind c.args.policy.now.log_exit) c.in-Ok.texts c.args.lane.number c.args.lane.of (bay_by g.D.Disk g.G.Tape c.args.bay) (bay_by g.D.Disk g.G.Tape c.in-Err.unopened.bay) c.in-Err.unopened.fault refl
    c.in-Err.ensures.fault c.in-Err.ensures.cause c.in-Err.ensures.store c.in-Err.ensures.fresh c.in-Err.ensures.entry c.in-Err.ensures.places (ap g.G.Tape.turns c.in-Err.ensures.tape)))
