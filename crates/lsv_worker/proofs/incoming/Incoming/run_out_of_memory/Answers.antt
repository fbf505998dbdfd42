use Rattle.std.proofs.Common.{◌≡◌, rules}
use Rattle.lsv_worker.specs.declared.incoming.Stage.TheVariants.{Closing}
use Rattle.lsv_worker.specs.declared.incoming.Why.TheVariants.{Ended, Refused, Shut}
use Rattle.lsv_worker.proofs.Cutting.{wants_ended, wants_refused, wants_shut}
use Rattle.lsv_worker.proofs.incoming.Incoming.run_out_of_memory.Goals as goal

pub returns-in-Closing-Ended-clause-goes : goal.returns-in-Closing-Ended-clause-goes
returns-in-Closing-Ended-clause-goes c =
    let stage : c.args.self.now.stage ≡ Closing Ended = search rules in
    wants_ended c.args.self.now stage

pub returns-in-Closing-Shut-clause-goes : goal.returns-in-Closing-Shut-clause-goes
returns-in-Closing-Shut-clause-goes c =
    let stage : c.args.self.now.stage ≡ Closing Shut = search rules in
    wants_shut c.args.self.now stage

pub returns-then-is_some-clause-goes : goal.returns-then-is_some-clause-goes
returns-then-is_some-clause-goes c =
    let stage : c.args.self.now.stage ≡ Closing Refused = search rules in
    wants_refused c.args.self.now stage
