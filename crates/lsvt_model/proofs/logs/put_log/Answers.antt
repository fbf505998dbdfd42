use Rattle.std.proofs.Common.{◌≡◌, Some, None, refl}
use Rattle.lsvt_model.specs.Inner.{log_place}
use Rattle.lsvt_model.proofs.TableLemmas.{logs_push, logs_set, owners_push, owners_set}
use Rattle.lsvt_model.proofs.logs.put_log.Goals as goal

pub returns-in-Some-clause-logs : goal.returns-in-Some-clause-logs
returns-in-Some-clause-logs c =
    let at : log_place c.args.logs.now.items c.args.log.number ≡ Some c.in-Some.place = cc in
    logs_set c.args.logs.now.items c.args.log.number c.in-Some.place c.args.log at refl

pub returns-in-Some-clause-owners : goal.returns-in-Some-clause-owners
returns-in-Some-clause-owners c =
    let at : log_place c.args.logs.now.items c.args.log.number ≡ Some c.in-Some.place = cc in
    owners_set c.args.logs.now.items c.args.log.number c.in-Some.place c.args.log at refl

pub returns-in_ok-push-in-None-clause-logs : goal.returns-in_ok-push-in-None-clause-logs
returns-in_ok-push-in-None-clause-logs c =
    let none : log_place c.args.logs.now.items c.args.log.number ≡ None = cc in
    rw c.in_ok-push-in-None.ensures.items (logs_push c.args.logs.now.items c.args.log.number c.args.log none refl)

pub returns-in_ok-push-in-None-clause-owners : goal.returns-in_ok-push-in-None-clause-owners
returns-in_ok-push-in-None-clause-owners c =
    let none : log_place c.args.logs.now.items c.args.log.number ≡ None = cc in
    rw c.in_ok-push-in-None.ensures.items (owners_push c.args.logs.now.items c.args.log.number c.args.log none refl)
