use Rattle.std.proofs.Common.{◌≡◌, Some, None, refl}
use Rattle.lsvt_model.specs.Inner.{log_place}
use Rattle.lsvt_model.proofs.TableLemmas.{log_at, logs_same, owners_free, owners_set}
use Rattle.lsvt_model.proofs.logs.free.Goals as goal

pub returns-in-Some-clause-logs : goal.returns-in-Some-clause-logs
returns-in-Some-clause-logs c = logs_same c.args.logs.now.items c.in-Some.place c.index_mut.result.now _ c.index_mut.ensures.value refl refl

pub returns-in-Some-clause-owners : goal.returns-in-Some-clause-owners
returns-in-Some-clause-owners c =
    let at : log_place c.args.logs.now.items c.args.number ≡ Some c.in-Some.place = cc in
    owners_set c.args.logs.now.items c.args.number c.in-Some.place _ at (log_at c.args.logs.now.items c.args.number c.in-Some.place c.index_mut.result.now at c.index_mut.ensures.value).number

pub returns-in_default-clause-owners : goal.returns-in_default-clause-owners
returns-in_default-clause-owners c =
    let none : log_place c.args.logs.now.items c.args.number ≡ None = cc in
    owners_free c.args.logs.now.items c.args.number none
