use Rattle.std.proofs.Common.{◌≡◌, List, Option, refl, sym, ap, ◌∙◌, Some}
use Rattle.lsv_machine.specs.Machine.{LogState, LogState.There}
use Rattle.lsv_machine.specs.Turns.{raised}
use Rattle.lsv_record.specs.Records.{elapsed}
use Rattle.lsv_session.specs.declared.connection.ConnId.{ConnId}
use Rattle.lsvt_model.specs.declared.logs.Log.{Log}
use Rattle.lsvt_model.specs.Views.{logs_in, machine_of, owner_in, stored_of}
use Rattle.lsvt_model.proofs.TurnLemmas.{flushes_some}
use Rattle.lsvt_model.proofs.WorkLemmas.{relogged}
use Rattle.lsvt_model.proofs.model.Model.flush_log.Goals as goal

pub returns-clause-machine : goal.returns-clause-machine
returns-clause-machine c =
    let m = machine_of c.args.self.now in
    let n = c.args.number in
    let log = c.in-Some.log.now in
    let next : LogState = There (stored_of log) (raised log.promised log.records (elapsed log.records)) in
    let look : List Log → LogState = λ xs. logs_in xs c.args.number in
    let t : m.logs n ≡ There (stored_of log) log.promised = ap look (sym c.deref.ensures.value) ∙ c.in-Some.ensures.log in
    let look_owner : List Log → Option ConnId = λ xs. owner_in xs c.args.number in
    let o : m.owner n ≡ Some c.in-Some-owner.writer = ap look_owner (sym c.deref.ensures.value) ∙ (c.in-Some.ensures.owner ∙ c.in-Some-owner.is) in
    relogged m m (logs_in c.promise_log.new.logs.items) (owner_in c.promise_log.new.logs.items) n next refl (c.promise_log.ensures.logs (stored_of log) log.promised t) c.promise_log.ensures.owners
    ∙ sym (flushes_some m n c.in-Some-owner.writer (stored_of log) log.promised o t)
