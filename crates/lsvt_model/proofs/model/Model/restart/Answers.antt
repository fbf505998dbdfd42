use Rattle.std.proofs.Common.{◌≡◌, ℕ, List, Option, sym, ap, ◌∙◌, Some}
use Rattle.std.specs.Prelude.{false, is_some}
use Rattle.lsv_machine.specs.Machine.{LogState, LogState.There}
use Rattle.lsv_record.specs.Points.{first}
use Rattle.lsv_record.specs.declared.records.Record.{Record}
use Rattle.lsv_session.specs.declared.connection.ConnId.{ConnId}
use Rattle.lsvt_model.specs.declared.logs.Log.{Log}
use Rattle.lsvt_model.specs.Views.{logs_in, machine_of, owner_in, stored_of}
use Rattle.lsvt_model.proofs.WorkLemmas.{restart_gives}
use Rattle.lsvt_model.proofs.model.Model.restart.Goals as goal

pub returns : goal.returns
returns c =
    let m = machine_of c.args.self.now in
    let n = c.args.restart.log in
    let log = c.in-Some.log.now in
    let look : List Log → LogState = λ xs. logs_in xs c.args.restart.log in
    let t : m.logs n ≡ There (stored_of log) log.promised = ap look (sym c.deref.ensures.value) ∙ c.in-Some.ensures.log in
    let look_owner : List Log → Option ConnId = λ xs. owner_in xs c.args.restart.log in
    let o : m.owner n ≡ log.owner = ap look_owner (sym c.deref.ensures.value) ∙ c.in-Some.ensures.owner in
    let free : is_some (m.owner n) ≡ false = rw o cc in
    let goes_on : is_some log.exit ≡ false = cc in
    let on_records : List Record → Option ℕ = λ rs. first rs c.nanos-point.result in
    let on_point : ℕ → Option ℕ = λ p. first log.records p in
    let at : first log.records c.args.restart.point ≡ Some c.in-Some-first.kept =
    sym (ap on_point c.nanos-point.ensures.value) ∙ (sym (ap on_records c.as_slice.ensures) ∙ (sym c.first.ensures ∙ c.in-Some-first.is)) in
    restart_gives c.args.conn n c.args.restart.point m (stored_of log) log.promised c.in-Some-first.kept (logs_in c.resume_log.new.logs.items) (owner_in c.resume_log.new.logs.items) (machine_of c.set_state.new.self)
    free t goes_on at c.in-Some-cuts_with.ensures.0 (c.resume_log.ensures.logs (stored_of log) log.promised t) (c.resume_log.ensures.owners (stored_of log) log.promised t) c.in_ok-set_state.ensures
