use Rattle.std.proofs.Common.{ap}
use Rattle.lsv_session.specs.declared.connection.ConnId.{ConnId}
use Rattle.lsv_session.specs.declared.connection.ConnState.{ConnState}
use Rattle.lsv_machine.specs.Machine.{Machine}
use Rattle.lsvt_model.specs.Views.{machine_of}
use Rattle.lsvt_model.proofs.Outcomes.{on_ok}
use Rattle.lsvt_model.proofs.model.Model.set_state.Goals as goal

pub returns : goal.returns
returns c =
    let put : (ConnId → ConnState) → Machine = λ f. record (machine_of c.args.self.now) { states = f } in
    on_ok c.put_state.result (λ e. ap put e) c.put_state.ensures
