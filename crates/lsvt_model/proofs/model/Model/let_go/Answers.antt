use Rattle.std.proofs.Common.{◌≡◌, ℕ, List, Option, Some, ap, ◌∙◌}
use Rattle.lsv_session.specs.declared.connection.ConnId.{ConnId}
use Rattle.lsv_machine.specs.Machine.{LogState, Machine, without}
use Rattle.lsvt_model.specs.Views.{logs_in, machine_of, owner_in}
use Rattle.lsvt_model.proofs.model.Model.let_go.Goals as goal

pub returns-in-Some : goal.returns-in-Some
returns-in-Some c =
    let put_waiting : List ℕ → Machine = λ w. record (machine_of c.args.self.now) { logs = logs_in c.free.new.logs.items; owner = owner_in c.free.new.logs.items; waiting = w } in
    let put_logs : (ℕ → LogState) → Machine = λ f. record (put_waiting (without c.in-Some.log c.args.self.now.waiting.items)) { logs = f } in
    let put_owners : (ℕ → Option ConnId) → Machine = λ g. record (put_logs (logs_in c.args.self.now.logs.items)) { owner = g } in
    let is : c.args.log ≡ Some c.in-Some.log = cc in
    rw is (ap put_waiting c.remove.ensures ∙ (ap put_logs c.free.ensures.logs ∙ ap put_owners c.free.ensures.owners))
