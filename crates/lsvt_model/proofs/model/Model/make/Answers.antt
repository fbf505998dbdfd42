use Rattle.std.proofs.Common.{ℕ, List, Option, None, ap, ◌∙◌}
use Rattle.std.specs.Prelude.{◌==◌, if◌then◌else◌}
use Rattle.lsv_record.specs.declared.records.Record.{Record}
use Rattle.lsv_session.specs.declared.connection.ConnId.{ConnId}
use Rattle.lsv_machine.specs.Machine.{LogState, LogState.There, Machine}
use Rattle.lsv_machine.specs.Work.{empty_log}
use Rattle.lsvt_model.specs.Views.{logs_in, machine_of, owner_in}
use Rattle.lsvt_model.proofs.Outcomes.{on_ok_both}
use Rattle.lsvt_model.proofs.model.Model.make.Goals as goal

pub returns : goal.returns
returns c =
    let put_logs : (ℕ → LogState) → Machine = λ f. record (machine_of c.args.self.now) { logs = f; owner = owner_in c.put_log.new.logs.items } in
    let put_records : List Record → Machine = λ rs. put_logs (λ i. if i == c.args.number then There (record { head = c.args.head; records = rs; exit = None; cuts = 0 }) 0 else logs_in c.args.self.now.logs.items i) in
    let put_owners : (ℕ → Option ConnId) → Machine = λ g. record (put_logs (λ i. if i == c.args.number then There (empty_log c.args.head) 0 else logs_in c.args.self.now.logs.items i)) { owner = g } in
    on_ok_both c.put_log.result (λ e f. ap put_logs e ∙ (ap put_records c.new.ensures ∙ ap put_owners f)) c.put_log.ensures.logs c.put_log.ensures.owners
