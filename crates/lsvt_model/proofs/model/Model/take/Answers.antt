use Rattle.std.proofs.Common.{◌≡◌, List, sym, ap, ◌∙◌}
use Rattle.std.specs.Prelude.{true}
use Rattle.lsv_mask.specs.Masking.{covered}
use Rattle.lsv_machine.specs.Machine.{LogState, LogState.There}
use Rattle.lsv_machine.specs.Work.{takes}
use Rattle.lsv_record.specs.declared.records.Record.{Record}
use Rattle.lsvt_model.specs.declared.logs.Log.{Log}
use Rattle.lsvt_model.specs.Views.{logs_in, machine_of, owner_in, stored_of}
use Rattle.lsvt_model.proofs.WorkLemmas.{take_gives}
use Rattle.lsvt_model.proofs.model.Model.take.Goals as goal

pub returns : goal.returns
returns c =
    let m = machine_of c.args.self.now in
    let n = c.args.number in
    let log = c.in-Some.log.now in
    let look : List Log → LogState = λ xs. logs_in xs c.args.number in
    let t : m.logs n ≡ There (stored_of log) log.promised = ap look (sym c.deref.ensures.value) ∙ c.in-Some.ensures.log in
    let ends = rw c.in-Some-2.is at c.in_ok-end.ensures in
    let fits : takes (stored_of log) c.args.r ≡ true = ends.0 in
    let on_records : List Record → Record = λ rs. covered c.args.self.now.texts rs c.args.r in
    take_gives c.args.conn n c.args.r c.in_ok-r.r m (stored_of log) log.promised (logs_in c.add_record.new.logs.items) (owner_in c.add_record.new.logs.items) c.insert_once.new.numbers.items
    t fits (c.in_ok-r.ensures ∙ ap on_records c.as_slice.ensures) (c.in_ok-add_record.ensures.logs (stored_of log) log.promised t) c.in_ok-add_record.ensures.owners c.in_ok-insert_once.ensures.inserted
