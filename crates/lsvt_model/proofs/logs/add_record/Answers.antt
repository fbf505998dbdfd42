use Rattle.std.proofs.Common.{◌≡◌, ℕ, List, refl, ap, Some, None}
use Rattle.lsv_machine.specs.Machine.{LogState, LogState.There}
use Rattle.lsv_machine.specs.Work.{with_record}
use Rattle.lsvt_model.specs.Inner.{log_place}
use Rattle.lsvt_model.specs.Views.{stored_of}
use Rattle.lsv_record.specs.Points.{Stored}
use Rattle.lsv_record.specs.declared.records.Record.{Record}
use Rattle.lsvt_model.proofs.TableLemmas.{changed, log_at, not_there, owners_same}
use Rattle.lsvt_model.proofs.logs.add_record.Goals as goal

pub returns-in_default-clause-logs : goal.returns-in_default-clause-logs
returns-in_default-clause-logs c = λ stored promised t.
    let none : log_place c.args.logs.now.items c.args.number ≡ None = cc in
    not_there c.args.logs.now.items c.args.number stored promised none t

pub add-requires-clause-end : goal.add-requires-clause-end
add-requires-clause-end c =
    let xs = c.args.logs.now.items in
    let n = c.args.number in
    let p = c.in-Some.place in
    let was = c.index_mut-log.result.now in
    let at : log_place xs n ≡ Some p = cc in
    c.requires.end (stored_of was) was.promised (log_at xs n p was at c.index_mut-log.ensures.value).has_log

pub returns-clause-logs : goal.returns-clause-logs
returns-clause-logs c = λ stored promised t.
    let xs = c.args.logs.now.items in
    let n = c.args.number in
    let p = c.in-Some.place in
    let was = c.index_mut-log.result.now in
    let at : log_place xs n ≡ Some p = cc in
    let next : Stored → ℕ → LogState = λ s q. There (with_record c.args.r s) q in
    let put : List Record → LogState = λ rs. There (record { head = was.head; records = rs; exit = was.exit; cuts = was.cuts }) was.promised in
    changed xs n p was _ stored promised next at c.index_mut-log.ensures.value refl t (ap put c.in_ok-add.ensures)

pub returns-clause-owners : goal.returns-clause-owners
returns-clause-owners c = owners_same c.args.logs.now.items c.in-Some.place c.index_mut-log.result.now _ c.index_mut-log.ensures.value refl refl
