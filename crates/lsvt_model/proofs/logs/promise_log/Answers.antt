use Rattle.std.proofs.Common.{◌≡◌, ℕ, List, refl, ap, ◌∙◌, Some, None}
use Rattle.lsv_machine.specs.Machine.{LogState, LogState.There}
use Rattle.lsv_machine.specs.Turns.{raised}
use Rattle.lsvt_model.specs.Inner.{log_place}
use Rattle.lsvt_model.specs.Views.{stored_of}
use Rattle.lsv_record.specs.Points.{Stored}
use Rattle.lsv_record.specs.Records.{elapsed}
use Rattle.lsv_record.specs.declared.records.Record.{Record}
use Rattle.lsvt_model.proofs.TableLemmas.{changed, not_there, owners_same}
use Rattle.lsvt_model.proofs.logs.promise_log.Goals as goal

pub returns-in-Some-clause-logs : goal.returns-in-Some-clause-logs
returns-in-Some-clause-logs c = λ stored promised t.
    let xs = c.args.logs.now.items in
    let n = c.args.number in
    let p = c.in-Some.place in
    let was = c.index_mut-log.result.now in
    let at : log_place xs n ≡ Some p = cc in
    let next : Stored → ℕ → LogState = λ s q. There s (raised q s.records (elapsed s.records)) in
    let put : ℕ → LogState = λ q. There (stored_of was) q in
    let on_records : List Record → ℕ = λ rs. raised was.promised rs c.elapsed-end.result in
    let on_point : ℕ → ℕ = λ i. raised was.promised was.records i in
    changed xs n p was _ stored promised next at c.index_mut-log.ensures.value refl t
    (ap put (c.raised-log.ensures ∙ (ap on_records c.as_slice.ensures ∙ ap on_point c.elapsed-end.ensures.value)))

pub returns-in-Some-clause-owners : goal.returns-in-Some-clause-owners
returns-in-Some-clause-owners c = owners_same c.args.logs.now.items c.in-Some.place c.index_mut-log.result.now _ c.index_mut-log.ensures.value refl refl

pub returns-in_default-clause-logs : goal.returns-in_default-clause-logs
returns-in_default-clause-logs c = λ stored promised t.
    let none : log_place c.args.logs.now.items c.args.number ≡ None = cc in
    not_there c.args.logs.now.items c.args.number stored promised none t
