use Rattle.std.proofs.Common.{◌≡◌, ℕ, List, take, refl, ap, ◌∙◌, Some, None}
use Rattle.lsv_machine.specs.Machine.{LogState, LogState.There}
use Rattle.lsv_machine.specs.Work.{cut_to}
use Rattle.lsvt_model.specs.Inner.{log_place}
use Rattle.lsvt_model.specs.Views.{stored_of}
use Rattle.lsv_record.specs.Points.{Stored}
use Rattle.lsv_record.specs.declared.records.Record.{Record}
use Rattle.lsvt_model.proofs.TableLemmas.{changed, log_at, not_there, owners_set}
use Rattle.lsvt_model.proofs.logs.resume_log.Goals as goal

pub cut-requires : goal.cut-requires
cut-requires c =
    let xs = c.args.logs.now.items in
    let n = c.args.number in
    let p = c.in-Some.place in
    let was = c.index_mut-log.result.now in
    let at : log_place xs n ≡ Some p = cc in
    c.requires.first (stored_of was) was.promised (log_at xs n p was at c.index_mut-log.ensures.value).has_log

pub returns-in-Some-clause-logs : goal.returns-in-Some-clause-logs
returns-in-Some-clause-logs c = λ stored promised t.
    let xs = c.args.logs.now.items in
    let n = c.args.number in
    let p = c.in-Some.place in
    let was = c.index_mut-log.result.now in
    let at : log_place xs n ≡ Some p = cc in
    let next : Stored → ℕ → LogState = λ s q. There (cut_to c.args.kept s) c.args.kept in
    let on_records : List Record → LogState = λ rs. There (record { head = was.head; records = rs; exit = was.exit; cuts = c.args.cuts }) c.args.kept in
    let on_cuts : ℕ → LogState = λ i. There (record { head = was.head; records = take c.args.kept was.records; exit = was.exit; cuts = i }) c.args.kept in
    let here = log_at xs n p was at c.index_mut-log.ensures.value in
    changed xs n p was _ stored promised next at c.index_mut-log.ensures.value refl t
    (ap on_records c.cut.ensures ∙ ap on_cuts (c.requires.cuts (stored_of was) was.promised here.has_log))

pub returns-in-Some-clause-owners : goal.returns-in-Some-clause-owners
returns-in-Some-clause-owners c = λ stored promised t.
    let xs = c.args.logs.now.items in
    let n = c.args.number in
    let p = c.in-Some.place in
    let was = c.index_mut-log.result.now in
    let at : log_place xs n ≡ Some p = cc in
    owners_set xs n p _ at (log_at xs n p was at c.index_mut-log.ensures.value).number

pub returns-in_default-clause-logs : goal.returns-in_default-clause-logs
returns-in_default-clause-logs c = λ stored promised t.
    let none : log_place c.args.logs.now.items c.args.number ≡ None = cc in
    not_there c.args.logs.now.items c.args.number stored promised none t

pub returns-in_default-clause-owners : goal.returns-in_default-clause-owners
returns-in_default-clause-owners c = λ stored promised t.
    let none : log_place c.args.logs.now.items c.args.number ≡ None = cc in
    not_there c.args.logs.now.items c.args.number stored promised none t
