use Rattle.std.proofs.Common.{◌≡◌, ℕ, length, refl, ap, Some, None}
use Rattle.std.specs.Prelude.{if◌then◌else◌}
use Rattle.lsv_machine.specs.Machine.{LogState, LogState.There}
use Rattle.lsv_machine.specs.Work.{with_exit}
use Rattle.lsvt_model.specs.Inner.{log_place}
use Rattle.lsvt_model.specs.Views.{stored_of}
use Rattle.lsv_record.specs.Points.{Stored}
use Rattle.lsvt_model.proofs.TableLemmas.{changed, not_there, owners_same}
use Rattle.lsvt_model.proofs.logs.finish_log.Goals as goal

pub returns-in-Some-clause-logs : goal.returns-in-Some-clause-logs
returns-in-Some-clause-logs c = λ stored promised t.
    let xs = c.args.logs.now.items in
    let n = c.args.number in
    let p = c.in-Some.place in
    let was = c.index_mut-log.result.now in
    let at : log_place xs n ≡ Some p = cc in
    let next : Stored → ℕ → LogState = λ s q. There (with_exit c.args.exit s) (if c.args.is_told then length s.records else q) in
    let put : ℕ → LogState = λ q. There (with_exit c.args.exit (stored_of was)) q in
    changed xs n p was _ stored promised next at c.index_mut-log.ensures.value refl t (ap put c.promised_then-log.ensures)

pub returns-in-Some-clause-owners : goal.returns-in-Some-clause-owners
returns-in-Some-clause-owners c = owners_same c.args.logs.now.items c.in-Some.place c.index_mut-log.result.now _ c.index_mut-log.ensures.value refl refl

pub returns-in_default-clause-logs : goal.returns-in_default-clause-logs
returns-in_default-clause-logs c = λ stored promised t.
    let none : log_place c.args.logs.now.items c.args.number ≡ None = cc in
    not_there c.args.logs.now.items c.args.number stored promised none t
