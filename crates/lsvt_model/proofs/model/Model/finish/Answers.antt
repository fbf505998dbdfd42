use Rattle.std.proofs.Common.{◌≡◌, List, sym, ap, ◌∙◌}
use Rattle.std.specs.Prelude.{true, false}
use Rattle.lsv_machine.specs.Machine.{LogState, LogState.There, Machine}
use Rattle.lsv_machine.specs.Work.{fits_file}
use Rattle.lsvt_model.specs.declared.logs.Log.{Log}
use Rattle.lsvt_model.specs.Inner.{adds_any, fits_any}
use Rattle.lsvt_model.specs.Views.{logs_in, machine_of, owner_in, stored_of}
use Rattle.lsvt_model.proofs.Outcomes.{if_ok, not_added, was_added}
use Rattle.lsvt_model.proofs.WorkLemmas.{finish_fits, finish_full}
use Rattle.lsvt_model.proofs.model.Model.finish.Goals as goal

pub returns-then-not-is_told : goal.returns-then-not-is_told
returns-then-not-is_told c =
    let m = machine_of c.args.self.now in
    let n = c.args.number in
    let log = c.in-Some.log.now in
    let x = machine_of c.add_any.new.self in
    let no : c.in_ok-is_told.is_told ≡ false = cc in
    let fit : fits_file c.args.exit ≡ true = sym c.fits_file.ensures ∙ cc in
    let full : fits_any c.args.line m ≡ false = sym c.in_ok-is_told.ensures.fits ∙ no in
    let same : x ≡ m = not_added _ _ (adds_any c.args.conn c.args.line m) _ c.in_ok-is_told.ensures.machine no in
    let look : List Log → LogState = λ xs. logs_in xs c.args.number in
    let t : m.logs n ≡ There (stored_of log) log.promised = ap look (sym c.deref.ensures.value) ∙ c.in-Some.ensures.log in
    let here : Machine → LogState = λ y. y.logs n in
    let t' : x.logs n ≡ There (stored_of log) log.promised = ap here same ∙ t in
    if_ok c.refuse-then-not-is_told.result
    (λ r g. finish_full c.args.line c.args.conn n c.args.exit (stored_of log) log.promised m x c.in_ok-is_told.is_told (logs_in c.finish_log.new.logs.items) (owner_in c.finish_log.new.logs.items) r (machine_of c.refuse-then-not-is_told.new.self)
    t fit no full same (c.finish_log.ensures.logs (stored_of log) log.promised t') c.finish_log.ensures.owners g)
    c.refuse-then-not-is_told.ensures

pub returns : goal.returns
returns c =
    let m = machine_of c.args.self.now in
    let n = c.args.number in
    let log = c.in-Some.log.now in
    let x = machine_of c.add_any.new.self in
    let yes : c.in_ok-is_told.is_told ≡ true = cc in
    let fit : fits_file c.args.exit ≡ true = sym c.fits_file.ensures ∙ cc in
    let fits : fits_any c.args.line m ≡ true = sym c.in_ok-is_told.ensures.fits ∙ yes in
    let added : x ≡ adds_any c.args.conn c.args.line m = was_added _ _ _ m c.in_ok-is_told.ensures.machine yes in
    let look : List Log → LogState = λ xs. logs_in xs c.args.number in
    let t : m.logs n ≡ There (stored_of log) log.promised = ap look (sym c.deref.ensures.value) ∙ c.in-Some.ensures.log in
    let here : Machine → LogState = λ y. y.logs n in
    let t' : x.logs n ≡ There (stored_of log) log.promised = ap here added ∙ t in
    finish_fits c.args.line c.args.conn n c.args.exit (stored_of log) log.promised m x c.in_ok-is_told.is_told (logs_in c.finish_log.new.logs.items) (owner_in c.finish_log.new.logs.items) c.elapsed-end.result (machine_of c.leave.new.self)
    t fit yes fits added (c.finish_log.ensures.logs (stored_of log) log.promised t') c.finish_log.ensures.owners c.elapsed-end.ensures.value c.in_ok-leave.ensures
