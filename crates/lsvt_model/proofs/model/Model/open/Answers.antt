use Rattle.std.proofs.Common.{◌≡◌, List, Option, sym, ap, ◌∙◌}
use Rattle.std.specs.Prelude.{true, false}
use Rattle.lsv_machine.specs.Work.{draws, fits_file}
use Rattle.lsvt_model.specs.Inner.{adds_any, fits_any}
use Rattle.lsv_session.specs.declared.connection.ConnId.{ConnId}
use Rattle.lsvt_model.specs.declared.logs.Log.{Log}
use Rattle.lsvt_model.specs.Views.{machine_of, owner_in}
use Rattle.lsvt_model.proofs.Outcomes.{if_ok, not_added, was_added}
use Rattle.lsvt_model.proofs.WorkLemmas.{open_fits, open_full}
use Rattle.lsvt_model.proofs.model.Model.open.Goals as goal

pub returns-then-not-branch : goal.returns-then-not-branch
returns-then-not-branch c =
    let m = machine_of c.args.self.now in
    let n = c.args.number in
    let no : c.in_ok-add_any.field-0 ≡ false = cc in
    let fit : fits_file c.args.head ≡ true = sym c.fits_file.ensures ∙ cc in
    let full : fits_any c.args.line (draws n m) ≡ false = sym c.in_ok-add_any.ensures.fits ∙ no in
    let same : machine_of c.add_any.new.self ≡ draws n m = not_added _ _ (adds_any c.args.conn c.args.line (draws n m)) _ c.in_ok-add_any.ensures.machine no in
    let look : List Log → Option ConnId = λ xs. owner_in xs c.args.number in
    let owner : c.owner_of-owner.result ≡ owner_in c.add_any.new.self.logs.items n = c.owner_of-owner.ensures ∙ ap look c.deref.ensures.value in
    if_ok c.refuse-then-not-branch.result
    (λ t g. open_full c.args.line c.args.conn c.args.head n m (machine_of c.add_any.new.self) (machine_of c.make.new.self) c.owner_of-owner.result t (machine_of c.refuse-then-not-branch.new.self)
    c.requires fit full same owner c.in_ok-make.ensures g)
    c.refuse-then-not-branch.ensures

pub returns : goal.returns
returns c =
    let m = machine_of c.args.self.now in
    let n = c.args.number in
    let yes : c.in_ok-add_any.field-0 ≡ true = cc in
    let fit : fits_file c.args.head ≡ true = sym c.fits_file.ensures ∙ cc in
    let fits : fits_any c.args.line (draws n m) ≡ true = sym c.in_ok-add_any.ensures.fits ∙ yes in
    let added : machine_of c.add_any.new.self ≡ adds_any c.args.conn c.args.line (draws n m) = was_added _ _ _ (draws n m) c.in_ok-add_any.ensures.machine yes in
    open_fits c.args.line c.args.conn c.args.head n m (machine_of c.add_any.new.self) (machine_of c.make-2.new.self) (machine_of c.set_state.new.self) c.requires fit fits added c.in_ok-make-2.ensures c.in_ok-set_state.ensures
