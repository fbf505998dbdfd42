use Rattle.std.proofs.Common.{◌≡◌, refl, sym, ◌∙◌}
use Rattle.std.specs.Prelude.{false}
use Rattle.lsv_machine.specs.Work.{silently}
use Rattle.lsvt_model.specs.Inner.{adds_any, fits_any}
use Rattle.lsvt_model.specs.Views.{machine_of}
use Rattle.lsvt_model.proofs.Outcomes.{full_gives, if_ok, not_added}
use Rattle.lsvt_model.proofs.model.Model.stay.Goals as goal

pub returns-then-not-branch : goal.returns-then-not-branch
returns-then-not-branch c =
    let m = machine_of c.args.self.now in
    let no : c.in_ok-add_any.field-0 ≡ false = cc in
    let full : fits_any c.args.line m ≡ false = sym c.in_ok-add_any.ensures.fits ∙ no in
    let same : machine_of c.add_any.new.self ≡ m = not_added _ _ (adds_any c.args.conn c.args.line m) _ c.in_ok-add_any.ensures.machine no in
    if_ok c.refuse.result (λ t g. full_gives c.args.line c.args.conn m m (machine_of c.add_any.new.self) (silently m) t (machine_of c.refuse.new.self) refl full same g) c.refuse.ensures
