use Rattle.std.proofs.Common.{◌≡◌, [], ◌∷◌, refl, sym, ap, ◌∙◌}
use Rattle.std.specs.Prelude.{true, false}
use Rattle.lsv_session.specs.declared.connection.ConnState.TheVariants.{Dead}
use Rattle.lsv_machine.specs.Answers.{Saying.Shut, say}
use Rattle.lsv_machine.specs.Machine.{Machine, leaves}
use Rattle.lsv_machine.specs.Work.{ends}
use Rattle.lsvt_model.specs.Inner.{adds_any, fits_any}
use Rattle.lsvt_model.specs.Views.{machine_of}
use Rattle.lsvt_model.specs.declared.told.Told.TheVariants as told
use Rattle.lsvt_model.proofs.Outcomes.{fits_gives, full_gives, if_ok, not_added, was_added}
use Rattle.lsvt_model.proofs.model.Model.end.Goals as goal

pub returns-then-not-branch : goal.returns-then-not-branch
returns-then-not-branch c =
    let m = machine_of c.args.self.now in
    let no : c.in_ok-add_any.field-0 ≡ false = cc in
    let full : fits_any c.args.line m ≡ false = sym c.in_ok-add_any.ensures.fits ∙ no in
    let same : machine_of c.add_any.new.self ≡ m = not_added _ _ (adds_any c.args.conn c.args.line m) _ c.in_ok-add_any.ensures.machine no in
    if_ok c.refuse.result (λ t g. full_gives c.args.line c.args.conn m m (machine_of c.add_any.new.self) (ends c.args.conn (say c.args.conn Shut ∷ []) m) t (machine_of c.refuse.new.self) refl full same g) c.refuse.ensures

pub returns : goal.returns
returns c =
    let m = machine_of c.args.self.now in
    let yes : c.in_ok-add_any.field-0 ≡ true = cc in
    let fits : fits_any c.args.line m ≡ true = sym c.in_ok-add_any.ensures.fits ∙ yes in
    let added : machine_of c.add_any.new.self ≡ adds_any c.args.conn c.args.line m = was_added _ _ _ m c.in_ok-add_any.ensures.machine yes in
    fits_gives c.args.line c.args.conn m m (ends c.args.conn (say c.args.conn Shut ∷ []) m) told.Shut (machine_of c.leave.new.self) refl fits refl
    (c.in_ok-leave.ensures ∙ ap (λ (x : Machine). leaves c.args.conn Dead x) added)
