use Rattle.std.proofs.Common.{◌≡◌, ◌∙◌, ap, refl, sym, subst}
use Rattle.lsv_kept.specs.Aim.{AimView}
use Rattle.lsv_kept.specs.Value.{KeepingView, state_on}
use Rattle.lsv_kept.specs.declared.state.State.TheVariants as states
use Rattle.lsv_kept.proofs.Keepings.{changes_by, err_not_ok, keeps_state, keeps_through, last_left, now_keeps, one_changed}
use Rattle.lsv_kept.proofs.keeping.Keeping.forget.Goals as goal

pub returns-in_err-bundle-clause-any_moment : goal.returns-in_err-bundle-clause-any_moment
returns-in_err-bundle-clause-any_moment g c told whole =
    let w = c.args.self.now in
    one_changed w.number w.aim w.state 2 0 (states.Nothing) (g.D.Disk.view c.args.disk.now) (g.D.Disk.view c.cleared.new.disk)
    (keeps_through w.number c.self.inside.number w.aim w.state 2 0 (states.Nothing) w.files c.take.result (g.D.Disk.view c.args.disk.now) (g.D.Disk.view c.cleared.new.disk)
    (ap (λ (k : KeepingView). k.number) c.self.view_is) (c.take.ensures.value ∙ ap (λ (k : KeepingView). k.files) c.self.view_is) c.requires.kept (c.requires.stands told whole)
    (λ kept is. (states.Nothing, refl, λ there. c.cleared.ensures.any_moment told w.aim kept there)))

pub returns-clause-any_moment : goal.returns-clause-any_moment
returns-clause-any_moment g c told whole =
    let w = c.args.self.now in
    one_changed w.number w.aim w.state 2 0 (states.Nothing) (g.D.Disk.view c.args.disk.now) (g.D.Disk.view c.cleared.new.disk)
    (keeps_through w.number c.self.inside.number w.aim w.state 2 0 (states.Nothing) w.files c.take.result (g.D.Disk.view c.args.disk.now) (g.D.Disk.view c.cleared.new.disk)
    (ap (λ (k : KeepingView). k.number) c.self.view_is) (c.take.ensures.value ∙ ap (λ (k : KeepingView). k.files) c.self.view_is) c.requires.kept (c.requires.stands told whole)
    (λ kept is. (states.Nothing, refl, λ there. c.cleared.ensures.any_moment told w.aim kept there)))

pub returns-in_err-bundle-clause-changes : goal.returns-in_err-bundle-clause-changes
returns-in_err-bundle-clause-changes g c told whole =
    let w = c.args.self.now in
    changes_by _ w.number w.aim w.state 2 0 (states.Nothing) (g.D.Disk.view c.args.disk.now) (g.D.Disk.view c.cleared.new.disk)
    (keeps_through w.number c.self.inside.number w.aim w.state 2 0 (states.Nothing) w.files c.take.result (g.D.Disk.view c.args.disk.now) (g.D.Disk.view c.cleared.new.disk)
    (ap (λ (k : KeepingView). k.number) c.self.view_is) (c.take.ensures.value ∙ ap (λ (k : KeepingView). k.files) c.self.view_is) c.requires.kept (c.requires.stands told whole)
    (λ kept is. (states.Nothing, refl, λ there. c.cleared.ensures.any_moment told w.aim kept there)))
    (λ ok. absurd (err_not_ok _ _ c.from_residual-in_err-bundle.ensures.1 ok))

pub returns-clause-changes : goal.returns-clause-changes
returns-clause-changes g c told whole =
    let w = c.args.self.now in
    changes_by _ w.number w.aim w.state 2 0 (states.Nothing) (g.D.Disk.view c.args.disk.now) (g.D.Disk.view c.cleared.new.disk)
    (keeps_through w.number c.self.inside.number w.aim w.state 2 0 (states.Nothing) w.files c.take.result (g.D.Disk.view c.args.disk.now) (g.D.Disk.view c.cleared.new.disk)
    (ap (λ (k : KeepingView). k.number) c.self.view_is) (c.take.ensures.value ∙ ap (λ (k : KeepingView). k.files) c.self.view_is) c.requires.kept (c.requires.stands told whole)
    (λ kept is. (states.Nothing, refl, λ there. c.cleared.ensures.any_moment told w.aim kept there)))
    (λ ok. last_left w.number c.self.inside.number c.in_ok-bundle.bundle (g.D.Disk.view c.cleared.new.disk) 2 0 (ap (λ (k : KeepingView). k.number) c.self.view_is) c.in_ok-bundle.ensures.bundle (c.in_ok-bundle.ensures.represents told) c.in_ok-bundle.ensures.last)

pub returns-clause-stands : goal.returns-clause-stands
returns-clause-stands g c told =
    let w = c.args.self.now in (
      c.in_ok-bundle.ensures.represents told,
      subst (λ (a : AimView). state_on a c.in_ok-bundle.bundle (g.D.Disk.view c.cleared.new.disk) ≡ states.Nothing) (sym (ap (λ (k : KeepingView). k.aim) c.self.view_is)) ((keeps_state w.number c.self.inside.number w.aim w.state (states.Nothing) w.files c.take.result (g.D.Disk.view c.args.disk.now) _
          (ap (λ (k : KeepingView). k.number) c.self.view_is) (c.take.ensures.value ∙ ap (λ (k : KeepingView). k.files) c.self.view_is) c.requires.kept (c.requires.stands told c.in_ok-check_whole.ensures.whole)
          (λ kept is. (states.Nothing, refl, λ there. c.in_ok-bundle.ensures.state told w.aim)))),
    )

pub returns-clause-acknowledged : goal.returns-clause-acknowledged
returns-clause-acknowledged g c told =
    let w = c.args.self.now in
    now_keeps w.number c.self.inside.number w.aim c.in_ok-bundle.bundle (g.D.Disk.view c.cleared.new.disk) states.Nothing (ap (λ (k : KeepingView). k.number) c.self.view_is) c.in_ok-bundle.ensures.bundle (c.in_ok-bundle.ensures.represents told)
    ((keeps_state w.number c.self.inside.number w.aim w.state (states.Nothing) w.files c.take.result (g.D.Disk.view c.args.disk.now) _
    (ap (λ (k : KeepingView). k.number) c.self.view_is) (c.take.ensures.value ∙ ap (λ (k : KeepingView). k.files) c.self.view_is) c.requires.kept (c.requires.stands told c.in_ok-check_whole.ensures.whole)
    (λ kept is. (states.Nothing, refl, λ there. c.in_ok-bundle.ensures.state told w.aim))))
