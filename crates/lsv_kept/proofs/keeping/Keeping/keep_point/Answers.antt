use Rattle.std.proofs.Common.{◌≡◌, ◌∙◌, ◌+◌, ◌++◌, length, ap, sym, subst}
use Rattle.lsv_kept.specs.Aim.{AimView, line_of}
use Rattle.lsv_kept.specs.Inner.{IsKeeping}
use Rattle.lsv_kept.specs.Kept.{state_of}
use Rattle.lsv_kept.specs.Value.{KeepingView, state_on, with_point}
use Rattle.lsv_kept.proofs.Keepings.{changes_by, err_not_ok, keeps_state, keeps_through, kept_undone, last_left, now_keeps, one_changed, point_state}
use Rattle.lsv_kept.proofs.Staying.{still_changed}
use Rattle.lsv_kept.proofs.keeping.Keeping.keep_point.Goals as goal

pub returns-in_err-count-clause-any_moment : goal.returns-in_err-count-clause-any_moment
returns-in_err-count-clause-any_moment g c told whole =
    let w = c.args.self.now in
    one_changed w.number w.aim w.state 1 (c.args.point + 1) (with_point c.args.point w.state) (g.D.Disk.view c.args.disk.now) (g.D.Disk.view c.args.disk.now)
    (still_changed w (g.D.Disk.view c.args.disk.now) 1 (c.args.point + 1) (with_point c.args.point w.state) (subst IsKeeping c.self.view_is c.self.invariant) whole (kept_undone w.state c.requires.kept) (c.requires.stands told whole) (g.met.D.Disk.only_now told c.args.disk.now))

pub returns-in_err-count-clause-changes : goal.returns-in_err-count-clause-changes
returns-in_err-count-clause-changes g c told whole =
    let w = c.args.self.now in
    changes_by _ w.number w.aim w.state 1 (c.args.point + 1) (with_point c.args.point w.state) (g.D.Disk.view c.args.disk.now) (g.D.Disk.view c.args.disk.now)
    (still_changed w (g.D.Disk.view c.args.disk.now) 1 (c.args.point + 1) (with_point c.args.point w.state) (subst IsKeeping c.self.view_is c.self.invariant) whole (kept_undone w.state c.requires.kept) (c.requires.stands told whole) (g.met.D.Disk.only_now told c.args.disk.now))
    (λ ok. absurd (err_not_ok _ _ c.from_residual-in_err-count.ensures.1 ok))

pub returns-in_err-bundle-clause-any_moment : goal.returns-in_err-bundle-clause-any_moment
returns-in_err-bundle-clause-any_moment g c told whole =
    let w = c.args.self.now in
    one_changed w.number w.aim w.state 1 (c.args.point + 1) (with_point c.args.point w.state) (g.D.Disk.view c.args.disk.now) (g.D.Disk.view c.add_entry.new.disk)
    (keeps_through w.number c.self.inside.number w.aim w.state 1 (c.args.point + 1) (with_point c.args.point w.state) w.files c.take.result (g.D.Disk.view c.args.disk.now) (g.D.Disk.view c.add_entry.new.disk)
    (ap (λ (k : KeepingView). k.number) c.self.view_is) (c.take.ensures.value ∙ ap (λ (k : KeepingView). k.files) c.self.view_is) c.requires.kept (c.requires.stands told whole)
    (λ kept is. (state_of w.aim 1 c.in_ok-count.count (c.args.point + 1) (line_of w.aim.host ++ kept.id), point_state w.aim w.state kept c.in_ok-count.count c.args.point (c.in_ok-count.ensures.length ∙ ap (λ (k : KeepingView). length (line_of k.aim.host)) c.self.view_is) is, λ there. c.add_entry.ensures.any_moment told w.aim kept there)))

pub returns-clause-any_moment : goal.returns-clause-any_moment
returns-clause-any_moment g c told whole =
    let w = c.args.self.now in
    one_changed w.number w.aim w.state 1 (c.args.point + 1) (with_point c.args.point w.state) (g.D.Disk.view c.args.disk.now) (g.D.Disk.view c.add_entry.new.disk)
    (keeps_through w.number c.self.inside.number w.aim w.state 1 (c.args.point + 1) (with_point c.args.point w.state) w.files c.take.result (g.D.Disk.view c.args.disk.now) (g.D.Disk.view c.add_entry.new.disk)
    (ap (λ (k : KeepingView). k.number) c.self.view_is) (c.take.ensures.value ∙ ap (λ (k : KeepingView). k.files) c.self.view_is) c.requires.kept (c.requires.stands told whole)
    (λ kept is. (state_of w.aim 1 c.in_ok-count.count (c.args.point + 1) (line_of w.aim.host ++ kept.id), point_state w.aim w.state kept c.in_ok-count.count c.args.point (c.in_ok-count.ensures.length ∙ ap (λ (k : KeepingView). length (line_of k.aim.host)) c.self.view_is) is, λ there. c.add_entry.ensures.any_moment told w.aim kept there)))

pub returns-in_err-bundle-clause-changes : goal.returns-in_err-bundle-clause-changes
returns-in_err-bundle-clause-changes g c told whole =
    let w = c.args.self.now in
    changes_by _ w.number w.aim w.state 1 (c.args.point + 1) (with_point c.args.point w.state) (g.D.Disk.view c.args.disk.now) (g.D.Disk.view c.add_entry.new.disk)
    (keeps_through w.number c.self.inside.number w.aim w.state 1 (c.args.point + 1) (with_point c.args.point w.state) w.files c.take.result (g.D.Disk.view c.args.disk.now) (g.D.Disk.view c.add_entry.new.disk)
    (ap (λ (k : KeepingView). k.number) c.self.view_is) (c.take.ensures.value ∙ ap (λ (k : KeepingView). k.files) c.self.view_is) c.requires.kept (c.requires.stands told whole)
    (λ kept is. (state_of w.aim 1 c.in_ok-count.count (c.args.point + 1) (line_of w.aim.host ++ kept.id), point_state w.aim w.state kept c.in_ok-count.count c.args.point (c.in_ok-count.ensures.length ∙ ap (λ (k : KeepingView). length (line_of k.aim.host)) c.self.view_is) is, λ there. c.add_entry.ensures.any_moment told w.aim kept there)))
    (λ ok. absurd (err_not_ok _ _ c.from_residual-in_err-bundle.ensures.1 ok))

pub returns-clause-changes : goal.returns-clause-changes
returns-clause-changes g c told whole =
    let w = c.args.self.now in
    changes_by _ w.number w.aim w.state 1 (c.args.point + 1) (with_point c.args.point w.state) (g.D.Disk.view c.args.disk.now) (g.D.Disk.view c.add_entry.new.disk)
    (keeps_through w.number c.self.inside.number w.aim w.state 1 (c.args.point + 1) (with_point c.args.point w.state) w.files c.take.result (g.D.Disk.view c.args.disk.now) (g.D.Disk.view c.add_entry.new.disk)
    (ap (λ (k : KeepingView). k.number) c.self.view_is) (c.take.ensures.value ∙ ap (λ (k : KeepingView). k.files) c.self.view_is) c.requires.kept (c.requires.stands told whole)
    (λ kept is. (state_of w.aim 1 c.in_ok-count.count (c.args.point + 1) (line_of w.aim.host ++ kept.id), point_state w.aim w.state kept c.in_ok-count.count c.args.point (c.in_ok-count.ensures.length ∙ ap (λ (k : KeepingView). length (line_of k.aim.host)) c.self.view_is) is, λ there. c.add_entry.ensures.any_moment told w.aim kept there)))
    (λ ok. last_left w.number c.self.inside.number c.in_ok-bundle.bundle (g.D.Disk.view c.add_entry.new.disk) 1 (c.args.point + 1) (ap (λ (k : KeepingView). k.number) c.self.view_is) c.in_ok-bundle.ensures.bundle (c.in_ok-bundle.ensures.represents told) c.in_ok-bundle.ensures.last)

pub returns-clause-stands : goal.returns-clause-stands
returns-clause-stands g c told =
    let w = c.args.self.now in (
      c.in_ok-bundle.ensures.represents told,
      subst (λ (a : AimView). state_on a c.in_ok-bundle.bundle (g.D.Disk.view c.add_entry.new.disk) ≡ c.set_point.new.self) (sym (ap (λ (k : KeepingView). k.aim) c.self.view_is)) ((keeps_state w.number c.self.inside.number w.aim w.state (with_point c.args.point w.state) w.files c.take.result (g.D.Disk.view c.args.disk.now) _
          (ap (λ (k : KeepingView). k.number) c.self.view_is) (c.take.ensures.value ∙ ap (λ (k : KeepingView). k.files) c.self.view_is) c.requires.kept (c.requires.stands told c.in_ok-check_whole.ensures.whole)
          (λ kept is. (state_of w.aim 1 c.in_ok-count.count (c.args.point + 1) (line_of w.aim.host ++ kept.id), point_state w.aim w.state kept c.in_ok-count.count c.args.point (c.in_ok-count.ensures.length ∙ ap (λ (k : KeepingView). length (line_of k.aim.host)) c.self.view_is) is, λ there. c.in_ok-bundle.ensures.state told w.aim kept there))) ∙ sym (c.set_point.ensures ∙ ap (λ (k : KeepingView). with_point c.args.point k.state) c.self.view_is)),
    )

pub returns-clause-acknowledged : goal.returns-clause-acknowledged
returns-clause-acknowledged g c told =
    let w = c.args.self.now in
    now_keeps w.number c.self.inside.number w.aim c.in_ok-bundle.bundle (g.D.Disk.view c.add_entry.new.disk) c.set_point.new.self (ap (λ (k : KeepingView). k.number) c.self.view_is) c.in_ok-bundle.ensures.bundle (c.in_ok-bundle.ensures.represents told)
    ((keeps_state w.number c.self.inside.number w.aim w.state (with_point c.args.point w.state) w.files c.take.result (g.D.Disk.view c.args.disk.now) _
    (ap (λ (k : KeepingView). k.number) c.self.view_is) (c.take.ensures.value ∙ ap (λ (k : KeepingView). k.files) c.self.view_is) c.requires.kept (c.requires.stands told c.in_ok-check_whole.ensures.whole)
    (λ kept is. (state_of w.aim 1 c.in_ok-count.count (c.args.point + 1) (line_of w.aim.host ++ kept.id), point_state w.aim w.state kept c.in_ok-count.count c.args.point (c.in_ok-count.ensures.length ∙ ap (λ (k : KeepingView). length (line_of k.aim.host)) c.self.view_is) is, λ there. c.in_ok-bundle.ensures.state told w.aim kept there))) ∙ sym (c.set_point.ensures ∙ ap (λ (k : KeepingView). with_point c.args.point k.state) c.self.view_is))
