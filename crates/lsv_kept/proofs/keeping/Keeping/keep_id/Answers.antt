use Rattle.std.proofs.Common.{◌≡◌, ◌∙◌, ◌++◌, ℕ, List, length, Option, None, ap, sym, subst}
use Rattle.std.proofs.lemmas.Bool.{false≢true}
use Rattle.lsv_bundle.specs.Value.{BundleView}
use Rattle.lsv_kept.specs.Aim.{AimView, line_of}
use Rattle.lsv_kept.specs.Inner.{IsKeeping}
use Rattle.lsv_kept.specs.Kept.{state_of}
use Rattle.lsv_kept.specs.Value.{KeepingView, StandsBy, state_on}
use Rattle.lsv_kept.specs.declared.state.State.TheVariants as states
use Rattle.lsv_kept.proofs.Hosts.{line_keeps}
use Rattle.lsv_kept.proofs.Keepings.{err_not_ok, id_kept, last_left, now_keeps, one_replaced, replaces_by}
use Rattle.lsv_kept.proofs.Staying.{still_replaced}
use Rattle.lsv_kept.proofs.keeping.Keeping.keep_id.Goals as goal

pub with_id-requires-clause-stands : goal.with_id-requires-clause-stands
with_id-requires-clause-stands g c told =
    let w = c.args.self.now in
    record {
      aim = w.aim;
      state = w.state;
      undone = c.requires.undone;
      stands = subst (λ (k : ℕ). StandsBy k w.aim w.state c.take-files.result (g.D.Disk.view c.args.disk.now)) (sym (ap (λ (k : KeepingView). k.number) c.self.view_is))
          (subst (λ (f : Option BundleView). StandsBy w.number w.aim w.state f (g.D.Disk.view c.args.disk.now)) (sym (c.take-files.ensures.value ∙ ap (λ (k : KeepingView). k.files) c.self.view_is)) (c.requires.stands told c.in_ok-check_whole.ensures.whole));
    }

pub returns-in_default-clause-any_moment : goal.returns-in_default-clause-any_moment
returns-in_default-clause-any_moment g c told whole =
    let w = c.args.self.now in
    one_replaced w.number w.aim w.state (states.Kept (record { id = c.args.id.now; point = None })) (g.D.Disk.view c.args.disk.now) (g.D.Disk.view c.args.disk.now) (still_replaced w (g.D.Disk.view c.args.disk.now) (states.Kept (record { id = c.args.id.now; point = None })) (subst IsKeeping c.self.view_is c.self.invariant) whole c.requires.undone (c.requires.stands told whole) (g.met.D.Disk.only_now told c.args.disk.now))

pub returns-in_default-clause-changes : goal.returns-in_default-clause-changes
returns-in_default-clause-changes g c told whole =
    let w = c.args.self.now in
    replaces_by _ w.number w.aim w.state (states.Kept (record { id = c.args.id.now; point = None })) (g.D.Disk.view c.args.disk.now) (g.D.Disk.view c.args.disk.now) (still_replaced w (g.D.Disk.view c.args.disk.now) (states.Kept (record { id = c.args.id.now; point = None })) (subst IsKeeping c.self.view_is c.self.invariant) whole c.requires.undone (c.requires.stands told whole) (g.met.D.Disk.only_now told c.args.disk.now)) (λ ok. absurd (false≢true ok))

pub returns-in_err-count-clause-any_moment : goal.returns-in_err-count-clause-any_moment
returns-in_err-count-clause-any_moment g c told whole =
    let w = c.args.self.now in
    one_replaced w.number w.aim w.state (states.Kept (record { id = c.args.id.now; point = None })) (g.D.Disk.view c.args.disk.now) (g.D.Disk.view c.args.disk.now) (still_replaced w (g.D.Disk.view c.args.disk.now) (states.Kept (record { id = c.args.id.now; point = None })) (subst IsKeeping c.self.view_is c.self.invariant) whole c.requires.undone (c.requires.stands told whole) (g.met.D.Disk.only_now told c.args.disk.now))

pub returns-in_err-count-clause-changes : goal.returns-in_err-count-clause-changes
returns-in_err-count-clause-changes g c told whole =
    let w = c.args.self.now in
    replaces_by _ w.number w.aim w.state (states.Kept (record { id = c.args.id.now; point = None })) (g.D.Disk.view c.args.disk.now) (g.D.Disk.view c.args.disk.now) (still_replaced w (g.D.Disk.view c.args.disk.now) (states.Kept (record { id = c.args.id.now; point = None })) (subst IsKeeping c.self.view_is c.self.invariant) whole c.requires.undone (c.requires.stands told whole) (g.met.D.Disk.only_now told c.args.disk.now)) (λ ok. absurd (err_not_ok _ _ c.from_residual-in_err-count.ensures.1 ok))

pub returns-in_err-bytes-clause-any_moment : goal.returns-in_err-bytes-clause-any_moment
returns-in_err-bytes-clause-any_moment g c told whole =
    let w = c.args.self.now in
    one_replaced w.number w.aim w.state (states.Kept (record { id = c.args.id.now; point = None })) (g.D.Disk.view c.args.disk.now) (g.D.Disk.view c.args.disk.now) (still_replaced w (g.D.Disk.view c.args.disk.now) (states.Kept (record { id = c.args.id.now; point = None })) (subst IsKeeping c.self.view_is c.self.invariant) whole c.requires.undone (c.requires.stands told whole) (g.met.D.Disk.only_now told c.args.disk.now))

pub returns-in_err-bytes-clause-changes : goal.returns-in_err-bytes-clause-changes
returns-in_err-bytes-clause-changes g c told whole =
    let w = c.args.self.now in
    replaces_by _ w.number w.aim w.state (states.Kept (record { id = c.args.id.now; point = None })) (g.D.Disk.view c.args.disk.now) (g.D.Disk.view c.args.disk.now) (still_replaced w (g.D.Disk.view c.args.disk.now) (states.Kept (record { id = c.args.id.now; point = None })) (subst IsKeeping c.self.view_is c.self.invariant) whole c.requires.undone (c.requires.stands told whole) (g.met.D.Disk.only_now told c.args.disk.now)) (λ ok. absurd (err_not_ok _ _ c.from_residual-in_err-bytes.ensures.1 ok))

pub returns-in_err-bundle-clause-any_moment : goal.returns-in_err-bundle-clause-any_moment
returns-in_err-bundle-clause-any_moment g c told whole =
    let w = c.args.self.now in
    one_replaced w.number w.aim w.state (states.Kept (record { id = c.args.id.now; point = None })) (g.D.Disk.view c.args.disk.now) (g.D.Disk.view c.with_id.new.disk)
    (id_kept w.number c.self.inside.number w.aim w.state c.args.id.now c.in_ok-count.count c.as_slice.result.now w.files c.take-files.result (g.D.Disk.view c.args.disk.now) (g.D.Disk.view c.with_id.new.disk)
    (ap (λ (k : KeepingView). k.number) c.self.view_is) (c.take-files.ensures.value ∙ ap (λ (k : KeepingView). k.files) c.self.view_is) (c.in_ok-count.ensures.length ∙ ap (λ (k : KeepingView). length (line_of k.aim.host)) c.self.view_is) (c.as_slice.ensures ∙ c.in_ok-bytes.ensures.lined ∙ ap (λ (k : KeepingView). line_of k.aim.host ++ c.args.id.now) c.self.view_is) c.requires.undone (c.requires.stands told whole) (c.with_id.ensures.any_moment told w.aim))

pub returns-clause-any_moment : goal.returns-clause-any_moment
returns-clause-any_moment g c told whole =
    let w = c.args.self.now in
    one_replaced w.number w.aim w.state (states.Kept (record { id = c.args.id.now; point = None })) (g.D.Disk.view c.args.disk.now) (g.D.Disk.view c.with_id.new.disk)
    (id_kept w.number c.self.inside.number w.aim w.state c.args.id.now c.in_ok-count.count c.as_slice.result.now w.files c.take-files.result (g.D.Disk.view c.args.disk.now) (g.D.Disk.view c.with_id.new.disk)
    (ap (λ (k : KeepingView). k.number) c.self.view_is) (c.take-files.ensures.value ∙ ap (λ (k : KeepingView). k.files) c.self.view_is) (c.in_ok-count.ensures.length ∙ ap (λ (k : KeepingView). length (line_of k.aim.host)) c.self.view_is) (c.as_slice.ensures ∙ c.in_ok-bytes.ensures.lined ∙ ap (λ (k : KeepingView). line_of k.aim.host ++ c.args.id.now) c.self.view_is) c.requires.undone (c.requires.stands told whole) (c.with_id.ensures.any_moment told w.aim))

pub returns-in_err-bundle-clause-changes : goal.returns-in_err-bundle-clause-changes
returns-in_err-bundle-clause-changes g c told whole =
    let w = c.args.self.now in
    replaces_by _ w.number w.aim w.state (states.Kept (record { id = c.args.id.now; point = None })) (g.D.Disk.view c.args.disk.now) (g.D.Disk.view c.with_id.new.disk)
    (id_kept w.number c.self.inside.number w.aim w.state c.args.id.now c.in_ok-count.count c.as_slice.result.now w.files c.take-files.result (g.D.Disk.view c.args.disk.now) (g.D.Disk.view c.with_id.new.disk)
    (ap (λ (k : KeepingView). k.number) c.self.view_is) (c.take-files.ensures.value ∙ ap (λ (k : KeepingView). k.files) c.self.view_is) (c.in_ok-count.ensures.length ∙ ap (λ (k : KeepingView). length (line_of k.aim.host)) c.self.view_is) (c.as_slice.ensures ∙ c.in_ok-bytes.ensures.lined ∙ ap (λ (k : KeepingView). line_of k.aim.host ++ c.args.id.now) c.self.view_is) c.requires.undone (c.requires.stands told whole) (c.with_id.ensures.any_moment told w.aim))
    (λ ok. absurd (err_not_ok _ _ c.from_residual-in_err-bundle.ensures.1 ok))

pub returns-clause-changes : goal.returns-clause-changes
returns-clause-changes g c told whole =
    let w = c.args.self.now in
    replaces_by _ w.number w.aim w.state (states.Kept (record { id = c.args.id.now; point = None })) (g.D.Disk.view c.args.disk.now) (g.D.Disk.view c.with_id.new.disk)
    (id_kept w.number c.self.inside.number w.aim w.state c.args.id.now c.in_ok-count.count c.as_slice.result.now w.files c.take-files.result (g.D.Disk.view c.args.disk.now) (g.D.Disk.view c.with_id.new.disk)
    (ap (λ (k : KeepingView). k.number) c.self.view_is) (c.take-files.ensures.value ∙ ap (λ (k : KeepingView). k.files) c.self.view_is) (c.in_ok-count.ensures.length ∙ ap (λ (k : KeepingView). length (line_of k.aim.host)) c.self.view_is) (c.as_slice.ensures ∙ c.in_ok-bytes.ensures.lined ∙ ap (λ (k : KeepingView). line_of k.aim.host ++ c.args.id.now) c.self.view_is) c.requires.undone (c.requires.stands told whole) (c.with_id.ensures.any_moment told w.aim))
    (λ ok. last_left w.number c.self.inside.number c.in_ok-bundle.bundle (g.D.Disk.view c.with_id.new.disk) 1 0 (ap (λ (k : KeepingView). k.number) c.self.view_is) c.in_ok-bundle.ensures.bundle (c.in_ok-bundle.ensures.represents told) c.in_ok-bundle.ensures.last)

pub returns-clause-stands : goal.returns-clause-stands
returns-clause-stands g c told =
    let w = c.args.self.now in (
      c.in_ok-bundle.ensures.represents told,
      subst (λ (a : AimView). state_on a c.in_ok-bundle.bundle (g.D.Disk.view c.with_id.new.disk) ≡ states.Kept (record { id = c.in-Ok.copy; point = None })) (sym (ap (λ (k : KeepingView). k.aim) c.self.view_is)) (c.in_ok-bundle.ensures.state told w.aim ∙ ap (state_of w.aim 1 c.in_ok-count.count 0) (c.as_slice.ensures ∙ c.in_ok-bytes.ensures.lined ∙ ap (λ (k : KeepingView). line_of k.aim.host ++ c.args.id.now) c.self.view_is) ∙ line_keeps w.aim c.args.id.now c.in_ok-count.count 0 (c.in_ok-count.ensures.length ∙ ap (λ (k : KeepingView). length (line_of k.aim.host)) c.self.view_is) ∙ ap (λ (id : List ℕ). states.Kept (record { id = id; point = None })) (sym c.in-Ok.ensures)),
    )

pub returns-clause-acknowledged : goal.returns-clause-acknowledged
returns-clause-acknowledged g c told =
    let w = c.args.self.now in
    now_keeps w.number c.self.inside.number w.aim c.in_ok-bundle.bundle (g.D.Disk.view c.with_id.new.disk) _ (ap (λ (k : KeepingView). k.number) c.self.view_is) c.in_ok-bundle.ensures.bundle (c.in_ok-bundle.ensures.represents told)
    (c.in_ok-bundle.ensures.state told w.aim ∙ ap (state_of w.aim 1 c.in_ok-count.count 0) (c.as_slice.ensures ∙ c.in_ok-bytes.ensures.lined ∙ ap (λ (k : KeepingView). line_of k.aim.host ++ c.args.id.now) c.self.view_is) ∙ line_keeps w.aim c.args.id.now c.in_ok-count.count 0 (c.in_ok-count.ensures.length ∙ ap (λ (k : KeepingView). length (line_of k.aim.host)) c.self.view_is) ∙ ap (λ (id : List ℕ). states.Kept (record { id = id; point = None })) (sym c.in-Ok.ensures))
