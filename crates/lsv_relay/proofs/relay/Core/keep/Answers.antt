use Rattle.std.proofs.Common.{◌∙◌, refl}
use Rattle.lsv_kept.specs.Value.{with_point}
use Rattle.lsv_relay.specs.Talk.{kept_at}
use Rattle.lsv_relay.specs.Value.{aim_of, state_of}
use Rattle.lsv_relay.proofs.Invariant.{when_failed, when_point}
use Rattle.lsv_relay.proofs.Taking.{changed_through, kept_point, now_durable, zero_kept}
use Rattle.lsv_relay.proofs.Causes.{kept_err, kept_own}
use Rattle.lsv_relay.proofs.relay.Core.keep.Goals as goal

pub returns-then-point-eq0-clause-state : goal.returns-then-point-eq0-clause-state
returns-then-point-eq0-clause-state g c = zero_kept c.args.point (state_of c.args.self.now) c.if-point-eq0.true

pub returns-in_err-keep_point-clause-any_moment : goal.returns-in_err-keep_point-clause-any_moment
returns-in_err-keep_point-clause-any_moment g c told =
    let w = c.args.self.now in
    changed_through w.keeping.number w.number (aim_of w) (state_of w) (with_point c.args.point (state_of w)) (kept_at c.args.point (state_of w)) _ _ (g.D.Disk.view c.args.disk.now) (g.D.Disk.view c.keep_point.new.disk) c.requires.sound.number (kept_point c.args.point (state_of w) c.if-point-eq0.false) (c.keep_point.ensures.changes told c.requires.whole).moments

pub returns-in_err-keep_point-clause-sound : goal.returns-in_err-keep_point-clause-sound
returns-in_err-keep_point-clause-sound g c = when_failed c.args.self.now _ _ c.requires.sound c.keep_point.ensures.same.0 c.keep_point.ensures.same.1 refl c.in_err-keep_point.ensures.fails

pub returns-clause-any_moment : goal.returns-clause-any_moment
returns-clause-any_moment g c told =
    let w = c.args.self.now in
    changed_through w.keeping.number w.number (aim_of w) (state_of w) (with_point c.args.point (state_of w)) (kept_at c.args.point (state_of w)) _ _ (g.D.Disk.view c.args.disk.now) (g.D.Disk.view c.keep_point.new.disk) c.requires.sound.number (kept_point c.args.point (state_of w) c.if-point-eq0.false) (c.keep_point.ensures.changes told c.requires.whole).moments

pub returns-clause-state : goal.returns-clause-state
returns-clause-state g c =
    let w = c.args.self.now in
    c.in_ok-keep_point.ensures.state ∙ kept_point c.args.point (state_of w) c.if-point-eq0.false

pub returns-clause-sound : goal.returns-clause-sound
returns-clause-sound g c =
    let w = c.args.self.now in
    when_point w _ c.args.point c.requires.sound c.requires.whole c.keep_point.ensures.same.0 c.keep_point.ensures.same.1 c.in_ok-keep_point.ensures.state c.requires.kept

pub returns-clause-durable : goal.returns-clause-durable
returns-clause-durable g c told before =
    let w = c.args.self.now in
    now_durable w.keeping.number w.number (aim_of w) _ (g.D.Disk.view c.keep_point.new.disk) c.requires.sound.number (c.in_ok-keep_point.ensures.acknowledged told)

pub returns-in_err-keep_point-clause-fault : goal.returns-in_err-keep_point-clause-fault
returns-in_err-keep_point-clause-fault g c =
    let w = c.args.self.now in
    kept_err c.keep_point.result c.from_residual.result c.in_err-keep_point.field-0.0 w.keeping.broken c.in_err-keep_point.was c.from_residual.ensures.1 c.in_err-keep_point.ensures.fault (λ is. (c.keep_point.ensures.broken is).0) c.requires.whole

pub returns-in_err-keep_point-clause-cause : goal.returns-in_err-keep_point-clause-cause
returns-in_err-keep_point-clause-cause g c =
    let w = c.args.self.now in
    kept_own w.keeping.number w.number c.keep_point.result c.from_residual.result c.in_err-keep_point.field-0.0 (g.D.Disk.view c.args.disk.now) (g.D.Disk.view c.keep_point.new.disk) c.requires.sound.number c.in_err-keep_point.was c.from_residual.ensures.1 c.keep_point.ensures.cause
