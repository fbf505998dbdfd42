use Rattle.std.proofs.Common.{◌∙◌, refl, sym, ap, false}
use Rattle.lsv_kept.specs.Value.{keeps_id}
use Rattle.lsv_kept.specs.declared.state.State.{State}
use Rattle.lsv_kept.specs.declared.state.State.TheVariants as states
use Rattle.lsv_relay.specs.Talk.{Talk, hears_error}
use Rattle.lsv_relay.specs.Value.{aim_of, state_of, talk_of}
use Rattle.lsv_relay.proofs.Taking.{changed_through, error_drops, error_ignored, first_true, nothing_through, now_durable, second_true}
use Rattle.lsv_relay.proofs.Invariant.{when_dropped, when_failed}
use Rattle.lsv_relay.proofs.Causes.{kept_err, kept_own}
use Rattle.lsv_relay.proofs.relay.Core.take_error.Goals as goal

pub forget-requires-clause-kept : goal.forget-requires-clause-kept
forget-requires-clause-kept g c =
    let w = c.args.self.now in
    second_true w.meter.asked (keeps_id (state_of w)) (sym c.is_refused.ensures ∙ c.if-is_refused.true)

pub returns-in_err-forget-clause-any_moment : goal.returns-in_err-forget-clause-any_moment
returns-in_err-forget-clause-any_moment g c told =
    let w = c.args.self.now in
    changed_through w.keeping.number w.number (aim_of w) (state_of w) states.Nothing (hears_error (talk_of w)).state _ _ (g.D.Disk.view c.args.disk.now) (g.D.Disk.view c.forget.new.disk) c.requires.sound.number (ap (λ (t : Talk). t.state) (error_drops (talk_of w) (sym c.is_refused.ensures ∙ c.if-is_refused.true))) (c.forget.ensures.changes told c.requires.whole).moments

pub returns-then-is_refused-clause-any_moment : goal.returns-then-is_refused-clause-any_moment
returns-then-is_refused-clause-any_moment g c told =
    let w = c.args.self.now in
    changed_through w.keeping.number w.number (aim_of w) (state_of w) states.Nothing (hears_error (talk_of w)).state _ _ (g.D.Disk.view c.args.disk.now) (g.D.Disk.view c.forget.new.disk) c.requires.sound.number (ap (λ (t : Talk). t.state) (error_drops (talk_of w) (sym c.is_refused.ensures ∙ c.if-is_refused.true))) (c.forget.ensures.changes told c.requires.whole).moments

pub returns-then-is_refused-clause-taken : goal.returns-then-is_refused-clause-taken
returns-then-is_refused-clause-taken g c =
    let w = c.args.self.now in
    record { talk_is = ap (λ (s : State). let t : Talk = record (talk_of w) { state = s; asked = false } in t) c.in_ok-forget.ensures.state ∙ (error_drops (talk_of w) (sym c.is_refused.ensures ∙ c.if-is_refused.true)); waits_is = refl; whole = c.in_ok-forget.ensures.whole }

pub returns-then-is_refused-clause-sound : goal.returns-then-is_refused-clause-sound
returns-then-is_refused-clause-sound g c =
    let w = c.args.self.now in
    when_dropped w _ c.requires.sound c.requires.whole c.forget.ensures.same.0 c.forget.ensures.same.1 (first_true w.meter.asked (keeps_id (state_of w)) (sym c.is_refused.ensures ∙ c.if-is_refused.true))

pub returns-in_err-forget-clause-sound : goal.returns-in_err-forget-clause-sound
returns-in_err-forget-clause-sound g c = when_failed c.args.self.now _ _ c.requires.sound c.forget.ensures.same.0 c.forget.ensures.same.1 refl c.in_err-forget.ensures.fails

pub returns-then-is_refused-clause-durable : goal.returns-then-is_refused-clause-durable
returns-then-is_refused-clause-durable g c told before =
    let w = c.args.self.now in
    now_durable w.keeping.number w.number (aim_of w) _ (g.D.Disk.view c.forget.new.disk) c.requires.sound.number (c.in_ok-forget.ensures.acknowledged told)

pub returns-clause-taken : goal.returns-clause-taken
returns-clause-taken g c =
    let w = c.args.self.now in
    record { talk_is = error_ignored (talk_of w) (sym c.is_refused.ensures ∙ c.if-is_refused.false); waits_is = refl; whole = c.requires.whole }

pub returns-clause-any_moment : goal.returns-clause-any_moment
returns-clause-any_moment g c told =
    let w = c.args.self.now in
    nothing_through w.number (aim_of w) (state_of w) (hears_error (talk_of w)).state (g.D.Disk.view c.args.disk.now) (g.met.D.Disk.only_now told c.args.disk.now)

pub returns-in_err-forget-clause-fault : goal.returns-in_err-forget-clause-fault
returns-in_err-forget-clause-fault g c =
    let w = c.args.self.now in
    kept_err c.forget.result c.from_residual.result c.in_err-forget.field-0.0 w.keeping.broken c.in_err-forget.was c.from_residual.ensures.1 c.in_err-forget.ensures.fault (λ is. (c.forget.ensures.broken is).0) c.requires.whole

pub returns-in_err-forget-clause-cause : goal.returns-in_err-forget-clause-cause
returns-in_err-forget-clause-cause g c =
    let w = c.args.self.now in
    kept_own w.keeping.number w.number c.forget.result c.from_residual.result c.in_err-forget.field-0.0 (g.D.Disk.view c.args.disk.now) (g.D.Disk.view c.forget.new.disk) c.requires.sound.number c.in_err-forget.was c.from_residual.ensures.1 c.forget.ensures.cause
