use Rattle.std.proofs.Common.{◌∙◌, length, refl, sym, ap, true}
use Rattle.std.specs.Prelude.{nat_lt}
use Rattle.lsv_kept.specs.Value.{is_done}
use Rattle.lsv_kept.specs.declared.state.State.{State}
use Rattle.lsv_relay.specs.Talk.{Talk, hears_id}
use Rattle.lsv_relay.specs.Value.{aim_of, state_of, talk_of}
use Rattle.lsv_relay.proofs.Invariant.{when_failed, when_kept, when_named}
use Rattle.lsv_relay.proofs.Taking.{first_false, id_ignored, id_kept, last_false, middle_false, nothing_through, now_durable, replaced_through, short_id, undone}
use Rattle.lsv_relay.proofs.Causes.{kept_err, kept_own}
use Rattle.lsv_relay.proofs.relay.Core.take_id.Goals as goal

pub returns-then-ignores_id-clause-taken : goal.returns-then-ignores_id-clause-taken
returns-then-ignores_id-clause-taken g c =
    let w = c.args.self.now in
    record { talk_is = id_ignored c.args.id.now (talk_of w) (sym c.ignores_id.ensures ∙ c.if-ignores_id.true); waits_is = refl; whole = c.requires.whole }

pub returns-then-ignores_id-clause-sound : goal.returns-then-ignores_id-clause-sound
returns-then-ignores_id-clause-sound g c = when_named c.args.self.now c.requires.sound

pub returns-then-ignores_id-clause-any_moment : goal.returns-then-ignores_id-clause-any_moment
returns-then-ignores_id-clause-any_moment g c told =
    let w = c.args.self.now in
    nothing_through w.number (aim_of w) (state_of w) (hears_id c.args.id.now (talk_of w)).state (g.D.Disk.view c.args.disk.now) (g.met.D.Disk.only_now told c.args.disk.now)

pub keep_id-requires-clause-undone : goal.keep_id-requires-clause-undone
keep_id-requires-clause-undone g c =
    let w = c.args.self.now in
    undone (state_of w) (last_false w.meter.known (nat_lt 4096 (length c.args.id.now)) (is_done (state_of w)) (sym c.ignores_id.ensures ∙ c.if-ignores_id.false))

pub keep_id-requires-clause-short : goal.keep_id-requires-clause-short
keep_id-requires-clause-short g c =
    let w = c.args.self.now in
    short_id (length c.args.id.now) (middle_false w.meter.known (nat_lt 4096 (length c.args.id.now)) (is_done (state_of w)) (sym c.ignores_id.ensures ∙ c.if-ignores_id.false))

pub returns-in_err-keep_id-clause-any_moment : goal.returns-in_err-keep_id-clause-any_moment
returns-in_err-keep_id-clause-any_moment g c told =
    let w = c.args.self.now in
    replaced_through w.keeping.number w.number (aim_of w) (state_of w) (hears_id c.args.id.now (talk_of w)).state c.args.id.now (g.D.Disk.view c.args.disk.now) (g.D.Disk.view c.keep_id.new.disk) c.requires.sound.number (ap (λ (t : Talk). t.state) (id_kept c.args.id.now (talk_of w) (sym c.ignores_id.ensures ∙ c.if-ignores_id.false)))
    (undone (state_of w) (last_false w.meter.known (nat_lt 4096 (length c.args.id.now)) (is_done (state_of w)) (sym c.ignores_id.ensures ∙ c.if-ignores_id.false))) (c.keep_id.ensures.changes told c.requires.whole).moments

pub returns-in_err-keep_id-clause-sound : goal.returns-in_err-keep_id-clause-sound
returns-in_err-keep_id-clause-sound g c = when_failed c.args.self.now _ _ c.requires.sound c.keep_id.ensures.same.0 c.keep_id.ensures.same.1 refl c.in_err-keep_id.ensures.fails

pub returns-clause-any_moment : goal.returns-clause-any_moment
returns-clause-any_moment g c told =
    let w = c.args.self.now in
    replaced_through w.keeping.number w.number (aim_of w) (state_of w) (hears_id c.args.id.now (talk_of w)).state c.args.id.now (g.D.Disk.view c.args.disk.now) (g.D.Disk.view c.keep_id.new.disk) c.requires.sound.number (ap (λ (t : Talk). t.state) (id_kept c.args.id.now (talk_of w) (sym c.ignores_id.ensures ∙ c.if-ignores_id.false)))
    (undone (state_of w) (last_false w.meter.known (nat_lt 4096 (length c.args.id.now)) (is_done (state_of w)) (sym c.ignores_id.ensures ∙ c.if-ignores_id.false))) (c.keep_id.ensures.changes told c.requires.whole).moments

pub returns-clause-taken : goal.returns-clause-taken
returns-clause-taken g c =
    let w = c.args.self.now in
    record { talk_is = ap (λ (s : State). let t : Talk = record (talk_of w) { state = s; known = true } in t) c.in_ok-keep_id.ensures.state ∙ (id_kept c.args.id.now (talk_of w) (sym c.ignores_id.ensures ∙ c.if-ignores_id.false)); waits_is = refl; whole = c.in_ok-keep_id.ensures.whole }

pub returns-clause-sound : goal.returns-clause-sound
returns-clause-sound g c =
    let w = c.args.self.now in
    when_kept w _ c.requires.sound c.requires.whole c.keep_id.ensures.same.0 c.keep_id.ensures.same.1 (first_false w.meter.known (nat_lt 4096 (length c.args.id.now)) (is_done (state_of w)) (sym c.ignores_id.ensures ∙ c.if-ignores_id.false))

pub returns-clause-durable : goal.returns-clause-durable
returns-clause-durable g c told before =
    let w = c.args.self.now in
    now_durable w.keeping.number w.number (aim_of w) _ (g.D.Disk.view c.keep_id.new.disk) c.requires.sound.number (c.in_ok-keep_id.ensures.acknowledged told)

pub returns-in_err-keep_id-clause-fault : goal.returns-in_err-keep_id-clause-fault
returns-in_err-keep_id-clause-fault g c =
    let w = c.args.self.now in
    kept_err c.keep_id.result c.from_residual.result c.in_err-keep_id.field-0.0 w.keeping.broken c.in_err-keep_id.was c.from_residual.ensures.1 c.in_err-keep_id.ensures.fault (λ is. (c.keep_id.ensures.broken is).0) c.requires.whole

pub returns-in_err-keep_id-clause-cause : goal.returns-in_err-keep_id-clause-cause
returns-in_err-keep_id-clause-cause g c =
    let w = c.args.self.now in
    kept_own w.keeping.number w.number c.keep_id.result c.from_residual.result c.in_err-keep_id.field-0.0 (g.D.Disk.view c.args.disk.now) (g.D.Disk.view c.keep_id.new.disk) c.requires.sound.number c.in_err-keep_id.was c.from_residual.ensures.1 c.keep_id.ensures.cause
