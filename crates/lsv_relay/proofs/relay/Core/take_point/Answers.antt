use Rattle.std.proofs.Common.{◌∙◌, Some, refl, sym, ap, false}
use Rattle.std.specs.Prelude.{nat_lt, not, ◌&&◌, ◌==◌, ◌||◌}
use Rattle.lsv_base.specs.Time.{nanos_of}
use Rattle.lsv_kept.specs.Value.{keeps_id}
use Rattle.lsv_kept.proofs.Opening.{none_there}
use Rattle.lsv_relay.specs.Talk.{Talk, hears_point, kept_at}
use Rattle.lsv_relay.specs.Value.{aim_of, state_of, talk_of}
use Rattle.lsv_relay.specs.declared.relay.Meter.{Meter}
use Rattle.lsv_relay.proofs.Invariant.{at_keeps, when_acked}
use Rattle.lsv_relay.proofs.Taking.{all_same, all_small, either_false, heard_through, last_false, middle_false, no_point, nothing_through, of_point, opened, point_ignored, point_kept, point_talk}
use Rattle.lsv_relay.proofs.relay.Core.take_point.Goals as goal

pub returns-in_default-clause-taken : goal.returns-in_default-clause-taken
returns-in_default-clause-taken g c =
    let w = c.args.self.now in
    record { talk_is = no_point (aim_of w).total (nanos_of c.args.time) (talk_of w) (sym c.point.ensures ∙ none_there c.point.result c.in_default.not-Some); waits_is = refl; whole = c.requires.whole }

pub returns-in_default-clause-any_moment : goal.returns-in_default-clause-any_moment
returns-in_default-clause-any_moment g c told =
    let w = c.args.self.now in
    nothing_through w.number (aim_of w) (state_of w) (hears_point (aim_of w).total (nanos_of c.args.time) (talk_of w)).state (g.D.Disk.view c.args.disk.now) (g.met.D.Disk.only_now told c.args.disk.now)

pub returns-then-ignores_point-clause-taken : goal.returns-then-ignores_point-clause-taken
returns-then-ignores_point-clause-taken g c =
    let w = c.args.self.now in
    record { talk_is = of_point (aim_of w).total c.nanos-point.result (nanos_of c.args.time) (talk_of w) (talk_of w) (sym c.point.ensures ∙ (c.in-Some.is ∙ ap Some (sym c.nanos-point.ensures.value))) (point_ignored (aim_of w).total c.nanos-point.result (talk_of w) (sym c.ignores_point.ensures ∙ c.if-ignores_point.true)); waits_is = refl; whole = c.requires.whole }

pub returns-then-ignores_point-clause-any_moment : goal.returns-then-ignores_point-clause-any_moment
returns-then-ignores_point-clause-any_moment g c told =
    let w = c.args.self.now in
    nothing_through w.number (aim_of w) (state_of w) (hears_point (aim_of w).total (nanos_of c.args.time) (talk_of w)).state (g.D.Disk.view c.args.disk.now) (g.met.D.Disk.only_now told c.args.disk.now)

pub keep-requires-clause-kept : goal.keep-requires-clause-kept
keep-requires-clause-kept g c =
    let w = c.args.self.now in
    (opened (keeps_id (state_of w)) (last_false (nat_lt w.meter.sent c.nanos-point.result) (not w.meter.known) (not (keeps_id (state_of w))) (either_false (nat_lt w.meter.sent c.nanos-point.result || not w.meter.known || not (keeps_id (state_of w))) w.meter.whole (sym c.ignores_point.ensures ∙ c.if-ignores_point.false))))

pub returns-in_err-keep-clause-any_moment : goal.returns-in_err-keep-clause-any_moment
returns-in_err-keep-clause-any_moment g c told =
    let w = c.args.self.now in
    heard_through w.number (aim_of w) (state_of w) (kept_at c.nanos-point.result (state_of w)) (hears_point (aim_of w).total (nanos_of c.args.time) (talk_of w)).state (g.D.Disk.view c.args.disk.now) (g.D.Disk.view c.keep.new.disk)
    (ap (λ (t : Talk). t.state) (of_point (aim_of w).total c.nanos-point.result (nanos_of c.args.time) (talk_of w) (let t : Talk = record (talk_of w) { state = kept_at c.nanos-point.result (state_of w); asked = false; whole = w.meter.ended && c.nanos-point.result == (aim_of w).total } in t) (sym c.point.ensures ∙ (c.in-Some.is ∙ ap Some (sym c.nanos-point.ensures.value)))
    (point_kept (aim_of w).total c.nanos-point.result (talk_of w) (sym c.ignores_point.ensures ∙ c.if-ignores_point.false)))) (c.keep.ensures.any_moment told)

pub returns-clause-any_moment : goal.returns-clause-any_moment
returns-clause-any_moment g c told =
    let w = c.args.self.now in
    heard_through w.number (aim_of w) (state_of w) (kept_at c.nanos-point.result (state_of w)) (hears_point (aim_of w).total (nanos_of c.args.time) (talk_of w)).state (g.D.Disk.view c.args.disk.now) (g.D.Disk.view c.keep.new.disk)
    (ap (λ (t : Talk). t.state) (of_point (aim_of w).total c.nanos-point.result (nanos_of c.args.time) (talk_of w) (let t : Talk = record (talk_of w) { state = kept_at c.nanos-point.result (state_of w); asked = false; whole = w.meter.ended && c.nanos-point.result == (aim_of w).total } in t) (sym c.point.ensures ∙ (c.in-Some.is ∙ ap Some (sym c.nanos-point.ensures.value)))
    (point_kept (aim_of w).total c.nanos-point.result (talk_of w) (sym c.ignores_point.ensures ∙ c.if-ignores_point.false)))) (c.keep.ensures.any_moment told)

pub returns-clause-taken : goal.returns-clause-taken
returns-clause-taken g c =
    let w = c.args.self.now in
    record {
      talk_is = of_point (aim_of w).total c.nanos-point.result (nanos_of c.args.time) (talk_of w) _ (sym c.point.ensures ∙ (c.in-Some.is ∙ ap Some (sym c.nanos-point.ensures.value)))
          (point_talk w.keeping w.meter c.keep.new.self.meter (state_of c.keep.new.self) c.nanos-point.result (aim_of w).total c.is_all-self.result c.keep.ensures.meter c.in_ok-keep.ensures.state (c.is_all-self.ensures ∙ all_same c.keep.new.self w c.nanos-point.result c.keep.ensures.meter c.keep.ensures.same.aim) (sym c.ignores_point.ensures ∙ c.if-ignores_point.false));
      waits_is = ap (λ (m : Meter). m.waits) c.keep.ensures.meter;
      whole = c.in_ok-keep.ensures.whole;
    }

pub returns-clause-sound : goal.returns-clause-sound
returns-clause-sound g c =
    let w = c.args.self.now in
    when_acked c.keep.new.self c.is_all-self.result c.keep.ensures.sound (ap (λ (m : Meter). m.known) c.keep.ensures.meter ∙ opened w.meter.known (middle_false (nat_lt w.meter.sent c.nanos-point.result) (not w.meter.known) (not (keeps_id (state_of w))) (either_false (nat_lt w.meter.sent c.nanos-point.result || not w.meter.known || not (keeps_id (state_of w))) w.meter.whole (sym c.ignores_point.ensures ∙ c.if-ignores_point.false))))
    (at_keeps c.nanos-point.result (state_of w) (state_of c.keep.new.self) c.in_ok-keep.ensures.state (opened (keeps_id (state_of w)) (last_false (nat_lt w.meter.sent c.nanos-point.result) (not w.meter.known) (not (keeps_id (state_of w))) (either_false (nat_lt w.meter.sent c.nanos-point.result || not w.meter.known || not (keeps_id (state_of w))) w.meter.whole (sym c.ignores_point.ensures ∙ c.if-ignores_point.false)))))
    (λ yes_. all_small c.keep.new.self.meter.ended c.nanos-point.result (aim_of c.keep.new.self).total (sym c.is_all-self.ensures ∙ yes_) c.nanos-point.ensures.small)
