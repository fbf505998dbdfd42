use Rattle.std.proofs.Common.{◌∙◌, ℕ, Option, refl, sym, ap}
use Rattle.lsv_kept.specs.declared.state.State.{State}
use Rattle.lsv_kept.specs.declared.state.State.TheVariants as states
use Rattle.lsv_relay.specs.Talks.{Way.Resumes}
use Rattle.lsv_relay.specs.Value.{aim_of, state_of}
use Rattle.lsv_relay.proofs.Reading.{anew_ok, begun_log, begun_time, no_point_way, none_way, opening_few, opening_some, resumes_started}
use Rattle.lsv_relay.proofs.relay.Core.start.Goals as goal

pub returns-clause-few : goal.returns-clause-few
returns-clause-few g c =
    let is = c.in_ok-opening.ensures 0 c.in_ok-found.log.head in (
      opening_few (Resumes c.in-Kept.kept.id c.in-Some.point 0) c.in_ok-found.log.head c.in_ok-opening.opening is,
      opening_some (Resumes c.in-Kept.kept.id c.in-Some.point 0) c.in_ok-found.log.head c.in_ok-opening.opening is,
    )

pub returns-clause-started : goal.returns-clause-started
returns-clause-started g c told opened =
    let found = c.in_ok-found.ensures.found told (begun_log c.args.self.now.number (aim_of c.args.self.now).total c.args.self.now.meter.ended c.args.self.now.at c.in-Starts.log (g.D.Disk.view c.args.disk.now) (sym c.replace.ensures.value ∙ c.in-Starts.is) opened) c.if-not-found.false in
    resumes_started c.args.self.now _ c.in_ok-found.log found.0 c.in-Kept.kept.id c.in-Some.point c.in_ok-opening.opening (g.D.Disk.view c.at_point.new.disk) ((sym c.state.ensures ∙ c.in-Kept.is) ∙ (ap (λ (p : Option ℕ). let s : State = states.Kept (record { id = c.in-Kept.kept.id; point = p }) in s) c.in-Some.is)) found.1 found.2 refl refl c.resumed-self.ensures (ap (λ (t : ℕ). t) c.in_ok-found.ensures.same.1 ∙ (begun_time c.args.self.now.number (aim_of c.args.self.now).total c.args.self.now.meter.ended c.args.self.now.at c.in-Starts.log (sym c.replace.ensures.value ∙ c.in-Starts.is) c.requires.sound.log)) (λ n head. c.in_ok-opening.ensures n head)

pub returns-in_default-point-clause-started : goal.returns-in_default-point-clause-started
returns-in_default-point-clause-started g c told opened =
    anew_ok c.start_anew-in_default-point.result c.args.self.now c.start_anew-in_default-point.new.self c.in-Starts.log (g.D.Disk.view c.args.disk.now) c.start_anew-in_default-point.ensures.place c.start_anew-in_default-point.ensures.meter c.start_anew-in_default-point.ensures.opening c.start_anew-in_default-point.ensures.same.1
    (no_point_way (state_of c.args.self.now) c.in-Kept.kept c.args.self.now.number (g.D.Disk.view c.args.disk.now) (sym c.state.ensures ∙ c.in-Kept.is) c.in_default-point.not-Some) (begun_log c.args.self.now.number (aim_of c.args.self.now).total c.args.self.now.meter.ended c.args.self.now.at c.in-Starts.log (g.D.Disk.view c.args.disk.now) (sym c.replace.ensures.value ∙ c.in-Starts.is) opened) (begun_time c.args.self.now.number (aim_of c.args.self.now).total c.args.self.now.meter.ended c.args.self.now.at c.in-Starts.log (sym c.replace.ensures.value ∙ c.in-Starts.is) c.requires.sound.log)

pub returns-then-not-found-clause-started : goal.returns-then-not-found-clause-started
returns-then-not-found-clause-started g c told opened =
    let none = c.in_ok-found.ensures.none told (begun_log c.args.self.now.number (aim_of c.args.self.now).total c.args.self.now.meter.ended c.args.self.now.at c.in-Starts.log (g.D.Disk.view c.args.disk.now) (sym c.replace.ensures.value ∙ c.in-Starts.is) opened) c.if-not-found.true in
    anew_ok c.start_anew-then-not-found.result c.args.self.now c.start_anew-then-not-found.new.self c.in_ok-found.log (g.D.Disk.view c.at_point.new.disk) c.start_anew-then-not-found.ensures.place c.start_anew-then-not-found.ensures.meter c.start_anew-then-not-found.ensures.opening c.start_anew-then-not-found.ensures.same.1
    (none_way (state_of c.args.self.now) c.in-Kept.kept.id c.in-Some.point c.args.self.now.number (g.D.Disk.view c.at_point.new.disk) ((sym c.state.ensures ∙ c.in-Kept.is) ∙ (ap (λ (p : Option ℕ). let s : State = states.Kept (record { id = c.in-Kept.kept.id; point = p }) in s) c.in-Some.is)) none.1) none.0 (ap (λ (t : ℕ). t) c.in_ok-found.ensures.same.1 ∙ (begun_time c.args.self.now.number (aim_of c.args.self.now).total c.args.self.now.meter.ended c.args.self.now.at c.in-Starts.log (sym c.replace.ensures.value ∙ c.in-Starts.is) c.requires.sound.log))
