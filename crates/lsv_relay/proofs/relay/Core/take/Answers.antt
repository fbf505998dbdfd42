use Rattle.std.proofs.Common.{inl, inr, ap}
use Rattle.std.specs.Prelude.{◌&&◌, not}
use Rattle.lsv_transcript.specs.Transcript.{is_id}
use Rattle.lsv_relay.specs.Talk.{Talk, hears}
use Rattle.lsv_relay.specs.Value.{aim_of, state_of, talk_of}
use Rattle.lsv_relay.proofs.Taking.{heard_as, heard_through, nothing_through, taken_as, waits_no_more, waits_on}
use Rattle.lsv_relay.proofs.relay.Core.take.Goals as goal

pub returns-in-LogId-clause-taken : goal.returns-in-LogId-clause-taken
returns-in-LogId-clause-taken g c =
    let w = c.args.self.now in
    taken_as c.take_id.result w c.take_id.new.self _ (hears (aim_of w).total c.args.message.now (talk_of w)) _ (w.meter.waits && not (is_id c.args.message.now)) (heard_as (aim_of w).total c.args.message.now _ (talk_of w) c.in-LogId.is) (waits_no_more w.meter.waits c.args.message.now (ap is_id c.in-LogId.is)) c.take_id.ensures.taken

pub returns-in-LogId-clause-any_moment : goal.returns-in-LogId-clause-any_moment
returns-in-LogId-clause-any_moment g c told =
    let w = c.args.self.now in
    heard_through w.number (aim_of w) (state_of w) _ (hears (aim_of w).total c.args.message.now (talk_of w)).state (g.D.Disk.view c.args.disk.now) (g.D.Disk.view c.take_id.new.disk) (ap (λ (t : Talk). t.state) (heard_as (aim_of w).total c.args.message.now _ (talk_of w) c.in-LogId.is)) (c.take_id.ensures.any_moment told)

pub returns-in-CommitPoint-clause-taken : goal.returns-in-CommitPoint-clause-taken
returns-in-CommitPoint-clause-taken g c =
    let w = c.args.self.now in
    taken_as c.take_point.result w c.take_point.new.self _ (hears (aim_of w).total c.args.message.now (talk_of w)) _ (w.meter.waits && not (is_id c.args.message.now)) (heard_as (aim_of w).total c.args.message.now _ (talk_of w) c.in-CommitPoint.is) (waits_on w.meter.waits c.args.message.now (ap is_id c.in-CommitPoint.is)) c.take_point.ensures.taken

pub returns-in-CommitPoint-clause-any_moment : goal.returns-in-CommitPoint-clause-any_moment
returns-in-CommitPoint-clause-any_moment g c told =
    let w = c.args.self.now in
    heard_through w.number (aim_of w) (state_of w) _ (hears (aim_of w).total c.args.message.now (talk_of w)).state (g.D.Disk.view c.args.disk.now) (g.D.Disk.view c.take_point.new.disk) (ap (λ (t : Talk). t.state) (heard_as (aim_of w).total c.args.message.now _ (talk_of w) c.in-CommitPoint.is)) (c.take_point.ensures.any_moment told)

pub returns-in-Error-clause-taken : goal.returns-in-Error-clause-taken
returns-in-Error-clause-taken g c =
    let w = c.args.self.now in
    taken_as c.take_error.result w c.take_error.new.self _ (hears (aim_of w).total c.args.message.now (talk_of w)) _ (w.meter.waits && not (is_id c.args.message.now)) (heard_as (aim_of w).total c.args.message.now _ (talk_of w) c.in-Error.is) (waits_on w.meter.waits c.args.message.now (ap is_id c.in-Error.is)) c.take_error.ensures.taken

pub returns-in-Error-clause-any_moment : goal.returns-in-Error-clause-any_moment
returns-in-Error-clause-any_moment g c told =
    let w = c.args.self.now in
    heard_through w.number (aim_of w) (state_of w) _ (hears (aim_of w).total c.args.message.now (talk_of w)).state (g.D.Disk.view c.args.disk.now) (g.D.Disk.view c.take_error.new.disk) (ap (λ (t : Talk). t.state) (heard_as (aim_of w).total c.args.message.now _ (talk_of w) c.in-Error.is)) (c.take_error.ensures.any_moment told)

pub returns-in-Hello-clause-taken : goal.returns-in-Hello-clause-taken
returns-in-Hello-clause-taken g c =
    let w = c.args.self.now in
    elim c.in-Hello.is [
      | inl hello ↦ record { talk_is = heard_as (aim_of w).total c.args.message.now _ (talk_of w) hello.1; waits_is = waits_on w.meter.waits c.args.message.now (ap is_id hello.1); whole = c.requires.whole }
      | inr abort ↦ record { talk_is = heard_as (aim_of w).total c.args.message.now _ (talk_of w) abort.1; waits_is = waits_on w.meter.waits c.args.message.now (ap is_id abort.1); whole = c.requires.whole }
    ]

pub returns-in-Hello-clause-any_moment : goal.returns-in-Hello-clause-any_moment
returns-in-Hello-clause-any_moment g c told =
    let w = c.args.self.now in
    nothing_through w.number (aim_of w) (state_of w) (hears (aim_of w).total c.args.message.now (talk_of w)).state (g.D.Disk.view c.args.disk.now) (g.met.D.Disk.only_now told c.args.disk.now)
