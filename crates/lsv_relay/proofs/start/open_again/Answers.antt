use Rattle.std.proofs.Common.{[], ◌∙◌, ap}
use Rattle.lsv_bundle.specs.declared.body.Body.{Body}
use Rattle.lsv_relay.proofs.Opening.{same_time}
use Rattle.lsv_relay.proofs.start.open_again.Goals as goal

-- a complete log doesn't change
pub returns-then-body-time-clause-why : goal.returns-then-body-time-clause-why
returns-then-body-time-clause-why g c told timed =
    absurd (c.if-body-time.true (ap (λ (b : Body). b.elapsed) c.body.ensures ∙ same_time c.args.number c.args.time c.in_ok-log.log [] (g.D.Disk.view c.args.disk.now) (g.D.Disk.view c.open_complete.new.disk) (c.open_complete.ensures.reads told) (c.in_ok-log.ensures.log told) timed))
