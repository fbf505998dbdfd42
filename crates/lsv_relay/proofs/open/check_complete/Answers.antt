use Rattle.std.proofs.Common.{IsErr}
use Rattle.lsv_disk.proofs.Composition.{cause_widened}
use Rattle.lsv_iolog.specs.Recovered as logs
use Rattle.lsv_journal.specs.Last.{IsOwn}
use Rattle.lsv_relay.proofs.Opening.{is_err, slots_own, timed_of}
use Rattle.lsv_relay.proofs.open.check_complete.Goals as goal

pub returns-in_default-clause-cause : goal.returns-in_default-clause-cause
returns-in_default-clause-cause g c =
    cause_widened (IsOwn c.new-slots.result) (logs.IsOfLog c.args.number) (IsErr c.view.result) _ (g.D.Disk.view c.args.disk.now) (g.D.Disk.view c.view.new.disk)
    (slots_own c.args.number c.get.result c.new-slots.result c.new-slots.ensures c.get.ensures.value) (λ _. is_err c.view.result c.in_default.not-Ok) c.view.ensures.cause

pub returns-clause-timed : goal.returns-clause-timed
returns-clause-timed g c told = timed_of c.args.number c.get.result c.new-slots.result c.in-Ok.last c.in-Some.bytes c.decode-body.result (g.D.Disk.view c.args.disk.now).reads c.new-slots.ensures c.get.ensures.value (c.in-Ok.ensures.last told) c.in-Some.is c.decode-body.ensures.encoded c.decode-body.ensures.is_body c.if-body-ne-COMPLETE.false
