use Rattle.std.proofs.Common.{◌≡◌, ◌∙◌, ◌++◌, Err, ap}
use Rattle.std.proofs.lemmas.Result.{IfOk-weaker}
use Rattle.lsv_dialogue.specs.Events.{all_said}
use Rattle.lsv_send.proofs.Exits.{at_exit}
use Rattle.lsv_disk.specs.View.{DiskView}
use Rattle.lsv_disk.proofs.Composition.{reads_trans}
use Rattle.lsv_iolog.specs.declared.fault.ViewFault.{ViewFault}
use Rattle.lsv_iolog.specs.declared.fault.ViewFault.TheVariants as views
use Rattle.lsv_play.proofs.Played.{own_cause}
use Rattle.lsv_send.specs.Talks.{start_at}
use Rattle.lsv_send.proofs.Looking.{cause_kept, cuts_now, same_error, stuck_by, told_stays}
use Rattle.lsv_send.proofs.sender.Sender.say_records.Goals as goal

pub returns-in_err-check_uncut-clause-stuck : goal.returns-in_err-check_uncut-clause-stuck
returns-in_err-check_uncut-clause-stuck g c = λ d. at_exit _ c.from_residual.result c.in_err-check_uncut.field-0.0 c.from_residual.ensures.1
    (λ source begun events is t. stuck_by source (g.D.Disk.view begun).reads (source.skipped ++ t.hands.more) c.in_err-check_uncut.field-0.0
    (c.in_err-check_uncut.ensures.uncut d (cuts_now (start_at source (g.D.Disk.view begun)) c.args.self.now c.hand_records-said.new.self.log (g.D.Disk.view c.args.disk.now) (g.D.Disk.view c.hand_records-said.new.disk) events is c.hand_records-said.ensures.same.0 c.hand_records-said.ensures.same.1 (c.hand_records-said.ensures.reads d) t)))

pub returns-in_err-check_uncut-clause-reads : goal.returns-in_err-check_uncut-clause-reads
returns-in_err-check_uncut-clause-reads g c told = reads_trans (g.D.Disk.view c.args.disk.now) (g.D.Disk.view c.hand_records-said.new.disk) (g.D.Disk.view c.check_uncut.new.disk) (c.hand_records-said.ensures.reads told) (c.check_uncut.ensures.reads told)

pub returns-in_err-check_uncut-clause-cause : goal.returns-in_err-check_uncut-clause-cause
returns-in_err-check_uncut-clause-cause g c =
    own_cause c.args.self.now.log.number c.hand_records-said.new.self.log.number _ _ (g.D.Disk.view c.args.disk.now) (g.D.Disk.view c.hand_records-said.new.disk) (g.D.Disk.view c.check_uncut.new.disk) c.hand_records-said.ensures.same.0 c.hand_records-said.ensures.cause.monotone c.check_uncut.ensures.cause
    (λ is. c.in_err-check_uncut.was ∙ ap (λ (x : ViewFault). Err x) (same_error c.from_residual.result c.in_err-check_uncut.field-0.0 views.Disk c.from_residual.ensures.1 is))

pub returns-clause-told : goal.returns-clause-told
returns-clause-told g c = λ d. IfOk-weaker c.hand_records-said.result _ _
    (λ ms told source begun events is t. told_stays (start_at source (g.D.Disk.view begun)) c.hand_records-said.new.self (g.D.Disk.view c.hand_records-said.new.disk) (g.D.Disk.view c.check_uncut.new.disk) (events ++ all_said ms) (c.check_uncut.ensures.reads d) (told source begun events is t))
    (c.hand_records-said.ensures.told d)

pub returns-clause-reads : goal.returns-clause-reads
returns-clause-reads g c told = reads_trans (g.D.Disk.view c.args.disk.now) (g.D.Disk.view c.hand_records-said.new.disk) (g.D.Disk.view c.check_uncut.new.disk) (c.hand_records-said.ensures.reads told) (c.check_uncut.ensures.reads told)

pub returns-clause-cause : goal.returns-clause-cause
returns-clause-cause g c = cause_kept c.args.self.now.log.number _ (g.D.Disk.view c.args.disk.now) (g.D.Disk.view c.hand_records-said.new.disk) (g.D.Disk.view c.check_uncut.new.disk) c.hand_records-said.ensures.cause c.check_uncut.ensures.cause.monotone
