-- What was found is judged, over files that were only read.
use Rattle.std.proofs.Common.{inl, subst, sym}
use Rattle.lsv_disk.specs.View.{DiskView, Image}
use Rattle.lsv_play.proofs.Played.{same_image}
use Rattle.lsv_finding.specs.Checked.{IsFoundAs}
use Rattle.lsv_iolog.specs.Recovered.{IsOfLog}
use Rattle.lsv_verdict.proofs.Judging.{err_disk, look_from, own_failed, unread_look}
use Rattle.lsv_verdict.specs.Verdicts.{counts_of}
use Rattle.lsv_verdict.proofs.judge.look.Goals as goal

pub returns-in-Ok-clause-judged : goal.returns-in-Ok-clause-judged
returns-in-Ok-clause-judged g c told =
    let old : DiskView = g.D.Disk.view c.args.disk.now in
    let mid : DiskView = g.D.Disk.view c.check_log.new.disk in
    let same = same_image old mid (c.check_log.ensures.reads told) in
    look_from c.args.form c.args.whole c.args.number old mid (g.D.Disk.view c.judge_found.new.disk) c.judge_found.result same c.check_log.ensures.cause.monotone
    (c.judge_found.ensures.judged told (subst (λ (image : Image). IsFoundAs image c.args.number c.in-Ok.found) (sym same) (c.in-Ok.ensures.found told)))

pub returns-in-Err-Disk-clause-judged : goal.returns-in-Err-Disk-clause-judged
returns-in-Err-Disk-clause-judged g c told =
    let old : DiskView = g.D.Disk.view c.args.disk.now in
    let mid : DiskView = g.D.Disk.view c.check_log.new.disk in
    unread_look c.args.form c.args.whole old.reads (counts_of old mid) c.args.number c.unread.result c.unread.ensures
    (inl (own_failed c.args.number old mid (IsOfLog c.args.number) _ (λ f own. inl own) (err_disk c.in-Err-Disk.field-0 c.in-Err-Disk.field-0-is) c.in-Err-Disk.ensures.cause))
