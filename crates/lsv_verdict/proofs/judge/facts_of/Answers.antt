use Rattle.std.proofs.Common.{subst, sym}
use Rattle.lsv_disk.specs.View.{DiskView, Image}
use Rattle.lsv_play.proofs.Played.{same_image}
use Rattle.lsv_finding.specs.Checked.{IsFoundAs}
use Rattle.lsv_verdict.proofs.Judging.{not_false, sealed_facts, some_digest}
use Rattle.lsv_verdict.proofs.judge.facts_of.Goals as goal

pub returns-in-Some-clause-facts : goal.returns-in-Some-clause-facts
returns-in-Some-clause-facts g c told found =
    let old : DiskView = g.D.Disk.view c.args.disk.now in
    let mid : DiskView = g.D.Disk.view c.is_relayed.new.disk in
    let same = same_image old mid (c.is_relayed.ensures.reads told) in
    let asked = not_false c.args.form.digest c.if-not-form.false in
    sealed_facts c.args.form old.reads mid.reads c.args.number c.in_ok-relayed.relayed c.in_ok-digest.field-0 c.in-Some.digest asked same c.in-Some.is (c.in_ok-relayed.ensures.marked told)
    (c.in_ok-digest.ensures.digest told (subst (λ (image : Image). IsFoundAs image c.args.number c.args.found.now) (sym same) found))

pub returns-in-None-clause-facts : goal.returns-in-None-clause-facts
returns-in-None-clause-facts g c told found =
    let old : DiskView = g.D.Disk.view c.args.disk.now in
    let mid : DiskView = g.D.Disk.view c.is_relayed.new.disk in
    let same = same_image old mid (c.is_relayed.ensures.reads told) in
    some_digest mid.reads c.args.number c.in_ok-digest.field-0 c.in-None.is (c.in_ok-digest.ensures.digest told (subst (λ (image : Image). IsFoundAs image c.args.number c.args.found.now) (sym same) found))
