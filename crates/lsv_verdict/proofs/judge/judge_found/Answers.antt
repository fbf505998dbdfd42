-- A complete log is looked at further, and of a number without a log whether it was drawn.
use Rattle.std.proofs.Common.{◌≡◌, subst}
use Rattle.lsv_finding.specs.Checked.{IsFoundAs}
use Rattle.lsv_finding.specs.declared.checked.Checked.{Checked}
use Rattle.lsv_verdict.proofs.Judging.{absent_found}
use Rattle.lsv_verdict.specs.Verdicts.{class_found}
use Rattle.lsv_verdict.specs.declared.verdict.Class.TheVariants as classes
use Rattle.lsv_verdict.proofs.judge.judge_found.Goals as goal

pub returns-in-Absent-clause-judged : goal.returns-in-Absent-clause-judged
returns-in-Absent-clause-judged g c told found =
    let absent : class_found c.args.found ≡ classes.Absent = cc in
    c.judge_absent.ensures.judged told (subst (λ (x : Checked). IsFoundAs (g.D.Disk.view c.args.disk.now).reads c.args.number x) (absent_found c.args.found absent) found) c.args.form

pub returns-in-Complete-clause-judged : goal.returns-in-Complete-clause-judged
returns-in-Complete-clause-judged g c told found = c.judge_complete.ensures.judged told found c.args.whole
