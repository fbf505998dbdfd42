-- A log whose exit is unfit isn't read further; else its records are read, and what they come to is found.
use Rattle.std.proofs.Common.{◌≡◌, ◌∙◌, subst, sym, true}
use Rattle.lsv_disk.specs.View.{DiskView}
use Rattle.lsv_play.proofs.Played.{same_image}
use Rattle.lsv_finding.specs.Findings.{HasExitLength}
use Rattle.lsv_finding.proofs.Found.{break_found, ends_whole, found_before, found_number, opened_same, unfit_found, whole_moved}
use Rattle.lsv_finding.proofs.look.look_within.Goals as goal

pub returns-then-not-is_exit_fit-clause-found : goal.returns-then-not-is_exit_fit-clause-found
returns-then-not-is_exit_fit-clause-found g c told behind opened =
    unfit_found c.args.log.number (g.D.Disk.view c.args.disk.now).reads c.args.log.body c.args.log.head c.into_head.result c.body-body.result c.into_head.ensures c.body-body.ensures opened
    (λ fits. let is : c.is_exit_fit.result ≡ true = c.is_exit_fit.ensures.1 (subst HasExitLength (sym c.body-body.ensures) fits) in cc)

pub returns-in-None-clause-found : goal.returns-in-None-clause-found
returns-in-None-clause-found g c told behind opened =
    let old : DiskView = g.D.Disk.view c.args.disk.now in
    let mid : DiskView = g.D.Disk.view c.read_records.new.disk in
    let same = same_image old mid (c.read_records.ensures.reads told) in
    let runs = c.in_ok-run.ensures.runs told behind in
    let number = c.read_records.ensures.same.0 in
    let body = c.read_records.ensures.same.2 in
    let fits = subst HasExitLength c.body-body.ensures (c.is_exit_fit.ensures.0 (let is : c.is_exit_fit.result ≡ true = cc in is)) in
    let whole = ends_whole c.args.log.number old.reads c.args.log.body c.in_ok-run.run' c.in-None.is runs in
    let moved = whole_moved c.args.log.number c.read_records.new.log.number old.reads mid.reads c.args.log.body c.read_records.new.log.body runs.records number body same whole in
    found_before c.args.log.number old.reads mid.reads c.look_at_end.result same
    (found_number c.args.log.number c.read_records.new.log.number mid.reads c.look_at_end.result number
    (c.look_at_end.ensures.found told (opened_same c.args.log.number c.read_records.new.log.number old.reads mid.reads c.args.log.body c.read_records.new.log.body c.args.log.head c.read_records.new.log.head number body c.read_records.ensures.same.1 same opened)
    (subst HasExitLength (sym body) fits) runs.records moved.0 moved.1))

pub returns-in-Some-clause-found : goal.returns-in-Some-clause-found
returns-in-Some-clause-found g c told behind opened =
    let fits = subst HasExitLength c.body-body.ensures (c.is_exit_fit.ensures.0 (let is : c.is_exit_fit.result ≡ true = cc in is)) in
    break_found c.args.log.number (g.D.Disk.view c.args.disk.now).reads c.args.log.body c.args.log.head c.into_head-in-Some.result c.body-body.result c.in_ok-run.run' c.in-Some.part
    (c.into_head-in-Some.ensures ∙ c.read_records.ensures.same.1) c.body-body.ensures opened fits c.in-Some.is (c.in_ok-run.ensures.runs told behind)
