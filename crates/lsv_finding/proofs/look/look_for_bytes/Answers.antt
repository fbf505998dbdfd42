use Rattle.std.proofs.Common.{◌∙◌, sym}
use Rattle.lsv_finding.proofs.Found.{none_found, unlisted_found}
use Rattle.lsv_finding.proofs.look.look_for_bytes.Goals as goal

pub returns-in-None-clause-found : goal.returns-in-None-clause-found
returns-in-None-clause-found g c told none =
    none_found c.args.number (g.D.Disk.view c.args.disk.now).reads none (sym c.in-None.is ∙ c.in_ok-first_with_bytes.ensures.found told)

pub returns-in-Some-clause-found : goal.returns-in-Some-clause-found
returns-in-Some-clause-found g c told none =
    unlisted_found c.args.number (g.D.Disk.view c.args.disk.now).reads c.in-Some.part none (sym c.in-Some.is ∙ c.in_ok-first_with_bytes.ensures.found told)
