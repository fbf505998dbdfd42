-- The exit is that of the log that was opened.
use Rattle.std.proofs.Common.{◌∙◌, ap}
use Rattle.lsv_iolog.specs.Reading.{ViewState}
use Rattle.lsv_finding.proofs.Found.{all_found}
use Rattle.lsv_finding.proofs.look.look_at_end.Goals as goal

pub returns-clause-found : goal.returns-clause-found
returns-clause-found g c told opened fits records all sound =
    all_found c.args.log.number (g.D.Disk.view c.args.disk.now).reads c.args.log.body c.args.log.head c.in_ok-exit.exit records c.into_head.result c.body-body.result
    (c.into_head.ensures ∙ ap (λ (v : ViewState). v.head) c.read_exit.ensures.same) (c.body-body.ensures ∙ ap (λ (v : ViewState). v.body) c.read_exit.ensures.same) opened fits all sound
    (c.in_ok-exit.ensures.exit told)
