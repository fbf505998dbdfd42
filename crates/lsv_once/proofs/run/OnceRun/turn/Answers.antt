use Rattle.lsv_once.proofs.run.OnceRun.turn.Goals as goal

pub returns-in-Ok-clause-made : goal.returns-in-Ok-clause-made
returns-in-Ok-clause-made g c = record { now = c.in-Ok.field-0; valid = c.in-Ok.ensures.valid; goes = c.in-Ok.ensures.made }
