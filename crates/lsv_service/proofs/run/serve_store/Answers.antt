use Rattle.lsv_service.proofs.run.serve_store.Goals as goal

pub returns-clause-runs : goal.returns-clause-runs
returns-clause-runs g c = λ starts fresh. (c.serve_bays.ensures starts fresh).runs

pub returns-clause-places : goal.returns-clause-places
returns-clause-places g c = (c.serve_bays.ensures c.requires.begun.0 c.requires.begun.1).places

pub returns-clause-fresh_again : goal.returns-clause-fresh_again
returns-clause-fresh_again g c = (c.serve_bays.ensures c.requires.begun.0 c.requires.begun.1).fresh
