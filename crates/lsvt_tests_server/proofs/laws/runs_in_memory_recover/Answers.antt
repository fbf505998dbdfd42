use Rattle.lsvt_tests_server.proofs.laws.runs_in_memory_recover.Goals as goal

pub returns : goal.returns
returns c = c.runs_recover.ensures tt
