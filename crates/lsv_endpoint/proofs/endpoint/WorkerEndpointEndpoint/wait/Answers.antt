use Rattle.lsv_endpoint.proofs.endpoint.WorkerEndpointEndpoint.wait.Goals as goal

pub go_on-requires : goal.go_on-requires
go_on-requires g c = let b = c.requires.begun in record { lanes = c.requires.lanes; past = record { start = b.0; gave = b.1; took = b.2; made = b.3 } }

pub returns-clause-made : goal.returns-clause-made
returns-clause-made g c = c.go_on.ensures.puts.made

pub returns-clause-own : goal.returns-clause-own
returns-clause-own g c = c.go_on.ensures.puts.own
