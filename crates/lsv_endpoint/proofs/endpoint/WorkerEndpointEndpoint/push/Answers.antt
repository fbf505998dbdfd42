use Rattle.lsv_endpoint.proofs.endpoint.WorkerEndpointEndpoint.push.Goals as goal

pub try_links-requires : goal.try_links-requires
try_links-requires g c = let b = c.requires.begun in record { lanes = c.requires.lanes; past = record { start = b.0; gave = b.1; took = b.2; made = b.3 } }

pub returns-clause-made : goal.returns-clause-made
returns-clause-made g c = c.try_links.ensures.puts.made

pub returns-clause-own : goal.returns-clause-own
returns-clause-own g c = c.try_links.ensures.puts.own
