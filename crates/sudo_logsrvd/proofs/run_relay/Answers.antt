use Rattle.sudo_logsrvd.proofs.run_relay.Goals as goal

pub run_over-settings-requires-clause-bays : goal.run_over-settings-requires-clause-bays
run_over-settings-requires-clause-bays g c κs within = λ o asks. absurd (c.requires o asks)
