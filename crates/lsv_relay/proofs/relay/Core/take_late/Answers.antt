use Rattle.lsv_relay.proofs.Invariant.{when_unended}
use Rattle.lsv_relay.proofs.relay.Core.take_late.Goals as goal

pub take-requires-clause-sound : goal.take-requires-clause-sound
take-requires-clause-sound g c = when_unended c.args.self.now c.requires.sound
