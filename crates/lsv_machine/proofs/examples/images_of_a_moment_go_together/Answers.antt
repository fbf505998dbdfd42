use Rattle.lsv_machine.proofs.Cases.{longer_not_before, longer_since, uncut_not_since}
use Rattle.lsv_machine.proofs.examples.images_of_a_moment_go_together.Goals as goal

pub returns : goal.returns
returns c = record { uncut = uncut_not_since; longer = longer_not_before; since = longer_since }
