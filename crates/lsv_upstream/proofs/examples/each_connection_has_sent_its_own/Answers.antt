use Rattle.std.proofs.Common.{refl}
use Rattle.lsv_upstream.proofs.examples.each_connection_has_sent_its_own.Goals as goal

pub returns : goal.returns
returns c = record { opened = refl; resumed = refl }
